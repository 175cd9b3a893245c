use Rattle.std.proofs.Common.{◌≡◌, ℕ, ◌+◌, ◌-◌, ◌^◌, pos, min, List, Some, sym, subst}
use Rattle.std.specs.Prelude.{slice_get, ◌↔◌}
use Rattle.gq_number.specs.Number.{Number, whole}
use Rattle.lp_core.specs.Sums.{value_of_column}
use Rattle.lp_core.specs.StandardForm.{Standard}
use Rattle.lp_core.specs.Dictionary.{Meets, IsLegal, exchanged}
use Rattle.lp_core.specs.Steps.{AllFit, exchange_steps}
use Rattle.lp_std.specs.Last.{IsDictionaryOf}
use Rattle.lp_dict.specs.Tableau.{Tableau, tableau, dictionary, kept}
use Rattle.lp_dict.proofs.Follows.{same_points, stays_of_form, is_not_required, stays_proper, stays_few}
use Rattle.lp_dict.proofs.dict.Dict.pivot.Goals as goal

pub pivoted-requires-clause-legal : goal.pivoted-requires-clause-legal
pivoted-requires-clause-legal g c = subst (λ (t : Tableau _). (k : ℕ) × IsLegal (dictionary g.F.ExactField.value t) c.args.p k) (sym c.self.view_is) c.requires

pub invariant_of-result : goal.invariant_of-result
invariant_of-result g c =
    let legal = subst (λ (t : Tableau _). (k : ℕ) × IsLegal (dictionary g.F.ExactField.value t) c.args.p k) (sym c.self.view_is) c.requires in
    let follows = c.in_ok-body.ensures.follows in
    record {
      proper = stays_proper (kept g.F.ExactField.value c.self.inside.body) c.args.p c.self.invariant.proper legal (kept g.F.ExactField.value c.in_ok-body.body) follows.is_exchanged;
      few = stays_few (kept g.F.ExactField.value c.self.inside.body) c.args.p c.self.invariant.proper legal (kept g.F.ExactField.value c.in_ok-body.body) follows.is_exchanged c.self.invariant.few;
      bounded = follows.bounded;
      opened = λ _. is_not_required (kept g.F.ExactField.value c.self.inside.body) c.args.p c.self.invariant.proper legal (kept g.F.ExactField.value c.in_ok-body.body) follows.is_exchanged;
    }

pub returns-clause-exchanged : goal.returns-clause-exchanged
returns-clause-exchanged g c =
    subst (λ (t : Tableau _). (k : ℕ) → slice_get t.basic k ≡ Some c.args.p.leave → kept g.F.ExactField.value c.in_ok-body.body ≡ exchanged (dictionary g.F.ExactField.value t) c.args.p.enter k) c.self.view_is c.in_ok-body.ensures.follows.is_exchanged

pub returns-clause-fits : goal.returns-clause-fits
returns-clause-fits g c =
    subst (λ (t : Tableau _). (k : ℕ) → slice_get t.basic k ≡ Some c.args.p.leave → AllFit (exchange_steps g.F.ExactField.limit t.upcoming (dictionary g.F.ExactField.value t) c.args.p.enter k)) c.self.view_is c.in_ok-body.ensures.follows.fits

pub returns-clause-same_points : goal.returns-clause-same_points
returns-clause-same_points g c =
    let legal = subst (λ (t : Tableau _). (k : ℕ) × IsLegal (dictionary g.F.ExactField.value t) c.args.p k) (sym c.self.view_is) c.requires in
    subst (λ (t : Tableau _). (x : List Number) (objective : Number) → (c.args.p.leave ≡ 0 → value_of_column x 0 ≡ whole (pos 0)) → Meets (dictionary g.F.ExactField.value t) x objective ↔ Meets (kept g.F.ExactField.value c.in_ok-body.body) x objective) c.self.view_is
    (same_points (kept g.F.ExactField.value c.self.inside.body) c.args.p c.self.invariant.proper legal (kept g.F.ExactField.value c.in_ok-body.body) c.in_ok-body.ensures.follows.is_exchanged)

pub returns-clause-of_form : goal.returns-clause-of_form
returns-clause-of_form g c =
    let legal = subst (λ (t : Tableau _). (k : ℕ) × IsLegal (dictionary g.F.ExactField.value t) c.args.p k) (sym c.self.view_is) c.requires in
    subst (λ (t : Tableau _). (s : Standard) → IsDictionaryOf s (dictionary g.F.ExactField.value t) → IsDictionaryOf s (kept g.F.ExactField.value c.in_ok-body.body)) c.self.view_is
    (stays_of_form (kept g.F.ExactField.value c.self.inside.body) c.args.p c.self.invariant.proper legal (kept g.F.ExactField.value c.in_ok-body.body) c.in_ok-body.ensures.follows.is_exchanged)

pub returns-clause-not_required : goal.returns-clause-not_required
returns-clause-not_required g c =
    let legal = subst (λ (t : Tableau _). (k : ℕ) × IsLegal (dictionary g.F.ExactField.value t) c.args.p k) (sym c.self.view_is) c.requires in
    is_not_required (kept g.F.ExactField.value c.self.inside.body) c.args.p c.self.invariant.proper legal (kept g.F.ExactField.value c.in_ok-body.body) c.in_ok-body.ensures.follows.is_exchanged

pub returns-clause-upcoming : goal.returns-clause-upcoming
returns-clause-upcoming g c =
    subst (λ (t : Tableau _). (tableau g.F.ExactField.value c.in_ok-body.body).upcoming ≡ min (t.upcoming + 1) (2 ^ 64 - 1)) c.self.view_is c.in_ok-body.ensures.follows.next
