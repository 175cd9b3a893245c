use Rattle.std.proofs.lemmas.Bool.{both_ways}
use Rattle.std.proofs.Common.{◌≡◌, ◌∙◌, true, false, Option, Some, None, option_map, ap, sym}
use Rattle.std.proofs.lemmas.Bool.Decides.{Decides-eqb}
use Rattle.std.proofs.lemmas.Slice.Eq.{slice_eq-Decides}
use Rattle.gq_number.specs.Number.{Number}
use Rattle.gms_store.specs.State.{bound_fits}
use Rattle.gms_save_text.specs.SavedState.{bound_text}
use Rattle.gms_save_text.specs.Reading.{Finds}
use Rattle.gms_save_text.proofs.Finding.{handed_on}
use Rattle.gms_save_text.proofs.Numbers.{none-bound, none_is}
use Rattle.gms_save_text.proofs.values.bound_before.Goals as goal

pub returns-in_err-word : goal.returns-in_err-word
returns-in_err-word g c x rest fits is =
    handed_on _ _ _ _ c.from_residual.ensures.1 (c.in_err-word.ensures (bound_text c.args.none.now x) rest (none-bound g.F.ExactField.limit c.args.none.now x g.met.F.ExactField.limit_range.1 c.requires fits) is)

pub returns-then-eq : goal.returns-then-eq
returns-then-eq g c x rest fits is =
    let found = c.in_ok-word.ensures (bound_text c.args.none.now x) rest (none-bound g.F.ExactField.limit c.args.none.now x g.met.F.ExactField.limit_range.1 c.requires fits) is in
    (none_is g.F.ExactField.limit c.args.none.now x g.met.F.ExactField.limit_range.1 c.requires fits (sym found.0 ∙ (slice_eq-Decides Decides-eqb c.in_ok-word.word.now c.args.none.now c.eq.result c.eq.ensures).0 c.if-eq.true), found.1)

pub returns-in_err-bound : goal.returns-in_err-bound
returns-in_err-bound g c x rest fits is =
    let found = c.in_ok-word.ensures (bound_text c.args.none.now x) rest (none-bound g.F.ExactField.limit c.args.none.now x g.met.F.ExactField.limit_range.1 c.requires fits) is in
    by x fits found.0
  where
    by : (x : Option Number) → bound_fits g.F.ExactField.limit x ≡ true → c.in_ok-word.word.now ≡ bound_text c.args.none.now x → Finds c.from_residual-in_err-bound.result (λ p. (option_map g.F.ExactField.value p.0 ≡ x) × (p.1.now ≡ rest))
    by None fits same = absurd (both_ways c.eq.result c.if-eq.false ((slice_eq-Decides Decides-eqb c.in_ok-word.word.now c.args.none.now c.eq.result c.eq.ensures).1 same))
    by (Some y) fits same = handed_on _ _ _ _ c.from_residual-in_err-bound.ensures.1 (c.in_err-bound.ensures y fits same)

pub returns : goal.returns
returns g c x rest fits is =
    let found = c.in_ok-word.ensures (bound_text c.args.none.now x) rest (none-bound g.F.ExactField.limit c.args.none.now x g.met.F.ExactField.limit_range.1 c.requires fits) is in
    (by x fits found.0, found.1)
  where
    by : (x : Option Number) → bound_fits g.F.ExactField.limit x ≡ true → c.in_ok-word.word.now ≡ bound_text c.args.none.now x → Some (g.F.ExactField.value c.in_ok-bound.bound) ≡ x
    by None fits same = absurd (both_ways c.eq.result c.if-eq.false ((slice_eq-Decides Decides-eqb c.in_ok-word.word.now c.args.none.now c.eq.result c.eq.ensures).1 same))
    by (Some y) fits same = ap Some (c.in_ok-bound.ensures y fits same)
