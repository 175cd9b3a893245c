use Rattle.std.proofs.Common.{ℕ, ◌+◌, ◌≡◌, List, pos, ap, subst, sym, refl, ◌∙◌, Some, arith}
use Rattle.std.specs.Prelude.{slice_get, slice_set, Contains, ◌↔◌}
use Rattle.gq_number.specs.Number.{Number, whole}
use Rattle.lp_core.specs.Sums.{value_of_column}
use Rattle.lp_core.specs.StandardForm.{Standard}
use Rattle.lp_core.specs.Dictionary.{IsLegal, Meets, exchanged}
use Rattle.lp_core.specs.Steps.{AllFit, exchange_steps}
use Rattle.lp_std.specs.Last.{IsDictionaryOf}
use Rattle.lp_fraction_dict.specs.Pivots.{StopsAtStep}
use Rattle.lp_fraction_dict.specs.Tableau.{FractionTableau, fraction_dictionary, IsTableau}
use Rattle.lp_fraction_dict.specs.Lines.{entries_of_rows}
use Rattle.lp_fraction_dict.proofs.Kept.{length-rows, not_there}
use Rattle.lp_fraction_dict.proofs.Proper.{leaves_at}
use Rattle.lp_fraction_dict.proofs.Turned.{place_in_rows, place_in_basic, number_some, fault_bound, fault_stops, kept_tableau, is_exchanged, all_fit, same_points, stays_of_form, is_not_required}
use Rattle.lp_fraction_dict.proofs.dict.ExactDict.pivot.Goals as goal

pub unreachable-requires : goal.unreachable-requires
unreachable-requires g c =
    let inv = subst (IsTableau g.F.ExactField.value) c.self.view_is c.self.invariant in
    let none = subst (λ b. ¬ (Contains b c.args.p.leave)) (c.as_slice.ensures.value ∙ ap (λ (t : FractionTableau _). t.basic) c.self.view_is) c.in_default.ensures in
    not_there g.F.ExactField.value c.args.self inv c.requires.0 c.args.p.leave (leaves_at (fraction_dictionary g.F.ExactField.value c.args.self) c.args.p c.requires.0 inv.proper c.requires.1) none

pub turn-requires-clause-within : goal.turn-requires-clause-within
turn-requires-clause-within g c = omega (arith, place_in_rows g.F.ExactField.value g.F.ExactField.limit (record { variables = c.self.inside.variables; basic = c.self.inside.basic.items; rows = entries_of_rows c.self.inside.rows.items; objective = c.self.inside.objective.items; upcoming = c.self.inside.upcoming }) c.args.p c.self.invariant (subst (λ (t : FractionTableau _). (k : ℕ) × IsLegal (fraction_dictionary g.F.ExactField.value t) c.args.p k) (sym c.self.view_is) c.requires) c.in-Some.place (subst (λ b. slice_get b c.in-Some.place ≡ Some c.args.p.leave) c.as_slice.ensures.value c.in-Some.ensures), length-rows c.self.inside.rows.items)

pub turn-requires-clause-some : goal.turn-requires-clause-some
turn-requires-clause-some g c = number_some g.F.ExactField.value g.F.ExactField.limit (record { variables = c.self.inside.variables; basic = c.self.inside.basic.items; rows = entries_of_rows c.self.inside.rows.items; objective = c.self.inside.objective.items; upcoming = c.self.inside.upcoming }) c.args.p c.self.invariant (subst (λ (t : FractionTableau _). (k : ℕ) × IsLegal (fraction_dictionary g.F.ExactField.value t) c.args.p k) (sym c.self.view_is) c.requires) c.in-Some.place (subst (λ b. slice_get b c.in-Some.place ≡ Some c.args.p.leave) c.as_slice.ensures.value c.in-Some.ensures)

pub stop-requires : goal.stop-requires
stop-requires g c = fault_bound g.F.ExactField.value g.F.ExactField.limit (record { variables = c.self.inside.variables; basic = c.self.inside.basic.items; rows = entries_of_rows c.self.inside.rows.items; objective = c.self.inside.objective.items; upcoming = c.self.inside.upcoming }) c.args.p c.self.invariant (subst (λ (t : FractionTableau _). (k : ℕ) × IsLegal (fraction_dictionary g.F.ExactField.value t) c.args.p k) (sym c.self.view_is) c.requires) c.in-Some.place (subst (λ b. slice_get b c.in-Some.place ≡ Some c.args.p.leave) c.as_slice.ensures.value c.in-Some.ensures) c.in-Err.fault ((c.in-Err.ensures (c.self.inside.variables + 2) c.self.invariant.rows c.self.invariant.objective).1)

pub returns-in-Err-clause-limit : goal.returns-in-Err-clause-limit
returns-in-Err-clause-limit g c =
    subst (λ (t : FractionTableau _). (k : ℕ) → slice_get t.basic k ≡ Some c.args.p.leave → StopsAtStep (exchange_steps g.F.ExactField.limit t.upcoming (fraction_dictionary g.F.ExactField.value t) c.args.p.enter k) c.stop.result) c.self.view_is
    (fault_stops g.F.ExactField.value g.F.ExactField.limit (record { variables = c.self.inside.variables; basic = c.self.inside.basic.items; rows = entries_of_rows c.self.inside.rows.items; objective = c.self.inside.objective.items; upcoming = c.self.inside.upcoming }) c.args.p c.self.invariant (subst (λ (t : FractionTableau _). (k : ℕ) × IsLegal (fraction_dictionary g.F.ExactField.value t) c.args.p k) (sym c.self.view_is) c.requires) c.in-Some.place (subst (λ b. slice_get b c.in-Some.place ≡ Some c.args.p.leave) c.as_slice.ensures.value c.in-Some.ensures) c.self.inside.upcoming c.in-Err.fault c.stop.result ((c.in-Err.ensures (c.self.inside.variables + 2) c.self.invariant.rows c.self.invariant.objective).1) c.stop.ensures)

pub index_mut-requires : goal.index_mut-requires
index_mut-requires g c = omega (arith, place_in_basic g.F.ExactField.value g.F.ExactField.limit (record { variables = c.self.inside.variables; basic = c.self.inside.basic.items; rows = entries_of_rows c.self.inside.rows.items; objective = c.self.inside.objective.items; upcoming = c.self.inside.upcoming }) c.args.p c.self.invariant (subst (λ (t : FractionTableau _). (k : ℕ) × IsLegal (fraction_dictionary g.F.ExactField.value t) c.args.p k) (sym c.self.view_is) c.requires) c.in-Some.place (subst (λ b. slice_get b c.in-Some.place ≡ Some c.args.p.leave) c.as_slice.ensures.value c.in-Some.ensures), c.self.inside.basic.ok.0)

pub invariant_of-result : goal.invariant_of-result
invariant_of-result g c = kept_tableau g.F.ExactField.value g.F.ExactField.limit (record { variables = c.self.inside.variables; basic = c.self.inside.basic.items; rows = entries_of_rows c.self.inside.rows.items; objective = c.self.inside.objective.items; upcoming = c.self.inside.upcoming }) c.args.p c.self.invariant (subst (λ (t : FractionTableau _). (k : ℕ) × IsLegal (fraction_dictionary g.F.ExactField.value t) c.args.p k) (sym c.self.view_is) c.requires) c.in-Some.place (subst (λ b. slice_get b c.in-Some.place ≡ Some c.args.p.leave) c.as_slice.ensures.value c.in-Some.ensures) (entries_of_rows c.turn.new.rows.items) c.turn.new.objective.items ((c.in_default-turn.ensures (c.self.inside.variables + 2) c.self.invariant.rows c.self.invariant.objective).0) (record { variables = c.self.inside.variables; basic = slice_set c.self.inside.basic.items c.in-Some.place c.args.p.enter; rows = entries_of_rows c.forget_leaving.new.rows.items; objective = c.forget_leaving.new.objective.items; upcoming = c.saturating_add.result }) refl refl c.forget_leaving.ensures.rows c.forget_leaving.ensures.objective

pub returns-clause-exchanged : goal.returns-clause-exchanged
returns-clause-exchanged g c =
    subst (λ (t : FractionTableau _). (k : ℕ) → slice_get t.basic k ≡ Some c.args.p.leave → fraction_dictionary g.F.ExactField.value (record { variables = c.self.inside.variables; basic = slice_set c.self.inside.basic.items c.in-Some.place c.args.p.enter; rows = entries_of_rows c.forget_leaving.new.rows.items; objective = c.forget_leaving.new.objective.items; upcoming = c.saturating_add.result }) ≡ exchanged (fraction_dictionary g.F.ExactField.value t) c.args.p.enter k) c.self.view_is
    (is_exchanged g.F.ExactField.value g.F.ExactField.limit (record { variables = c.self.inside.variables; basic = c.self.inside.basic.items; rows = entries_of_rows c.self.inside.rows.items; objective = c.self.inside.objective.items; upcoming = c.self.inside.upcoming }) c.args.p c.self.invariant (subst (λ (t : FractionTableau _). (k : ℕ) × IsLegal (fraction_dictionary g.F.ExactField.value t) c.args.p k) (sym c.self.view_is) c.requires) c.in-Some.place (subst (λ b. slice_get b c.in-Some.place ≡ Some c.args.p.leave) c.as_slice.ensures.value c.in-Some.ensures) (entries_of_rows c.turn.new.rows.items) c.turn.new.objective.items ((c.in_default-turn.ensures (c.self.inside.variables + 2) c.self.invariant.rows c.self.invariant.objective).0) (record { variables = c.self.inside.variables; basic = slice_set c.self.inside.basic.items c.in-Some.place c.args.p.enter; rows = entries_of_rows c.forget_leaving.new.rows.items; objective = c.forget_leaving.new.objective.items; upcoming = c.saturating_add.result }) refl refl c.forget_leaving.ensures.rows c.forget_leaving.ensures.objective)

pub returns-clause-fits : goal.returns-clause-fits
returns-clause-fits g c =
    subst (λ (t : FractionTableau _). (k : ℕ) → slice_get t.basic k ≡ Some c.args.p.leave → AllFit (exchange_steps g.F.ExactField.limit t.upcoming (fraction_dictionary g.F.ExactField.value t) c.args.p.enter k)) c.self.view_is
    (all_fit g.F.ExactField.value g.F.ExactField.limit (record { variables = c.self.inside.variables; basic = c.self.inside.basic.items; rows = entries_of_rows c.self.inside.rows.items; objective = c.self.inside.objective.items; upcoming = c.self.inside.upcoming }) c.args.p c.self.invariant (subst (λ (t : FractionTableau _). (k : ℕ) × IsLegal (fraction_dictionary g.F.ExactField.value t) c.args.p k) (sym c.self.view_is) c.requires) c.in-Some.place (subst (λ b. slice_get b c.in-Some.place ≡ Some c.args.p.leave) c.as_slice.ensures.value c.in-Some.ensures) (entries_of_rows c.turn.new.rows.items) c.turn.new.objective.items ((c.in_default-turn.ensures (c.self.inside.variables + 2) c.self.invariant.rows c.self.invariant.objective).0) (record { variables = c.self.inside.variables; basic = slice_set c.self.inside.basic.items c.in-Some.place c.args.p.enter; rows = entries_of_rows c.forget_leaving.new.rows.items; objective = c.forget_leaving.new.objective.items; upcoming = c.saturating_add.result }) refl refl c.forget_leaving.ensures.rows c.forget_leaving.ensures.objective c.self.inside.upcoming)

pub returns-clause-same_points : goal.returns-clause-same_points
returns-clause-same_points g c =
    subst (λ (t : FractionTableau _). (x : List Number) (objective : Number) → (c.args.p.leave ≡ 0 → value_of_column x 0 ≡ whole (pos 0)) → Meets (fraction_dictionary g.F.ExactField.value t) x objective ↔ Meets (fraction_dictionary g.F.ExactField.value (record { variables = c.self.inside.variables; basic = slice_set c.self.inside.basic.items c.in-Some.place c.args.p.enter; rows = entries_of_rows c.forget_leaving.new.rows.items; objective = c.forget_leaving.new.objective.items; upcoming = c.saturating_add.result })) x objective) c.self.view_is
    (same_points g.F.ExactField.value g.F.ExactField.limit (record { variables = c.self.inside.variables; basic = c.self.inside.basic.items; rows = entries_of_rows c.self.inside.rows.items; objective = c.self.inside.objective.items; upcoming = c.self.inside.upcoming }) c.args.p c.self.invariant (subst (λ (t : FractionTableau _). (k : ℕ) × IsLegal (fraction_dictionary g.F.ExactField.value t) c.args.p k) (sym c.self.view_is) c.requires) c.in-Some.place (subst (λ b. slice_get b c.in-Some.place ≡ Some c.args.p.leave) c.as_slice.ensures.value c.in-Some.ensures) (entries_of_rows c.turn.new.rows.items) c.turn.new.objective.items ((c.in_default-turn.ensures (c.self.inside.variables + 2) c.self.invariant.rows c.self.invariant.objective).0) (record { variables = c.self.inside.variables; basic = slice_set c.self.inside.basic.items c.in-Some.place c.args.p.enter; rows = entries_of_rows c.forget_leaving.new.rows.items; objective = c.forget_leaving.new.objective.items; upcoming = c.saturating_add.result }) refl refl c.forget_leaving.ensures.rows c.forget_leaving.ensures.objective)

pub returns-clause-of_form : goal.returns-clause-of_form
returns-clause-of_form g c =
    subst (λ (t : FractionTableau _). (s : Standard) → IsDictionaryOf s (fraction_dictionary g.F.ExactField.value t) → IsDictionaryOf s (fraction_dictionary g.F.ExactField.value (record { variables = c.self.inside.variables; basic = slice_set c.self.inside.basic.items c.in-Some.place c.args.p.enter; rows = entries_of_rows c.forget_leaving.new.rows.items; objective = c.forget_leaving.new.objective.items; upcoming = c.saturating_add.result }))) c.self.view_is
    (stays_of_form g.F.ExactField.value g.F.ExactField.limit (record { variables = c.self.inside.variables; basic = c.self.inside.basic.items; rows = entries_of_rows c.self.inside.rows.items; objective = c.self.inside.objective.items; upcoming = c.self.inside.upcoming }) c.args.p c.self.invariant (subst (λ (t : FractionTableau _). (k : ℕ) × IsLegal (fraction_dictionary g.F.ExactField.value t) c.args.p k) (sym c.self.view_is) c.requires) c.in-Some.place (subst (λ b. slice_get b c.in-Some.place ≡ Some c.args.p.leave) c.as_slice.ensures.value c.in-Some.ensures) (entries_of_rows c.turn.new.rows.items) c.turn.new.objective.items ((c.in_default-turn.ensures (c.self.inside.variables + 2) c.self.invariant.rows c.self.invariant.objective).0) (record { variables = c.self.inside.variables; basic = slice_set c.self.inside.basic.items c.in-Some.place c.args.p.enter; rows = entries_of_rows c.forget_leaving.new.rows.items; objective = c.forget_leaving.new.objective.items; upcoming = c.saturating_add.result }) refl refl c.forget_leaving.ensures.rows c.forget_leaving.ensures.objective)

pub returns-clause-not_required : goal.returns-clause-not_required
returns-clause-not_required g c = is_not_required g.F.ExactField.value g.F.ExactField.limit (record { variables = c.self.inside.variables; basic = c.self.inside.basic.items; rows = entries_of_rows c.self.inside.rows.items; objective = c.self.inside.objective.items; upcoming = c.self.inside.upcoming }) c.args.p c.self.invariant (subst (λ (t : FractionTableau _). (k : ℕ) × IsLegal (fraction_dictionary g.F.ExactField.value t) c.args.p k) (sym c.self.view_is) c.requires) c.in-Some.place (subst (λ b. slice_get b c.in-Some.place ≡ Some c.args.p.leave) c.as_slice.ensures.value c.in-Some.ensures) (entries_of_rows c.turn.new.rows.items) c.turn.new.objective.items ((c.in_default-turn.ensures (c.self.inside.variables + 2) c.self.invariant.rows c.self.invariant.objective).0) (record { variables = c.self.inside.variables; basic = slice_set c.self.inside.basic.items c.in-Some.place c.args.p.enter; rows = entries_of_rows c.forget_leaving.new.rows.items; objective = c.forget_leaving.new.objective.items; upcoming = c.saturating_add.result }) refl refl c.forget_leaving.ensures.rows c.forget_leaving.ensures.objective
