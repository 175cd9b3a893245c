use Rattle.std.proofs.Common.{ℕ, ◌+◌, ◌≤◌, ◌≡◌, List, map, length, refl, sym, ap, subst, subst₂, arith}
use Rattle.std.specs.Prelude.{Contains}
use Rattle.lp_core.specs.Pivots.{last_along}
use Rattle.lp_fraction_dict.specs.declared.row.Entry.{Entry}
use Rattle.lp_fraction_dict.specs.Lines.{entries_of_rows}
use Rattle.lp_fraction_dict.specs.Tableau.{FractionTableau, fraction_dictionary}
use Rattle.lp_fraction_dict.specs.Reading.{AreByVariable, IsDone, last_with}
use Rattle.lp_fraction_dict.proofs.Kept.{some_rows}
use Rattle.lp_fraction_dict.proofs.Finals.{changes_are}
use Rattle.lp_fraction_dict.proofs.dict.ExactDict.ray.Goals as goal

pub by_variable-requires-clause-rows : goal.by_variable-requires-clause-rows
by_variable-requires-clause-rows g c =
    some_rows g.F.ExactField.value (record { variables = c.self.inside.variables; basic = c.self.inside.basic.items; rows = entries_of_rows c.self.inside.rows.items; objective = c.self.inside.objective.items; upcoming = c.self.inside.upcoming }) c.self.invariant (entries_of_rows c.as_slice-rows.result.now) (ap entries_of_rows c.as_slice-rows.ensures.value)

pub returns : goal.returns
returns g c =
    let done = subst (IsDone (fraction_dictionary g.F.ExactField.value c.args.self.now)) c.in-Some.is c.requires in
    let none = subst (λ (t : FractionTableau _). ¬ (Contains t.basic c.in-Some.enter)) (sym c.self.view_is) done.1.1.not_basic in
    let there = subst (λ (t : FractionTableau _). c.in-Some.enter ≤ t.variables) (sym c.self.view_is) done.1.1.there in
    let numbers = subst₂ (λ (rs : List (List (Entry _))) (b : List ℕ). AreByVariable g.F.ExactField.value rs b (c.self.inside.variables + 1) (c.in-Some.enter + 1) (length b) c.in_ok-numbers.numbers.items) (ap entries_of_rows c.as_slice-rows.ensures.value) c.as_slice.ensures.value c.in_ok-numbers.ensures in
    subst (λ e. map g.F.ExactField.value c.changes.result.items ≡ (last_with (fraction_dictionary g.F.ExactField.value c.args.self.now) e).changes) (sym c.in-Some.is)
    (subst (λ (t : FractionTableau _). map g.F.ExactField.value c.changes.result.items ≡ (last_along (fraction_dictionary g.F.ExactField.value t) c.in-Some.enter).changes) c.self.view_is
    (changes_are g.F.ExactField.value (record { variables = c.self.inside.variables; basic = c.self.inside.basic.items; rows = entries_of_rows c.self.inside.rows.items; objective = c.self.inside.objective.items; upcoming = c.self.inside.upcoming }) c.self.invariant c.in-Some.enter (length c.self.inside.basic.items) c.in_ok-numbers.numbers.items c.changes.result.items (omega arith) none refl numbers c.changes.ensures))
