use Rattle.std.proofs.Common.{ℕ, ◌+◌, ◌≡◌, List, map, length, refl, ap, subst, subst₂}
use Rattle.std.specs.Prelude.{Vec}
use Rattle.std.specs.declared.alloc.Global.{Global}
use Rattle.std.proofs.lemmas.Result.{IfOk-weaker}
use Rattle.lp_core.specs.Pivots.{last_of}
use Rattle.lp_fraction_dict.specs.declared.row.Entry.{Entry}
use Rattle.lp_fraction_dict.specs.Lines.{entries_of_rows}
use Rattle.lp_fraction_dict.specs.Tableau.{FractionTableau, fraction_dictionary}
use Rattle.lp_fraction_dict.specs.Reading.{AreByVariable}
use Rattle.lp_fraction_dict.proofs.Kept.{some_rows}
use Rattle.lp_fraction_dict.proofs.Finals.{values_are}
use Rattle.lp_fraction_dict.proofs.dict.ExactDict.values.Goals as goal

pub by_variable-requires-clause-rows : goal.by_variable-requires-clause-rows
by_variable-requires-clause-rows g c = some_rows g.F.ExactField.value (record { variables = c.self.inside.variables; basic = c.self.inside.basic.items; rows = entries_of_rows c.self.inside.rows.items; objective = c.self.inside.objective.items; upcoming = c.self.inside.upcoming }) c.self.invariant (entries_of_rows c.as_slice.result.now) (ap entries_of_rows c.as_slice.ensures.value)

pub returns : goal.returns
returns g c =
    IfOk-weaker c.by_variable.result (λ (list : Vec _ Global). AreByVariable g.F.ExactField.value (entries_of_rows c.as_slice.result.now) c.as_slice-2.result.now (c.self.inside.variables + 1) 0 (length c.as_slice-2.result.now) list.items) (λ (list : Vec _ Global). map g.F.ExactField.value list.items ≡ (last_of (fraction_dictionary g.F.ExactField.value c.args.self.now)).values)
    (λ list h. subst (λ (t : FractionTableau _). map g.F.ExactField.value list.items ≡ (last_of (fraction_dictionary g.F.ExactField.value t)).values) c.self.view_is (values_are g.F.ExactField.value (record { variables = c.self.inside.variables; basic = c.self.inside.basic.items; rows = entries_of_rows c.self.inside.rows.items; objective = c.self.inside.objective.items; upcoming = c.self.inside.upcoming }) c.self.invariant list.items (length c.self.inside.basic.items) refl (subst₂ (λ (rs : List (List (Entry _))) (b : List ℕ). AreByVariable g.F.ExactField.value rs b (c.self.inside.variables + 1) 0 (length b) list.items) (ap entries_of_rows c.as_slice.ensures.value) c.as_slice-2.ensures.value h)))
    c.by_variable.ensures
