use Rattle.std.proofs.Common.{◌+◌, ◌≡◌, List, [], map, length, Some, refl, sym, ◌∙◌, subst, arith}
use Rattle.std.specs.Prelude.{slice_get, slice_set, Contains, Vec}
use Rattle.std.specs.declared.alloc.Global.{Global}
use Rattle.std.proofs.lemmas.Result.{IfOk-weaker}
use Rattle.lp_core.specs.Pivots.{last_of}
use Rattle.lp_fraction_dict.specs.declared.row.Entry.{Entry}
use Rattle.lp_fraction_dict.specs.Rows.{IsRow}
use Rattle.lp_fraction_dict.specs.Lines.{entries_of_rows}
use Rattle.lp_fraction_dict.specs.Tableau.{FractionTableau, fraction_dictionary}
use Rattle.lp_fraction_dict.specs.Reading.{AreByColumn}
use Rattle.lp_fraction_dict.proofs.Kept.{place_within}
use Rattle.lp_fraction_dict.proofs.Exchanging.{row_at_place}
use Rattle.lp_fraction_dict.proofs.Finals.{costs_of_row, costs_of_objective}
use Rattle.lp_fraction_dict.proofs.dict.ExactDict.costs.Goals as goal

pub returns-in_default : goal.returns-in_default
returns-in_default g c =
    let none = subst (λ b. ¬ (Contains b 0)) c.as_slice.ensures.value c.in_default.ensures in
    IfOk-weaker c.by_column.result (λ (list : Vec _ Global). AreByColumn g.F.ExactField.value c.as_slice-in_default.result.now (c.self.inside.variables + 1) (length c.as_slice-in_default.result.now) list.items) (λ (list : Vec _ Global). map g.F.ExactField.value list.items ≡ (last_of (fraction_dictionary g.F.ExactField.value c.args.self.now)).costs)
    (λ list h. subst (λ (t : FractionTableau _). map g.F.ExactField.value list.items ≡ (last_of (fraction_dictionary g.F.ExactField.value t)).costs) c.self.view_is (costs_of_objective g.F.ExactField.value (record { variables = c.self.inside.variables; basic = c.self.inside.basic.items; rows = entries_of_rows c.self.inside.rows.items; objective = c.self.inside.objective.items; upcoming = c.self.inside.upcoming }) c.self.invariant list.items none (subst (λ (r : List (Entry _)). AreByColumn g.F.ExactField.value r (c.self.inside.variables + 1) (length r) list.items) c.as_slice-in_default.ensures.value h)))
    c.by_column.ensures

pub index-requires : goal.index-requires
index-requires g c = omega (arith, place_within g.F.ExactField.value (record { variables = c.self.inside.variables; basic = c.self.inside.basic.items; rows = entries_of_rows c.self.inside.rows.items; objective = c.self.inside.objective.items; upcoming = c.self.inside.upcoming }) c.self.invariant c.self.inside.rows.items c.in-Some.place 0 refl (subst (λ b. slice_get b c.in-Some.place ≡ Some 0) c.as_slice.ensures.value c.in-Some.ensures), c.self.inside.rows.ok.0)

pub by_column-requires-2 : goal.by_column-requires-2
by_column-requires-2 g c =
    let width : c.self.inside.variables + 2 ≡ c.self.inside.variables + 1 + 1 = omega arith in
    subst (λ n. IsRow g.F.ExactField.value 0 n c.as_slice-2.result.now) width (subst (IsRow g.F.ExactField.value 0 (c.self.inside.variables + 2)) (sym (c.as_slice-2.ensures.value ∙ row_at_place c.self.inside.rows.items c.in-Some.place c.index.result.now (place_within g.F.ExactField.value (record { variables = c.self.inside.variables; basic = c.self.inside.basic.items; rows = entries_of_rows c.self.inside.rows.items; objective = c.self.inside.objective.items; upcoming = c.self.inside.upcoming }) c.self.invariant c.self.inside.rows.items c.in-Some.place 0 refl (subst (λ b. slice_get b c.in-Some.place ≡ Some 0) c.as_slice.ensures.value c.in-Some.ensures)) c.index.ensures [])) (c.self.invariant.rows c.in-Some.place))

pub returns : goal.returns
returns g c =
    subst (λ (t : FractionTableau _). map g.F.ExactField.value (slice_set c.in_ok-costs.costs.items 0 c.zero.result) ≡ (last_of (fraction_dictionary g.F.ExactField.value t)).costs) c.self.view_is
    (costs_of_row g.F.ExactField.value (record { variables = c.self.inside.variables; basic = c.self.inside.basic.items; rows = entries_of_rows c.self.inside.rows.items; objective = c.self.inside.objective.items; upcoming = c.self.inside.upcoming }) c.self.invariant c.in-Some.place c.in_ok-costs.costs.items _ c.zero.result (subst (λ b. slice_get b c.in-Some.place ≡ Some 0) c.as_slice.ensures.value c.in-Some.ensures) (subst (λ (r : List (Entry _)). AreByColumn g.F.ExactField.value r (c.self.inside.variables + 1) (length r) c.in_ok-costs.costs.items) (c.as_slice-2.ensures.value ∙ row_at_place c.self.inside.rows.items c.in-Some.place c.index.result.now (place_within g.F.ExactField.value (record { variables = c.self.inside.variables; basic = c.self.inside.basic.items; rows = entries_of_rows c.self.inside.rows.items; objective = c.self.inside.objective.items; upcoming = c.self.inside.upcoming }) c.self.invariant c.self.inside.rows.items c.in-Some.place 0 refl (subst (λ b. slice_get b c.in-Some.place ≡ Some 0) c.as_slice.ensures.value c.in-Some.ensures)) c.index.ensures []) c.in_ok-costs.ensures) c.zero.ensures refl)
