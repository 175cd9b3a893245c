use Rattle.std.proofs.Common.{◌+◌, ◌-◌, refl, sym, subst, length, arith}
use Rattle.lp_fraction_dict.specs.Lines.{entries_of_rows}
use Rattle.lp_fraction_dict.specs.First.{IsInForm}
use Rattle.lp_fraction_dict.proofs.Begins.{code_few, code_in_order, code_tableau, code_first, code_of_form}
use Rattle.lp_fraction_dict.proofs.InForm.{form_in_order}
use Rattle.lp_fraction_dict.proofs.dict.ExactDict.of.Goals as goal

pub overflow_cast-slack : goal.overflow_cast-slack
overflow_cast-slack g c = let few = code_few g.F.ExactField.value c.args.s.now (subst IsInForm (sym c.requires.2) (form_in_order g.F.ExactField.value c.requires.0 c.requires.1)) c.as_slice-rows.result.now c.as_slice-rows.ensures c.len.result c.len.ensures in omega arith

pub overflow_add-slack : goal.overflow_add-slack
overflow_add-slack g c = let few = code_few g.F.ExactField.value c.args.s.now (subst IsInForm (sym c.requires.2) (form_in_order g.F.ExactField.value c.requires.0 c.requires.1)) c.as_slice-rows.result.now c.as_slice-rows.ensures c.len.result c.len.ensures in omega arith

pub overflow_cast-result : goal.overflow_cast-result
overflow_cast-result g c = let few = code_few g.F.ExactField.value c.args.s.now (subst IsInForm (sym c.requires.2) (form_in_order g.F.ExactField.value c.requires.0 c.requires.1)) c.as_slice-rows.result.now c.as_slice-rows.ensures c.len.result c.len.ensures in omega arith

pub overflow_add-result : goal.overflow_add-result
overflow_add-result g c = let few = code_few g.F.ExactField.value c.args.s.now (subst IsInForm (sym c.requires.2) (form_in_order g.F.ExactField.value c.requires.0 c.requires.1)) c.as_slice-rows.result.now c.as_slice-rows.ensures c.len.result c.len.ensures in omega arith

pub numbers_from-requires : goal.numbers_from-requires
numbers_from-requires g c = let few = code_few g.F.ExactField.value c.args.s.now (subst IsInForm (sym c.requires.2) (form_in_order g.F.ExactField.value c.requires.0 c.requires.1)) c.as_slice-rows.result.now c.as_slice-rows.ensures c.len.result c.len.ensures in omega arith

pub rows_with_slacks-requires-clause-in_order : goal.rows_with_slacks-requires-clause-in_order
rows_with_slacks-requires-clause-in_order g c = code_in_order g.F.ExactField.value c.args.s.now (subst IsInForm (sym c.requires.2) (form_in_order g.F.ExactField.value c.requires.0 c.requires.1)) c.as_slice-rows.result.now c.as_slice-rows.ensures c.len.result c.len.ensures

pub rows_with_slacks-requires-clause-within_bound : goal.rows_with_slacks-requires-clause-within_bound
rows_with_slacks-requires-clause-within_bound g c = let few = code_few g.F.ExactField.value c.args.s.now (subst IsInForm (sym c.requires.2) (form_in_order g.F.ExactField.value c.requires.0 c.requires.1)) c.as_slice-rows.result.now c.as_slice-rows.ensures c.len.result c.len.ensures in omega arith

pub objective_row-requires : goal.objective_row-requires
objective_row-requires g c = let few = code_few g.F.ExactField.value c.args.s.now (subst IsInForm (sym c.requires.2) (form_in_order g.F.ExactField.value c.requires.0 c.requires.1)) c.as_slice-rows.result.now c.as_slice-rows.ensures c.len.result c.len.ensures in omega (arith, c.len.ensures)

pub invariant_of-result : goal.invariant_of-result
invariant_of-result g c = code_tableau g.F.ExactField.value c.args.s.now (subst IsInForm (sym c.requires.2) (form_in_order g.F.ExactField.value c.requires.0 c.requires.1)) c.as_slice-rows.result.now c.as_slice-rows.ensures c.len.result c.len.ensures c.is_some_below-needed.result c.is_some_below-needed.ensures (record { variables = c.len.result + 1 - 1 + length c.as_slice-rows.result.now; basic = c.in_ok-numbers_from.field-0.items; rows = entries_of_rows c.in_ok-rows_with_slacks.field-0.items; objective = c.in_ok-objective_row.field-0.items; upcoming = 1 }) refl c.in_ok-numbers_from.ensures c.in_ok-rows_with_slacks.ensures c.in_ok-objective_row.ensures

pub returns-clause-first : goal.returns-clause-first
returns-clause-first g c = code_first g.F.ExactField.value c.args.s.now (subst IsInForm (sym c.requires.2) (form_in_order g.F.ExactField.value c.requires.0 c.requires.1)) c.as_slice-rows.result.now c.as_slice-rows.ensures c.len.result c.len.ensures c.is_some_below-needed.result c.is_some_below-needed.ensures (record { variables = c.len.result + 1 - 1 + length c.as_slice-rows.result.now; basic = c.in_ok-numbers_from.field-0.items; rows = entries_of_rows c.in_ok-rows_with_slacks.field-0.items; objective = c.in_ok-objective_row.field-0.items; upcoming = 1 }) refl c.in_ok-numbers_from.ensures c.in_ok-rows_with_slacks.ensures c.in_ok-objective_row.ensures

pub returns-clause-of_form : goal.returns-clause-of_form
returns-clause-of_form g c = code_of_form g.F.ExactField.value c.args.s.now (subst IsInForm (sym c.requires.2) (form_in_order g.F.ExactField.value c.requires.0 c.requires.1)) c.as_slice-rows.result.now c.as_slice-rows.ensures c.len.result c.len.ensures c.is_some_below-needed.result c.is_some_below-needed.ensures (record { variables = c.len.result + 1 - 1 + length c.as_slice-rows.result.now; basic = c.in_ok-numbers_from.field-0.items; rows = entries_of_rows c.in_ok-rows_with_slacks.field-0.items; objective = c.in_ok-objective_row.field-0.items; upcoming = 1 }) refl c.in_ok-numbers_from.ensures c.in_ok-rows_with_slacks.ensures c.in_ok-objective_row.ensures
