use Rattle.std.proofs.Common.{◌≢◌, [], map, sym, ap, subst, ◌∙◌}
use Rattle.std.specs.List.{AllPairs}
use Rattle.gms_eval.specs.Faults.{◌and_then◌}
use Rattle.gms_eval.proofs.Answering.{gives-same, handed_on, stops-then}
use Rattle.lp_core.specs.Numbers.{lp_numbers}
use Rattle.gms_rows.specs.declared.form_row.FormRow.{FormRow}
use Rattle.gms_rows.specs.ProgramLp.{program_of, program_lp, sized_program}
use Rattle.gms_rows.specs.Rows.{rows_of_model}
use Rattle.gms_rows.specs.InnerContracts.{form_row_in}
use Rattle.gms_rows.proofs.ModelKeys.{model-apart}
use Rattle.gms_rows.proofs.Programs.{pairs-of_map}
use Rattle.gms_rows.proofs.generation.generate.Goals as goal

pub returns-in_err-rows-clause-program : goal.returns-in_err-rows-clause-program
returns-in_err-rows-clause-program g c =
    handed_on g.F.ExactField.value (lp_numbers g.F.ExactField.value) c.from_residual.result c.in_err-rows.field-0.0 (program_lp g.F.ExactField.value g.F.ExactField.limit c.args.store.now c.args.program.now.statements.items c.args.model c.args.objective c.args.maximize c.args.at) c.from_residual.ensures.1 (stops-then g.F.ExactField.value c.in_err-rows.field-0.0 (rows_of_model g.F.ExactField.value g.F.ExactField.limit c.args.store.now c.args.program.now.statements.items c.args.model) (λ rows. sized_program c.args.at (program_of c.args.store.now rows (record { symbol = c.args.objective; tuple = [] }) c.args.maximize)) c.in_err-rows.ensures.rows)

pub returns-clause-program : goal.returns-clause-program
returns-clause-program g c =
    gives-same g.F.ExactField.value (lp_numbers g.F.ExactField.value) c.program_of.result _ _ (ap (λ a. a and_then λ rows. sized_program c.args.at (program_of c.args.store.now rows (record { symbol = c.args.objective; tuple = [] }) c.args.maximize)) c.in_ok-rows.ensures.rows ∙ ap (λ rs. sized_program c.args.at (program_of c.args.store.now (map (form_row_in g.F.ExactField.value) rs) (record { symbol = c.args.objective; tuple = [] }) c.args.maximize)) (sym c.deref.ensures.value)) c.program_of.ensures.program

pub returns-clause-formed : goal.returns-clause-formed
returns-clause-formed g c =
    c.program_of.ensures.formed (subst (AllPairs (λ (a b : FormRow _). a.key ≢ b.key)) (sym c.deref.ensures.value) (pairs-of_map (form_row_in g.F.ExactField.value) (λ a b. a.key ≢ b.key) c.in_ok-rows.rows.items (model-apart g.F.ExactField.value g.F.ExactField.limit c.args.store.now c.args.program.now.statements.items c.args.model (map (form_row_in g.F.ExactField.value) c.in_ok-rows.rows.items) c.requires c.in_ok-rows.ensures.ordered c.in_ok-rows.ensures.rows)))
