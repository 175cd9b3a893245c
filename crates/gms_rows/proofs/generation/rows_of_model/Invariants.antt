use Rattle.std.proofs.Common.{◌≡◌, [], map, drop, take}
use Rattle.std.specs.List.{All}
use Rattle.gms_rows.specs.Rows.{definitions, definition_of}
use Rattle.gms_rows.specs.InnerContracts.{form_row_in, HaveOrder}
use Rattle.gms_rows.proofs.RowSequences.{model_from}
use Rattle.gms_rows.proofs.generation.rows_of_model.Given as goal

abbrev pub invariant-loop-equation : goal.invariant-loop-equation
invariant-loop-equation g l =
    (model_from g.F.ExactField.value g.F.ExactField.limit l.store (definitions l.program.statements.items) [] l.equation-items ≡ model_from g.F.ExactField.value g.F.ExactField.limit l.store (definitions l.program.statements.items) (map (form_row_in g.F.ExactField.value) l.rows.items) (drop l.equation-index l.equation-items))
    × All (λ equation. HaveOrder l.store (definition_of (definitions l.program.statements.items) equation)) (take l.equation-index l.equation-items)
