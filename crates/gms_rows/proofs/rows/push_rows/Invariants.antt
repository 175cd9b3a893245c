use Rattle.std.proofs.Common.{◌≡◌, ◌++◌, map, drop, Ok}
use Rattle.gms_eval.specs.Faults.{◌and_then◌}
use Rattle.gms_rows.specs.Rows.{rows_of_definition}
use Rattle.gms_rows.specs.InnerContracts.{definition_in, form_row_in}
use Rattle.gms_rows.proofs.RowSequences.{rows_from, row_of}
use Rattle.gms_rows.proofs.rows.push_rows.Given as goal

abbrev pub invariant-loop-element : goal.invariant-loop-element
invariant-loop-element g l =
    (rows_of_definition g.F.ExactField.value g.F.ExactField.limit l.store (definition_in l.definition) and_then λ those. Ok (map (form_row_in g.F.ExactField.value) l.fn.rows.items ++ those))
    ≡ rows_from (row_of g.F.ExactField.value g.F.ExactField.limit l.store (definition_in l.definition)) (map (form_row_in g.F.ExactField.value) l.rows.items) (drop l.element-index l.element-items)
