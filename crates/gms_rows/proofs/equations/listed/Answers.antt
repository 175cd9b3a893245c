use Rattle.std.proofs.Common.{get_or, ◌∙◌, sym, ap, []}
use Rattle.gms_ast.specs.declared.word.Named.{Named}
use Rattle.gms_rows.specs.InnerContracts.{with_once}
use Rattle.gms_rows.proofs.Naming.{distinct_numbers-at}
use Rattle.gms_rows.proofs.equations.listed.Goals as goal

pub loop-equation-preserved : goal.loop-equation-preserved
loop-equation-preserved c =
    let none : Named = record { at = record { line = 0; column = 0 }; name = 0 } in
    c.in_ok-push_once.ensures
    ∙ ap (λ names. with_once names (get_or c.as_slice-equation-items.result.now c.loop-equation.equation-index none).name) c.loop-equation.invariant
    ∙ sym (distinct_numbers-at (λ equation. equation.name) [] c.as_slice-equation-items.result.now c.loop-equation.equation-index none c.loop-equation-test.true)
