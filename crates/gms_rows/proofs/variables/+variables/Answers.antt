use Rattle.std.proofs.Common.{ap, sym, refl, ◌∙◌}
use Rattle.gms_ast.specs.TreeView.{tree_of}
use Rattle.gms_ast.proofs.TreeEquations.{tree_of-Plus, tree_of-Times}
use Rattle.gms_rows.specs.Affine.{has_variables, some_has_variables}
use Rattle.gms_rows.specs.InnerContracts.{parts_in}
use Rattle.gms_rows.proofs.Having.{next-has, next-has_none, none-left}
use Rattle.gms_rows.proofs.variables.+variables.Goals as goal

pub has_variables-returns-in-Plus : goal.has_variables-returns-in-Plus
has_variables-returns-in-Plus g t c =
    c.some_has_variables.ensures ∙ ap (λ ps. some_has_variables c.args.store.now (parts_in ps)) c.deref-in-Plus.ensures.value ∙ sym (ap (has_variables c.args.store.now) (ap tree_of c.in-Plus.is ∙ tree_of-Plus c.in-Plus.parts))

pub has_variables-returns-in-Times : goal.has_variables-returns-in-Times
has_variables-returns-in-Times g t c =
    c.some_has_variables-in-Times.ensures ∙ ap (λ ps. some_has_variables c.args.store.now (parts_in ps)) c.deref-in-Times.ensures.value ∙ sym (ap (has_variables c.args.store.now) (ap tree_of c.in-Times.is ∙ tree_of-Times c.in-Times.parts))

pub some_has_variables-loop-part-init : goal.some_has_variables-loop-part-init
some_has_variables-loop-part-init g t c = refl

pub some_has_variables-loop-part-preserved : goal.some_has_variables-loop-part-preserved
some_has_variables-loop-part-preserved g t c =
    c.loop-part.invariant ∙ next-has_none c.args.store.now c.args.parts.now c.loop-part.part-index c.loop-part-item.result c.loop-part-test.true c.loop-part-item.is (sym c.has_variables.ensures ∙ c.if-has_variables.false)

pub some_has_variables-returns-then-has_variables : goal.some_has_variables-returns-then-has_variables
some_has_variables-returns-then-has_variables g t c =
    sym (c.loop-part.invariant ∙ next-has c.args.store.now c.args.parts.now c.loop-part.part-index c.loop-part-item.result c.loop-part-test.true c.loop-part-item.is (sym c.has_variables.ensures ∙ c.if-has_variables.true))

pub some_has_variables-returns : goal.some_has_variables-returns
some_has_variables-returns g t c = sym (c.loop-part.invariant ∙ none-left c.args.store.now c.args.parts.now c.loop-part.part-index c.loop-part-test.false)
