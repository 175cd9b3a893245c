use Rattle.std.proofs.Common.{◌+◌, refl, ap, ◌∙◌}
use Rattle.gms_grammar.specs.Grammar.{the, ◌·◌}
use Rattle.gms_grammar.specs.GamsGrammar.{Fold, Control, Expression, token}
use Rattle.gms_grammar.specs.declared.terminal.Terminal.TheVariants.{Comma}
use Rattle.gms_expressions.specs.ExpressionTrees.{fold_op_of}
use Rattle.gms_expressions.specs.InnerReadings.{IsControl}
use Rattle.gms_expressions.proofs.Signs.{handed_on}
use Rattle.gms_expressions.proofs.Steps.{refuses_the, refuses_first, refuses_second, refuses_memory, gives_both}
use Rattle.gms_expressions.proofs.Nexts.{gives_next, refuses_lacking, refuses_unopened, refuses_inside, refuses_unclosed}
use Rattle.gms_expressions.proofs.Nesting.{callable_inside, reads_inside, here_inside}
use Rattle.gms_expressions.proofs.Closings.{next_inside}
use Rattle.gms_expressions.proofs.Operands.{fold_got, at_inside, refused_inside}
use Rattle.gms_expressions.proofs.Extending.{went_then, went_by}
use Rattle.gms_expressions.proofs.grammar.Grammar.fold.Goals as goal

pub control-requires : goal.control-requires
control-requires g c = here_inside c.requires c.in_ok-inner.ensures

pub nested-requires : goal.nested-requires
nested-requires g c = callable_inside c.requires c.in_ok-inner.ensures _ _ _ _

pub returns-in_err-word : goal.returns-in_err-word
returns-in_err-word g c = handed_on _ _ c.from_residual.result _ c.from_residual.ensures.1 (refuses_the Fold (refuses_first (refuses_lacking c.in_err-word.ensures)))

pub returns-in_err-inner : goal.returns-in_err-inner
returns-in_err-inner g c = handed_on _ _ c.from_residual-in_err-inner.result _ c.from_residual-in_err-inner.ensures.1
    (refuses_the Fold (refuses_second (gives_next _ c.in_ok-word.ensures refl) (refuses_unopened (the Control · token Comma · the Expression) c.args.tables.now c.in_err-inner.ensures)))

pub returns-in_err-control : goal.returns-in_err-control
returns-in_err-control g c = handed_on _ _ c.from_residual-in_err-control.result _ c.from_residual-in_err-control.ensures.1
    (refuses_the Fold (refuses_second (gives_next _ c.in_ok-word.ensures refl) (refuses_inside c.in_ok-inner.ensures (refuses_first (refused_inside c.in_ok-inner.ensures c.in_ok-inner.start c.in_err-control.ensures)))))

pub returns-in_err-control-2 : goal.returns-in_err-control-2
returns-in_err-control-2 g c = handed_on _ _ c.from_residual-in_err-control-2.result _ c.from_residual-in_err-control-2.ensures.1
    (refuses_the Fold (refuses_second (gives_next _ c.in_ok-word.ensures refl) (refuses_inside c.in_ok-inner.ensures (refuses_second (at_inside (λ r. IsControl g.F.ExactField.value r.source.now) c.in_ok-inner.ensures c.in_ok-control.ensures).gives (refuses_first (refuses_lacking c.in_err-control-2.ensures))))))

pub returns-in_err-body : goal.returns-in_err-body
returns-in_err-body g c = handed_on _ _ c.from_residual-in_err-body.result _ c.from_residual-in_err-body.ensures.1
    (refuses_the Fold (refuses_second (gives_next _ c.in_ok-word.ensures refl) (refuses_inside c.in_ok-inner.ensures (refuses_second (at_inside (λ r. IsControl g.F.ExactField.value r.source.now) c.in_ok-inner.ensures c.in_ok-control.ensures).gives (refuses_second (gives_next _ (next_inside (c.args.self.now.reader.unclosed + 1) c.in_ok-control-2.ensures.next) refl) (reads_inside c.requires c.in_ok-inner.ensures c.in_err-body.ensures))))))

pub returns-in_err-body-2 : goal.returns-in_err-body-2
returns-in_err-body-2 g c = handed_on _ _ c.from_residual-in_err-body-2.result _ c.from_residual-in_err-body-2.ensures.1
    (refuses_the Fold (refuses_second (gives_next _ c.in_ok-word.ensures refl) (refuses_unclosed c.in_ok-inner.ensures (gives_both (at_inside (λ r. IsControl g.F.ExactField.value r.source.now) c.in_ok-inner.ensures c.in_ok-control.ensures).gives (gives_both (gives_next _ (next_inside (c.args.self.now.reader.unclosed + 1) c.in_ok-control-2.ensures.next) refl) (reads_inside c.requires c.in_ok-inner.ensures c.in_ok-body.ensures).gives)) c.in_err-body-2.ensures)))

pub returns-in_err-fold : goal.returns-in_err-fold
returns-in_err-fold g c = handed_on _ _ c.from_residual-in_err-fold.result _ c.from_residual-in_err-fold.ensures.1 (refuses_memory (went_then (at_inside (λ r. IsControl g.F.ExactField.value r.source.now) c.in_ok-inner.ensures c.in_ok-control.ensures).gives (went_by (reads_inside c.requires c.in_ok-inner.ensures c.in_ok-body.ensures).gives)) c.in_err-fold.ensures)

pub returns : goal.returns
returns g c = fold_got c.fold_op_of-op.result c.in_ok-word.ensures c.in_ok-inner.ensures (at_inside (λ r. IsControl g.F.ExactField.value r.source.now) c.in_ok-inner.ensures c.in_ok-control.ensures) c.in_ok-control-2.ensures (reads_inside c.requires c.in_ok-inner.ensures c.in_ok-body.ensures) c.in_ok-body-2.ensures (c.fold_op_of-op.ensures ∙ ap fold_op_of c.text.ensures) c.in_ok-fold.ensures
