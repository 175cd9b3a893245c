use Rattle.std.proofs.Common.{[], map, sym, ap, subst, ◌∙◌}
use Rattle.std.specs.List.{All}
use Rattle.std.proofs.lemmas.List.{take_all}
use Rattle.std.proofs.lemmas.List.Elements.{All-nil, All-more}
use Rattle.gms_eval.proofs.Answering.{handed_on}
use Rattle.gms_rows.specs.Rows.{definitions, definition_of, rows_of_model}
use Rattle.gms_rows.specs.InnerContracts.{AreNoted, form_row_in, HaveOrder}
use Rattle.gms_rows.proofs.RowSequences.{model_from, model-more, model-stops, model-end}
use Rattle.gms_rows.proofs.generation.rows_of_model.Goals as goal

pub loop-equation-init : goal.loop-equation-init
loop-equation-init g c = (
  ap (λ rows. model_from g.F.ExactField.value g.F.ExactField.limit c.args.store.now (definitions c.args.program.now.statements.items) (map (form_row_in g.F.ExactField.value) rows) c.deref-equation-items.result.now) (sym c.new-rows.ensures.items),
  All-nil _,
)

pub returns-in_err-push_equation-clause-rows : goal.returns-in_err-push_equation-clause-rows
returns-in_err-push_equation-clause-rows g c =
    handed_on g.F.ExactField.value _ c.from_residual-in_err-push_equation.result c.in_err-push_equation.field-0.0 (rows_of_model g.F.ExactField.value g.F.ExactField.limit c.args.store.now c.args.program.now.statements.items c.args.model) c.from_residual-in_err-push_equation.ensures.1 (model-stops g.F.ExactField.value g.F.ExactField.limit c.args.store.now (definitions c.args.program.now.statements.items) c.in_err-push_equation.field-0.0 (rows_of_model g.F.ExactField.value g.F.ExactField.limit c.args.store.now c.args.program.now.statements.items c.args.model) (map (form_row_in g.F.ExactField.value) c.loop-equation.rows.items) c.deref-equation-items.result.now c.loop-equation.equation-index _ (ap (model_from g.F.ExactField.value g.F.ExactField.limit c.args.store.now (definitions c.args.program.now.statements.items) []) (sym (c.deref-equation-items.ensures.value ∙ c.in_ok-equations.ensures)) ∙ c.loop-equation.invariant.0) c.loop-equation-test.true (c.in_err-push_equation.ensures.rows (definitions c.args.program.now.statements.items) (subst (λ noted. AreNoted noted (definitions c.args.program.now.statements.items)) (sym c.as_slice.ensures.value) c.in_ok-noted.ensures)))

pub loop-equation-preserved : goal.loop-equation-preserved
loop-equation-preserved g c = (
  c.loop-equation.invariant.0 ∙ model-more g.F.ExactField.value g.F.ExactField.limit c.args.store.now (definitions c.args.program.now.statements.items) (map (form_row_in g.F.ExactField.value) c.loop-equation.rows.items) _ c.deref-equation-items.result.now c.loop-equation.equation-index _ c.loop-equation-test.true (c.in_ok-push_equation.ensures.rows (definitions c.args.program.now.statements.items) (subst (λ noted. AreNoted noted (definitions c.args.program.now.statements.items)) (sym c.as_slice.ensures.value) c.in_ok-noted.ensures)),
  All-more (λ equation. HaveOrder c.args.store.now (definition_of (definitions c.args.program.now.statements.items) equation)) c.deref-equation-items.result.now c.loop-equation.equation-index _ c.loop-equation-test.true c.loop-equation.invariant.1 (c.in_ok-push_equation.ensures.ordered (definitions c.args.program.now.statements.items) (subst (λ noted. AreNoted noted (definitions c.args.program.now.statements.items)) (sym c.as_slice.ensures.value) c.in_ok-noted.ensures)),
)

pub returns-clause-rows : goal.returns-clause-rows
returns-clause-rows g c =
    ap (model_from g.F.ExactField.value g.F.ExactField.limit c.args.store.now (definitions c.args.program.now.statements.items) []) (sym (c.deref-equation-items.ensures.value ∙ c.in_ok-equations.ensures)) ∙ c.loop-equation.invariant.0 ∙ model-end g.F.ExactField.value g.F.ExactField.limit c.args.store.now (definitions c.args.program.now.statements.items) (map (form_row_in g.F.ExactField.value) c.loop-equation.rows.items) c.deref-equation-items.result.now c.loop-equation.equation-index c.loop-equation-test.false

pub returns-clause-ordered : goal.returns-clause-ordered
returns-clause-ordered g c =
    subst (All (λ equation. HaveOrder c.args.store.now (definition_of (definitions c.args.program.now.statements.items) equation))) (take_all c.loop-equation.equation-index c.deref-equation-items.result.now c.loop-equation-test.false ∙ (c.deref-equation-items.ensures.value ∙ c.in_ok-equations.ensures)) c.loop-equation.invariant.1
