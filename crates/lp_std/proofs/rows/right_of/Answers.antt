use Rattle.std.proofs.Common.{◌<◌, length, sym, ◌∙◌, arith, subst}
use Rattle.std.proofs.lemmas.List.Elements.{All-get_or}
use Rattle.std.proofs.lemmas.Result.{err_from_is_err_and}
use Rattle.lp_std.proofs.LoopSteps.{steps_go, steps_stop, right_goes, steps_end, right_ends}
use Rattle.lp_std.proofs.rows.right_of.Goals as goal

pub returns-in_err-left-clause-err : goal.returns-in_err-left-clause-err
returns-in_err-left-clause-err g c =
    let there = subst (λ e. e.0 < length c.args.columns.now) (sym c.loop-column-item.is) (All-get_or (λ e. e.0 < length c.args.columns.now) c.args.entries.now c.loop-column.column-index c.loop-column-item.result c.loop-column-test.true c.requires.there) in
    let p = err_from_is_err_and c.from_residual.result c.from_residual.ensures.1 in
    rw (p.1, p.2) (c.loop-column.invariant.steps ∙ steps_stop g.F.ExactField.value g.F.ExactField.limit c.args.columns.now c.args.row c.args.entries.now c.loop-column.column-index c.loop-column-item.result c.index-columns-column.result c.loop-column-test.true c.loop-column-item.is there c.index-columns-column.is c.loop-column.left c.in_err-left.field-0.0 c.in_err-left.ensures.err)

pub loop-column-preserved : goal.loop-column-preserved
loop-column-preserved g c =
    let there = subst (λ e. e.0 < length c.args.columns.now) (sym c.loop-column-item.is) (All-get_or (λ e. e.0 < length c.args.columns.now) c.args.entries.now c.loop-column.column-index c.loop-column-item.result c.loop-column-test.true c.requires.there) in
    record {
      steps = c.loop-column.invariant.steps ∙ steps_go g.F.ExactField.value g.F.ExactField.limit c.args.columns.now c.args.row c.args.entries.now c.loop-column.column-index c.loop-column-item.result c.index-columns-column.result c.loop-column-test.true c.loop-column-item.is there c.index-columns-column.is c.loop-column.left c.in_ok-left.left c.in_ok-left.ensures.ok;
      value = c.loop-column.invariant.value ∙ right_goes g.F.ExactField.value g.F.ExactField.limit c.args.columns.now c.args.row c.args.entries.now c.loop-column.column-index c.loop-column-item.result c.index-columns-column.result c.loop-column-test.true c.loop-column-item.is there c.index-columns-column.is c.loop-column.left c.in_ok-left.left c.in_ok-left.ensures.ok.1;
    }

pub returns-clause-ok : goal.returns-clause-ok
returns-clause-ok g c = (
  c.loop-column.invariant.steps ∙ steps_end g.F.ExactField.value g.F.ExactField.limit c.args.columns.now c.args.row c.args.entries.now c.loop-column.column-index (g.F.ExactField.value c.loop-column.left) (omega arith),
  sym (c.loop-column.invariant.value ∙ right_ends g.F.ExactField.value g.F.ExactField.limit c.args.columns.now c.args.row c.args.entries.now c.loop-column.column-index (g.F.ExactField.value c.loop-column.left) (omega arith)),
)
