use Rattle.std.proofs.Common.{◌<◌, ◌+◌, ◌^◌, length, sym, ap, ◌∙◌, ◌++◌, subst}
use Rattle.std.proofs.lemmas.List.Elements.{All-get_or}
use Rattle.lp_core.specs.StandardForm as form
use Rattle.lp_std.specs.Meaning.{shift_value}
use Rattle.lp_std.proofs.LoopSteps.{spread_more}
use Rattle.lp_std.proofs.rows.spread_row.Goals as goal

pub push_spread-requires : goal.push_spread-requires
push_spread-requires g c =
    let there = subst (λ e. e.0 < length c.args.columns.now) (sym c.loop-column-item.is) (All-get_or (λ e. e.0 < length c.args.columns.now) c.args.entries.now c.loop-column.column-index c.loop-column-item.result c.loop-column-test.true c.requires.there) in
    subst (λ p. p.0 + 1 < 2 ^ 32) (sym c.index-columns-column.is) (All-get_or (λ p. p.0 + 1 < 2 ^ 32) c.args.columns.now c.loop-column-item.result.0 c.index-columns-column.result there c.requires.low)

pub loop-column-preserved : goal.loop-column-preserved
loop-column-preserved g c =
    let there = subst (λ e. e.0 < length c.args.columns.now) (sym c.loop-column-item.is) (All-get_or (λ e. e.0 < length c.args.columns.now) c.args.entries.now c.loop-column.column-index c.loop-column-item.result c.loop-column-test.true c.requires.there) in
    c.in_ok-push_spread.ensures
    ∙ ap (λ ys. ys ++ form.spread c.index-columns-column.result.0 (shift_value g.F.ExactField.value c.index-columns-column.result.1) (g.F.ExactField.value c.loop-column-item.result.1)) c.loop-column.invariant
    ∙ sym (spread_more g.F.ExactField.value 0 c.args.columns.now 0 c.args.entries.now c.loop-column.column-index c.loop-column-item.result c.index-columns-column.result c.loop-column-test.true c.loop-column-item.is there c.index-columns-column.is)
