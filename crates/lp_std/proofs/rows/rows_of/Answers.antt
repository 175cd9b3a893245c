use Rattle.std.proofs.Common.{◌≡◌, drop, ◌<◌, ◌+◌, ◌∙◌, length, sym, ap, subst, arith}
use Rattle.std.specs.List.{All}
use Rattle.std.proofs.lemmas.List.Elements.{All-get_or}
use Rattle.lp_core.specs.declared.program.Row.{Row}
use Rattle.std.proofs.lemmas.Result.{err_from_is_err_and}
use Rattle.lp_core.specs.StandardForm as form
use Rattle.lp_core.specs.Steps.{rows_steps}
use Rattle.lp_std.specs.InnerSteps.{first_stop, placed_value}
use Rattle.lp_std.proofs.RowSteps.{rows_go, rows_stop, rows_made, count_here, new_length, stops_on}
use Rattle.lp_std.proofs.rows.rows_of.Goals as goal

pub push_row-requires-clause-there : goal.push_row-requires-clause-there
push_row-requires-clause-there g c =
    subst (λ (row : Row _). All (λ e. e.0 < length c.args.columns.now) row.entries) (sym c.index-program-i.is) (All-get_or (λ (row : Row _). All (λ e. e.0 < length c.args.columns.now) row.entries) c.args.program.now c.loop-i.i c.index-program-i.result (omega arith) c.requires.there)

pub returns-in_err-push_row-clause-err : goal.returns-in_err-push_row-clause-err
returns-in_err-push_row-clause-err g c =
    let p = err_from_is_err_and c.from_residual.result c.from_residual.ensures.1 in
    rw (p.1, p.2) (stops_on (rows_steps g.F.ExactField.value g.F.ExactField.limit (placed_value g.F.ExactField.value c.args.columns.now) 1 c.args.program.now) (rows_steps g.F.ExactField.value g.F.ExactField.limit (placed_value g.F.ExactField.value c.args.columns.now) (length c.loop-i.rows.items + 1) (drop c.loop-i.i c.args.program.now)) c.in_err-push_row.field-0.0 c.loop-i.invariant.steps (rows_stop g.F.ExactField.value g.F.ExactField.limit (placed_value g.F.ExactField.value c.args.columns.now) c.args.program.now c.loop-i.i c.index-program-i.result (omega arith) c.index-program-i.is (length c.loop-i.rows.items + 1) c.in_err-push_row.field-0.0 c.in_err-push_row.ensures.err))

pub loop-i-preserved : goal.loop-i-preserved
loop-i-preserved g c =
    let len = new_length g.F.ExactField.value g.F.ExactField.limit (placed_value g.F.ExactField.value c.args.columns.now) c.args.program.now c.loop-i.i c.index-program-i.result (omega arith) c.index-program-i.is c.loop-i.rows.items c.push_row.new.rows.items c.in_ok-push_row.ensures.rows in
    let numbers : length c.loop-i.rows.items + 1 + form.rows_of_sense c.index-program-i.result.sense ≡ length c.push_row.new.rows.items + 1 = omega (arith, len) in
    record {
      counted = omega (arith, len, count_here g.F.ExactField.value g.F.ExactField.limit (placed_value g.F.ExactField.value c.args.columns.now) c.args.program.now c.loop-i.i c.index-program-i.result (omega arith) c.index-program-i.is, c.loop-i.invariant.counted);
      steps = c.loop-i.invariant.steps ∙ rows_go g.F.ExactField.value g.F.ExactField.limit (placed_value g.F.ExactField.value c.args.columns.now) c.args.program.now c.loop-i.i c.index-program-i.result (omega arith) c.index-program-i.is (length c.loop-i.rows.items + 1) c.in_ok-push_row.ensures.steps ∙ ap (λ n. first_stop (rows_steps g.F.ExactField.value g.F.ExactField.limit (placed_value g.F.ExactField.value c.args.columns.now) n (drop (c.loop-i.i + 1) c.args.program.now))) numbers;
      made = rows_made g.F.ExactField.value g.F.ExactField.limit (placed_value g.F.ExactField.value c.args.columns.now) c.args.program.now c.loop-i.i c.index-program-i.result (omega arith) c.index-program-i.is c.loop-i.rows.items c.push_row.new.rows.items c.in_ok-push_row.ensures.rows ∙ c.loop-i.invariant.made;
    }
