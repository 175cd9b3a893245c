use Rattle.std.proofs.Common.{pos, refl, subst, arith}
use Rattle.std.specs.Prelude.{slice_index_or}
use Rattle.gq_number.specs.Number.{whole, ◌/ℚ◌}
use Rattle.gq_number.specs.Order.{◌<ℚ◌}
use Rattle.lp_integer_rows.specs.Form.{lines_number, numbers_above}
use Rattle.lp_integer_dict.specs.InnerChoice.{IsLeastRatio}
use Rattle.lp_integer_dict.proofs.Choices.{first_skips, first_takes, best_is}
use Rattle.lp_integer_dict.proofs.choice.least_ratio.Goals as goal

pub loop-place-preserved-in_default : goal.loop-place-preserved-in_default
loop-place-preserved-in_default c =
    first_skips (λ i. whole (pos 0) <ℚ numbers_above c.args.deferred (lines_number c.args.lines.now) i c.args.column) (λ i. numbers_above c.args.deferred (lines_number c.args.lines.now) i 0 /ℚ numbers_above c.args.deferred (lines_number c.args.lines.now) i c.args.column) (λ i. slice_index_or c.args.basic.now i 0) c.loop-place.place c.loop-place.best c.loop-place.invariant c.in_default.ensures

pub lesser-requires-clause-best : goal.lesser-requires-clause-best
lesser-requires-clause-best c =
    best_is (λ i. whole (pos 0) <ℚ numbers_above c.args.deferred (lines_number c.args.lines.now) i c.args.column) (λ i. numbers_above c.args.deferred (lines_number c.args.lines.now) i 0 /ℚ numbers_above c.args.deferred (lines_number c.args.lines.now) i c.args.column) (λ i. slice_index_or c.args.basic.now i 0) c.loop-place.place c.loop-place.best c.loop-place.invariant

pub loop-place-preserved : goal.loop-place-preserved
loop-place-preserved c =
    let told = c.in-Some.ensures in
    first_takes (λ i. whole (pos 0) <ℚ numbers_above c.args.deferred (lines_number c.args.lines.now) i c.args.column) (λ i. numbers_above c.args.deferred (lines_number c.args.lines.now) i 0 /ℚ numbers_above c.args.deferred (lines_number c.args.lines.now) i c.args.column) (λ i. slice_index_or c.args.basic.now i 0) c.loop-place.place c.loop-place.best (record { measure = c.in-Some.measure; variable = slice_index_or c.args.basic.now c.loop-place.place 0 }) c.lesser.result c.loop-place.invariant told.1 told.2 refl c.lesser.ensures told.0

pub returns : goal.returns
returns c =
    subst (λ n. IsLeastRatio (numbers_above c.args.deferred (lines_number c.args.lines.now)) c.args.basic.now c.args.column n c.loop-place.best) (omega arith) c.loop-place.invariant
