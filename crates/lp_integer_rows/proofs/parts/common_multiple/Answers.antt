use Rattle.std.proofs.Common.{pos, refl, arith}
use Rattle.std.specs.Prelude.{slice_index_or}
use Rattle.lp_integer_rows.proofs.Plans.{index_get}
use Rattle.lp_integer_rows.proofs.Filling.{multiple_none, multiple_more, no_multiple}
use Rattle.lp_integer_rows.proofs.parts.common_multiple.Goals as goal

pub loop-i-init : goal.loop-i-init
loop-i-init c = multiple_none c.args.parts.now

pub returns-in_default : goal.returns-in_default
returns-in_default c =
    no_multiple c.args.parts.now c.loop-i.i c.loop-i.multiple (slice_index_or c.args.parts.now c.loop-i.i (record { column = 0; numerator = pos 0; denominator = 0 })) c.loop-i-test.true c.loop-i.invariant (index_get c.args.parts.now c.loop-i.i (slice_index_or c.args.parts.now c.loop-i.i (record { column = 0; numerator = pos 0; denominator = 0 })) (record { column = 0; numerator = pos 0; denominator = 0 }) c.loop-i-test.true refl) c.in_default.ensures

pub loop-i-preserved : goal.loop-i-preserved
loop-i-preserved c =
    let told = c.in-Some.ensures in
    multiple_more c.args.parts.now c.loop-i.i c.loop-i.multiple c.in-Some.next (slice_index_or c.args.parts.now c.loop-i.i (record { column = 0; numerator = pos 0; denominator = 0 })) c.loop-i.invariant (index_get c.args.parts.now c.loop-i.i (slice_index_or c.args.parts.now c.loop-i.i (record { column = 0; numerator = pos 0; denominator = 0 })) (record { column = 0; numerator = pos 0; denominator = 0 }) c.loop-i-test.true refl) told.0 told.1 told.2 told.3 told.4

pub returns : goal.returns
returns c =
    record { positive = c.loop-i.invariant.positive; small = c.loop-i.invariant.small; divides = λ j p less at. c.loop-i.invariant.divides j p (omega arith) at; least = λ k some all. c.loop-i.invariant.least k some (λ j p less at. all j p (omega arith) at) }
