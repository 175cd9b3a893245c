use Rattle.std.proofs.Common.{◌-◌, arith}
use Rattle.std.proofs.lemmas.Bool.{both_ways}
use Rattle.lp_fraction_dict.proofs.Pricing.{none_goes, found_above, none_ends}
use Rattle.lp_fraction_dict.proofs.dict.first_above.Goals as goal
use Rattle.lp_fraction_dict.proofs.dict.first_above.Goals.{else-entry-ge2-via-then-entry-ge2+else-is_above_zero, else-entry-ge2-via-else-entry-ge2}

pub returns-then-is_above_zero : goal.returns-then-is_above_zero
returns-then-is_above_zero g c =
    found_above g.F.ExactField.value c.args.row.now c.loop-entry.entry-index c.entry-item.result 0 c.requires.0 c.requires.1 c.loop-entry-test.true c.entry-item.is c.loop-entry.invariant (c.entry-item.result.column - 1) c.if-entry-ge2.true (omega arith) (c.is_above_zero.ensures.0 c.if-is_above_zero.true)

pub loop-entry-preserved : goal.loop-entry-preserved
loop-entry-preserved g c =
    none_goes g.F.ExactField.value c.args.row.now c.loop-entry.entry-index c.entry-item.result 0 c.requires.0 c.requires.1 c.loop-entry-test.true c.entry-item.is c.loop-entry.invariant
    (elim c.else-entry-ge2.branch [
      | else-entry-ge2-via-then-entry-ge2+else-is_above_zero w ↦ λ two above. both_ways w.is_above_zero.result w.if-is_above_zero.false (w.is_above_zero.ensures.1 above)
      | else-entry-ge2-via-else-entry-ge2 w ↦ λ two above. absurd (omega arith)
    ])

pub returns : goal.returns
returns g c =
    none_ends g.F.ExactField.value c.args.row.now c.loop-entry.entry-index (omega arith) c.loop-entry.invariant
