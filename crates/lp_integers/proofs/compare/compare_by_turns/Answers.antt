-- One turn of the comparison.
use Rattle.std.proofs.Common.{◌∙◌, sym, arith}
use Rattle.gq_field.proofs.Compares.{cmp_wholes, cmp-rests, cmp_turned, cmp_first_none, cmp_second_none}
use Rattle.lp_integers.proofs.compare.compare_by_turns.Goals as goal
use Rattle.lp_integers.proofs.compare.compare_by_turns.Goals.{then-rest-eq0-via-then-rest-eq0, then-rest-eq0-via-else-rest-eq0+then-other_rest-eq0}

pub returns-then-whole-other_whole : goal.returns-then-whole-other_whole
returns-then-whole-other_whole c =
    c.cmp.ensures
    ∙ cmp_wholes c.turns.left.0 c.turns.left.1 c.turns.right.0 c.turns.right.1 c.turns.invariant.first c.turns.invariant.second c.if-whole-other_whole.true
    ∙ c.turns.invariant.same

pub returns-then-rest-eq0 : goal.returns-then-rest-eq0
returns-then-rest-eq0 c =
    let rests = cmp-rests c.turns.left.0 c.turns.left.1 c.turns.right.0 c.turns.right.1 c.if-whole-other_whole.false in
    elim c.then-rest-eq0.branch [
      | then-rest-eq0-via-then-rest-eq0 w ↦ c.cmp-then-rest-eq0.ensures ∙ cmp_first_none _ _ c.turns.left.1 c.turns.right.1 c.turns.invariant.first w.if-rest-eq0.true ∙ sym rests ∙ c.turns.invariant.same
      | then-rest-eq0-via-else-rest-eq0+then-other_rest-eq0 w ↦ c.cmp-then-rest-eq0.ensures ∙ cmp_second_none _ _ c.turns.left.1 c.turns.right.1 c.turns.invariant.second w.if-other_rest-eq0.true ∙ sym rests ∙ c.turns.invariant.same
    ]

pub turns-preserved : goal.turns-preserved
turns-preserved c =
    record {
      first = omega arith;
      second = omega arith;
      same = sym (cmp_turned c.turns.left.0 c.turns.left.1 c.turns.right.0 c.turns.right.1 c.if-whole-other_whole.false) ∙ c.turns.invariant.same;
    }
