use Rattle.std.proofs.Common.{arith, ap, subst, Some, None, drop}
use Rattle.std.proofs.lemmas.Result.{err_from_is_err_and}
use Rattle.gq_number.specs.Number.{◌+ℚ◌}
use Rattle.gq_field.specs.Fits.{sum_fits}
use Rattle.lp_form.specs.InnerMerging.{Comes, Merges}
use Rattle.lp_form.proofs.LoopSteps.{on_fault, answered_err, answered_ok, before_end, comes_rests, comes-left_some, comes-right_some, comes-both_some, turn_left, turn_right, turn_summed, turn_unsummed, merging-end}
use Rattle.lp_form.proofs.terms.merged.Goals as goal

pub loop-turn-preserved-in-Left : goal.loop-turn-preserved-in-Left
loop-turn-preserved-in-Left g c =
    let comes = subst (Comes (drop c.loop-turn.i c.args.keys.now) (drop c.loop-turn.j c.args.other_keys.now)) (ap Some c.in-Left.is) (comes_rests c.args.keys.now c.args.other_keys.now c.loop-turn.i c.loop-turn.j (Some c.in-Some.turn) c.in-Some.ensures) in
    let here = before_end c.args.keys.now c.loop-turn.i (comes-left_some (drop c.loop-turn.i c.args.keys.now) (drop c.loop-turn.j c.args.other_keys.now) comes) in
    record {
      within = omega arith;
      others_within = omega arith;
      so_far = rw (c.in_ok-push-in-Left.ensures.keys, c.in_ok-push-in-Left.ensures.numbers) (turn_left g.F.ExactField.value g.F.ExactField.limit c.args.keys.now c.args.numbers.now c.args.other_keys.now c.args.other_numbers.now c.loop-turn.i c.loop-turn.j c.loop-turn.made.keys.items c.loop-turn.made.numbers.items c.index-keys-i.result c.index-numbers-i.result c.loop-turn.invariant.so_far c.requires.paired comes c.index-keys-i.is c.index-numbers-i.is);
    }

pub loop-turn-preserved-in-Right : goal.loop-turn-preserved-in-Right
loop-turn-preserved-in-Right g c =
    let comes = subst (Comes (drop c.loop-turn.i c.args.keys.now) (drop c.loop-turn.j c.args.other_keys.now)) (ap Some c.in-Right.is) (comes_rests c.args.keys.now c.args.other_keys.now c.loop-turn.i c.loop-turn.j (Some c.in-Some.turn) c.in-Some.ensures) in
    let here = before_end c.args.other_keys.now c.loop-turn.j (comes-right_some (drop c.loop-turn.i c.args.keys.now) (drop c.loop-turn.j c.args.other_keys.now) comes) in
    record {
      within = omega arith;
      others_within = omega arith;
      so_far = rw (c.in_ok-push-in-Right.ensures.keys, c.in_ok-push-in-Right.ensures.numbers) (turn_right g.F.ExactField.value g.F.ExactField.limit c.args.keys.now c.args.numbers.now c.args.other_keys.now c.args.other_numbers.now c.loop-turn.i c.loop-turn.j c.loop-turn.made.keys.items c.loop-turn.made.numbers.items c.index-other_keys-j.result c.index-other_numbers-j.result c.loop-turn.invariant.so_far c.requires.others_paired comes c.index-other_keys-j.is c.index-other_numbers-j.is);
    }

pub returns-in_err-sum-in-Both : goal.returns-in_err-sum-in-Both
returns-in_err-sum-in-Both g c =
    let comes = subst (Comes (drop c.loop-turn.i c.args.keys.now) (drop c.loop-turn.j c.args.other_keys.now)) (ap Some c.in-Both.is) (comes_rests c.args.keys.now c.args.other_keys.now c.loop-turn.i c.loop-turn.j (Some c.in-Some.turn) c.in-Some.ensures) in
    let p = err_from_is_err_and c.from_residual-in_err-sum-in-Both.result c.from_residual-in_err-sum-in-Both.ensures.1 in
    let x = g.F.ExactField.value c.index-numbers-i-in-Both.result in
    let y = g.F.ExactField.value c.index-other_numbers-j-in-Both.result in
    rw (p.1, p.2) (on_fault (Merges g.F.ExactField.value g.F.ExactField.limit c.args.keys.now c.args.numbers.now c.args.other_keys.now c.args.other_numbers.now) c.index-keys-i-in-Both.result c.in_err-sum-in-Both.field-0.0 c.in_err-sum-in-Both.ensures.err.1
    (turn_unsummed g.F.ExactField.value g.F.ExactField.limit c.args.keys.now c.args.numbers.now c.args.other_keys.now c.args.other_numbers.now c.loop-turn.i c.loop-turn.j c.loop-turn.made.keys.items c.loop-turn.made.numbers.items c.index-keys-i-in-Both.result c.index-numbers-i-in-Both.result c.index-other_numbers-j-in-Both.result c.loop-turn.invariant.so_far c.requires.paired c.requires.others_paired comes c.index-keys-i-in-Both.is c.index-numbers-i-in-Both.is c.index-other_numbers-j-in-Both.is
    (answered_err g.F.ExactField.value c.add.result (sum_fits g.F.ExactField.limit x y) (x +ℚ y) c.add.ensures c.in_err-sum-in-Both.ensures.err.0)))

pub loop-turn-preserved : goal.loop-turn-preserved
loop-turn-preserved g c =
    let comes = subst (Comes (drop c.loop-turn.i c.args.keys.now) (drop c.loop-turn.j c.args.other_keys.now)) (ap Some c.in-Both.is) (comes_rests c.args.keys.now c.args.other_keys.now c.loop-turn.i c.loop-turn.j (Some c.in-Some.turn) c.in-Some.ensures) in
    let some = comes-both_some (drop c.loop-turn.i c.args.keys.now) (drop c.loop-turn.j c.args.other_keys.now) comes in
    let here = before_end c.args.keys.now c.loop-turn.i some.0 in
    let there = before_end c.args.other_keys.now c.loop-turn.j some.1 in
    let x = g.F.ExactField.value c.index-numbers-i-in-Both.result in
    let y = g.F.ExactField.value c.index-other_numbers-j-in-Both.result in
    let answered = answered_ok g.F.ExactField.value c.add.result (sum_fits g.F.ExactField.limit x y) (x +ℚ y) c.in_ok-sum-in-Both.sum c.add.ensures c.in_ok-sum-in-Both.ensures.ok in
    record {
      within = omega arith;
      others_within = omega arith;
      so_far = turn_summed g.F.ExactField.value g.F.ExactField.limit c.args.keys.now c.args.numbers.now c.args.other_keys.now c.args.other_numbers.now c.loop-turn.i c.loop-turn.j c.loop-turn.made c.push_unless_zero.new.self c.index-keys-i-in-Both.result c.index-numbers-i-in-Both.result c.index-other_numbers-j-in-Both.result c.in_ok-sum-in-Both.sum c.loop-turn.invariant.so_far c.requires.paired c.requires.others_paired comes c.index-keys-i-in-Both.is c.index-numbers-i-in-Both.is c.index-other_numbers-j-in-Both.is answered.0 answered.1 c.in_ok-push_unless_zero-in-Both.ensures;
    }

pub returns : goal.returns
returns g c =
    merging-end g.F.ExactField.value g.F.ExactField.limit c.args.keys.now c.args.numbers.now c.args.other_keys.now c.args.other_numbers.now c.loop-turn.i c.loop-turn.j c.loop-turn.made.keys.items c.loop-turn.made.numbers.items c.loop-turn.invariant.so_far c.requires.paired c.requires.others_paired (comes_rests c.args.keys.now c.args.other_keys.now c.loop-turn.i c.loop-turn.j None c.in_default.ensures)
