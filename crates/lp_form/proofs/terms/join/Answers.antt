use Rattle.std.proofs.Common.{subst}
use Rattle.std.specs.List.{All}
use Rattle.lp_form.specs.InnerMerging.{IsBeforeFirst}
use Rattle.lp_form.proofs.Results.{push_absent}
use Rattle.lp_form.proofs.terms.join.Goals as goal

pub returns-then-is_after-clause-joined : goal.returns-then-is_after-clause-joined
returns-then-is_after-clause-joined g c =
    let following = subst (All (λ k. IsBeforeFirst k c.args.more_keys.now)) c.as_slice.ensures.value (c.is_after.ensures c.if-is_after.true) in
    rw (c.in_ok-extend.ensures.keys, c.in_ok-extend.ensures.numbers) (push_absent g.F.ExactField.value g.F.ExactField.limit c.args.keys.now.items c.args.numbers.now.items c.args.more_keys.now c.args.more_numbers.now c.requires.paired c.requires.others_paired following)
