use Rattle.std.proofs.Common.{arith, string_bytes}
use Rattle.gms_command.proofs.Says.{answered_at, says_all, says_next}
use Rattle.gms_command.proofs.solves.ranges_text.Goals as goal

pub loop-place-init : goal.loop-place-init
loop-place-init g c = c.new-text.ensures.bytes

pub push_answer-requires : goal.push_answer-requires
push_answer-requires g c =
    let many = c.requires.many in
    answered_at g.F.ExactField.value g.F.ExactField.limit c.args.solved.now c.args.answers.now c.loop-place.place c.index-solved-place.result c.index-answers-place.result c.requires (omega (arith, many)) (omega arith) c.index-solved-place.is c.index-answers-place.is

pub loop-place-preserved : goal.loop-place-preserved
loop-place-preserved g c =
    let many = c.requires.many in
    says_next c.args.names.now c.args.labels.now g.F.ExactField.limit g.F.ExactField.value c.args.solved.now c.args.answers.now c.loop-place.place c.index-solved-place.result c.index-answers-place.result (string_bytes c.loop-place.text) (string_bytes c.push_answer.new.text)
    (omega (arith, many)) (omega arith) c.index-solved-place.is c.index-answers-place.is c.loop-place.invariant c.in_ok-push_answer.ensures

pub returns : goal.returns
returns g c =
    says_all c.args.names.now c.args.labels.now g.F.ExactField.limit g.F.ExactField.value c.args.solved.now c.args.answers.now c.loop-place.place (string_bytes c.loop-place.text) c.requires.many (omega arith) c.loop-place.invariant
