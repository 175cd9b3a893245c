use Rattle.gms_exec.proofs.Assigning.{following-there, following-new}
use Rattle.gms_exec.proofs.assignment.push_absent.Goals as goal

pub returns-then-is_one_of : goal.returns-then-is_one_of
returns-then-is_one_of c = following-there c.args.sets.now.items c.as_slice.result.now c.args.set c.is_one_of.result c.as_slice.ensures.value c.is_one_of.ensures c.if-is_one_of.true

pub returns : goal.returns
returns c = following-new c.args.sets.now.items c.as_slice.result.now c.push.new.self.items c.args.set c.is_one_of.result c.as_slice.ensures.value c.is_one_of.ensures c.if-is_one_of.false c.in_ok-push.ensures.items
