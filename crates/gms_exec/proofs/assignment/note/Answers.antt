use Rattle.std.proofs.Common.{◌≡◌}
use Rattle.std.proofs.lemmas.Result.{on_ok_weaker}
use Rattle.gms_exec.specs.InnerContracts.{after_others}
use Rattle.gms_exec.proofs.LeftSides.{noted-controlled, noted-free}
use Rattle.gms_exec.proofs.assignment.note.Goals as goal

pub returns-in-Some : goal.returns-in-Some
returns-in-Some c = noted-controlled c.args.b.now c.args.sets.now.items c.args.set _ c.in-Some.ensures

pub returns-in-None : goal.returns-in-None
returns-in-None c =
    on_ok_weaker c.push_absent.result (λ (put : c.push_absent.new.sets.items ≡ after_others c.args.sets.now.items c.args.set). noted-free c.args.b.now c.args.sets.now.items c.push_absent.new.sets.items c.args.set c.in-None.ensures put) c.push_absent.ensures
