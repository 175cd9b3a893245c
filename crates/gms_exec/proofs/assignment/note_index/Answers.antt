use Rattle.std.proofs.Common.{◌≡◌, Some, ap, ◌∙◌}
use Rattle.std.proofs.lemmas.Result.{on_ok_weaker}
use Rattle.gms_exec.specs.InnerContracts.{noted}
use Rattle.gms_exec.proofs.assignment.note_index.Goals as goal

pub returns-in-Some : goal.returns-in-Some
returns-in-Some g c =
    on_ok_weaker c.note.result (λ (put : c.note.new.sets.items ≡ noted c.args.b.now c.args.sets.now.items (Some c.in-Some.set)). put ∙ ap (noted c.args.b.now c.args.sets.now.items) c.in-Some.ensures) c.note.ensures

pub returns-in-None : goal.returns-in-None
returns-in-None g c = ap (noted c.args.b.now c.args.sets.now.items) c.in-None.ensures
