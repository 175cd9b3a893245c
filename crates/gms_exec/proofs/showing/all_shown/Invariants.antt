use Rattle.std.proofs.Common.{◌≡◌, drop, map}
use Rattle.gms_event.specs.EventView.{shown_in}
use Rattle.gms_eval.proofs.Answering.{going_on}
use Rattle.gms_exec.specs.Showing.{shown_of, all_shown}
use Rattle.gms_exec.proofs.showing.all_shown.Given as goal

abbrev pub invariant-loop-item : goal.invariant-loop-item
invariant-loop-item g l =
    all_shown l.labels l.store l.b l.items ≡ going_on (shown_of l.labels l.store l.b) (map (shown_in g.F.ExactField.value) l.all.items) (drop l.item-index l.items)
