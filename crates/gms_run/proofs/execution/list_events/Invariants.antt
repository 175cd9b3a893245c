use Rattle.std.proofs.Common.{◌≡◌, ◌++◌, map, take}
use Rattle.gq_frac.specs.Frac.{frac_value, frac_limit}
use Rattle.lp_core.specs.Numbers.{answer_numbers}
use Rattle.gms_event.specs.EventView.{events_in}
use Rattle.gms_list.specs.ListingText.{events_text}
use Rattle.gms_run.proofs.execution.list_events.Given as goal

-- the events so far are listed
abbrev pub invariant-loop-event : goal.invariant-loop-event
invariant-loop-event l =
    l.listing ≡ l.fn.listing ++ events_text l.program.names l.program.labels frac_limit (map (answer_numbers frac_value) l.answers) (events_in frac_value (take l.event-index l.events))
