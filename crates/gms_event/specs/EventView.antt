-- The view of the events of a run: the numbers that their values mean.
use Rattle.std.specs.Prelude.{List, map}
use Rattle.gq_number.specs.Number.{Number}
use Rattle.gq_extended.specs.Meaning.{extended}
use Rattle.lp_core.specs.Numbers.{lp_numbers}
use Rattle.gms_eval.specs.Gives.{fault_of}
use Rattle.gms_event.specs.declared.event.Event.{Event as OwnEvent}
use Rattle.gms_event.specs.declared.event.Event.TheVariants as own
use Rattle.gms_event.specs.declared.event.Shown.{Shown as OwnShown}
use Rattle.gms_event.specs.Events.{Event, Shown, displays, solves, aborts, stops}

module _ {F : Type 0} (value : F → Number) where
  -- a shown item, where each value of its entries, which is over the number field `F`, is replaced
  -- by the extended number that it means: a number, plus or minus infinity, or not available
  abbrev pub shown_in : OwnShown F → Shown
  shown_in item =
      record {
        text = item.text;
        name = item.name;
        kind = item.kind;
        suffix = item.suffix;
        indexed = item.indexed;
        entries = map (λ entry. (entry.0, extended value entry.1)) item.entries;
        decimals = item.decimals;
      }

  -- an event, where each value of the number field `F` is replaced by the number that it means
  abbrev pub event_in : OwnEvent F → Event
  event_in (own.Display line items) = displays line (map shown_in items)
  event_in (own.Solve line model equations lp answer solver settings objective_level) =
      solves (record {
        line = line;
        model = model;
        equations = equations;
        lp = lp_numbers value lp;
        answer = answer;
        solver = solver;
        settings = settings;
        objective_level = value objective_level;
      })
  event_in (own.Abort line items) = aborts line (map shown_in items)
  event_in (own.Fault stop) = stops (fault_of value stop)

  -- events in order, where each value of the number field `F` is replaced by the number that it
  -- means
  abbrev pub events_in : List (OwnEvent F) → List Event
  events_in events = map event_in events
