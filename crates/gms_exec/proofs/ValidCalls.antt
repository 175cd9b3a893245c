-- Valid events are answered.
use Rattle.std.proofs.Common.{ℕ, List, [], ◌∷◌, refl}
use Rattle.std.specs.List.{All}
use Rattle.std.proofs.lemmas.List.Elements.{All-nil, All-cons, All-head, All-tail}
use Rattle.gq_number.specs.Number.{Number}
use Rattle.gms_event.specs.declared.event.Event.{Event}
use Rattle.gms_event.specs.declared.event.Event.TheVariants as event
use Rattle.gms_event.specs.EventView.{event_in, events_in}
use Rattle.lp_core.specs.declared.answer.Answer.{Answer}
use Rattle.lp_slot.specs.declared.solver.SolverRule.{SolverRule}
use Rattle.gms_exec.specs.Answering.{AreAnswered, IsAnswered}
use Rattle.gms_exec.specs.ValidEvents.{IsValidEvent}

module _ {F : Type 0} (value : F → Number) (limit : ℕ) (rules : List SolverRule) (answers : List (Answer F)) where
  -- a valid event is answered
  one_answered : (e : Event F) → IsValidEvent value limit rules answers e → IsAnswered value limit rules answers (event_in value e)
  one_answered (event.Display line items) is = tt
  one_answered (event.Abort line items) is = tt
  one_answered (event.Fault stop) is = tt
  one_answered (event.Solve line model equations lp answer solver settings level) is =
      record { lp = lp; shows = refl; answer = is.given; occurs = is.occurs; rule = is.rule; chosen = is.chosen; is_answer = is.is_answer }

  -- Each valid event is answered.
  pub answered_by_valid : (shown : List (Event F)) → All (IsValidEvent value limit rules answers) shown → AreAnswered value limit rules answers (events_in value shown)
  answered_by_valid [] is = All-nil (IsAnswered value limit rules answers)
  answered_by_valid (e ∷ shown) is =
      All-cons (IsAnswered value limit rules answers) (event_in value e) (events_in value shown) (one_answered e (All-head (IsValidEvent value limit rules answers) e shown is))
      (answered_by_valid shown (All-tail (IsValidEvent value limit rules answers) e shown is))
