-- Each solve of a run is answered, and its search ends.
use Rattle.std.proofs.Common.{◌≡◌, ℕ, inl, inr, List, [], ◌∷◌, ◌++◌, Option, Some, sym, subst}
use Rattle.std.specs.Prelude.{slice_get, IfSome}
use Rattle.std.specs.List.{All}
use Rattle.std.proofs.lemmas.List.Elements.{All-nil, All-cons, All-head, All-tail, All-append, All-weaker}
use Rattle.gq_number.specs.Number.{Number}
use Rattle.gq_frac.specs.declared.frac.Frac.{Frac}
use Rattle.gq_frac.specs.Frac.{frac_value, frac_limit}
use Rattle.gms_store.specs.declared.settings.Settings.{Settings}
use Rattle.gms_event.specs.declared.event.Event.{Event as OwnEvent}
use Rattle.gms_event.specs.declared.event.Event.TheVariants as own
use Rattle.gms_event.specs.Events.{Event, displays, solves, aborts, stops}
use Rattle.gms_event.specs.EventView.{event_in, events_in}
use Rattle.lp_core.specs.declared.answer.Answer.{Answer}
use Rattle.lp_slot.specs.declared.solver.SolverRule.{SolverRule}
use Rattle.lp_slot.specs.declared.solver.SolverRule.TheVariants.{Bland, LargestCoefficient, Turning, Legal}
use Rattle.lp_slot.specs.Under.{IsNextImproving, IsAnswerUnder}
use Rattle.lp_core.specs.declared.program.Lp.{Lp}
use Rattle.lp_core.specs.Numbers.{lp_numbers}
use Rattle.lp_core.specs.LargestCoefficient.{IsNext}
use Rattle.lp_core.specs.WellFormed.{IsWellFormed}
use Rattle.lp_nocycle.specs.PivotCount.{variable_count, IsInterrupted}
use Rattle.lp_nocycle.specs.Turns.{TurnsToBland}
use Rattle.lp_nocycle.proofs.Answering.{comes_to_end}
use Rattle.lp_nocycle.proofs.AnsweringTurn.{comes_to_end_by_turn, largest_turns}
use Rattle.lp_nocycle.proofs.SameForm.{same_count}
use Rattle.gms_exec.specs.Answering.{AreAnswered, IsAnswered}
use Rattle.gms_exec.specs.ValidEvents.{IsValidEvent, IsValidSolve}
use Rattle.gms_exec.proofs.Quiet.{IsNoSolve}
use Rattle.gms_exec.proofs.ValidCalls.{answered_by_valid}
use Rattle.gms_run.specs.Searches.{IsEnough, SearchEnds, SearchesEnd}
use Rattle.gms_run.proofs.Completeness.{one_value}

-- a choice that turns to Bland's rule
improving_turns : TurnsToBland IsNextImproving
improving_turns first pivots d q (inl improves) turned = absurd (improves.0 turned)
improving_turns first pivots d q (inr bland) turned = bland.1

-- with enough pivots no answer under a rule is interrupted
ends_under : (lp : Lp Frac) (iterlim : ℕ) → IsWellFormed frac_value lp → (rule : SolverRule) (answer : Answer Frac) → IsAnswerUnder frac_value frac_limit lp iterlim rule answer → IsEnough rule (variable_count frac_value lp) iterlim → ¬ (IsInterrupted answer.end)
ends_under lp iterlim formed Bland answer is enough = comes_to_end frac_value frac_limit lp iterlim answer formed is enough
ends_under lp iterlim formed LargestCoefficient answer is enough = comes_to_end_by_turn frac_value frac_limit lp iterlim IsNext largest_turns answer formed is enough
ends_under lp iterlim formed Turning answer is enough = comes_to_end_by_turn frac_value frac_limit lp iterlim IsNextImproving improving_turns answer formed is enough
ends_under lp iterlim formed Legal answer is enough = absurd enough

module _ (rules : List SolverRule) (answers : List (Answer Frac)) where
  -- each solve among the events is answered, and its search ends
  abbrev pub AreSettled : List Event → Type 0
  AreSettled events = AreAnswered frac_value frac_limit rules answers events × SearchesEnd rules answers events

  -- ---- what is settled

  solve_ends : (lp : Lp Frac) (place : ℕ) (settings : Settings) → IsValidSolve frac_value frac_limit rules answers lp place settings →
      (rule : SolverRule) → slice_get rules settings.solver ≡ Some rule → IsEnough rule (variable_count (λ (x : Number). x) (lp_numbers frac_value lp)) settings.iterlim →
      IfSome (slice_get answers place) (λ answer. ¬ (IsInterrupted answer.end))
  solve_ends lp place settings is rule chosen enough =
      let under : IsAnswerUnder frac_value frac_limit lp settings.iterlim rule is.given = subst (λ r. IsAnswerUnder frac_value frac_limit lp settings.iterlim r is.given) (one_value is.chosen chosen) is.is_answer in
      let pivots : IsEnough rule (variable_count frac_value lp) settings.iterlim = subst (λ n. IsEnough rule n settings.iterlim) (same_count frac_value lp) enough in
      subst (λ (o : Option (Answer Frac)). IfSome o (λ answer. ¬ (IsInterrupted answer.end))) (sym is.occurs)
      (ends_under lp settings.iterlim is.formed rule is.given under pivots)

  one_ends : (e : OwnEvent Frac) → IsValidEvent frac_value frac_limit rules answers e → SearchEnds rules answers (event_in frac_value e)
  one_ends (own.Display line items) is = tt
  one_ends (own.Abort line items) is = tt
  one_ends (own.Fault stop) is = tt
  one_ends (own.Solve line model equations lp answer solver settings level) is = solve_ends lp answer settings is

  all_end : (shown : List (OwnEvent Frac)) → All (IsValidEvent frac_value frac_limit rules answers) shown → SearchesEnd rules answers (events_in frac_value shown)
  all_end [] is = All-nil (SearchEnds rules answers)
  all_end (e ∷ shown) is =
      All-cons (SearchEnds rules answers) (event_in frac_value e) (events_in frac_value shown) (one_ends e (All-head (IsValidEvent frac_value frac_limit rules answers) e shown is))
      (all_end shown (All-tail (IsValidEvent frac_value frac_limit rules answers) e shown is))

  -- Valid events are settled.
  pub settled_by_valid : (shown : List (OwnEvent Frac)) → All (IsValidEvent frac_value frac_limit rules answers) shown → AreSettled (events_in frac_value shown)
  settled_by_valid shown is = (answered_by_valid frac_value frac_limit rules answers shown is, all_end shown is)

  -- ---- what is no solve

  unsolved-answered : (e : Event) → IsNoSolve e → IsAnswered frac_value frac_limit rules answers e
  unsolved-answered (displays line items) is = tt
  unsolved-answered (aborts line items) is = tt
  unsolved-answered (stops fault) is = tt
  unsolved-answered (solves solved) is = absurd is

  unsolved-ends : (e : Event) → IsNoSolve e → SearchEnds rules answers e
  unsolved-ends (displays line items) is = tt
  unsolved-ends (aborts line items) is = tt
  unsolved-ends (stops fault) is = tt
  unsolved-ends (solves solved) is = absurd is

  -- Further events without a solve change nothing.
  pub settled_more : (events more : List Event) → AreSettled events → All IsNoSolve more → AreSettled (events ++ more)
  settled_more events more settled unsolved = (
    All-append (IsAnswered frac_value frac_limit rules answers) events more settled.0 (All-weaker IsNoSolve (IsAnswered frac_value frac_limit rules answers) unsolved-answered more unsolved),
    All-append (SearchEnds rules answers) events more settled.1 (All-weaker IsNoSolve (SearchEnds rules answers) unsolved-ends more unsolved),
  )
