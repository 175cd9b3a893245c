-- A statement that was executed is listed.
use Rattle.std.proofs.Common.{Bool, Box, ◌≡◌, ℕ, true, false, List, [], ◌∷◌, ◌++◌, map, Some, None, Result, Ok, Err, refl, sym, ap, ◌∙◌, subst, append_assoc, append-nil}
use Rattle.std.specs.List.{All}
use Rattle.std.specs.declared.alloc.Global.{Global}
use Rattle.std.proofs.lemmas.Grind.{flat_map-append}
use Rattle.std.proofs.lemmas.List.Elements.{All-weaker}
use Rattle.gq_number.specs.Number.{Number}
use Rattle.gq_frac.specs.declared.frac.Frac.{Frac}
use Rattle.gq_frac.specs.Frac.{frac_value, frac_limit}
use Rattle.gms_ast.specs.declared.program.Program.{Program}
use Rattle.gms_eval.specs.declared.stop.ExecStopOrMemory.{ExecStopOrMemory}
use Rattle.gms_eval.specs.declared.stop.ExecStopOrMemory.TheVariants.{Fault as Stop}
use Rattle.gms_eval.specs.declared.stop.ExecStop.{ExecStop}
use Rattle.gms_eval.specs.Gives.{fault_of}
use Rattle.gms_event.specs.declared.event.Event.{Event as OwnEvent}
use Rattle.gms_event.specs.Events.{Event, stops}
use Rattle.gms_event.specs.EventView.{events_in}
use Rattle.lp_core.specs.declared.answer.Answer.{Answer}
use Rattle.lp_slot.specs.declared.solver.SolverRule.{SolverRule}
use Rattle.lp_core.specs.Numbers.{answer_numbers}
use Rattle.gms_exec.specs.Run.{Course}
use Rattle.gms_exec.specs.ValidEvents.{IsValidEvent, ShowsValidEvents}
use Rattle.gms_exec.specs.Stepping.{Runs, RunView, course_from_view}
use Rattle.gms_exec.proofs.EarlierEvents.{following}
use Rattle.gms_list.specs.Conditions.{IsListable}
use Rattle.gms_list.specs.ListingText.{event_text, events_text}
use Rattle.gms_run.specs.Solving.{HavePathsExtended}
use Rattle.gms_run.proofs.Proved.{listable}
use Rattle.gms_run.specs.InnerSteps.{Between, IsListed, course_at, kept_if, programs_in}

-- all events are valid, where none were shown before
pub all_occur : (rules : List SolverRule) (answers : List (Answer Frac)) (before events : List (OwnEvent Frac)) → before ≡ [] → ShowsValidEvents frac_value frac_limit rules answers before events → All (IsValidEvent frac_value frac_limit rules answers) events
all_occur rules answers before events none shows =
    subst (All (IsValidEvent frac_value frac_limit rules answers)) (sym (shows.events ∙ ap (λ es. es ++ shows.shown) none)) shows.valid

-- valid events can be listed
pub all_listable : (rules : List SolverRule) (answers : List (Answer Frac)) (events : List (OwnEvent Frac)) → All (IsValidEvent frac_value frac_limit rules answers) events → All (IsListable frac_value answers) events
all_listable rules answers events are =
    All-weaker (IsValidEvent frac_value frac_limit rules answers) (IsListable frac_value answers) (listable frac_value frac_limit rules answers) events are

module _ (keep : Bool) (program : Program Frac) (rules : List SolverRule) (does : Course → Course) (old new : Between) (events : List (OwnEvent Frac)) (is_after : (beginning : List Event) (c : Course) → does (following beginning c) ≡ following beginning (does c)) where
  abbrev numbers : List (Answer Number)
  numbers = map (answer_numbers frac_value) new.answers

  abbrev seen_old : RunView Frac
  seen_old = record { state = old.state; events = []; answers = old.answers }

  abbrev seen_before : List (OwnEvent Frac) → RunView Frac
  seen_before before = record { state = old.state; events = before; answers = old.answers }

  abbrev seen_new : RunView Frac
  seen_new = record { state = new.state; events = events; answers = new.answers }

  -- after events that were shown before, the run does the same
  after_prefix : (beginning : List Event) (left : List (Answer Number)) → does (course_at old beginning left None) ≡ following beginning (does (course_from_view frac_value seen_old left))
  after_prefix beginning left = ap (λ es. does (course_at old es left None)) (sym (append-nil beginning)) ∙ is_after beginning (course_from_view frac_value seen_old left)

  -- After a statement without a fault the run continues.
  pub listed_on : {A : Type 0} (x : A) (none : List (OwnEvent Frac)) (before after : List ℕ) → none ≡ [] → Runs frac_value (let r : Result A (ExecStopOrMemory Frac) = Ok x in r) does (seen_before none) seen_new → All (IsValidEvent frac_value frac_limit rules new.answers) events → HavePathsExtended old.solvers new.solvers new.answers (events_in frac_value events) → new.programs ≡ old.programs ++ kept_if keep (programs_in events) →
      after ≡ before ++ events_text program.names program.labels frac_limit numbers (events_in frac_value events) → IsListed keep true does program rules old new before after
  listed_on {A} x none before after e given valid extended programs text =
      let runs : Runs frac_value (let r : Result A (ExecStopOrMemory Frac) = Ok x in r) does seen_old seen_new = subst (λ es. Runs frac_value (let r : Result A (ExecStopOrMemory Frac) = Ok x in r) does (seen_before es) seen_new) e given in
      record {
        shown = events;
        fault = None;
        end = refl;
        fresh = runs.fresh;
        answers = runs.answers;
        programs = programs;
        valid = valid;
        extended = extended;
        comes = λ beginning more. after_prefix beginning (map (answer_numbers frac_value) runs.fresh ++ more) ∙ ap (following beginning) (runs.comes more);
        text = text ∙ ap (λ es. before ++ events_text program.names program.labels frac_limit numbers es) (sym (append-nil (events_in frac_value events)));
      }

  -- A statement that a stop ended is listed with its fault.
  pub listed_stop : {A : Type 0} (stop : Box (ExecStop Frac) Global) (none : List (OwnEvent Frac)) (before middle after : List ℕ) → none ≡ [] → Runs frac_value (let r : Result A (ExecStopOrMemory Frac) = Err (Stop stop) in r) does (seen_before none) seen_new → All (IsValidEvent frac_value frac_limit rules new.answers) events → HavePathsExtended old.solvers new.solvers new.answers (events_in frac_value events) → new.programs ≡ old.programs ++ kept_if keep (programs_in events) →
      middle ≡ before ++ events_text program.names program.labels frac_limit numbers (events_in frac_value events) →
      after ≡ middle ++ event_text program.names program.labels frac_limit numbers (stops (fault_of frac_value stop)) → IsListed keep false does program rules old new before after
  listed_stop {A} stop none before middle after e given valid extended programs text more =
      let runs : Runs frac_value (let r : Result A (ExecStopOrMemory Frac) = Err (Stop stop) in r) does seen_old seen_new = subst (λ es. Runs frac_value (let r : Result A (ExecStopOrMemory Frac) = Err (Stop stop) in r) does (seen_before es) seen_new) e given in
      let fault = fault_of frac_value stop in
      let one : List Event → List ℕ = events_text program.names program.labels frac_limit numbers in
      let last : List ℕ = event_text program.names program.labels frac_limit numbers (stops fault) in
      record {
        shown = events;
        fault = Some fault;
        end = (fault, refl);
        fresh = runs.fresh;
        answers = runs.answers;
        programs = programs;
        valid = valid;
        extended = extended;
        comes = λ beginning left. after_prefix beginning (map (answer_numbers frac_value) runs.fresh ++ left) ∙ ap (following beginning) (runs.comes left);
        text = more ∙ ap (λ t. t ++ last) text ∙ append_assoc before (one (events_in frac_value events)) last
            ∙ ap (λ t. before ++ t) (ap (λ t. one (events_in frac_value events) ++ t) (sym (append-nil last)) ∙ sym (flat_map-append (event_text program.names program.labels frac_limit numbers) (events_in frac_value events) (stops fault ∷ [])));
      }
