-- Valid events, over calls in sequence.
use Rattle.std.proofs.Common.{◌≡◌, ℕ, ◌≤◌, List, [], ◌∷◌, ◌++◌, sym, subst, ◌∙◌, append-nil}
use Rattle.std.specs.List.{All}
use Rattle.std.proofs.lemmas.List.Elements.{All-nil, All-cons, All-append, All-weaker}
use Rattle.gq_number.specs.Number.{Number}
use Rattle.gms_event.specs.declared.event.Event.{Event}
use Rattle.gms_event.specs.declared.event.Event.TheVariants as event
use Rattle.gms_event.specs.declared.event.Shown.{Shown}
use Rattle.lp_core.specs.declared.answer.Answer.{Answer}
use Rattle.lp_slot.specs.declared.solver.SolverRule.{SolverRule}
use Rattle.gms_exec.specs.ValidEvents.{IsValidEvent, ShowsValidEvents}
use Rattle.gms_exec.proofs.Joining.{get-prefix, following-both}

module _ {F : Type 0} (value : F → Number) (limit : ℕ) (rules : List SolverRule) where
  -- where nothing was shown
  pub valid-nothing : (answers : List (Answer F)) (old new : List (Event F)) → new ≡ old → ShowsValidEvents value limit rules answers old new
  valid-nothing answers old new e = record { shown = []; events = e ∙ sym (append-nil old); valid = All-nil (IsValidEvent value limit rules answers) }

  -- a display, and an abort
  pub valid-display : (answers : List (Answer F)) (old new : List (Event F)) (line : ℕ) (items : List (Shown F)) → new ≡ old ++ event.Display line items ∷ [] → All (λ (item : Shown F). item.decimals ≤ 8) items → ShowsValidEvents value limit rules answers old new
  valid-display answers old new line items e few =
      record { shown = event.Display line items ∷ []; events = e; valid = All-cons (IsValidEvent value limit rules answers) (event.Display line items) [] few (All-nil (IsValidEvent value limit rules answers)) }

  pub valid-abort : (answers : List (Answer F)) (old new : List (Event F)) (line : ℕ) (items : List (Shown F)) → new ≡ old ++ event.Abort line items ∷ [] → All (λ (item : Shown F). item.decimals ≤ 8) items → ShowsValidEvents value limit rules answers old new
  valid-abort answers old new line items e few =
      record { shown = event.Abort line items ∷ []; events = e; valid = All-cons (IsValidEvent value limit rules answers) (event.Abort line items) [] few (All-nil (IsValidEvent value limit rules answers)) }

  -- an event that is valid with some answers is valid with more
  still-valid : (answers fresh : List (Answer F)) (e : Event F) → IsValidEvent value limit rules answers e → IsValidEvent value limit rules (answers ++ fresh) e
  still-valid answers fresh (event.Display line items) is = is
  still-valid answers fresh (event.Abort line items) is = is
  still-valid answers fresh (event.Fault stop) is = tt
  still-valid answers fresh (event.Solve line model equations lp answer solver settings level) is =
      record { formed = is.formed; given = is.given; occurs = get-prefix answers fresh answer is.given is.occurs; rule = is.rule; chosen = is.chosen; is_answer = is.is_answer }

  -- a call after another, with further answers
  pub valid-both : (first_answers last_answers fresh : List (Answer F)) (old mid new : List (Event F)) → last_answers ≡ first_answers ++ fresh → ShowsValidEvents value limit rules first_answers old mid → ShowsValidEvents value limit rules last_answers mid new → ShowsValidEvents value limit rules last_answers old new
  valid-both first_answers last_answers fresh old mid new are first second =
      record {
        shown = first.shown ++ second.shown;
        events = following-both old mid new first.shown second.shown first.events second.events;
        valid =
            All-append (IsValidEvent value limit rules last_answers) first.shown second.shown
            (subst (λ answers. All (IsValidEvent value limit rules answers) first.shown) (sym are) (All-weaker (IsValidEvent value limit rules first_answers) (IsValidEvent value limit rules (first_answers ++ fresh)) (still-valid first_answers fresh) first.shown first.valid))
            second.valid;
      }
