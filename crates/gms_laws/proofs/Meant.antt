-- What the answers of a whole run say is true, from any state in which it may begin.
use Rattle.std.proofs.Common.{◌≡◌, ℕ, zero, suc, List, [], ◌∷◌, ◌++◌, length, map, take, drop, None, Ok, refl, sym, ap, ◌∙◌, subst, arith}
use Rattle.std.specs.List.{All}
use Rattle.std.proofs.lemmas.List.Elements.{All-nil, All-cons, All-head, All-tail}
use Rattle.gq_number.specs.Number.{Number}
use Rattle.gms_ast.specs.declared.program.Stmt.{Stmt}
use Rattle.gms_store.specs.State.{State}
use Rattle.gms_check.specs.Loaded.{IsAccepted}
use Rattle.gms_event.specs.Events.{Event, Solved, displays, solves, aborts, stops}
use Rattle.gms_rows.specs.ProgramLp.{program_lp}
use Rattle.gms_exec.specs.Answering.{IsSolved, IsAnswered, AreAnswered}
use Rattle.gms_exec.specs.Run.{Course, World, in_sequence, of_statement, run_from}
use Rattle.gms_run_laws.proofs.Lasting.{IsLasting, start-lasts}
use Rattle.gms_run_laws.proofs.LinearDefinitions.{model-linear}
use Rattle.gms_run_laws.proofs.Reaching.{last-reaches}
use Rattle.lp_core.specs.Numbers.{answer_numbers}
use Rattle.lp_core.specs.declared.answer.Answer.{Answer}
use Rattle.lp_core.specs.declared.answer.Rule.TheVariants.{Legal}
use Rattle.lp_slot.specs.declared.solver.SolverRule.{SolverRule}
use Rattle.lp_slot.proofs.Under.{legal_under}
use Rattle.gms_laws.specs.Moments.{IsSolve, IsAnsweredRightly, AnswerIsSo, AnswersAreSo, run_before, run_with_answers}
use Rattle.gms_laws.proofs.Answered.{answer-proves}
use Rattle.gms_laws.proofs.Definitions.{model-short}
use Rattle.gms_laws.proofs.Meanings.{end-is-so}
use Rattle.gms_laws.proofs.Moments.{EachOf, with_left, Waits, WaitsAt, Does, last-do}

-- ---- answers before one

take-before : {A : Type 0} (before rest : List A) → take (length before) (before ++ rest) ≡ before
take-before [] [] = refl
take-before [] (x ∷ rest) = refl
take-before (x ∷ before) rest = ap (λ xs. x ∷ xs) (take-before before rest)

pub take-drop : {A : Type 0} (n : ℕ) (xs : List A) → xs ≡ take n xs ++ drop n xs
take-drop zero [] = refl
take-drop zero (x ∷ xs) = refl
take-drop (suc n) [] = refl
take-drop (suc n) (x ∷ xs) = ap (λ ys. x ∷ ys) (take-drop n xs)

module _ {F : Type 0} (v : F → Number) (limit : ℕ) (world : World F) (accepted : IsAccepted v world.program)
    (first : State) (begins : IsLasting v world.program first) (before statements : List (Stmt F)) (parts : world.program.statements.items ≡ before ++ statements)
    (rules : List SolverRule) (answers : List (Answer F)) where
  abbrev numbers : List (Answer Number)
  numbers = map (answer_numbers v) answers

  abbrev start : Course
  start = record { state = first; events = []; left = numbers; taken = 0; halted = None }

  abbrev does : Course → Course
  does = in_sequence (map (of_statement v limit world) statements) []

  -- a solve that is shown is one of the program
  is-solve : (solved : Solved) → Waits v limit world does start solved → IsSolve v limit world first statements answers solved
  is-solve solved waits =
      let place : solved.answer ≡ length waits.before = omega (arith, waits.place) in
      let prefix : take solved.answer numbers ≡ waits.before = ap (λ n. take n numbers) place ∙ ap (take (length waits.before)) waits.parts ∙ take-before waits.before waits.rest in
      let same : run_before v limit world first statements answers solved.answer ≡ does (with_left start waits.before) = ap (λ (ls : List (Answer Number)). run_from v limit world first ls statements) prefix in
      let asks = waits.asks in
      record {
        statement = asks.statement;
        of_program = asks.of_program;
        model = asks.model;
        method = asks.method;
        objective = asks.objective;
        maximize = asks.maximize;
        act = asks.act;
        line = asks.line;
        of_model = asks.of_model;
        waits = ap (λ (d : Course). d.halted) same ∙ waits.waits;
        program = subst (λ (d : Course). program_lp v limit d.state world.program.statements.items asks.model.name asks.objective.name asks.maximize asks.statement.at ≡ Ok solved.lp) (sym same) asks.program;
      }

  -- and what its answer says is true
  answered-rightly : (solved : Solved) → Waits v limit world does start solved → IsSolved v limit rules answers solved → IsAnsweredRightly v limit world first statements answers solved
  answered-rightly solved waits answered =
      let solve = is-solve solved waits in
      let state = (run_before v limit world first statements answers solved.answer).state in
      let lasts = start-lasts v limit world first state begins (last-reaches v limit world first before statements parts (take solved.answer numbers)) in
      record {
        solve = solve;
        answer = answered.answer;
        occurs = answered.occurs;
        is_so = end-is-so v limit world.program.statements.items state solve.model.name solve.objective.name solve.maximize solve.statement.at solved.lp (model-short v world.program accepted solve.model.name) (model-linear v limit world accepted state lasts solve.model.name) solve.program answered.lp answered.shows answered.answer.end
            (answer-proves v answered.lp limit solved.settings.iterlim Legal answered.answer (legal_under v limit answered.lp solved.settings.iterlim answered.rule answered.answer answered.is_answer));
      }

  abbrev IsSoAt : Event → Type 0
  IsSoAt = AnswerIsSo v limit world first statements answers

  event-is-so : (event : Event) → WaitsAt v limit world does start event → IsAnswered v limit rules answers event → IsSoAt event
  event-is-so (solves solved) waits answered = answered-rightly solved waits answered
  event-is-so (displays line items) waits answered = tt
  event-is-so (aborts line items) waits answered = tt
  event-is-so (stops fault) waits answered = tt

  events-are-so : (events : List Event) → EachOf (WaitsAt v limit world does start) events → AreAnswered v limit rules answers events → All IsSoAt events
  events-are-so [] waits answered = All-nil IsSoAt
  events-are-so (event ∷ events) waits answered =
      All-cons IsSoAt event events (event-is-so event waits.0 (All-head (IsAnswered v limit rules answers) event events answered)) (events-are-so events waits.1 (All-tail (IsAnswered v limit rules answers) event events answered))

  -- What each answer of the run says is true.
  pub answers-are-so : AreAnswered v limit rules answers (run_with_answers v limit world first statements answers).events → AnswersAreSo v limit world first statements answers
  answers-are-so answered =
      let done : Does v limit world does start = last-do v limit world before statements parts [] start in
      subst (All IsSoAt) (sym done.events) (events-are-so done.shown done.asked (subst (AreAnswered v limit rules answers) done.events answered))
