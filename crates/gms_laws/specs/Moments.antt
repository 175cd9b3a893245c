-- The moment of a solve in a run, and what the answers of a run state (GAMS User's Guide, "Model
-- and Solve Statements", "GAMS Programs").
use Rattle.std.specs.Prelude.{◌≡◌, ℕ, Bool, List, map, take, slice_get, Some, Ok, All}
use Rattle.gq_number.specs.Number.{Number}
use Rattle.gms_ast.specs.declared.program.Act.TheVariants.{Solve}
use Rattle.gms_ast.specs.declared.program.Stmt.{Stmt}
use Rattle.gms_ast.specs.declared.word.Named.{Named}
use Rattle.gms_ast.specs.declared.word.Word.{Word}
use Rattle.gms_store.specs.State.{State}
use Rattle.gms_event.specs.Events.{Event, Solved, solves}
use Rattle.gms_rows.specs.ModelPoints.{column_elements}
use Rattle.gms_rows.specs.ProgramLp.{program_lp}
use Rattle.gms_exec.specs.Run.{Course, World, waiting, run_from}
use Rattle.gms_run_laws.specs.Reached.{IsStatementOf}
use Rattle.lp_core.specs.Numbers.{answer_numbers, end_numbers}
use Rattle.lp_core.specs.declared.answer.Answer.{Answer}
use Rattle.gms_laws.specs.Plans.{Question, IsSo}

module _ {F : Type 0} (number_of : F → Number) (limit : ℕ) (world : World F) (first : State) (statements : List (Stmt F)) (answers : List (Answer F)) where
  -- the course of the run of the statements from the state `first`, where `answers`, all of them
  -- and in order, are the solvers' answers for its solves: the run's state, its events and, if it
  -- has halted, why
  abbrev pub run_with_answers : Course
  run_with_answers = run_from number_of limit world first (map (answer_numbers number_of) answers) statements

  -- the course of the run of the statements from the state `first` with only the first `place`
  -- answers, those of the indices below `place`; a solve that needs a later answer halts it
  abbrev pub run_before : ℕ → Course
  run_before place = run_from number_of limit world first (take place (map (answer_numbers number_of) answers)) statements

  -- The event of a solve is that of an execution of a solve statement of the program. With only the
  -- answers before its own the run waits at it, so the state there is that of the solve; and the
  -- linear program is the one that the model means in that state.
  pub record IsSolve (solved : Solved) : Type 0 where
    pub statement : Stmt F
    pub of_program : IsStatementOf world.program statement
    pub model : Named
    pub method : Word
    pub objective : Named
    pub maximize : Bool
    pub act : statement.act ≡ Solve model method objective maximize
    pub line : solved.line ≡ statement.at.line
    pub of_model : solved.model ≡ model.name
    pub waits : (run_before solved.answer).halted ≡ Some waiting
    pub program : program_lp number_of limit (run_before solved.answer).state world.program.statements.items model.name objective.name maximize statement.at ≡ Ok solved.lp

  -- the question of a solve of the run: the program's statements, the state at the solve, its model
  -- and objective, and the elements of the columns of its linear program
  abbrev pub question_of : (solved : Solved) → IsSolve solved → Question F
  question_of solved solve =
      record {
        statements = world.program.statements.items;
        state = (run_before solved.answer).state;
        model = solve.model.name;
        objective = solve.objective.name;
        maximize = solve.maximize;
        listed = column_elements solved.lp;
      }

  -- The event of a solve is one of a solve statement of the program (`IsSolve`), and what the end
  -- of its answer states of the solve's question, such as that its levels are optimal, is true
  -- (`IsSo`).
  pub record IsAnsweredRightly (solved : Solved) : Type 0 where
    pub solve : IsSolve solved
    pub answer : Answer F
    pub occurs : slice_get answers solved.answer ≡ Some answer
    pub is_so : IsSo number_of limit (question_of solved solve) (end_numbers number_of answer.end)

  -- if the event is a solve, it is one of a solve statement of the program, and what its answer
  -- states is true (`IsAnsweredRightly`); any other event makes no claim
  abbrev pub AnswerIsSo : Event → Type 0
  AnswerIsSo (solves solved) = IsAnsweredRightly solved
  AnswerIsSo event = Unit {0}

  -- each solve that the run shows is one of a solve statement of the program, and what its answer
  -- states is true
  abbrev pub AnswersAreSo : Type 0
  AnswersAreSo = All AnswerIsSo run_with_answers.events
