-- The states that the run of a program may reach (GAMS User's Guide, "GAMS Programs", "Programming
-- Flow Control Features").
use Rattle.std.specs.Prelude.{◌≡◌, ℕ, List}
use Rattle.gq_number.specs.Number.{Number}
use Rattle.gms_ast.specs.declared.program.Program.{Program}
use Rattle.gms_ast.specs.declared.program.Stmt.{Stmt}
use Rattle.gms_store.specs.State.{State}
use Rattle.gms_check.specs.Checked.{FollowsIn}
use Rattle.gms_check.specs.LeftSides.{IsNestedIn}
use Rattle.gms_eval.specs.Bindings.{Pairs}
use Rattle.gms_exec.specs.Run.{Course, World, of_statement}

-- `outer` is the statement of the program after its statements `before`. The statement is `outer`
-- itself if `depth` is 0; otherwise it is in the body of the innermost of `depth` nested loops, of
-- which `outer` is the outermost.
pub record IsStatementOf {F : Type 0} (program : Program F) (statement : Stmt F) : Type 0 where
  pub before : List (Stmt F)
  pub outer : Stmt F
  pub occurs : FollowsIn program before outer
  pub depth : ℕ
  pub inside : IsNestedIn depth statement outer

-- A state that results from the state `first` by executing statements of the program, in any
-- sequence, under any labels of controlled sets, and with any answers for solves. A course is how
-- far a run has come, with its state and remaining answers.
pub data IsReached {F : Type 0} (number_of : F → Number) (limit : ℕ) (world : World F) (first : State) : State → Type 0 where
  -- the state `first` itself
  at_first : IsReached number_of limit world first first
  -- the state after one more statement
  after : {state : State} (statement : Stmt F) (binding : Pairs) (course : Course) → IsStatementOf world.program statement → course.state ≡ state →
      IsReached number_of limit world first state → IsReached number_of limit world first (of_statement number_of limit world statement binding course).state
