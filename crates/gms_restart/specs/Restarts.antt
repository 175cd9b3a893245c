-- One long run of a joint program, and the restarted run that resumes from a save (GAMS User's
-- Guide, "Save and Restart").
use Rattle.std.specs.Prelude.{◌≡◌, ℕ, List, ◌++◌, drop, length, take, codes, slice_get, unwrap_or}
use Rattle.gq_number.specs.Number.{Number}
use Rattle.gms_store.specs.State.{State}
use Rattle.gms_check.specs.Loaded.{loaded}
use Rattle.gms_exec.specs.Run.{Course, World, run_from}
use Rattle.gms_run_laws.specs.JointRun.{run_after}
use Rattle.gms_save.specs.JointErrors.{resumed, saved_statements}
use Rattle.lp_core.specs.declared.answer.Answer.{Answer}

module _ {F : Type 0} (value : F → Number) (limit : ℕ) where
  -- the run of the program of `world` from its first state, in which all its names are declared and
  -- have their data (`loaded`), with these answers for its solves. `limit` bounds the size of
  -- numbers, and `value` gives the number that a value of `F` means
  abbrev pub whole_run : World F → List (Answer Number) → Course
  whole_run world answers = run_from value limit world (loaded value world.program) answers world.program.statements.items

  module _ (from : ℕ) where
    -- the run of the first statements of a joint program, a saved source followed by a new file. It
    -- executes the statements that begin before the line `from`, the first of the file. It begins
    -- in the first state of the joint program (`loaded`). `answers` are the answers for its solves,
    -- `limit` bounds the size of numbers, and `value` gives the number that a value of `F` means
    abbrev pub base_run : World F → List (Answer Number) → Course
    base_run joint answers =
        run_from value limit joint (loaded value joint.program) answers (take (length (saved_statements from joint.program)) joint.program.statements.items)

    -- the restarted run of a joint program, a saved source followed by a new file. It executes the
    -- statements that begin at or after the line `from`, the first of the file. It begins in the
    -- saved state `state`, to which the names that only the joint program declares are added
    -- (`resumed`). `answers` are the answers for its solves, `limit` bounds the size of numbers,
    -- and `value` gives the number that a value of `F` means
    abbrev pub restarted_run : World F → State → List (Answer Number) → Course
    restarted_run joint state answers =
        run_from value limit joint (resumed value state joint.program) answers (drop (length (saved_statements from joint.program)) joint.program.statements.items)

    -- `answers` are those of a saved run of the program of `saved`, and `further` those of a
    -- restarted run. One long run of the joint program, with `answers` followed by `further`, is
    -- the run of its statements before the line `from` (`base_run`) followed by the restarted run
    -- from the last state of the saved run. The statements before `from` use as many answers as
    -- `answers` has.
    pub record SaysTheSame (saved joint : World F) (answers further : List (Answer Number)) : Type 0 where
      pub is : whole_run joint (answers ++ further)
          ≡ run_after (base_run joint (answers ++ further)) (restarted_run joint (whole_run saved answers).state further)
      pub taken : (base_run joint (answers ++ further)).taken ≡ length answers

-- the name that a save has for the solver that a state's settings choose among `solvers`; `none` if
-- there is no such solver
abbrev pub solver_name : List (List ℕ) → State → List ℕ
solver_name solvers state = unwrap_or (slice_get solvers state.settings.solver) (codes "none")
