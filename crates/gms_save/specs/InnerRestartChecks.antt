-- The check of a joint program by what its saved source declares and assigns, stored in marks.
use Rattle.std.specs.Prelude.{◌≡◌, ℕ, Bool, false, not, ◌&&◌, List, ◌++◌, length, replicate, Option, None, if◌then◌else◌}
use Rattle.gq_frac.specs.declared.frac.Frac.{Frac}
use Rattle.gms_ast.specs.declared.program.Program.{Program}
use Rattle.gms_ast.specs.declared.program.Stmt.{Stmt}
use Rattle.gms_store.specs.State.{State, symbol_at, base_of}
use Rattle.gms_store.specs.Declarations.{declared_state, is_set}
use Rattle.gms_scope.specs.Facts.{marked, with_marks}
use Rattle.gms_check.specs.declared.error.CompileError.{CompileError}
use Rattle.gms_check.specs.Errors.{first_error}
use Rattle.gms_check.specs.Names.{is_variable}
use Rattle.gms_save.specs.declared.restart.RestartCheck.{RestartCheck}
use Rattle.gms_save.specs.JointErrors.{is_saved, restarts_at, saved_assigned, saved_names, targets, typed_names}

-- The check is that of a joint program whose new file begins at a line.
pub record IsCheckOf (line : ℕ) (joint : Program Frac) (check : RestartCheck) : Type 0 where
  pub begins : check.from ≡ line
  pub saved : check.saved ≡ saved_names line joint
  pub declared : check.declared ≡ declared_state joint
  pub assigned : check.assigned ≡ with_marks (replicate (length joint.names) false) (saved_assigned line joint)

-- whether a name is that of a variable of a state
abbrev pub variable_in : State → ℕ → Bool
variable_in saved name = is_variable (symbol_at saved name).content

-- whether a set is one of a state, and not marked
abbrev pub unmarked_in : State → List Bool → ℕ → Bool
unmarked_in saved marks set = is_set (symbol_at saved set).content && not (marked marks set)

-- whether the saved source declares a set and does not assign it, by what a check knows, an alias
-- as its set
abbrev pub fixed_by : RestartCheck → ℕ → Bool
fixed_by check name = unmarked_in check.saved check.assigned (base_of check.declared name)

-- the first error that a check finds of a statement, if any
abbrev pub error_by : RestartCheck → Stmt Frac → Option CompileError
error_by check statement =
    if is_saved check.from statement then None else first_error (restarts_at (variable_in check.saved) (typed_names statement.act) ++ restarts_at (fixed_by check) (targets statement))
