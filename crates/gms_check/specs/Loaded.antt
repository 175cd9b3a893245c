-- The state in which a run begins: the names that the program declares, with all their data and no
-- others (GAMS User's Guide, "Data Entry: Parameters, Scalars and Tables"). The data of all
-- declarations hold before the first statement acts; this is the project's own rule.
use Rattle.std.specs.Prelude.{true, List, [], ◌≡◌, length, map, ℕ}
use Rattle.gq_number.specs.Number.{Number}
use Rattle.gms_ast.specs.declared.program.Stmt.{Stmt}
use Rattle.gms_ast.specs.declared.program.Program.{Program}
use Rattle.gms_store.specs.State.{State}
use Rattle.gms_check.specs.Past.{Past, state_after}
use Rattle.gms_check.specs.CompileErrors.{compile_errors}

module _ {F : Type 0} where
  -- these statements, each marked as one without an error
  abbrev pub sound : List (Stmt F) → Past F
  sound statements = map (λ statement. (statement, true)) statements

  -- the state in which an accepted program begins: all its names are declared and have their data.
  -- `value` gives the number that a value of `F` means
  abbrev pub loaded : (F → Number) → Program F → State
  loaded value program = state_after value (length program.names) (sound program.statements.items)

  -- for some list of names of solvers, the program has no compile error. `value` gives the number
  -- that a value of `F` means
  abbrev pub IsAccepted : (F → Number) → Program F → Type 0
  IsAccepted value program = (solvers : List (List ℕ)) × (compile_errors value program solvers ≡ [])
