-- The errors of the joint program of a restarted run: that of the saved source followed by the new
-- file, which begins at the line `from` (GAMS User's Guide, "Save and Restart", "Dynamic Sets",
-- "Variables"). What a new file may not do to a saved name is this project's own rule.
use Rattle.std.specs.Prelude.{◌≡◌, ℕ, Bool, not, ◌&&◌, nat_lt, List, [], ◌∷◌, ◌++◌, map, flat_map, filter, length, Option, None, option_to_list, if◌then◌else◌}
use Rattle.gq_number.specs.Number.{Number}
use Rattle.gms_labels.specs.declared.place.Place.{Place}
use Rattle.gms_ast.specs.declared.declaration.Decl.{Decl}
use Rattle.gms_ast.specs.declared.declaration.DeclKind.{DeclKind}
use Rattle.gms_ast.specs.declared.program.Act.{Act}
use Rattle.gms_ast.specs.declared.program.Act.TheVariants.{Declare}
use Rattle.gms_ast.specs.declared.program.Program.{Program}
use Rattle.gms_ast.specs.declared.program.Stmt.{Stmt}
use Rattle.gms_ast.specs.declared.program.Act.TheOpen.{Act-F}
use Rattle.gms_ast.specs.declared.program.Act.TheFolds.{fold-Stmt}
use Rattle.gms_store.specs.State.{State, symbol_at, base_of}
use Rattle.gms_store.specs.Declarations.{blank_state, content_of, declared_by_all, declared_state, is_set}
use Rattle.gms_store.specs.Overlays.{overlaid}
use Rattle.gms_scope.specs.DynamicSets.{assigned_names}
use Rattle.gms_check.specs.declared.error.ErrorKind.TheVariants.{Restart}
use Rattle.gms_check.specs.declared.error.CompileError.{CompileError}
use Rattle.gms_check.specs.Errors.{first_error, sooner}
use Rattle.gms_check.specs.Names.{is_variable}
use Rattle.gms_check.specs.Past.{is_among}
use Rattle.gms_check.specs.CompileErrors.{statement_errors}
use Rattle.gms_check.specs.Loaded.{loaded}

-- the error Restart at a place
abbrev pub restart_at : Place → CompileError
restart_at at = record { kind = Restart; at = at }

-- the error Restart for each of these names for which the test is true, at the name's place
abbrev pub restarts_at : (ℕ → Bool) → List (Place × ℕ) → List CompileError
restarts_at test names =
    map (λ (named : Place × ℕ). restart_at named.0) (filter (λ (named : Place × ℕ). test named.1) names)

-- `errors` has an error or None for each item of a list; the result has for each item the first, by
-- place and then by number, of that error and the one that `other` gives; None if there is neither
abbrev pub each_sooner : {X : Type 0} → (X → Option CompileError) → List (Option CompileError) → List X → List (Option CompileError)
each_sooner other (error ∷ errors) (x ∷ xs) = sooner error (other x) ∷ each_sooner other errors xs
each_sooner other errors xs = errors

module _ {F : Type 0} where
  -- whether a statement is one of the saved source: it begins before the line `from`, the first of
  -- the new file
  abbrev pub is_saved : ℕ → Stmt F → Bool
  is_saved from statement = nat_lt statement.at.line from

  -- the statements of the saved source, which is the part of `joint` before the line `from`
  abbrev pub saved_statements : ℕ → Program F → List (Stmt F)
  saved_statements from joint = filter (is_saved from) joint.statements.items

  -- the state after the declarations of the saved source, which is the part of `joint` before the
  -- line `from`; their data are not in the state
  abbrev pub saved_names : ℕ → Program F → State
  saved_names from joint = declared_by_all (blank_state (length joint.names)) (saved_statements from joint)

  -- the names that the saved source, which is the part of `joint` before the line `from`, assigns,
  -- an alias replaced by its set
  abbrev pub saved_assigned : ℕ → Program F → List ℕ
  saved_assigned from joint = map (base_of (declared_state joint)) (flat_map assigned_names (saved_statements from joint))

  -- whether the saved source, which is the part of `joint` before the line `from`, declares the
  -- name as a variable
  abbrev pub is_saved_variable : ℕ → Program F → ℕ → Bool
  is_saved_variable from joint name = is_variable (symbol_at (saved_names from joint) name).content

  -- whether the saved source, which is the part of `joint` before the line `from`, declares the
  -- name as a set and does not assign it
  abbrev pub is_fixed_set : ℕ → Program F → ℕ → Bool
  is_fixed_set from joint set = is_set (symbol_at (saved_names from joint) set).content && not (is_among (saved_assigned from joint) set)

  -- whether the name, or its set if it is an alias, is a set that the saved source, which is the
  -- part of `joint` before the line `from`, declares and does not assign
  abbrev pub names_fixed_set : ℕ → Program F → ℕ → Bool
  names_fixed_set from joint name = is_fixed_set from joint (base_of (declared_state joint) name)

  -- the names of a declaration, each with its place
  abbrev pub names_at : List (Decl F) → List (Place × ℕ)
  names_at items = map (λ (item : Decl F). (item.named.at, item.named.name)) items

  -- the names that a declaration of this kind declares as variables, each with its place
  abbrev pub names_typed : DeclKind → List (Decl F) → List (Place × ℕ)
  names_typed kind items = if is_variable (content_of kind) then names_at items else []

  -- the names that an act declares as variables, each with its place
  abbrev pub typed_names : Act F → List (Place × ℕ)
  typed_names (Declare kind items) = names_typed kind items
  typed_names act = []

  -- the names that an act assigns, each with its place, where each statement of a loop's body is
  -- replaced by the names that it assigns
  abbrev pub targets_step : Act-F F (List (Place × ℕ)) (List (Place × ℕ)) → List (Place × ℕ)
  targets_step (Act-F.Assign target condition right_at right) = (target.at, target.name) ∷ []
  targets_step (Act-F.Loop control body) = flat_map (λ targets. targets) body.items
  targets_step act = []

  -- the names that a statement assigns, also in the body of a loop, each with its place
  abbrev pub targets : Stmt F → List (Place × ℕ)
  targets = fold-Stmt F (List (Place × ℕ)) (List (Place × ℕ)) targets_step (λ statement. statement.act)

  -- the errors Restart of a statement, where the saved source is the part of `joint` before the
  -- line `from`: the statement declares a saved variable as a variable again, or assigns a set that
  -- the saved source declares and does not assign
  abbrev pub restart_errors : ℕ → Program F → Stmt F → List CompileError
  restart_errors from joint statement =
      restarts_at (is_saved_variable from joint) (typed_names statement.act) ++ restarts_at (names_fixed_set from joint) (targets statement)

  -- the first error Restart of a statement of the new file, which begins at the line `from` of
  -- `joint`; None if the statement has none or is one of the saved source before that line
  abbrev pub restart_error : ℕ → Program F → Stmt F → Option CompileError
  restart_error from joint statement = if is_saved from statement then None else first_error (restart_errors from joint statement)

  -- the errors of a joint program, whose new file begins at the line `from`, with solvers of these
  -- names: at most one for each statement, the error of a check or the error Restart, whichever is
  -- first by place and then by number
  abbrev pub joint_errors : (F → Number) → Program F → ℕ → List (List ℕ) → List CompileError
  joint_errors value joint from solvers =
      flat_map option_to_list (each_sooner (restart_error from joint) (statement_errors value joint solvers) joint.statements.items)

  -- for some list of solvers' names, the joint program, whose new file begins at the line `from`,
  -- has no error with solvers of these names
  abbrev pub HasNoErrors : (F → Number) → Program F → ℕ → Type 0
  HasNoErrors value joint from = (solvers : List (List ℕ)) × (joint_errors value joint from solvers ≡ [])

  -- the state from which a restarted run resumes: the names of the saved state as they are in it,
  -- and the names that only the joint program declares with the data that it declares; the settings
  -- are the saved ones
  abbrev pub resumed : (F → Number) → State → Program F → State
  resumed value saved joint = overlaid (loaded value joint) saved
