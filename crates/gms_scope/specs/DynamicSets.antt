-- Dynamic sets: those that some statement of the program assigns, wherever it is (GAMS User's
-- Guide, "Dynamic Sets"). One assignment anywhere makes a set dynamic; this is the project's own
-- choice.
use Rattle.std.specs.Prelude.{ℕ, List, [], ◌∷◌, map, flat_map}
use Rattle.gms_ast.specs.declared.program.Program.{Program}
use Rattle.gms_ast.specs.declared.program.Stmt.{Stmt}
use Rattle.gms_ast.specs.declared.program.Act.TheOpen.{Act-F}
use Rattle.gms_ast.specs.declared.program.Act.TheFolds.{fold-Stmt}
use Rattle.gms_store.specs.State.{base_of}
use Rattle.gms_store.specs.Declarations.{declared_state}

module _ {F : Type 0} where
  -- the names that an act assigns: the left side of an assignment, and in a loop those that the
  -- statements of the body assign
  abbrev pub assigned_step : Act-F F (List ℕ) (List ℕ) → List ℕ
  assigned_step (Act-F.Assign target condition right_at right) = target.name ∷ []
  assigned_step (Act-F.Loop control body) = flat_map (λ names. names) body.items
  assigned_step act = []

  -- the names that a statement assigns, also within loops
  abbrev pub assigned_names : Stmt F → List ℕ
  assigned_names = fold-Stmt F (List ℕ) (List ℕ) assigned_step (λ statement. statement.act)

  -- the names that the statements of a program assign, an alias replaced by its set; the sets among
  -- them are the dynamic ones
  abbrev pub dynamic_sets : Program F → List ℕ
  dynamic_sets program = map (base_of (declared_state program)) (flat_map assigned_names program.statements.items)
