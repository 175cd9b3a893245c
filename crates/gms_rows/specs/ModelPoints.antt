-- When a point satisfies a model: each of its equations, as it is defined, and the bounds of its
-- variables (GAMS User's Guide, "Equations"; Chvatal, "Linear Programming", chapter 1).
use Rattle.std.specs.Prelude.{◌≡◌, ℕ, Bool, true, false, List, [], map, flat_map, Option, is_some, Ok, Err}
use Rattle.std.specs.List.{All}
use Rattle.gq_number.specs.Number.{Number}
use Rattle.gq_extended.specs.Extended.{Extended, number}
use Rattle.gms_ast.specs.declared.program.Side.{Side}
use Rattle.gms_ast.specs.declared.program.Stmt.{Stmt}
use Rattle.gms_store.specs.State.{State, attributes_of}
use Rattle.gms_eval.specs.Nodes.{in_order}
use Rattle.gms_eval.specs.Bindings.{Pairs}
use Rattle.gms_eval.specs.Faults.{Answer}
use Rattle.gms_eval.specs.References.{tuple_of}
use Rattle.gms_eval.specs.Value.{labels, domain, control_over}
use Rattle.lp_core.specs.Feasible.{KeepsSense, KeepsLower, KeepsUpper}
use Rattle.lp_core.specs.declared.program.Lp.{Lp}
use Rattle.lp_core.specs.declared.program.Column.{Column}
use Rattle.lp_form.specs.declared.key.Key.{Key}
use Rattle.gms_rows.specs.Rows.{Definition, sense_of, definitions, definition_of, equations_of}
use Rattle.gms_rows.specs.ElementRows.{sets_of_definition, bound_to}
use Rattle.gms_rows.specs.PointValues.{value_at, is_linear}

-- the definitions of the equations of a model, in the order of the equations
abbrev pub definitions_of_model : {F : Type 0} → List (Stmt F) → ℕ → List (Definition F)
definitions_of_model statements model = flat_map (definition_of (definitions statements)) (equations_of statements model)

-- both sides of a definition are linear in the variables
abbrev pub IsLinearDefinition : {F : Type 0} → State → Definition F → Type 0
IsLinearDefinition state d = (is_linear state d.left ≡ true) × (is_linear state d.right ≡ true)

-- both sides of an equation are numbers, and the left one compares with the right one as `side`,
-- the relation of the equation, says
abbrev pub Compare : Side → Answer Extended → Answer Extended → Type 0
Compare side (Ok (number left)) (Ok (number right)) = KeepsSense (sense_of side) left right
Compare side left right = ⊥

-- whether all labels of indices exist, so that the indices have a tuple; false for a fault
abbrev pub is_there : Answer (List (Option ℕ)) → Bool
is_there (Ok labels) = is_some (tuple_of labels)
is_there (Err fault) = false

module _ {F : Type 0} (number_of : F → Number) (limit : ℕ) (state : State) (point : Key → Number) where
  -- under a binding of sets to labels, both sides of a definition are numbers at the point, and the
  -- left one compares with the right one as `=e=`, `=l=` or `=g=` says (`=n=`: any two numbers do)
  abbrev pub SidesCompare : Definition F → Pairs → Type 0
  SidesCompare d binding =
      Compare d.side (value_at number_of limit state point binding d.left) (value_at number_of limit state point binding d.right)

  -- The point satisfies a definition. Its domain is the elements of its sets for which its
  -- condition, if any, holds. If the domain has no fault, then for each element of it at which the
  -- indices have a tuple, both sides are numbers and compare as the equation says (`SidesCompare`).
  abbrev pub KeepsDefinition : Definition F → Type 0
  KeepsDefinition d = (elements : List (List ℕ)) → domain number_of limit state [] d.at (control_over (sets_of_definition d) d.condition) ≡ Ok elements →
      All (λ element. is_there (in_order (labels number_of limit state (bound_to d element) d.indices)) ≡ true → SidesCompare d (bound_to d element)) elements

  -- the point satisfies the definition of each equation of a model
  abbrev pub KeepsModel : List (Stmt F) → ℕ → Type 0
  KeepsModel statements model = All KeepsDefinition (definitions_of_model statements model)

-- the point is within the bounds that these elements of variables have in a state
abbrev pub KeepsBoundsOf : State → (Key → Number) → List Key → Type 0
KeepsBoundsOf state point keys =
    All (λ (key : Key). KeepsLower (attributes_of state key.symbol key.tuple).lower (point key) × KeepsUpper (attributes_of state key.symbol key.tuple).upper (point key)) keys

-- the elements of the columns of a linear program
abbrev pub column_elements : Lp Number → List Key
column_elements lp = map (λ (column : Column Number). column.key) lp.columns
