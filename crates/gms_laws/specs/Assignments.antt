-- What an assignment does, element by element (GAMS User's Guide, "Data Manipulations with
-- Parameters", indexed assignments; "Sets as Sequences: Ordered Sets", lags in assignments).
use Rattle.std.specs.Prelude.{◌≡◌, ℕ, List, map, Option, Some, None, Ok, option_map}
use Rattle.gms_labels.specs.declared.place.Place.{Place}
use Rattle.gq_number.specs.Number.{Number}
use Rattle.gq_extended.specs.Extended.{Extended}
use Rattle.gms_ast.specs.declared.expression.Expr.{Expr}
use Rattle.gms_ast.specs.declared.program.Act.TheVariants.{Assign}
use Rattle.gms_ast.specs.declared.program.Right.TheVariants.{Value}
use Rattle.gms_ast.specs.declared.program.Stmt.{Stmt}
use Rattle.gms_ast.specs.declared.program.Target.{Target}
use Rattle.gms_ast.specs.Trees.{Indices}
use Rattle.gms_ast.specs.TreeView.{tree_of}
use Rattle.gms_tuple.specs.TupleSet.{has}
use Rattle.gms_store.specs.State.{State, attributes_of, members_of, value_of}
use Rattle.gms_check.specs.Loaded.{IsAccepted}
use Rattle.gms_eval.specs.Bindings.{Pairs, controlled}
use Rattle.gms_eval.specs.Value.{control_over, labels, value}
use Rattle.gms_exec.specs.Assignment.{newly_controlled, target_of}
use Rattle.gms_exec.specs.Given.{with_attribute}
use Rattle.gms_exec.specs.Run.{Course, World, of_statement}
use Rattle.gms_run_laws.specs.LastStates.{MayBegin}
use Rattle.gms_run_laws.specs.Reached.{IsReached, IsStatementOf}
use Rattle.gms_laws.specs.Domains.{HasItsMembers, IsWhereItHolds}

-- An execution of an assignment. `world` has the program and the names of the solvers.
pub record Execution (F : Type 0) : Type 0 where
  pub world : World F
  pub statement : Stmt F
  -- left side, condition, place of the right side, right side
  pub target : Target F
  pub condition : Option (Expr F)
  pub right_at : Place
  pub right : Expr F
  -- the labels of the sets that loops control
  pub binding : Pairs
  -- the states before the assignment and after it
  pub before : State
  pub after : State

module _ {F : Type 0} where
  -- the indices of the left side of the assignment
  abbrev pub left_indices : Execution F → Indices F
  left_indices e = (target_of e.target).indices

  -- the sets among the indices of the left side that no loop controls
  abbrev pub left_sets : Execution F → List ℕ
  left_sets e = newly_controlled e.binding (left_indices e)

  -- the binding in which also the sets of the left side that no loop controls have labels, those of
  -- the element
  abbrev pub element_binding : Execution F → List ℕ → Pairs
  element_binding e element = controlled e.binding (left_sets e) element

module _ {F : Type 0} (number_of : F → Number) (limit : ℕ) where
  -- The assignment of an accepted program is executed without a fault, from the state `before` to
  -- `after`. The execution of statements of the program, in any sequence (`IsReached`), leads to
  -- `before` from a state in which a run may begin, at the program's start or from a save.
  pub record IsCompleted (e : Execution F) : Type 0 where
    pub accepted : IsAccepted number_of e.world.program
    pub of_program : IsStatementOf e.world.program e.statement
    pub act : e.statement.act ≡ Assign e.target e.condition e.right_at (Value e.right)
    pub first : State
    pub may_begin : MayBegin number_of e.world.program first
    pub reached : IsReached number_of limit e.world first e.before
    pub course : Course
    pub before_is : course.state ≡ e.before
    pub no_fault : (of_statement number_of limit e.world e.statement e.binding course).halted ≡ None
    pub after_is : (of_statement number_of limit e.world e.statement e.binding course).state ≡ e.after

  -- The left side takes an element to a tuple: the element has a member of each set of the left
  -- side that no loop controls, the condition holds for it, and under it the indices have the
  -- labels of the tuple.
  pub record TakesTo (e : Execution F) (element tuple : List ℕ) : Type 0 where
    pub members : HasItsMembers e.before (left_sets e) element
    pub holds : IsWhereItHolds number_of limit e.before e.binding (control_over (left_sets e) (option_map tree_of e.condition)) element
    pub labels_are : labels number_of limit e.before (element_binding e element) (left_indices e) ≡ map (λ label. Ok (Some label)) tuple

  -- the right side has the value x under the element
  abbrev pub IsRight : Execution F → List ℕ → Extended → Type 0
  IsRight e element x = value number_of limit e.before (element_binding e element) (tree_of e.right) ≡ Ok x

  -- With the labels of the element for the sets of the left side that no loop controls, the right
  -- side has a value. After the assignment, the attributes at the tuple are those from before it,
  -- except that the attribute of the left side's suffix is assigned this value (`with_attribute`).
  pub record HasAttribute (e : Execution F) (element tuple : List ℕ) : Type 0 where
    pub x : Extended
    pub is : IsRight e element x
    pub given : attributes_of e.after e.target.name tuple ≡ with_attribute e.target.suffix (attributes_of e.before e.target.name tuple) x

-- The value, the membership and the attributes of the assigned name at a tuple are as before.
pub record IsKept {F : Type 0} (e : Execution F) (tuple : List ℕ) : Type 0 where
  pub value : value_of e.after e.target.name tuple ≡ value_of e.before e.target.name tuple
  pub member : has (members_of e.after e.target.name) tuple ≡ has (members_of e.before e.target.name) tuple
  pub attributes : attributes_of e.after e.target.name tuple ≡ attributes_of e.before e.target.name tuple
