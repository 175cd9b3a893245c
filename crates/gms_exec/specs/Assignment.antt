-- The state after an assignment. All values are computed in the old state (GAMS User's Guide, "Data
-- Manipulations with Parameters", indexed assignments; "Conditional Expressions, Assignments and
-- Equations", dollar on the left; "Sets as Sequences: Ordered Sets", lags and leads in assignments;
-- "Dynamic Sets"). The order in which faults are found is this project's own rule.
use Rattle.std.specs.Prelude.{ℕ, Bool, true, false, List, [], ◌∷◌, map, Option, Some, None, is_none, Ok, Err, if◌then◌else◌, filter}
use Rattle.gms_labels.specs.declared.place.Place.{Place}
use Rattle.gq_number.specs.Number.{Number}
use Rattle.gq_extended.specs.Extended.{Extended, number, plus_infinity, minus_infinity, na}
use Rattle.gms_ast.specs.declared.expression.Suffix.{Suffix}
use Rattle.gms_ast.specs.declared.expression.Suffix.TheVariants as suffix
use Rattle.gms_ast.specs.declared.program.Target.{Target as TargetNode}
use Rattle.gms_ast.specs.StatementTrees.{Target}
use Rattle.gms_ast.specs.TreeView.{index_tree, indices_of}
use Rattle.gms_ast.specs.Trees as tree
use Rattle.gms_store.specs.State.{State, symbol_of}
use Rattle.gms_eval.specs.Nodes.{in_order}
use Rattle.gms_eval.specs.Bindings.{Pairs, label_of, controlled}
use Rattle.gms_eval.specs.Faults.{Answer, nothing, faulted, ◌and_then◌}
use Rattle.gms_eval.specs.References.{tuple_of}
use Rattle.gms_eval.specs.Value.{value, labels, domain, control_over}
use Rattle.gms_eval.specs.declared.stop.StopKind.TheVariants.{Undefined}
use Rattle.gms_rows.specs.Rows.{sets_among, distinct_numbers}
use Rattle.gms_exec.specs.Given.{Given, member, value_is, AllGiven, after_given}
use Rattle.gms_exec.specs.Membership.{membership}
use Rattle.gms_store.specs.Declarations.{is_set}

-- ---- what the left side controls

-- the sets among the indices of a left side that have no label in the binding, which has the labels
-- that the loops around the statement give
abbrev pub newly_controlled : {N : Type 0} → Pairs → tree.Indices N → List ℕ
newly_controlled binding indices = filter (λ set. is_none (label_of binding set)) (distinct_numbers (sets_among indices))

-- ---- what an element is given

-- whether a name with this suffix can be assigned the value: a lower bound a number or minus
-- infinity, an upper bound a number or infinity; a level, a marginal and the value that fixes a
-- variable a number; a parameter any value
abbrev pub takes_value : Suffix → Extended → Bool
takes_value suffix.Lo plus_infinity = false
takes_value suffix.Lo na = false
takes_value suffix.Up minus_infinity = false
takes_value suffix.Up na = false
takes_value suffix.L (number x) = true
takes_value suffix.L x = false
takes_value suffix.M (number x) = true
takes_value suffix.M x = false
takes_value suffix.Fx (number x) = true
takes_value suffix.Fx x = false
takes_value other x = true

-- the value x, if a name with this suffix can be assigned it; otherwise the fault Undefined at the
-- place of the right side, with the binding and with x as the left operand
abbrev pub where_taken : Suffix → Place → Pairs → Extended → Answer Given
where_taken suffix right_at binding x =
    if takes_value suffix x then Ok (value_is x) else Err (faulted Undefined right_at binding x nothing)

-- the left side of an assignment, with its indices as a tree
abbrev pub target_of : {F : Type 0} → TargetNode F → Target F
target_of target =
    record { at = target.at; name = target.name; suffix = target.suffix; indices = indices_of (map index_tree target.indices) }

module _ {F : Type 0} (number_of : F → Number) (limit : ℕ) (state : State) where
  -- what the right side assigns under a binding: to a set whether the element is a member, to any
  -- other name a value; or the first fault, also that of a value that the name with its suffix
  -- cannot have (`where_taken`)
  abbrev pub given_under : Target F → Place → tree.Tree F → Pairs → Answer Given
  given_under target right_at right binding =
      if is_set (symbol_of state target.name).content then
      membership number_of limit state binding right and_then (λ x. Ok (member x)) else
      value number_of limit state binding right and_then where_taken target.suffix right_at binding

  -- the tuple of the left side under a binding, with what is assigned to it; None if an index has
  -- no label, for example if its lag goes past an end of its set, or if there are more than 10
  -- indices; or the first fault
  abbrev pub element_under : Target F → Place → tree.Tree F → Pairs → Answer (Option (List ℕ × Given))
  element_under target right_at right binding =
      in_order (labels number_of limit state binding target.indices) and_then λ those.
      elim (tuple_of those) [ None ↦ Ok None | Some t ↦ given_under target right_at right binding and_then λ given. Ok (Some (t, given)) ]

  -- the entries of this list without those that are None: the elements that exist, each with what
  -- is assigned to it
  abbrev pub given_elements : List (Option (List ℕ × Given)) → AllGiven
  given_elements [] = []
  given_elements (None ∷ rest) = given_elements rest
  given_elements (Some given ∷ rest) = given ∷ given_elements rest

  -- what an assignment at the place `at` assigns to each element of the left side's sets for which
  -- its condition holds, in order, all evaluated in the old state, without those whose left side
  -- has no tuple (`element_under`). Or the first fault: of the left side's domain with the
  -- condition, then, for each element, of a lag, of the right side, and of a value that cannot be
  -- assigned. `right_at` is the place of the right side
  abbrev pub given_by : Place → Pairs → Target F → Option (tree.Tree F) → Place → tree.Tree F → Answer AllGiven
  given_by at binding target condition right_at right =
      let sets = newly_controlled binding target.indices in
      domain number_of limit state binding at (control_over sets condition) and_then λ elements.
      in_order (map (λ element. element_under target right_at right (controlled binding sets element)) elements) and_then λ given. Ok (given_elements given)

  -- the state after an assignment in a statement at the place `at`, or the first fault of the
  -- assignment
  abbrev pub after_assignment : Place → Pairs → Target F → Option (tree.Tree F) → Place → tree.Tree F → Answer State
  after_assignment at binding target condition right_at right =
      given_by at binding target condition right_at right and_then λ given. Ok (after_given target.suffix target.name given state)
