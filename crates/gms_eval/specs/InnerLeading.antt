-- The contracts of the code that traverses the stored tuples of a name, in place of a whole product
-- of sets.
use Rattle.std.specs.Prelude.{◌≡◌, ◌≤◌, ◌-◌, ◌*◌, ℕ, Bool, true, false, List, ◌++◌, length, map, fold, slice_index, slice_range, Option, Some, None, Ok, IsOk, IsTrue, IfSome, if◌then◌else◌}
use Rattle.std.specs.List.{flat_map}
use Rattle.gq_number.specs.Number.{Number}
use Rattle.gms_ast.specs.declared.expression.Expr.{Expr}
use Rattle.gms_ast.specs.declared.expression.Index.{Index}
use Rattle.gms_ast.specs.Trees as tree
use Rattle.gms_ast.specs.TreeView.{parts_of, indices_of, tree_of, index_tree}
use Rattle.gms_tuple.specs.TupleSet.{has}
use Rattle.gms_store.specs.State.{State, symbol_of, given_of}
use Rattle.gms_eval.specs.Nodes.{is_so, in_order, each_holds}
use Rattle.gms_eval.specs.Bindings.{Pairs, controlled}
use Rattle.gms_eval.specs.Domain.{elements}
use Rattle.gms_eval.specs.Faults.{Answer, nothing, ◌and_then◌}
use Rattle.gms_eval.specs.Holds.{holds}
use Rattle.gms_eval.specs.Leaders.{without_lags, number_of_indices, reach}
use Rattle.gms_eval.specs.References.{tuple_of, plain_value}
use Rattle.gms_eval.specs.Value.{value, label_answer}
use Rattle.gms_eval.specs.declared.traversals.Traversal.{Traversal}
use Rattle.gms_eval.specs.declared.leading.Scan.{Scan}

-- ---- traversals

-- the labels that a tuple has at these places, 0 where it has none
abbrev pub picked : List ℕ → List ℕ → List ℕ
picked places tuple = map (λ place. slice_index tuple place) places

-- the elements whose labels are at these places of a tuple followed by an element of the free sets
abbrev pub spread_over : State → List ℕ → List ℕ → List ℕ → List (List ℕ)
spread_over state free places tuple = map (λ rest. picked places (tuple ++ rest)) (elements state free)

-- the elements that a traversal visits, in the order of the stored tuples
abbrev pub traversed : State → Traversal → List (List ℕ)
traversed state traversal =
    flat_map (spread_over state traversal.free.items traversal.places.items) (slice_range (given_of state traversal.name) traversal.from traversal.upto)

-- ---- conditions

-- whether something holds under a binding
abbrev pub Condition : Type 0
Condition = Pairs → Answer Bool

-- two conditions in sequence: the second is evaluated only where the first holds
abbrev pub both : Answer Bool → Answer Bool → Answer Bool
both first second = first and_then λ holds. if holds then second else Ok false

-- conditions in sequence, up to the first that does not hold
abbrev pub each_in_turn : List (Answer Bool) → Answer Bool
each_in_turn answers = fold both (Ok true) answers

-- A traversal that leads a condition: the condition fails at each element of the sets that the
-- traversal does not visit.
pub record Leads (state : State) (binding : Pairs) (sets : List ℕ) (condition : Condition) (traversal : Traversal) : Type 0 where
  pub few : length traversal.places.items ≤ 10
  pub range : traversal.from ≤ traversal.upto
  pub within : traversal.upto ≤ length (given_of state traversal.name)
  pub counted : traversal.spread ≡ length (elements state traversal.free.items)
  pub needed : (element : List ℕ) → has (elements state sets) element ≡ true → has (traversed state traversal) element ≡ false → condition (controlled binding sets element) ≡ Ok false

-- What is known of a condition: whether it never has a fault, and a traversal that leads it.
pub record IsScan (state : State) (binding : Pairs) (sets : List ℕ) (condition : Condition) (scan : Scan) : Type 0 where
  pub safe : IsTrue scan.safe → (other : Pairs) → IsOk (condition other)
  pub leads : IfSome scan.traversal (λ traversal. Leads state binding sets condition traversal)

-- ---- how short a traversal is

-- how many elements a traversal visits at most
abbrev pub steps_of : Traversal → ℕ
steps_of traversal = (traversal.upto - traversal.from) * traversal.spread

-- a traversal visits exactly `count` elements; without a traversal, `count` is at least the bound
abbrev pub IsReaching : ℕ → ℕ → Option Traversal → Type 0
IsReaching bound count None = bound ≤ count
IsReaching bound count (Some traversal) = steps_of traversal ≡ count

-- a traversal visits at most `count` elements; without a traversal, `count` is at least the bound
abbrev pub IsBounded : ℕ → ℕ → Option Traversal → Type 0
IsBounded bound count None = bound ≤ count
IsBounded bound count (Some traversal) = steps_of traversal ≤ count

-- which references may lead a traversal
abbrev pub Leading : Type 0 → Type 1
Leading F = ℕ → tree.Indices F → Type 0

-- How short the traversal of a condition with these leading references is: its bound is at most
-- this one, it visits no more elements than its bound, and no leading reference visits fewer.
pub record IsShort {F : Type 0} (state : State) (binding : Pairs) (sets : List ℕ) (bound : ℕ) (leading : Leading F) (scan : Scan) : Type 0 where
  pub below : scan.bound ≤ bound
  pub comes : IsBounded bound scan.bound scan.traversal
  pub fewest : (name : ℕ) (indices : tree.Indices F) → leading name indices → scan.bound ≤ reach state binding sets name indices

-- the indices of a reference, as a tree has them
abbrev pub indices_tree : {F : Type 0} → List (Index F) → tree.Indices F
indices_tree indices = indices_of (map index_tree indices)

-- conditions, as the parts of a tree
abbrev pub parts_tree : {F : Type 0} → List (Expr F) → tree.Parts F
parts_tree conditions = parts_of (map (λ condition. (tree.plain, tree_of condition)) conditions)

-- the one reference that may lead, where the condition is a reference without a suffix
abbrev pub IsBareReference : {F : Type 0} → ℕ → tree.Indices F → Leading F
IsBareReference other those name indices =
    (without_lags those ≡ true) × (number_of_indices those ≤ 10) × (other ≡ name) × (those ≡ indices)

-- the traversal of the second of two conditions, or else that of the first
abbrev pub later_traversal : Option Traversal → Option Traversal → Option Traversal
later_traversal first None = first
later_traversal first (Some traversal) = Some traversal

-- ---- references

-- whether the value of a name at a tuple is not the number 0; without a tuple it is 0
abbrev pub plain_so : State → ℕ → Option (List ℕ) → Bool
plain_so state name None = is_so nothing
plain_so state name (Some tuple) = is_so (plain_value state name (symbol_of state name).content tuple)

module _ {F : Type 0} (number_of : F → Number) (limit : ℕ) (state : State) where
  -- the labels of some indices
  abbrev pub label_answers : List (Index F) → Pairs → List (Answer (Option ℕ))
  label_answers indices binding = map (label_answer number_of limit state binding) indices

  -- the tuple of some indices
  abbrev pub tuple_answer : List (Index F) → Pairs → Answer (Option (List ℕ))
  tuple_answer indices binding = in_order (label_answers indices binding) and_then λ those. Ok (tuple_of those)

  -- whether a reference without a suffix holds
  abbrev pub entry_holds : ℕ → List (Index F) → Condition
  entry_holds name indices binding = tuple_answer indices binding and_then λ tuple. Ok (plain_so state name tuple)

  -- whether an expression holds
  abbrev pub expression_holds : Expr F → Condition
  expression_holds e binding = holds number_of limit state binding (tree_of e)

  -- whether each of some expressions holds, from the first to the last
  abbrev pub all_hold_in_turn : List (Expr F) → Condition
  all_hold_in_turn parts binding = each_in_turn (map (λ part. expression_holds part binding) parts)

  -- whether each of some guards holds, from the last to the first
  abbrev pub guards_hold : List (Expr F) → Condition
  guards_hold guards binding = each_holds (map (λ guard. value number_of limit state binding (tree_of guard)) guards)
