-- The row of a definition at an element of the definition's sets (GAMS User's Guide, "Equations",
-- "Conditional Equations").
use Rattle.std.specs.Prelude.{◌≡◌, ℕ, Bool, true, List, [], Option, Some, None, Ok}
use Rattle.std.specs.List.{All}
use Rattle.gq_number.specs.Number.{Number}
use Rattle.gms_ast.specs.Trees.{Tree}
use Rattle.gms_store.specs.State.{State, members_of}
use Rattle.gms_tuple.specs.TupleOrder.{IsOrdered}
use Rattle.gms_tuple.specs.TupleSet.{has}
use Rattle.gms_eval.specs.Nodes.{in_order}
use Rattle.gms_eval.specs.Bindings.{Pairs, controlled}
use Rattle.gms_eval.specs.Domain.{elements}
use Rattle.gms_eval.specs.Faults.{Answer, ◌and_then◌}
use Rattle.gms_eval.specs.Holds.{holds}
use Rattle.gms_eval.specs.References.{tuple_of}
use Rattle.gms_eval.specs.Value.{labels}
use Rattle.gms_rows.specs.Plain.{ArePlain}
use Rattle.gms_rows.specs.Rows.{Definition, FormRow, distinct_numbers, sets_among, sense_of, row_form}

-- the sets among the indices of a definition, without repetition
abbrev pub sets_of_definition : {F : Type 0} → Definition F → List ℕ
sets_of_definition d = distinct_numbers (sets_among d.indices)

-- the binding of a definition's sets to the labels of an element
abbrev pub bound_to : {F : Type 0} → Definition F → List ℕ → Pairs
bound_to d element = controlled [] (sets_of_definition d) element

-- the members of each of these sets, which are tuples of labels, are distinct and ascend in the
-- order of tuples (`tuple_cmp`): label by label, a proper prefix first
abbrev pub AreInOrder : State → List ℕ → Type 0
AreInOrder state sets = All (λ set. IsOrdered (members_of state set)) sets

-- The indices of a definition are labels and sets without lags, and the members of these sets have
-- one label each, are distinct, and ascend in the order of tuples (`AreInOrder`).
pub record HasPlainSets {F : Type 0} (state : State) (d : Definition F) : Type 0 where
  pub plain : ArePlain state d.indices
  pub ordered : AreInOrder state (sets_of_definition d)

module _ {F : Type 0} (number_of : F → Number) (limit : ℕ) (state : State) where
  -- whether the condition of a definition holds under a binding, or the first fault; true without a
  -- condition
  abbrev pub holds_for : Pairs → Option (Tree F) → Answer Bool
  holds_for binding None = Ok true
  holds_for binding (Some condition) = holds number_of limit state binding condition

  -- the tuple of a definition's row at an element of its sets; None if an index has no label, for
  -- example because its lag goes past an end of its set, or if there are more than 10 indices; or
  -- the first fault
  abbrev pub tuple_at : Definition F → List ℕ → Answer (Option (List ℕ))
  tuple_at d element = in_order (labels number_of limit state (bound_to d element) d.indices) and_then λ those. Ok (tuple_of those)

  -- A row of a definition belongs to this element: the element is one of the product of the
  -- definition's sets, the definition's condition holds for it, and the row has the definition's
  -- equation and sense, the tuple of the indices at this element, and the form of the left side
  -- less the right one (`row_form`).
  pub record IsRowOf (d : Definition F) (row : FormRow) (element : List ℕ) : Type 0 where
    pub there : has (elements state (sets_of_definition d)) element ≡ true
    pub holds : holds_for (bound_to d element) d.condition ≡ Ok true
    pub equation : row.key.symbol ≡ d.equation
    pub tuple : tuple_at d element ≡ Ok (Some row.key.tuple)
    pub sense : row.sense ≡ sense_of d.side
    pub form : row_form number_of limit state d (bound_to d element) ≡ Ok row.form
