-- What the items of a data list give: tuples with their values, in the order of the data, or the
-- first fault (GAMS User's Guide, "Set Definition", "Data Entry: Parameters, Scalars and Tables").
-- Which fault comes first is this project's own rule.
use Rattle.std.specs.Prelude.{ℕ, ◌≡◌, Bool, false, not, ◌||◌, ◌+◌, nat_lt, List, [], ◌∷◌, ◌++◌, length, map, Option, Some, None, Result, Ok, Err, if◌then◌else◌}
use Rattle.std.specs.List.{list_any}
use Rattle.gms_labels.specs.declared.place.Place.{Place}
use Rattle.gms_ast.specs.declared.declaration.Item.{Item}
use Rattle.gq_extended.specs.declared.extended.Ext.{Ext}
use Rattle.gms_tuple.specs.Products.{tuple_product}
use Rattle.gms_tuple.specs.TupleSet.{has}
use Rattle.gms_store.specs.State.{State, members_of}
use Rattle.gms_set.specs.declared.fault.SetError.{SetError}
use Rattle.gms_set.specs.declared.fault.SetError.TheVariants.{BadRange, Repeated, Outside, Full}
use Rattle.gms_set.specs.declared.fault.SetFault.{SetFault}
use Rattle.gms_set.specs.declared.fault.SetFaultOrMemory.{SetFaultOrMemory}
use Rattle.gms_set.specs.declared.fault.SetFaultOrMemory.TheVariants.{Memory, Fault}

-- whether some tuple occurs more than once in a list
abbrev pub has_repeat : List (List ℕ) → Bool
has_repeat [] = false
has_repeat (tuple ∷ tuples) = has tuples tuple || has_repeat tuples

-- whether a label is no member of the set of its position; a position without a set (None) admits
-- any label
abbrev pub is_outside : State → Option ℕ → ℕ → Bool
is_outside state None label = false
is_outside state (Some set) label = not (has (members_of state set) (label ∷ []))

-- whether some position of an item has a label that is no member of the set of the position;
-- `parts` are the labels of each position. A position that has no set, or that only one of the two
-- lists has, does not count
abbrev pub has_outside : State → List (Option ℕ) → List (List ℕ) → Bool
has_outside state (set ∷ sets) (labels ∷ rest) = list_any (is_outside state set) labels || has_outside state sets rest
has_outside state sets parts = false

-- tuples in the order of the data, each with the value of its item, if the item has one
abbrev pub ExpandedData : Type 0 → Type 0
ExpandedData F = List (List ℕ × Option (Ext F))

module _ {F : Type 0} where
  -- the tuples of expanded data, without their values
  abbrev pub tuples_of : ExpandedData F → List (List ℕ)
  tuples_of given = map (λ (pair : List ℕ × Option (Ext F)). pair.0) given

  -- the tuples, each with this value
  abbrev pub tuples_with_value : Option (Ext F) → List (List ℕ) → ExpandedData F
  tuples_with_value value tuples = map (λ tuple. (tuple, value)) tuples

  -- the first error of an item, if any, where the items before it gave the tuples `before`. The
  -- errors, in their order: a label outside the set of its position; two labels that are no range;
  -- more than 1,048,576 tuples in all; a tuple that occurs twice in all
  abbrev pub error_of : State → List (Option ℕ) → List (List ℕ) → Item F → Option SetError
  error_of state domain before item =
      if has_outside state domain item.parts then Some Outside else if item.bad_range then Some BadRange else if nat_lt 1048576 (length before + length (tuple_product item.parts)) then Some Full else if has_repeat (before ++ tuple_product item.parts) then Some Repeated else None

  -- the fault with this error and this place if there is an error, otherwise `rest`, the result of
  -- the items from there on
  abbrev pub unless : Option SetError → Place → Result (ExpandedData F) SetFault → Result (ExpandedData F) SetFault
  unless (Some error) at rest = Err (record { error = error; at = at })
  unless None at rest = rest

  -- the tuples `given` of the items before, followed by those of these items, or the first fault of
  -- these items
  abbrev pub with_items : State → List (Option ℕ) → ExpandedData F → List (Item F) → Result (ExpandedData F) SetFault
  with_items state domain given [] = Ok given
  with_items state domain given (item ∷ items) =
      unless (error_of state domain (tuples_of given) item) item.at (with_items state domain (given ++ tuples_with_value item.value (tuple_product item.parts)) items)

  -- the tuples that the items of a list give, each with the value of its item; or the fault of the
  -- first item that has an error (`error_of`). `domain` has the set of each position, if any
  abbrev pub expanded : State → List (Option ℕ) → List (Item F) → Result (ExpandedData F) SetFault
  expanded state domain items = with_items state domain [] items

  -- a reported error is right, where `meant` is the result of the data list: the error is the fault
  -- that `meant` is, or memory ran out
  abbrev pub IsFaultOf : Result (ExpandedData F) SetFault → SetFaultOrMemory → Type 0
  IsFaultOf meant Memory = Unit {0}
  IsFaultOf meant (Fault fault) = meant ≡ Err fault
