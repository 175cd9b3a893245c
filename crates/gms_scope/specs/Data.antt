-- Data that are written to a name or removed, and the order of labels (GAMS User's Guide, "Data
-- Entry: Parameters, Scalars and Tables"; "Sets as Sequences: Ordered Sets").
use Rattle.std.specs.Prelude.{ℕ, ◌+◌, Bool, true, ◌&&◌, nat_lt, List, [], ◌∷◌, fold, flat_map, Option, Some, None, if◌then◌else◌}
use Rattle.std.specs.FinMap as finite
use Rattle.gq_number.specs.Number.{Number}
use Rattle.gq_extended.specs.Meaning.{extended}
use Rattle.gq_extended.specs.declared.extended.Ext.{Ext}
use Rattle.gms_ast.specs.declared.declaration.Item.{Item}
use Rattle.gms_store.specs.State.{State, Content, set_of, parameter_of, symbol_of, with_symbol, with_content, after_membership, after_value}

-- the content without data: a set without members, or a parameter without values; any other content
-- is unchanged
abbrev pub empty_content : Content → Content
empty_content (set_of members) = set_of []
empty_content (parameter_of entries) = parameter_of finite.empty
empty_content content = content

-- the state after all data of this name were removed: the members of a set, or the values of a
-- parameter; unchanged if the name is neither
abbrev pub with_no_data : State → ℕ → State
with_no_data state name = with_symbol state name (with_content (symbol_of state name) (empty_content (symbol_of state name).content))

-- whether each number is less than the next
abbrev pub is_ascending : List ℕ → Bool
is_ascending [] = true
is_ascending (n ∷ []) = true
is_ascending (n ∷ m ∷ ns) = nat_lt n m && is_ascending (m ∷ ns)

-- the least number that may follow these numbers in an ascending list of numbers that are `least`
-- or more; None if these numbers are no such list
abbrev pub least_after : ℕ → List ℕ → Option ℕ
least_after least [] = Some least
least_after least (n ∷ ns) = if nat_lt n least then None else least_after (n + 1) ns

module _ {F : Type 0} where
  -- the labels of items, by their numbers, in the order in which they are written, with all members
  -- of each range
  abbrev pub labels_of_items : List (Item F) → List ℕ
  labels_of_items items = flat_map (λ (item : Item F). flat_map (λ labels. labels) item.parts) items

module _ {F : Type 0} (value : F → Number) where
  -- the state after one datum of a name: without a value, the tuple is inserted into the set; with
  -- one, the parameter gets it at the tuple
  abbrev pub with_datum : ℕ → State → List ℕ × Option (Ext F) → State
  with_datum name state (tuple, None) = after_membership state name tuple true
  with_datum name state (tuple, Some x) = after_value state name tuple (extended value x)

  -- the state after the data `given` were written to `name`, one by one, in order
  abbrev pub given_to : ℕ → State → List (List ℕ × Option (Ext F)) → State
  given_to name state given = fold (with_datum name) state given
