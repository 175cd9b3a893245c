-- The tuples of a domain, position by position (GAMS User's Guide, "Data Manipulations with
-- Parameters", indexed operations).
use Rattle.std.specs.Prelude.{◌≡◌, ◌<◌, ℕ, true, List, [], ◌∷◌, length, slice_index, Ok}
use Rattle.gq_number.specs.Number.{Number}
use Rattle.gms_ast.specs.Trees.{Control, over, over_where}
use Rattle.gms_tuple.specs.TupleSet.{has}
use Rattle.gms_store.specs.State.{State, members_of}
use Rattle.gms_eval.specs.Bindings.{Pairs, controlled}
use Rattle.gms_eval.specs.Holds.{holds}

-- the tuple has one label for each set, and in this state that label is a member of the set
abbrev pub HasItsMembers : State → List ℕ → List ℕ → Type 0
HasItsMembers state sets tuple =
    (length tuple ≡ length sets) × ((i : ℕ) → i < length sets → has (members_of state (slice_index sets i)) (slice_index tuple i ∷ []) ≡ true)

-- in this state the condition of a control holds where its sets have the labels of the tuple, and
-- other sets those of `binding`; a control without a condition holds everywhere
abbrev pub IsWhereItHolds : {F : Type 0} → (F → Number) → ℕ → State → Pairs → Control F → List ℕ → Type 0
IsWhereItHolds value limit state binding (over sets) tuple = Unit {0}
IsWhereItHolds value limit state binding (over_where sets condition) tuple =
    holds value limit state (controlled binding sets tuple) condition ≡ Ok true
