-- Which sets are controlled, and which are ordered (GAMS User's Guide, "Data Manipulation", indexed
-- operations; "Sets as Sequences: Ordered Sets"). A set is controlled by its name, and not by the
-- set that an alias stands for; this is the project's own choice.
use Rattle.std.specs.Prelude.{ℕ, Bool, false, not, ◌&&◌, ◌||◌, List, [], ◌∷◌, ◌++◌}
use Rattle.std.specs.List.{list_any}
use Rattle.gms_ast.specs.Trees.{Indices, no_index, label, set, lagged}
use Rattle.gms_store.specs.State.{base_of}
use Rattle.gms_check.specs.Uses.{Use, reading, ordinal, controlling, assigning, defining, index_sets}
use Rattle.gms_check.specs.Past.{Known, is_among, is_dynamic}
use Rattle.gms_scope.specs.Names.{is_index_set}

-- whether one of `sets` is among `controlled`, the sets that are controlled already, or occurs
-- twice
abbrev pub is_controlled_twice : List ℕ → List ℕ → Bool
is_controlled_twice controlled [] = false
is_controlled_twice controlled (name ∷ sets) = is_among controlled name || is_controlled_twice (controlled ++ name ∷ []) sets

module _ {F : Type 0} where
  -- Uncontrolled: a set that is an index of a reference, or the argument of `ord`, is not
  -- controlled
  abbrev pub uncontrolled : Known F → Use F → Bool
  uncontrolled known (reading context controlled name suffix indices) = list_any (λ index. not (is_among controlled index)) (index_sets indices)
  uncontrolled known (ordinal context controlled name) = not (is_among controlled name)
  uncontrolled known used = false

  -- ControlledTwice: a fold or a loop controls a set that is already controlled, or one set twice
  abbrev pub controlled_twice : Known F → Use F → Bool
  controlled_twice known (controlling controlled sets) = is_controlled_twice controlled sets
  controlled_twice known used = false

  -- the sets among indices that have a lag
  abbrev pub lagged_sets : Indices F → List ℕ
  lagged_sets no_index = []
  lagged_sets (label n rest) = lagged_sets rest
  lagged_sets (set name rest) = lagged_sets rest
  lagged_sets (lagged name op at amount rest) = name ∷ lagged_sets rest

  -- whether a set is ordered: one-dimensional, not dynamic, and with its labels given in the order
  -- in which labels first occur in the program
  abbrev pub is_ordered : Known F → ℕ → Bool
  is_ordered known name =
      is_index_set known.state name && (not (is_dynamic known name) && not (known.unordered (base_of known.state name)))

  -- NotOrdered: a set that is not ordered has a lag, or is the argument of `ord`
  abbrev pub not_ordered : Known F → Use F → Bool
  not_ordered known (reading context controlled name suffix indices) = list_any (λ index. not (is_ordered known index)) (lagged_sets indices)
  not_ordered known (assigning name suffix indices) = list_any (λ index. not (is_ordered known index)) (lagged_sets indices)
  not_ordered known (defining name indices) = list_any (λ index. not (is_ordered known index)) (lagged_sets indices)
  not_ordered known (ordinal context controlled name) = not (is_ordered known name)
  not_ordered known used = false
