-- Index sets and labels against the positions of a name (GAMS User's Guide, "Set Definition",
-- domain checking).
use Rattle.std.specs.Prelude.{ℕ, Bool, false, not, ◌||◌, List, [], ◌∷◌, Option}
use Rattle.gms_ast.specs.Trees.{Indices, label, set, lagged}
use Rattle.gms_store.specs.State.{State}
use Rattle.gms_scope.specs.Below.{set_fits_position, label_fits_position}

module _ {F : Type 0} where
  -- whether some set among these indices of `name` does not fit its position. The list has, in
  -- order, the set of each position, None for one that admits any label; indices past its end are
  -- not checked. A set fits if the position's set is one-dimensional and declared before `name`,
  -- and is the index, the index's domain set, the domain set of that, or so on. `declared` are the
  -- declared names, in order; `above` gives the domain set of each set, if any
  abbrev pub have_unfit_set : State → List ℕ → (ℕ → Option ℕ) → ℕ → List (Option ℕ) → Indices F → Bool
  have_unfit_set state declared above name (position ∷ rest) (label n indices) = have_unfit_set state declared above name rest indices
  have_unfit_set state declared above name (position ∷ rest) (set index indices) =
      not (set_fits_position state declared above name position index) || have_unfit_set state declared above name rest indices
  have_unfit_set state declared above name (position ∷ rest) (lagged index op at amount indices) =
      not (set_fits_position state declared above name position index) || have_unfit_set state declared above name rest indices
  have_unfit_set state declared above name domain indices = false

  -- whether some label among these indices of `name` does not fit its position: it is no member of
  -- the position's set, or this set is not one-dimensional or not declared before `name`. The list
  -- has, in order, the set of each position, None for one that admits any label; indices past its
  -- end are not checked. `declared` are the declared names, in order
  abbrev pub have_unfit_label : State → List ℕ → ℕ → List (Option ℕ) → Indices F → Bool
  have_unfit_label state declared name (position ∷ rest) (label n indices) =
      not (label_fits_position state declared name position n) || have_unfit_label state declared name rest indices
  have_unfit_label state declared name (position ∷ rest) (set index indices) = have_unfit_label state declared name rest indices
  have_unfit_label state declared name (position ∷ rest) (lagged index op at amount indices) =
      have_unfit_label state declared name rest indices
  have_unfit_label state declared name domain indices = false
