-- When two states declare their names alike (GAMS User's Guide, "Save and Restart").
use Rattle.std.specs.Prelude.{◌≡◌, ℕ, length}
use Rattle.gms_store.specs.State.{State, symbol_of, base_of}

-- Two states declare a name alike: with the same number of positions and, if it is an alias, of the
-- same set.
pub record IsAlike (one other : State) (name : ℕ) : Type 0 where
  pub base : base_of one name ≡ base_of other name
  pub positions : length (symbol_of one name).domain ≡ length (symbol_of other name).domain
