-- What stays unchanged in a state if one entry of a name, or the statuses of a model, change.
use Rattle.std.specs.Prelude.{◌≡◌, ℕ, length}
use Rattle.gms_store.specs.State.{State, base_of, symbol_of}

-- From the old state to the new one, only the symbol that `name` denotes may change, and not its
-- domain: every other symbol is unchanged, each name keeps its domain and stays an alias of what it
-- was, there are as many names, and the settings stay.
pub record Keeps (old new : State) (name : ℕ) : Type 0 where
  pub others : (other : ℕ) → (base_of old other ≡ base_of old name → ⊥) → symbol_of new other ≡ symbol_of old other
  pub bases : (other : ℕ) → base_of new other ≡ base_of old other
  pub positions : (other : ℕ) → (symbol_of new other).domain ≡ (symbol_of old other).domain
  pub names : length new.symbols ≡ length old.symbols
  pub settings : new.settings ≡ old.settings
