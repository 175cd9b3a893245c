use Rattle.std.proofs.Common.{◌≡◌, ℕ, List, [], ◌∷◌, false, None, refl, sym}
use Rattle.std.specs.List.{list_any}
use Rattle.gms_store.specs.State.{State}
use Rattle.gms_set.specs.Expansion.{is_outside}
use Rattle.gms_set.proofs.outside.is_part_outside.Goals as goal

-- a position without a set takes any label
none-outside : (state : State) (labels : List ℕ) → list_any (is_outside state None) labels ≡ false
none-outside state [] = refl
none-outside state (label ∷ labels) = none-outside state labels

pub returns-in_default : goal.returns-in_default
returns-in_default g c = rw c.in_default.is (sym (none-outside c.args.store.now c.args.labels.now))
