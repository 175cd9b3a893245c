-- Answers that are a value exactly where something holds.
use Rattle.std.proofs.Common.{◌≡◌, Option, Some, None}
use Rattle.std.specs.Option.{SomeIff}

pub SomeIff-none : {X : Type 0} (r : Option X) (P : Type 0) (v : X) → r ≡ None → ¬ P → SomeIff r P v
SomeIff-none None P v e h = h
SomeIff-none (Some x) P v e h = cc

-- of two answers that hold at the same time, and whose values are the same, one is the other
pub SomeIff-same : {X : Type 0} (r : Option X) (P Q : Type 0) (v w : X) → (P → Q) → (Q → P) → v ≡ w → SomeIff r P v → SomeIff r Q w
SomeIff-same None P Q v w f g e h = λ q. h (g q)
SomeIff-same (Some x) P Q v w f g e h = (f h.0, cc)
