-- What a list of zeros and a call without memory leave for a new value.
use Rattle.std.proofs.Common.{◌≡◌, ℕ, zero, suc, Result, Ok, Err, IsErr, IfOk, replicate, refl}
use Rattle.std.specs.Prelude.{slice_index_or}

-- an error has no value for which anything is to be shown
pub no_value : {T E : Type 0} (r : Result T E) (P : T → Type 0) → IsErr r → IfOk r P
no_value (Err e) P _ = tt
no_value (Ok x) P is = absurd cc

-- no place of zeros has another number
pub zeros : (n place : ℕ) → slice_index_or (replicate n zero) place zero ≡ zero
zeros zero place = refl
zeros (suc n) zero = refl
zeros (suc n) (suc place) = zeros n place
