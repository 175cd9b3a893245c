-- Sums of affine forms, which are extended in place.
use Rattle.std.specs.Prelude.{◌≡◌, ℕ, true, false, List, [], ◌∷◌, length, Some, None, Result, Ok, Err, if◌then◌else◌}
use Rattle.std.specs.declared.cmp.Ordering.TheVariants.{Less}
use Rattle.gq_number.specs.Number.{Number, ◌+ℚ◌}
use Rattle.gq_field.specs.Fits.{sum_fits}
use Rattle.lp_form.specs.declared.fault.FormFault.{FormFault}
use Rattle.lp_form.specs.declared.fault.FormFault.TheVariants as fault
use Rattle.lp_form.specs.declared.key.Key.{Key}
use Rattle.lp_form.specs.Affine.{Affine}
use Rattle.lp_form.specs.Forms.{number_at}
use Rattle.lp_form.specs.Keys.{key_cmp, same_key}

-- the number of a key in parallel lists: the keys, and a value of the field `F` for each, of which
-- `value` gives the number; `other` if the key has no value in them
abbrev pub number_or : {F : Type 0} → (F → Number) → Number → List Key → List F → Key → Number
number_or value other [] numbers key = other
number_or value other (k ∷ keys) [] key = other
number_or value other (k ∷ keys) (x ∷ numbers) key =
    if same_key k key then value x else number_or value other keys numbers key

-- What a fault of an addition does to a sum, which is `before` before it and `now` after it. Limit,
-- where a number exceeds the field's limit of size: the sum is unchanged. Memory, which is out of
-- memory: the sum may have any value.
abbrev pub IsUnchangedByFault : {F : Type 0} → Affine F → Affine F → FormFault → Type 0
IsUnchangedByFault before now (fault.Limit key) = now ≡ before
IsUnchangedByFault before now fault.Memory = Unit {0}

-- The answer of adding `numbers`, each at its key in `keys`, to a sum, which has the number `at
-- key` at each key. An addition fits if no integer that it computes exceeds `limit` in magnitude.
-- Ok: each addition fits, and the results are the totals at the listed keys. Limit: the first key
-- in order whose addition does not fit; Limit without a key is no answer. Memory (out of memory)
-- may be the answer at any time.
abbrev pub Sums : {F : Type 0} → (F → Number) → ℕ → (Key → Number) → List Key → List F → Result (List F) FormFault → Type 0
Sums value limit at keys numbers (Ok sums) =
    (length sums ≡ length keys) × ((key : Key) → number_or value (at key) keys sums key ≡ at key +ℚ number_at value keys numbers key) × ((key : Key) → sum_fits limit (at key) (number_at value keys numbers key) ≡ true)
Sums value limit at keys numbers (Err (fault.Limit None)) = ⊥
Sums value limit at keys numbers (Err (fault.Limit (Some key))) =
    ((before : Key) → key_cmp before key ≡ Less → sum_fits limit (at before) (number_at value keys numbers before) ≡ true) × (sum_fits limit (at key) (number_at value keys numbers key) ≡ false)
Sums value limit at keys numbers (Err fault.Memory) = Unit {0}
