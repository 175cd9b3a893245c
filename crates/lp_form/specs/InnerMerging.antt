-- How two lists of keys with their numbers merge into one, and how one list is changed: what the
-- functions promise each other.
use Rattle.std.specs.Prelude.{◌≡◌, ◌≢◌, ◌⊎◌, ℕ, pos, true, false, List, [], ◌∷◌, ◌++◌, Option, Some, None, Result, Ok, Err}
use Rattle.std.specs.declared.cmp.Ordering.TheVariants.{Less, Equal}
use Rattle.gq_number.specs.Number.{Number, whole, ◌+ℚ◌}
use Rattle.gq_field.specs.Fits.{sum_fits}
use Rattle.lp_form.specs.declared.key.Key.{Key}
use Rattle.lp_form.specs.declared.fault.FormFault.{FormFault}
use Rattle.lp_form.specs.declared.fault.FormFault.TheVariants as fault
use Rattle.lp_form.specs.declared.terms.Terms.{Terms}
use Rattle.lp_form.specs.declared.terms.Turn.{Turn}
use Rattle.lp_form.specs.declared.terms.Turn.TheVariants as turn
use Rattle.lp_form.specs.Keys.{key_cmp}
use Rattle.lp_form.specs.Forms.{Step}

-- the key comes before the first of these, if there is one
abbrev pub IsBeforeFirst : Key → List Key → Type 0
IsBeforeFirst k [] = Unit {0}
IsBeforeFirst k (l ∷ ls) = key_cmp k l ≡ Less

-- from which of two lists the next key comes; none if both are empty
abbrev pub Comes : List Key → List Key → Option Turn → Type 0
Comes [] [] None = Unit {0}
Comes (k ∷ ks) ls (Some turn.Left) = IsBeforeFirst k ls
Comes ks (l ∷ ls) (Some turn.Right) = IsBeforeFirst l ks
Comes (k ∷ ks) (l ∷ ls) (Some turn.Both) = key_cmp k l ≡ Equal
Comes ks ls turn = ⊥

-- Keys with their numbers, in parallel lists.
pub record Side (F : Type 0) : Type 0 where
  pub keys : List Key
  pub numbers : List F

-- the result of a merge, or the key at which a step does not fit
abbrev pub Outcome : Type 0 → Type 0
Outcome F = Result (Side F) Key

-- an entry put before a result
abbrev pub values_first : {F : Type 0} → Key → F → Outcome F → Outcome F
values_first k x (Ok made) = Ok (record { keys = k ∷ made.keys; numbers = x ∷ made.numbers })
values_first k x (Err key) = Err key

-- the result so far, followed by another result
abbrev pub after : {F : Type 0} → List Key → List F → Outcome F → Outcome F
after keys numbers (Ok made) = Ok (record { keys = keys ++ made.keys; numbers = numbers ++ made.numbers })
after keys numbers (Err key) = Err key

-- a function's result as an outcome; out of memory is none
abbrev pub OnOutcome : {F : Type 0} → (Outcome F → Type 0) → Result (Terms F) FormFault → Type 0
OnOutcome P (Ok terms) = P (Ok (record { keys = terms.keys.items; numbers = terms.numbers.items }))
OnOutcome P (Err (fault.Limit None)) = ⊥
OnOutcome P (Err (fault.Limit (Some key))) = P (Err key)
OnOutcome P (Err fault.Memory) = Unit {0}

-- the outcome of a merge in place: the keys and numbers after it, or the fault
abbrev pub Joins : {F : Type 0} → (Outcome F → Type 0) → List Key → List F → Result (Unit {0}) FormFault → Type 0
Joins P keys numbers (Ok u) = P (Ok (record { keys = keys; numbers = numbers }))
Joins P keys numbers (Err fault) = OnOutcome P (Err fault)

-- the key and its number are appended, unless the number is 0
abbrev pub PushesUnlessZero : {F : Type 0} → (F → Number) → Key → F → Terms F → Terms F → Type 0
PushesUnlessZero value key x before now =
    ((value x ≢ whole (pos 0)) × (now.keys.items ≡ before.keys.items ++ key ∷ []) × (now.numbers.items ≡ before.numbers.items ++ x ∷ [])) ⊎ ((value x ≡ whole (pos 0)) × (now.keys.items ≡ before.keys.items) × (now.numbers.items ≡ before.numbers.items))

-- the entries of two sides in the order of keys, with the numbers of one key added; a sum of 0 is
-- left out
pub data Merges {F : Type 0} (value : F → Number) (limit : ℕ) : List Key → List F → List Key → List F → Outcome F → Type 0 where
  done : Merges value limit [] [] [] [] (Ok (record { keys = []; numbers = [] }))
  left : {k : Key} {x : F} {ks : List Key} {xs : List F} {ls : List Key} {ys : List F} {r : Outcome F} → IsBeforeFirst k ls → Merges value limit ks xs ls ys r → Merges value limit (k ∷ ks) (x ∷ xs) ls ys (values_first k x r)
  right : {l : Key} {y : F} {ks : List Key} {xs : List F} {ls : List Key} {ys : List F} {r : Outcome F} → IsBeforeFirst l ks → Merges value limit ks xs ls ys r → Merges value limit ks xs (l ∷ ls) (y ∷ ys) (values_first l y r)
  both : {k l : Key} {x y z : F} {ks : List Key} {xs : List F} {ls : List Key} {ys : List F} {r : Outcome F} → key_cmp k l ≡ Equal → sum_fits limit (value x) (value y) ≡ true → value z ≡ value x +ℚ value y → value z ≢ whole (pos 0) → Merges value limit ks xs ls ys r → Merges value limit (k ∷ ks) (x ∷ xs) (l ∷ ls) (y ∷ ys) (values_first k z r)
  gone : {k l : Key} {x y : F} {ks : List Key} {xs : List F} {ls : List Key} {ys : List F} {r : Outcome F} → key_cmp k l ≡ Equal → sum_fits limit (value x) (value y) ≡ true → value x +ℚ value y ≡ whole (pos 0) → Merges value limit ks xs ls ys r → Merges value limit (k ∷ ks) (x ∷ xs) (l ∷ ls) (y ∷ ys) r
  stopped : {k l : Key} {x y : F} {ks : List Key} {xs : List F} {ls : List Key} {ys : List F} → key_cmp k l ≡ Equal → sum_fits limit (value x) (value y) ≡ false → Merges value limit (k ∷ ks) (x ∷ xs) (l ∷ ls) (y ∷ ys) (Err k)

-- each number of a side changed by a step; a number of 0 is left out
pub data Changes {F : Type 0} (value : F → Number) (step : Number → Step) : List Key → List F → Outcome F → Type 0 where
  no_more : Changes value step [] [] (Ok (record { keys = []; numbers = [] }))
  kept : {k : Key} {x z : F} {ks : List Key} {xs : List F} {r : Outcome F} → (step (value x)).fits ≡ true → value z ≡ (step (value x)).number → value z ≢ whole (pos 0) → Changes value step ks xs r → Changes value step (k ∷ ks) (x ∷ xs) (values_first k z r)
  dropped : {k : Key} {x : F} {ks : List Key} {xs : List F} {r : Outcome F} → (step (value x)).fits ≡ true → (step (value x)).number ≡ whole (pos 0) → Changes value step ks xs r → Changes value step (k ∷ ks) (x ∷ xs) r
  halted : {k : Key} {x : F} {ks : List Key} {xs : List F} → (step (value x)).fits ≡ false → Changes value step (k ∷ ks) (x ∷ xs) (Err k)

-- the fault of a step that does not fit at a key, or out of memory
abbrev pub IsFaultAt : Key → FormFault → Type 0
IsFaultAt key (fault.Limit at) = at ≡ Some key
IsFaultAt key fault.Memory = Unit {0}
