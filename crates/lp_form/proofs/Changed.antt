-- What a change of each number makes has the changed number at each key.
use Rattle.std.proofs.Common.{◌≡◌, ◌≢◌, suc, true, false, pos, cond, List, ◌∷◌, length, Ok, Err, refl, sym, ap, ◌∙◌, subst}
use Rattle.std.specs.declared.cmp.Ordering.TheVariants.{Less}
use Rattle.std.specs.List.{All}
use Rattle.std.proofs.lemmas.Bool.{both_ways}
use Rattle.std.proofs.lemmas.List.Elements.{All-cons, All-head, All-tail, All-nil}
use Rattle.gq_number.specs.Number.{Number, whole}
use Rattle.lp_form.specs.declared.key.Key.{Key}
use Rattle.lp_form.specs.Keys.{key_cmp, same_key, AreOrdered}
use Rattle.lp_form.specs.Forms.{number_at, Step}
use Rattle.lp_form.specs.InnerMerging.{Side, Outcome, values_first, Changes, no_more, kept, dropped, halted}
use Rattle.lp_form.proofs.KeyOrder.{same_key-is, first-before, rest-ordered, ordered-nil, before-all}
use Rattle.lp_form.proofs.Lookups.{number_at_first, number_at_before}
use Rattle.lp_form.proofs.Merged.{IfMade, with_prefix, prefix, ordered_prefix}

module _ {F : Type 0} (value : F → Number) (step : Number → Step) where
  -- what is made comes after whatever comes before the list
  changed-after : (low : Key) {ks : List Key} {xs : List F} {r : Outcome F} → Changes value step ks xs r → All (λ k. key_cmp low k ≡ Less) ks → IfMade (λ made. All (λ m. key_cmp low m ≡ Less) made.keys) r
  unfolding IfMade with_prefix
  changed-after low no_more before = All-nil (λ m. key_cmp low m ≡ Less)
  changed-after low (kept {k} {x} {z} {ks} {xs} {r} fits is some m) before =
      prefix k z _ _ r (λ made h. All-cons (λ m. key_cmp low m ≡ Less) k made.keys (All-head (λ k. key_cmp low k ≡ Less) k ks before) h) (changed-after low m (All-tail (λ k. key_cmp low k ≡ Less) k ks before))
  changed-after low (dropped {k} {x} {ks} {xs} {r} fits is m) before = changed-after low m (All-tail (λ k. key_cmp low k ≡ Less) k ks before)
  changed-after low (halted none) before = tt

  pub changed-ordered : {ks : List Key} {xs : List F} {r : Outcome F} → Changes value step ks xs r → AreOrdered ks → IfMade (λ made. AreOrdered made.keys) r
  unfolding IfMade with_prefix
  changed-ordered no_more ordered = ordered-nil
  changed-ordered (kept {k} {x} {z} {ks} {xs} {r} fits is some m) ordered =
      ordered_prefix k z r (changed-after k m (first-before k ks ordered)) (changed-ordered m (rest-ordered k ks ordered))
  changed-ordered (dropped {k} {x} {ks} {xs} {r} fits is m) ordered = changed-ordered m (rest-ordered k ks ordered)
  changed-ordered (halted none) ordered = tt

  pub changed-paired : {ks : List Key} {xs : List F} {r : Outcome F} → Changes value step ks xs r → IfMade (λ made. length made.numbers ≡ length made.keys) r
  unfolding IfMade with_prefix
  changed-paired no_more = refl
  changed-paired (kept {k} {x} {z} {ks} {xs} {r} fits is some m) = prefix k z _ _ r (λ made h. ap suc h) (changed-paired m)
  changed-paired (dropped fits is m) = changed-paired m
  changed-paired (halted none) = tt

  pub changed-not_zero : {ks : List Key} {xs : List F} {r : Outcome F} → Changes value step ks xs r → IfMade (λ made. All (λ x. value x ≢ whole (pos 0)) made.numbers) r
  unfolding IfMade with_prefix
  changed-not_zero no_more = All-nil (λ x. value x ≢ whole (pos 0))
  changed-not_zero (kept {k} {x} {z} {ks} {xs} {r} fits is some m) = prefix k z _ _ r (λ made h. All-cons (λ x. value x ≢ whole (pos 0)) z made.numbers some h) (changed-not_zero m)
  changed-not_zero (dropped fits is m) = changed-not_zero m
  changed-not_zero (halted none) = tt

  module _ (zero_fits : (step (whole (pos 0))).fits ≡ true) (zero_is : (step (whole (pos 0))).number ≡ whole (pos 0)) where
    -- the changed number at each key, each of which fits; or the first key whose step does not fit
    unfoldable pub TellsChanged : List Key → List F → Outcome F → Type 0
    TellsChanged ks xs (Ok made) = (key : Key) → (number_at value made.keys made.numbers key ≡ (step (number_at value ks xs key)).number) × ((step (number_at value ks xs key)).fits ≡ true)
    TellsChanged ks xs (Err key) =
        ((before : Key) → key_cmp before key ≡ Less → (step (number_at value ks xs before)).fits ≡ true) × ((step (number_at value ks xs key)).fits ≡ false)

    FitsAt : List Key → List F → Key → Type 0
    FitsAt ks xs key = (step (number_at value ks xs key)).fits ≡ true

    fits_at_none : (ks : List Key) (xs : List F) (key : Key) → number_at value ks xs key ≡ whole (pos 0) → FitsAt ks xs key
    unfolding FitsAt
    fits_at_none ks xs key e = rw e zero_fits

    module _ (k : Key) (x : F) (ks : List Key) (xs : List F) (ordered : AreOrdered (k ∷ ks)) where
      rest_none : (key : Key) → same_key k key ≡ true → number_at value ks xs key ≡ whole (pos 0)
      rest_none key same = number_at_before value ks xs key (subst (λ j. All (λ l. key_cmp j l ≡ Less) ks) (same_key-is k key same) (first-before k ks ordered))

      kept_fits : (key : Key) → (step (value x)).fits ≡ true → FitsAt ks xs key → FitsAt (k ∷ ks) (x ∷ xs) key
      unfolding FitsAt
      kept_fits key here h = elim (same_key k key) as (λ b. (step (cond b (value x) (number_at value ks xs key))).fits ≡ true) [ true ↦ here | false ↦ h ]

      kept_number : (z : F) (made : Side F) (key : Key) → value z ≡ (step (value x)).number → number_at value made.keys made.numbers key ≡ (step (number_at value ks xs key)).number → number_at value (k ∷ made.keys) (z ∷ made.numbers) key ≡ (step (number_at value (k ∷ ks) (x ∷ xs) key)).number
      kept_number z made key here h =
          elim (same_key k key) as (λ b. cond b (value z) (number_at value made.keys made.numbers key) ≡ (step (cond b (value x) (number_at value ks xs key))).number) [ true ↦ here | false ↦ h ]

      gone_number : (made : Side F) (key : Key) → All (λ m. key_cmp k m ≡ Less) made.keys → (step (value x)).number ≡ whole (pos 0) → number_at value made.keys made.numbers key ≡ (step (number_at value ks xs key)).number → number_at value made.keys made.numbers key ≡ (step (number_at value (k ∷ ks) (x ∷ xs) key)).number
      gone_number made key apart here h =
          elim (same_key k key) as (λ b. same_key k key ≡ b → number_at value made.keys made.numbers key ≡ (step (cond b (value x) (number_at value ks xs key))).number) [
            | true ↦ λ same. number_at_before value made.keys made.numbers key (subst (λ j. All (λ m. key_cmp j m ≡ Less) made.keys) (same_key-is k key same) apart) ∙ sym here
            | false ↦ λ _. h
          ] refl

      kept_stop : (key : Key) → (step (number_at value ks xs key)).fits ≡ false → (step (number_at value (k ∷ ks) (x ∷ xs) key)).fits ≡ false
      unfolding FitsAt
      kept_stop key h =
          elim (same_key k key) as (λ b. same_key k key ≡ b → (step (cond b (value x) (number_at value ks xs key))).fits ≡ false) [
            | true ↦ λ same. let holds = fits_at_none ks xs key (rest_none key same) in absurd (both_ways (step (number_at value ks xs key)).fits h holds)
            | false ↦ λ _. h
          ] refl

    told_kept : (k : Key) (x z : F) (ks : List Key) (xs : List F) (r : Outcome F) → AreOrdered (k ∷ ks) → (step (value x)).fits ≡ true → value z ≡ (step (value x)).number → TellsChanged ks xs r → TellsChanged (k ∷ ks) (x ∷ xs) (values_first k z r)
    unfolding TellsChanged FitsAt
    told_kept k x z ks xs (Ok made) ordered fits is h = λ key. (kept_number k x ks xs ordered z made key is (h key).0, kept_fits k x ks xs ordered key fits (h key).1)
    told_kept k x z ks xs (Err key) ordered fits is h = (λ before less. kept_fits k x ks xs ordered before fits (h.0 before less), kept_stop k x ks xs ordered key h.1)

    told_gone : (k : Key) (x : F) (ks : List Key) (xs : List F) (r : Outcome F) → AreOrdered (k ∷ ks) → IfMade (λ made. All (λ m. key_cmp k m ≡ Less) made.keys) r → (step (value x)).fits ≡ true → (step (value x)).number ≡ whole (pos 0) → TellsChanged ks xs r → TellsChanged (k ∷ ks) (x ∷ xs) r
    unfolding TellsChanged FitsAt IfMade
    told_gone k x ks xs (Ok made) ordered apart fits is h = λ key. (gone_number k x ks xs ordered made key apart is (h key).0, kept_fits k x ks xs ordered key fits (h key).1)
    told_gone k x ks xs (Err key) ordered apart fits is h = (λ before less. kept_fits k x ks xs ordered before fits (h.0 before less), kept_stop k x ks xs ordered key h.1)

    pub changed-tells : {ks : List Key} {xs : List F} {r : Outcome F} → Changes value step ks xs r → AreOrdered ks → TellsChanged ks xs r
    unfolding TellsChanged FitsAt
    changed-tells no_more ordered = λ key. (sym zero_is, zero_fits)
    changed-tells (kept {k} {x} {z} {ks} {xs} {r} fits is some m) ordered = told_kept k x z ks xs r ordered fits is (changed-tells m (rest-ordered k ks ordered))
    changed-tells (dropped {k} {x} {ks} {xs} {r} fits is m) ordered = told_gone k x ks xs r ordered (changed-after k m (first-before k ks ordered)) fits is (changed-tells m (rest-ordered k ks ordered))
    changed-tells (halted {k} {x} {ks} {xs} none) ordered =
        (λ before less. fits_at_none (k ∷ ks) (x ∷ xs) before (number_at_before value (k ∷ ks) (x ∷ xs) before (before-all before k ks less ordered)), rw (number_at_first value k x ks xs) none)
