-- The sums at the keys of a form that is added, and what they make of a sum.
use Rattle.std.proofs.Common.{◌≡◌, ℕ, ◌+◌, ◌<◌, ◌≤◌, true, false, cond, pos, List, [], ◌∷◌, ◌++◌, length, get_or, drop, Some, None, Result, Ok, Err, IfErr, OnErr, refl, sym, ap, ◌∙◌, subst, arith, append_assoc, length-append}
use Rattle.std.proofs.lemmas.List.{drop_all, append-nil}
use Rattle.gq_number.specs.Number.{Number, whole, ◌+ℚ◌}
use Rattle.gq_number.proofs.Field.{+ℚ-zero}
use Rattle.gq_field.specs.Fits.{fits, sum_fits}
use Rattle.lp_form.specs.declared.key.Key.{Key}
use Rattle.lp_form.specs.declared.fault.FormFault.{FormFault}
use Rattle.lp_form.specs.declared.fault.FormFault.TheVariants as fault
use Rattle.lp_form.specs.Keys.{same_key, AreOrdered}
use Rattle.lp_form.specs.Affine.{Affine, IsForm}
use Rattle.lp_form.specs.Forms.{number_at, coefficient, sum_form_step, of_two, IsEntrywiseAnswer}
use Rattle.lp_form.proofs.KeyOrder.{same_key-is, first-before, rest-ordered, before-all}
use Rattle.lp_form.proofs.Lookups.{number_at_first, number_at_before}
use Rattle.lp_form.proofs.Zeros.{sum_fits-zero}
use Rattle.lp_form.proofs.LoopSteps.{drop_item}
use Rattle.lp_form.specs.Sums.{number_or, Sums, IsUnchangedByFault}

module _ {F : Type 0} (value : F → Number) (limit : ℕ) (at : Key → Number) where
  -- these are the sums at keys
  abbrev AreSums : List Key → List F → List F → Type 0
  AreSums ks xs zs = (key : Key) → number_or value (at key) ks zs key ≡ at key +ℚ number_at value ks xs key

  first-sum : (k : Key) (x z : F) (ks : List Key) (xs zs : List F) → value z ≡ at k +ℚ value x → AreSums ks xs zs → AreSums (k ∷ ks) (x ∷ xs) (z ∷ zs)
  first-sum k x z ks xs zs is rest = λ key.
      elim (same_key k key) as (λ b. same_key k key ≡ b → cond b (value z) (number_or value (at key) ks zs key) ≡ at key +ℚ cond b (value x) (number_at value ks xs key)) [
        | true ↦ λ same. is ∙ ap (λ j. at j +ℚ value x) (same_key-is k key same)
        | false ↦ λ _. rest key
      ] refl

  rest-none : (k : Key) (ks : List Key) (xs : List F) (key : Key) → AreOrdered (k ∷ ks) → same_key k key ≡ true → number_at value ks xs key ≡ whole (pos 0)
  rest-none k ks xs key ordered same = subst (λ j. number_at value ks xs j ≡ whole (pos 0)) (same_key-is k key same) (number_at_before value ks xs k (first-before k ks ordered))

  -- the sums so far, and the keys and numbers from a place on
  pub record Summing (ks : List Key) (xs : List F) (i : ℕ) (zs : List F) : Type 0 where
    pub count : length zs ≡ i
    pub inside : i ≤ length ks
    pub ordered : AreOrdered (drop i ks)
    pub sums_are : (rest : List F) → ((key : Key) → number_or value (at key) (drop i ks) rest key ≡ at key +ℚ number_at value (drop i ks) (drop i xs) key) → (key : Key) → number_or value (at key) ks (zs ++ rest) key ≡ at key +ℚ number_at value ks xs key
    pub fits_are : (key : Key) → sum_fits limit (at key) (number_at value (drop i ks) (drop i xs) key) ≡ sum_fits limit (at key) (number_at value ks xs key)

  pub summing-start : (ks : List Key) (xs zs : List F) → zs ≡ [] → AreOrdered ks → Summing ks xs 0 zs
  summing-start ks xs zs none ordered =
      subst (Summing ks xs 0) (sym none) (record { count = refl; inside = omega arith; ordered = ordered; sums_are = λ rest is. is; fits_are = λ key. refl })

  module _ (at-fits : (key : Key) → fits limit (at key) ≡ true) where
    zero-fits : (key : Key) → sum_fits limit (at key) (whole (pos 0)) ≡ true
    zero-fits key = sum_fits-zero limit (at key) (at-fits key)

    first-fits : (k : Key) (x : F) (ks : List Key) (xs : List F) → AreOrdered (k ∷ ks) → sum_fits limit (at k) (value x) ≡ true → (key : Key) → sum_fits limit (at key) (number_at value ks xs key) ≡ sum_fits limit (at key) (number_at value (k ∷ ks) (x ∷ xs) key)
    first-fits k x ks xs ordered fit key =
        elim (same_key k key) as (λ b. same_key k key ≡ b → sum_fits limit (at key) (number_at value ks xs key) ≡ sum_fits limit (at key) (cond b (value x) (number_at value ks xs key))) [
          | true ↦ λ same. ap (sum_fits limit (at key)) (rest-none k ks xs key ordered same) ∙ zero-fits key ∙ sym (ap (λ j. sum_fits limit (at j) (value x)) (sym (same_key-is k key same)) ∙ fit)
          | false ↦ λ _. refl
        ] refl

    module _ (ks : List Key) (xs : List F) (i : ℕ) (zs : List F) (k : Key) (x : F) (here : i < length ks) (even : length xs ≡ length ks) (k_is : k ≡ get_or ks i k) (x_is : x ≡ get_or xs i x) (so_far : Summing ks xs i zs) where
      keys_from : drop i ks ≡ k ∷ drop (i + 1) ks
      keys_from = drop_item ks i k here k_is

      numbers_from : drop i xs ≡ x ∷ drop (i + 1) xs
      numbers_from = drop_item xs i x (omega arith) x_is

      from-here : AreOrdered (k ∷ drop (i + 1) ks)
      from-here = subst AreOrdered keys_from so_far.ordered

      at-here : (key : Key) → number_at value (drop i ks) (drop i xs) key ≡ number_at value (k ∷ drop (i + 1) ks) (x ∷ drop (i + 1) xs) key
      at-here key = λ j. number_at value (keys_from j) (numbers_from j) key

      pub summing-turn : (z : F) (now : List F) → now ≡ zs ++ z ∷ [] → sum_fits limit (at k) (value x) ≡ true → value z ≡ at k +ℚ value x → Summing ks xs (i + 1) now
      summing-turn z now is fit sum =
          subst (Summing ks xs (i + 1)) (sym is) (record {
            count = length-append zs (z ∷ []) ∙ ap (λ n. n + 1) so_far.count;
            inside = omega arith;
            ordered = rest-ordered k (drop (i + 1) ks) from-here;
            sums_are = λ rest are key. ap (λ all. number_or value (at key) ks all key) (append_assoc zs (z ∷ []) rest) ∙ so_far.sums_are (z ∷ rest) (λ q. ap (λ those. number_or value (at q) those (z ∷ rest) q) keys_from ∙ first-sum k x z (drop (i + 1) ks) (drop (i + 1) xs) rest sum are q ∙ ap (λ n. at q +ℚ n) (sym (at-here q))) key;
            fits_are = λ key. first-fits k x (drop (i + 1) ks) (drop (i + 1) xs) from-here fit key ∙ ap (sum_fits limit (at key)) (sym (at-here key)) ∙ so_far.fits_are key;
          })

      -- the first step that does not fit
      pub summing-stop : (copy : Key) → copy ≡ k → sum_fits limit (at k) (value x) ≡ false → Sums value limit at ks xs (Err (fault.Limit (Some copy)))
      summing-stop copy copied none =
          subst (λ key. Sums value limit at ks xs (Err (fault.Limit (Some key)))) (sym copied) (λ before less. sym (so_far.fits_are before) ∙ ap (sum_fits limit (at before)) (at-here before ∙ number_at_before value (k ∷ drop (i + 1) ks) (x ∷ drop (i + 1) xs) before (before-all before k (drop (i + 1) ks) less from-here)) ∙ zero-fits before, sym (so_far.fits_are k) ∙ ap (sum_fits limit (at k)) (at-here k ∙ number_at_first value k x (drop (i + 1) ks) (drop (i + 1) xs)) ∙ none)

    pub summing-end : (ks : List Key) (xs : List F) (i : ℕ) (zs : List F) → length ks ≤ i → Summing ks xs i zs → Sums value limit at ks xs (Ok zs)
    summing-end ks xs i zs end so_far =
        let none : drop i ks ≡ [] = drop_all i ks end in (
          omega (arith, so_far.count, so_far.inside),
          λ key. ap (λ all. number_or value (at key) ks all key) (sym (append-nil zs)) ∙ so_far.sums_are [] (λ q. ap (λ those. number_or value (at q) those [] q) none ∙ sym (+ℚ-zero (at q)) ∙ ap (λ those. at q +ℚ number_at value those (drop i xs) q) (sym none)) key,
          λ key. sym (so_far.fits_are key) ∙ ap (λ those. sum_fits limit (at key) (number_at value those (drop i xs) key)) none ∙ zero-fits key,
        )

-- ---- the whole sum

module _ {F : Type 0} (value : F → Number) (limit : ℕ) (a b : Affine F) (keys : List Key) (numbers : List F) (keys_are : keys ≡ b.keys) (numbers_are : numbers ≡ b.numbers) where
  numbers-of : (key : Key) → number_at value keys numbers key ≡ coefficient value b key
  numbers-of key = λ i. number_at value (keys_are i) (numbers_are i) key

  -- the sums put at their keys
  pub summed-Gives : (sums : List F) (now : Affine F) (held : Key → Number) → Sums value limit (coefficient value a) keys numbers (Ok sums) → ((key : Key) → held key ≡ coefficient value a key) → ((key : Key) → coefficient value now key ≡ number_or value (held key) keys sums key) → value now.constant ≡ value a.constant +ℚ value b.constant → sum_fits limit (value a.constant) (value b.constant) ≡ true → IsForm value now → IsEntrywiseAnswer value (of_two (sum_form_step limit) value a b) (Ok now)
  summed-Gives sums now held are same put constant fit form =
      (constant, λ key. put key ∙ ap (λ n. number_or value n keys sums key) (same key) ∙ are.1 key ∙ ap (λ n. coefficient value a key +ℚ n) (numbers-of key), fit, λ key. ap (sum_fits limit (coefficient value a key)) (sym (numbers-of key)) ∙ are.2 key, form)

  -- the fault of a step
  pub summed-fault : (fault : FormFault) → Sums value limit (coefficient value a) keys numbers (Err fault) → sum_fits limit (value a.constant) (value b.constant) ≡ true → IsEntrywiseAnswer value (of_two (sum_form_step limit) value a b) (Err fault)
  summed-fault (fault.Limit None) stops fit = absurd stops
  summed-fault (fault.Limit (Some key)) stops fit =
      (fit, λ before less. ap (sum_fits limit (coefficient value a before)) (sym (numbers-of before)) ∙ stops.0 before less, ap (sum_fits limit (coefficient value a key)) (sym (numbers-of key)) ∙ stops.1)
  summed-fault fault.Memory stops fit = tt

-- what stays is kept
pub kept-same : {F : Type 0} (a : Affine F) (fault : FormFault) → IsUnchangedByFault a a fault
kept-same a (fault.Limit key) = refl
kept-same a fault.Memory = tt

pub kept-err : {F : Type 0} (before now : Affine F) (r : Result (Unit {0}) FormFault) → OnErr r (now ≡ before) → IfErr r (IsUnchangedByFault before now)
kept-err before now (Ok u) same = tt
kept-err before now (Err (fault.Limit key)) same = same
kept-err before now (Err fault.Memory) same = tt
