-- Numbers put at keys in order.
use Rattle.std.proofs.Common.{◌≡◌, ℕ, ◌+◌, ◌<◌, ◌≤◌, true, false, cond, if◌then◌else◌, pos, List, [], ◌∷◌, length, get_or, drop, refl, sym, ap, ◌∙◌, subst, arith}
use Rattle.std.specs.declared.cmp.Ordering.TheVariants.{Less}
use Rattle.std.specs.List.{All}
use Rattle.std.proofs.lemmas.List.{drop_all}
use Rattle.std.proofs.lemmas.List.Elements.{All-head, All-tail}
use Rattle.gq_number.specs.Number.{Number, whole}
use Rattle.lp_form.specs.declared.key.Key.{Key}
use Rattle.lp_form.specs.Keys.{key_cmp, same_key, AreOrdered}
use Rattle.lp_form.specs.Forms.{number_at}
use Rattle.lp_form.proofs.KeyOrder.{same_key-is, same_key-Greater, key_cmp-flip, first-before, rest-ordered}
use Rattle.lp_form.proofs.LoopSteps.{drop_item}
use Rattle.lp_form.specs.Sums.{number_or}

module _ {F : Type 0} (value : F → Number) where
  -- a key before all has the other number
  or-before : (other : Number) (ks : List Key) (xs : List F) (key : Key) → All (λ k. key_cmp key k ≡ Less) ks → number_or value other ks xs key ≡ other
  or-before other [] xs key before = refl
  or-before other (k ∷ ks) [] key before = refl
  or-before other (k ∷ ks) (x ∷ xs) key before =
      ap (λ b. cond b (value x) (number_or value other ks xs key)) (same_key-Greater k key (key_cmp-flip key k Less (All-head (λ k. key_cmp key k ≡ Less) k ks before)))
      ∙ or-before other ks xs key (All-tail (λ k. key_cmp key k ≡ Less) k ks before)

  -- where the other number is 0, it is the number at the key
  pub or-zero : (ks : List Key) (xs : List F) (key : Key) → number_or value (whole (pos 0)) ks xs key ≡ number_at value ks xs key
  or-zero [] xs key = refl
  or-zero (k ∷ ks) [] key = refl
  or-zero (k ∷ ks) (x ∷ xs) key = ap (cond (same_key k key) (value x)) (or-zero ks xs key)

  -- a number put at the first key, and the others at theirs
  pub or-put : (before now : Number) (k : Key) (x : F) (ks : List Key) (xs : List F) (key : Key) → AreOrdered (k ∷ ks) → now ≡ (if same_key k key then value x else before) → number_or value now ks xs key ≡ number_or value before (k ∷ ks) (x ∷ xs) key
  or-put before now k x ks xs key ordered is =
      ap (λ n. number_or value n ks xs key) is
      ∙ elim (same_key k key) as (λ b. same_key k key ≡ b → number_or value (cond b (value x) before) ks xs key ≡ cond b (value x) (number_or value before ks xs key)) [
        | true ↦ λ same. or-before (value x) ks xs key (subst (λ j. All (λ l. key_cmp j l ≡ Less) ks) (same_key-is k key same) (first-before k ks ordered))
        | false ↦ λ _. refl
      ] refl

  -- numbers put at keys of which none was there
  pub from-none : (none_keys keys form_keys : List Key) (none_numbers numbers form_numbers : List F) (key : Key) → none_keys ≡ [] → keys ≡ form_keys → numbers ≡ form_numbers → number_or value (number_at value none_keys none_numbers key) keys numbers key ≡ number_at value form_keys form_numbers key
  from-none none_keys keys form_keys none_numbers numbers form_numbers key none k_is x_is =
      let moved : number_or value (number_at value none_keys none_numbers key) keys numbers key ≡ number_or value (whole (pos 0)) form_keys form_numbers key = λ i. number_or value (number_at value (none i) none_numbers key) (k_is i) (x_is i) key in
      moved ∙ or-zero form_keys form_numbers key

  -- the rest of the keys and numbers, put on the numbers so far, give what all of them give on the
  -- numbers at the start
  abbrev pub Putting : (Key → Number) → (Key → Number) → List Key → List F → ℕ → Type 0
  Putting start now ks xs i = (key : Key) → number_or value (now key) (drop i ks) (drop i xs) key ≡ number_or value (start key) ks xs key

  pub put-turn : (start before now : Key → Number) (ks : List Key) (xs : List F) (i : ℕ) (k copy : Key) (x : F) → i < length ks → length xs ≡ length ks → k ≡ get_or ks i k → x ≡ get_or xs i x → copy ≡ k → ((key : Key) → now key ≡ (if same_key copy key then value x else before key)) → AreOrdered (drop i ks) → Putting start before ks xs i → Putting start now ks xs (i + 1) × AreOrdered (drop (i + 1) ks)
  put-turn start before now ks xs i k copy x here paired k_is x_is copied put ordered so_far =
      let there : i < length xs = omega arith in
      let keys_from : drop i ks ≡ k ∷ drop (i + 1) ks = drop_item ks i k here k_is in
      let numbers_from : drop i xs ≡ x ∷ drop (i + 1) xs = drop_item xs i x there x_is in
      let rest : AreOrdered (k ∷ drop (i + 1) ks) = subst AreOrdered keys_from ordered in
      let moved : (key : Key) → number_or value (before key) (drop i ks) (drop i xs) key ≡ number_or value (before key) (k ∷ drop (i + 1) ks) (x ∷ drop (i + 1) xs) key = λ key. λ j. number_or value (before key) (keys_from j) (numbers_from j) key in
      (λ key. or-put (before key) (now key) k x (drop (i + 1) ks) (drop (i + 1) xs) key rest (put key ∙ ap (λ j. if same_key j key then value x else before key) copied) ∙ sym (moved key) ∙ so_far key, rest-ordered k (drop (i + 1) ks) rest)

  pub put-end : (start now : Key → Number) (ks : List Key) (xs : List F) (i : ℕ) → length ks ≤ i → Putting start now ks xs i → (key : Key) → now key ≡ number_or value (start key) ks xs key
  put-end start now ks xs i end so_far key =
      sym (ap (λ rest. number_or value (now key) rest (drop i xs) key) (drop_all i ks end)) ∙ so_far key
