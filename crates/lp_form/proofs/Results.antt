-- The merges compute what the calls on forms promise.
use Rattle.std.proofs.Common.{◌≡◌, ◌≢◌, ℕ, zero, suc, ◌≤◌, true, false, pos, cond, List, [], ◌∷◌, ◌++◌, length, map, get_or, Some, None, Result, Ok, Err, refl, inl, inr, sym, ap, ◌∙◌, subst, arith}
use Rattle.std.specs.declared.cmp.Ordering.{Ordering}
use Rattle.std.specs.declared.cmp.Ordering.TheVariants.{Less, Equal, Greater}
use Rattle.std.specs.List.{All}
use Rattle.std.specs.List.Sorted.{IsBinarySearchResult, IsNonDecreasingBy}
use Rattle.std.specs.Ordering.{ordering_index}
use Rattle.std.proofs.lemmas.List.Elements.{All-head, All-tail, All-cons, All-nil, All-get_or}
use Rattle.std.proofs.lemmas.Bool.{cases_lt}
use Rattle.gq_number.specs.Number.{Number, whole, ◌+ℚ◌, ◌/ℚ◌, neg_ℚ}
use Rattle.gq_number.proofs.Field.{/ℚ_is, -ℚ_is}
use Rattle.gq_number.proofs.Ring.{neg-zero, neg_neg, zero-*ℚ}
use Rattle.gq_field.specs.Fits.{fits, sum_fits}
use Rattle.lp_form.specs.declared.key.Key.{Key}
use Rattle.lp_form.specs.declared.fault.FormFault.{FormFault}
use Rattle.lp_form.specs.declared.fault.FormFault.TheVariants as fault
use Rattle.lp_form.specs.declared.terms.Operation.{Operation}
use Rattle.lp_form.specs.declared.terms.Operation.TheVariants.{Times, Over}
use Rattle.lp_form.specs.Keys.{key_cmp, same_key, AreOrdered}
use Rattle.lp_form.specs.Affine.{Affine, IsForm}
use Rattle.lp_form.specs.Forms.{number_at, coefficient, sum_form_step, difference_step, of_two, changed_form, IsEntrywiseAnswer, IsNegated}
use Rattle.lp_form.specs.InnerOperations.{step_by}
use Rattle.lp_form.specs.InnerMerging.{IsBeforeFirst, OnOutcome, Merges, done, left, right, Changes}
use Rattle.lp_form.proofs.KeyOrder.{key_cmp-total, key_cmp-Equal, same_key-Less, same_key-Greater, same_key_refl, first-before, rest-ordered, ordered-cons, ordered-nil}
use Rattle.lp_form.proofs.Zeros.{fits-zero}
use Rattle.lp_form.proofs.Merged.{IfMade, merged-ordered, merged-paired, merged-not_zero, Tells, merged-tells}
use Rattle.lp_form.proofs.Changed.{changed-ordered, changed-paired, changed-not_zero, TellsChanged, changed-tells}

affine : {F : Type 0} → F → List Key → List F → Affine F
affine c keys numbers = record { constant = c; keys = keys; numbers = numbers }

-- no keys and no numbers are a form
pub no_entries : {F : Type 0} (value : F → Number) (c : F) (keys : List Key) (numbers : List F) → keys ≡ [] → numbers ≡ [] → IsForm value (record { constant = c; keys = keys; numbers = numbers })
no_entries value c keys numbers e f = rw (e, f) (record { ordered = ordered-nil; paired = refl; not_zero = All-nil (λ x. value x ≢ whole (pos 0)) })

-- one key with a number that is not 0 is a form
pub one_entry : {F : Type 0} (value : F → Number) (c : F) (keys : List Key) (numbers : List F) (k : Key) (x : F) → keys ≡ k ∷ [] → numbers ≡ x ∷ [] → value x ≢ whole (pos 0) → IsForm value (record { constant = c; keys = keys; numbers = numbers })
one_entry value c keys numbers k x e f some =
    rw (e, f) (record {
      ordered = ordered-cons k [] (All-nil (λ l. key_cmp k l ≡ Less)) ordered-nil;
      paired = refl;
      not_zero = All-cons (λ x. value x ≢ whole (pos 0)) x [] some (All-nil (λ x. value x ≢ whole (pos 0)));
    })

-- ---- the sum of two forms

module _ {F : Type 0} (value : F → Number) (limit : ℕ) where
  -- the entries of the right side alone
  only_right : (ls : List Key) (ys : List F) → length ys ≡ length ls → Merges value limit [] [] ls ys (Ok (record { keys = ls; numbers = ys }))
  only_right [] [] e = done
  only_right [] (y ∷ ys) e = absurd (omega arith)
  only_right (l ∷ ls) [] e = absurd (omega arith)
  only_right (l ∷ ls) (y ∷ ys) e = right tt (only_right ls ys (omega arith))

  -- two sides, one of which comes after the other, merge by appending it
  pub push_absent : (ks : List Key) (xs : List F) (ls : List Key) (ys : List F) → length xs ≡ length ks → length ys ≡ length ls → All (λ k. IsBeforeFirst k ls) ks → Merges value limit ks xs ls ys (Ok (record { keys = ks ++ ls; numbers = xs ++ ys }))
  push_absent [] [] ls ys e f before = only_right ls ys f
  push_absent [] (x ∷ xs) ls ys e f before = absurd (omega arith)
  push_absent (k ∷ ks) [] ls ys e f before = absurd (omega arith)
  push_absent (k ∷ ks) (x ∷ xs) ls ys e f before =
      left (All-head (λ k. IsBeforeFirst k ls) k ks before) (push_absent ks xs ls ys (omega arith) f (All-tail (λ k. IsBeforeFirst k ls) k ks before))

  -- what is made of two forms is a form
  pub merged-IsForm : (c : F) (a b : Affine F) (keys : List Key) (numbers : List F) → IsForm value a → IsForm value b → Merges value limit a.keys a.numbers b.keys b.numbers (Ok (record { keys = keys; numbers = numbers })) → IsForm value (record { constant = c; keys = keys; numbers = numbers })
  unfolding IfMade
  merged-IsForm c a b keys numbers form other m =
      record {
        ordered = merged-ordered value limit m form.ordered other.ordered;
        paired = merged-paired value limit m;
        not_zero = merged-not_zero value limit m form.not_zero other.not_zero;
      }

module _ {F : Type 0} (value : F → Number) (limit : ℕ) (within : (x : F) → fits limit (value x) ≡ true) (some : 1 ≤ limit) where
  pub merged-Gives : (c : F) (a b : Affine F) (keys : List Key) (numbers : List F) → IsForm value a → IsForm value b → Merges value limit a.keys a.numbers b.keys b.numbers (Ok (record { keys = keys; numbers = numbers })) → sum_fits limit (value a.constant) (value b.constant) ≡ true → value c ≡ value a.constant +ℚ value b.constant → IsEntrywiseAnswer value (of_two (sum_form_step limit) value a b) (Ok (record { constant = c; keys = keys; numbers = numbers }))
  unfolding Tells
  merged-Gives c a b keys numbers form other m fits is =
      let told = merged-tells value limit within some m form.ordered other.ordered in
      (is, λ key. (told key).0, fits, λ key. (told key).1, merged-IsForm value limit c a b keys numbers form other m)

  pub merged-Gives_fault : (a b : Affine F) (fault : FormFault) → IsForm value a → IsForm value b → OnOutcome (Merges value limit a.keys a.numbers b.keys b.numbers) (Err fault) → sum_fits limit (value a.constant) (value b.constant) ≡ true → IsEntrywiseAnswer value (of_two (sum_form_step limit) value a b) (Err fault)
  unfolding Tells
  merged-Gives_fault a b (fault.Limit None) form other m fits = absurd m
  merged-Gives_fault a b (fault.Limit (Some key)) form other m fits =
      let told = merged-tells value limit within some m form.ordered other.ordered in
      (fits, told.0, told.1)
  merged-Gives_fault a b fault.Memory form other m fits = tt

-- ---- a change of each number

-- 0 changed is 0, and fits
zero_by : {F : Type 0} (value : F → Number) (limit : ℕ) (some : 1 ≤ limit) (operation : Operation F) → ((step_by value limit operation (whole (pos 0))).fits ≡ true) × ((step_by value limit operation (whole (pos 0))).number ≡ whole (pos 0))
zero_by value limit some (Times y) = (rw (zero-*ℚ (value y)) (fits-zero limit some), zero-*ℚ (value y))
zero_by value limit some (Over y) =
    let zero_over : whole (pos 0) /ℚ value y ≡ whole (pos 0) = /ℚ_is (whole (pos 0)) (value y) ∙ zero-*ℚ _ in
    (rw zero_over (fits-zero limit some), zero_over)

module _ {F : Type 0} (value : F → Number) (limit : ℕ) (operation : Operation F) where
  pub changed-IsForm : (c : F) (a : Affine F) (keys : List Key) (numbers : List F) → IsForm value a → Changes value (step_by value limit operation) a.keys a.numbers (Ok (record { keys = keys; numbers = numbers })) → IsForm value (record { constant = c; keys = keys; numbers = numbers })
  unfolding IfMade
  changed-IsForm c a keys numbers form m =
      record {
        ordered = changed-ordered value (step_by value limit operation) m form.ordered;
        paired = changed-paired value (step_by value limit operation) m;
        not_zero = changed-not_zero value (step_by value limit operation) m;
      }

  pub changed-Gives : (some : 1 ≤ limit) (c : F) (a : Affine F) (keys : List Key) (numbers : List F) → IsForm value a → Changes value (step_by value limit operation) a.keys a.numbers (Ok (record { keys = keys; numbers = numbers })) → (step_by value limit operation (value a.constant)).fits ≡ true → value c ≡ (step_by value limit operation (value a.constant)).number → IsEntrywiseAnswer value (changed_form value (step_by value limit operation) a) (Ok (record { constant = c; keys = keys; numbers = numbers }))
  unfolding TellsChanged
  changed-Gives some c a keys numbers form m fits is =
      let zero = zero_by value limit some operation in
      let told = changed-tells value (step_by value limit operation) zero.0 zero.1 m form.ordered in
      (is, λ key. (told key).0, fits, λ key. (told key).1, changed-IsForm c a keys numbers form m)

  pub changed-Gives_fault : (some : 1 ≤ limit) (a : Affine F) (fault : FormFault) → IsForm value a → OnOutcome (Changes value (step_by value limit operation) a.keys a.numbers) (Err fault) → (step_by value limit operation (value a.constant)).fits ≡ true → IsEntrywiseAnswer value (changed_form value (step_by value limit operation) a) (Err fault)
  unfolding TellsChanged
  changed-Gives_fault some a (fault.Limit None) form m fits = absurd m
  changed-Gives_fault some a (fault.Limit (Some key)) form m fits =
      let zero = zero_by value limit some operation in
      let told = changed-tells value (step_by value limit operation) zero.0 zero.1 m form.ordered in
      (fits, told.0, told.1)
  changed-Gives_fault some a fault.Memory form m fits = tt

-- ---- a negated form

module _ {F : Type 0} (value : F → Number) where
  -- the number at a key is negated
  number_at-negated : (keys : List Key) (xs ys : List F) (key : Key) → map value ys ≡ map (λ x. neg_ℚ (value x)) xs → number_at value keys ys key ≡ neg_ℚ (number_at value keys xs key)
  number_at-negated [] xs ys key e = sym neg-zero
  number_at-negated (k ∷ keys) [] [] key e = sym neg-zero
  number_at-negated (k ∷ keys) [] (y ∷ ys) key e = absurd (cc)
  number_at-negated (k ∷ keys) (x ∷ xs) [] key e = absurd (cc)
  number_at-negated (k ∷ keys) (x ∷ xs) (y ∷ ys) key e =
      let here : value y ≡ neg_ℚ (value x) = cc in
      let rest : map value ys ≡ map (λ x. neg_ℚ (value x)) xs = cc in
      elim (same_key k key) as (λ b. cond b (value y) (number_at value keys ys key) ≡ neg_ℚ (cond b (value x) (number_at value keys xs key))) [
        | true ↦ here
        | false ↦ number_at-negated keys xs ys key rest
      ]

  not_zero-negated : (xs ys : List F) → map value ys ≡ map (λ x. neg_ℚ (value x)) xs → All (λ x. value x ≢ whole (pos 0)) xs → (length ys ≡ length xs) × All (λ y. value y ≢ whole (pos 0)) ys
  not_zero-negated [] [] e some = (refl, some)
  not_zero-negated [] (y ∷ ys) e some = absurd (cc)
  not_zero-negated (x ∷ xs) [] e some = absurd (cc)
  not_zero-negated (x ∷ xs) (y ∷ ys) e some =
      let here : value y ≡ neg_ℚ (value x) = cc in
      let rest : map value ys ≡ map (λ x. neg_ℚ (value x)) xs = cc in
      let others = not_zero-negated xs ys rest (All-tail (λ x. value x ≢ whole (pos 0)) x xs some) in
      (ap suc others.0, All-cons (λ y. value y ≢ whole (pos 0)) y ys (λ zero. All-head (λ x. value x ≢ whole (pos 0)) x xs some (sym (neg_neg (value x)) ∙ ap neg_ℚ (sym here ∙ zero) ∙ neg-zero)) others.1)

  pub negated-IsForm : (c : F) (a : Affine F) (keys : List Key) (numbers : List F) → IsForm value a → keys ≡ a.keys → map value numbers ≡ map (λ x. neg_ℚ (value x)) a.numbers → IsForm value (record { constant = c; keys = keys; numbers = numbers })
  negated-IsForm c a keys numbers form e f =
      let rest = not_zero-negated a.numbers numbers f form.not_zero in
      record { ordered = subst AreOrdered (sym e) form.ordered; paired = rest.0 ∙ form.paired ∙ ap length (sym e); not_zero = rest.1 }

  step_with_negated : (limit : ℕ) (x y z : Number) → z ≡ neg_ℚ y → sum_form_step limit x z ≡ difference_step limit x y
  step_with_negated limit x y z e = rw e (λ i. record { number = sym (-ℚ_is x y) i; fits = sum_fits limit x (neg_ℚ y) })

  -- a sum with the negated form is a difference
  pub negated-Gives : (limit : ℕ) (a b n : Affine F) (r : Result (Affine F) FormFault) → IsNegated value b n → IsEntrywiseAnswer value (of_two (sum_form_step limit) value a n) r → IsEntrywiseAnswer value (of_two (difference_step limit) value a b) r
  negated-Gives limit a b n r negated h =
      let constants = step_with_negated limit (value a.constant) (value b.constant) (value n.constant) negated.constant in
      let at_key : (key : Key) → coefficient value n key ≡ neg_ℚ (coefficient value b key) = λ key. ap (λ keys. number_at value keys n.numbers key) negated.keys ∙ number_at-negated b.keys b.numbers n.numbers key negated.numbers in
      let same : of_two (sum_form_step limit) value a n ≡ of_two (difference_step limit) value a b = λ i. record { constant = constants i; at = λ key. step_with_negated limit (coefficient value a key) (coefficient value b key) (coefficient value n key) (at_key key) i } in
      subst (λ e. IsEntrywiseAnswer value e r) same h

-- ---- a look-up

module _ {F : Type 0} (value : F → Number) where
  -- the number at a key that is there
  pub number_at_place : (keys : List Key) (numbers : List F) (i : ℕ) (d : Key) (x : F) → AreOrdered keys → length numbers ≡ length keys → suc i ≤ length keys → number_at value keys numbers (get_or keys i d) ≡ value (get_or numbers i x)
  number_at_place [] numbers i d x ordered paired h = absurd (omega arith)
  number_at_place (k ∷ keys) [] i d x ordered paired h = absurd (omega arith)
  number_at_place (k ∷ keys) (y ∷ numbers) zero d x ordered paired h = ap (λ b. cond b (value y) (number_at value keys numbers k)) (same_key_refl k)
  number_at_place (k ∷ keys) (y ∷ numbers) (suc i) d x ordered paired h =
      let before = All-get_or (λ l. key_cmp k l ≡ Less) keys i d (omega arith) (first-before k keys ordered) in
      ap (λ b. cond b (value y) (number_at value keys numbers (get_or keys i d))) (same_key-Less k (get_or keys i d) before) ∙ number_at_place keys numbers i d x (rest-ordered k keys ordered) (omega arith) (omega arith)

  -- a key that is not among these has 0
  pub number_at_none : (keys : List Key) (numbers : List F) (key : Key) → All (λ k. same_key k key ≡ false) keys → number_at value keys numbers key ≡ whole (pos 0)
  number_at_none [] numbers key none = refl
  number_at_none (k ∷ keys) [] key none = refl
  number_at_none (k ∷ keys) (x ∷ numbers) key none =
      ap (λ b. cond b (value x) (number_at value keys numbers key)) (All-head (λ k. same_key k key ≡ false) k keys none) ∙ number_at_none keys numbers key (All-tail (λ k. same_key k key ≡ false) k keys none)

-- the comparisons of keys in order with a key rise
index_rises : (a b key : Key) → key_cmp a b ≡ Less → ordering_index (key_cmp a key) ≤ ordering_index (key_cmp b key)
index_rises a b key less = by (key_cmp b key) refl
  where
    at_most_two : (o : Ordering) → ordering_index o ≤ 2
    at_most_two Less = omega arith
    at_most_two Equal = omega arith
    at_most_two Greater = omega arith

    by : (o : Ordering) → key_cmp b key ≡ o → ordering_index (key_cmp a key) ≤ ordering_index o
    by Less e = rw (key_cmp-total.trans a b key less e) (omega arith)
    by Equal e = rw (subst (λ k. key_cmp a k ≡ Less) (key_cmp-Equal b key e) less) (omega arith)
    by Greater e = at_most_two (key_cmp a key)

pub indices_rise : (keys : List Key) (key : Key) → AreOrdered keys → IsNonDecreasingBy (λ k. ordering_index (key_cmp k key)) keys
indices_rise [] key ordered i j d le h = absurd (omega arith)
indices_rise (k ∷ keys) key ordered zero zero d le h = omega arith
indices_rise (k ∷ keys) key ordered zero (suc j) d le h =
    index_rises k (get_or keys j d) key (All-get_or (λ l. key_cmp k l ≡ Less) keys j d (omega arith) (first-before k keys ordered))
indices_rise (k ∷ keys) key ordered (suc i) zero d le h = absurd (omega arith)
indices_rise (k ∷ keys) key ordered (suc i) (suc j) d le h = indices_rise keys key (rest-ordered k keys ordered) i j d (omega arith) (omega arith)

module _ {F : Type 0} (value : F → Number) where
  -- what a search found
  pub number_at_found : (keys : List Key) (numbers : List F) (i : ℕ) (key : Key) (x : F) → AreOrdered keys → length numbers ≡ length keys → suc i ≤ length keys → key_cmp (get_or keys i key) key ≡ Equal → x ≡ get_or numbers i x → value x ≡ number_at value keys numbers key
  number_at_found keys numbers i key x ordered paired h same x_is =
      ap value x_is ∙ sym (number_at_place value keys numbers i key x ordered paired h) ∙ ap (number_at value keys numbers) (key_cmp-Equal (get_or keys i key) key same)

  -- what a search did not find
  pub number_at_missing : (keys : List Key) (numbers : List F) (key : Key) (i : ℕ) → AreOrdered keys → IsBinarySearchResult (λ k. key_cmp k key) keys (Err i) → number_at value keys numbers key ≡ whole (pos 0)
  number_at_missing keys numbers key i ordered searched =
      let apart = searched (indices_rise keys key ordered) in
      number_at_none value keys numbers key (λ k d h. elim (cases_lt k i) [
        | inl before ↦ same_key-Less (get_or keys k d) key (apart.0 k d (omega arith) before)
        | inr following ↦ same_key-Greater (get_or keys k d) key (apart.1 k d following h)
      ])
