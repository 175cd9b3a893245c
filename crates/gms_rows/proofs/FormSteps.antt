-- What the calls on forms give, as steps on what the forms show.
use Rattle.std.proofs.Common.{◌≡◌, ℕ, ◌≤◌, pos, Bool, true, false, cond, if◌then◌else◌, List, [], ◌∷◌, ◌++◌, Option, Some, None, unwrap_or, is_some, Result, Ok, Err, refl, sym, ap, ◌∙◌, subst}
use Rattle.std.specs.Ordering.{eq_by_cmp}
use Rattle.std.specs.FinMap as finite
use Rattle.std.proofs.lemmas.Bool.{both_ways}
use Rattle.gq_number.specs.Number.{Number, whole, ◌+ℚ◌, ◌*ℚ◌, ◌/ℚ◌, neg_ℚ}
use Rattle.gq_number.proofs.Field.{+ℚ-zero, -ℚ_is, /ℚ_is, *ℚ-one}
use Rattle.gq_number.proofs.Ring.{neg-zero, zero-*ℚ, *ℚ-neg}
use Rattle.gq_field.specs.Fits.{fits, sum_fits}
use Rattle.gq_field.proofs.Signs.{fits-neg}
use Rattle.lp_form.specs.declared.key.Key.{Key}
use Rattle.lp_form.specs.declared.fault.FormFault.{FormFault}
use Rattle.lp_form.specs.declared.fault.FormFault.TheVariants as fault
use Rattle.lp_form.specs.Keys.{key_cmp, same_key}
use Rattle.lp_form.specs.Affine.{Affine, IsForm}
use Rattle.lp_form.specs.Forms.{Step, sum_form_step, difference_step, product_form_step, quotient_step, number_at, coefficient, of_two, by_number, IsEntrywiseAnswer}
use Rattle.lp_form.proofs.KeyOrder.{key_cmp-total}
use Rattle.lp_form.proofs.Zeros.{fits-zero, sum_fits-zero}
use Rattle.gms_rows.specs.Forms.{Form, form_in, number_of_key, keys_of_two, entrywise, entries_of_two, entries_by}
use Rattle.gms_rows.specs.InnerContracts.{Told, is_among}
use Rattle.gms_rows.proofs.KeyLists.{keys-ordered}
use Rattle.gms_rows.proofs.Entries.{number-of_key, told}

-- ---- keys of which forms have no number

none_there : {X : Type 0} (o : Option X) → is_some o ≡ false → o ≡ None
none_there None e = refl
none_there (Some x) e = absurd (cc)

neither : (q : Key) (xs ys : List (Key × Number)) → finite.find key_cmp q (xs ++ ys) ≡ None → (finite.find key_cmp q xs ≡ None) × (finite.find key_cmp q ys ≡ None)
neither q [] ys e = (refl, e)
neither q (x ∷ xs) ys e = by (neither q xs ys) (eq_by_cmp key_cmp q x.0) e
  where
    by : (finite.find key_cmp q (xs ++ ys) ≡ None → (finite.find key_cmp q xs ≡ None) × (finite.find key_cmp q ys ≡ None)) → (b : Bool) → cond b (Some x.1) (finite.find key_cmp q (xs ++ ys)) ≡ None → (cond b (Some x.1) (finite.find key_cmp q xs) ≡ None) × (finite.find key_cmp q ys ≡ None)
    by rest true e = absurd (cc)
    by rest false e = rest e

outside-get : (m : finite.FinMap key_cmp Number) (q : Key) → is_among (finite.keys m) q ≡ false → finite.get m q ≡ None
outside-get m q out = none_there (finite.get m q) (finite.contains_key-keys m q ∙ out)

-- a key that is not among those of a form has 0
pub outside-one : (a : Form) (q : Key) → is_among (finite.keys a.numbers) q ≡ false → number_of_key a q ≡ whole (pos 0)
outside-one a q out = ap (λ o. unwrap_or o (whole (pos 0))) (outside-get a.numbers q out)

-- a key that is not among those of two forms has 0 in both
pub outside-two : (a b : Form) (q : Key) → is_among (keys_of_two a b) q ≡ false → (number_of_key a q ≡ whole (pos 0)) × (number_of_key b q ≡ whole (pos 0))
outside-two a b q out =
    let both = finite.entries a.numbers ++ finite.entries b.numbers in
    let found : finite.find key_cmp q both ≡ None = sym (finite.get-from_entries key_cmp-total both q) ∙ outside-get (finite.from_entries {R = key_cmp} both) q out in
    let parts = neither q (finite.entries a.numbers) (finite.entries b.numbers) found in
    (ap (λ o. unwrap_or o (whole (pos 0))) (finite.get-entries a.numbers q ∙ parts.0), ap (λ o. unwrap_or o (whole (pos 0))) (finite.get-entries b.numbers q ∙ parts.1))

-- ---- steps with 0

-- what a step on 0 and 0, or on 0 and a number, is: 0, and it fits
abbrev pub IsZeroStep : Step → Type 0
IsZeroStep step = (step.number ≡ whole (pos 0)) × (step.fits ≡ true)

module _ (limit : ℕ) (some : 1 ≤ limit) where
  zero-sum : IsZeroStep (sum_form_step limit (whole (pos 0)) (whole (pos 0)))
  zero-sum = (+ℚ-zero (whole (pos 0)), sum_fits-zero limit (whole (pos 0)) (fits-zero limit some))

  zero-difference : IsZeroStep (difference_step limit (whole (pos 0)) (whole (pos 0)))
  zero-difference =
      (-ℚ_is (whole (pos 0)) (whole (pos 0)) ∙ ap (λ x. whole (pos 0) +ℚ x) neg-zero ∙ +ℚ-zero (whole (pos 0)), ap (sum_fits limit (whole (pos 0))) neg-zero ∙ sum_fits-zero limit (whole (pos 0)) (fits-zero limit some))

  zero-product : (x : Number) → IsZeroStep (product_form_step limit (whole (pos 0)) x)
  zero-product x = (zero-*ℚ x, ap (fits limit) (zero-*ℚ x) ∙ fits-zero limit some)

  zero-quotient : (x : Number) → IsZeroStep (quotient_step limit (whole (pos 0)) x)
  zero-quotient x =
      let is : whole (pos 0) /ℚ x ≡ whole (pos 0) = /ℚ_is (whole (pos 0)) x ∙ zero-*ℚ _ in
      (is, ap (fits limit) is ∙ fits-zero limit some)

-- ---- the calls

module _ {F : Type 0} (v : F → Number) (step : Number → Number → Step) where
  told-two : (a b : Affine F) (r : Result (Affine F) FormFault) → IsForm v a → IsForm v b → IsZeroStep (step (whole (pos 0)) (whole (pos 0))) → IsEntrywiseAnswer v (of_two step v a b) r → Told v r (entries_of_two step (form_in v a) (form_in v b))
  told-two a b r form other zero g =
      subst (λ at. Told v r (entrywise (step (v a.constant) (v b.constant)) at (keys_of_two (form_in v a) (form_in v b)))) (λ i key. step (sym (number-of_key v a key form) i) (sym (number-of_key v b key other) i)) (told v (of_two step v a b) (keys_of_two (form_in v a) (form_in v b)) r (keys-ordered _) outside g)
    where
      outside : (key : Key) → is_among (keys_of_two (form_in v a) (form_in v b)) key ≡ false → IsZeroStep (step (coefficient v a key) (coefficient v b key))
      outside key out =
          let both = outside-two (form_in v a) (form_in v b) key out in
          let left : coefficient v a key ≡ whole (pos 0) = sym (number-of_key v a key form) ∙ both.0 in
          let right : coefficient v b key ≡ whole (pos 0) = sym (number-of_key v b key other) ∙ both.1 in
          subst (λ x. IsZeroStep (step x (coefficient v b key))) (sym left) (subst (λ y. IsZeroStep (step (whole (pos 0)) y)) (sym right) zero)

  told-by : (a : Affine F) (x : Number) (r : Result (Affine F) FormFault) → IsForm v a → IsZeroStep (step (whole (pos 0)) x) → IsEntrywiseAnswer v (by_number step v a x) r → Told v r (entries_by step (form_in v a) x)
  told-by a x r form zero g =
      subst (λ at. Told v r (entrywise (step (v a.constant) x) at (finite.keys (form_in v a).numbers))) (λ i key. step (sym (number-of_key v a key form) i) x) (told v (by_number step v a x) (finite.keys (form_in v a).numbers) r (keys-ordered _) outside g)
    where
      outside : (key : Key) → is_among (finite.keys (form_in v a).numbers) key ≡ false → IsZeroStep (step (coefficient v a key) x)
      outside key out =
          subst (λ y. IsZeroStep (step y x)) (sym (sym (number-of_key v a key form) ∙ outside-one (form_in v a) key out)) zero

module _ {F : Type 0} (v : F → Number) (limit : ℕ) (some : 1 ≤ limit) where
  pub told-sum : (a b : Affine F) (r : Result (Affine F) FormFault) → IsForm v a → IsForm v b → IsEntrywiseAnswer v (of_two (sum_form_step limit) v a b) r → Told v r (entries_of_two (sum_form_step limit) (form_in v a) (form_in v b))
  told-sum a b r form other = told-two v (sum_form_step limit) a b r form other (zero-sum limit some)

  pub told-product : (a : Affine F) (x : Number) (r : Result (Affine F) FormFault) → IsForm v a → IsEntrywiseAnswer v (by_number (product_form_step limit) v a x) r → Told v r (entries_by (product_form_step limit) (form_in v a) x)
  told-product a x r form = told-by v (product_form_step limit) a x r form (zero-product limit some x)

  pub told-quotient : (a : Affine F) (x : Number) (r : Result (Affine F) FormFault) → IsForm v a → IsEntrywiseAnswer v (by_number (quotient_step limit) v a x) r → Told v r (entries_by (quotient_step limit) (form_in v a) x)
  told-quotient a x r form = told-by v (quotient_step limit) a x r form (zero-quotient limit some x)

  step_with_negated : (x y z : Number) → z ≡ neg_ℚ y → sum_form_step limit x z ≡ difference_step limit x y
  step_with_negated x y z e =
      ap (sum_form_step limit x) e ∙ (λ i. record { number = sym (-ℚ_is x y) i; fits = sum_fits limit x (neg_ℚ y) })

  negated-one : (x one : Number) → one ≡ neg_ℚ (whole (pos 1)) → x *ℚ one ≡ neg_ℚ x
  negated-one x one e = ap (λ y. x *ℚ y) e ∙ *ℚ-neg x (whole (pos 1)) ∙ ap neg_ℚ (*ℚ-one x)

  -- a sum with a form times -1 is a difference
  pub told-difference : (a b n : Affine F) (one : Number) (r : Result (Affine F) FormFault) → one ≡ neg_ℚ (whole (pos 1)) → IsForm v a → IsForm v b → IsEntrywiseAnswer v (by_number (product_form_step limit) v b one) (Ok n) → IsEntrywiseAnswer v (of_two (sum_form_step limit) v a n) r → Told v r (entries_of_two (difference_step limit) (form_in v a) (form_in v b))
  told-difference a b n one r is form other g h =
      let constants = step_with_negated (v a.constant) (v b.constant) (v n.constant) (g.0 ∙ negated-one (v b.constant) one is) in
      let same : of_two (sum_form_step limit) v a n ≡ of_two (difference_step limit) v a b = λ i. record { constant = constants i; at = λ key. step_with_negated (coefficient v a key) (coefficient v b key) (coefficient v n key) (g.1 key ∙ negated-one (coefficient v b key) one is) i } in
      told-two v (difference_step limit) a b r form other (zero-difference limit some) (subst (λ e. IsEntrywiseAnswer v e r) same h)

  -- a form times -1 fits
  coefficient-fits : ((x : F) → fits limit (v x) ≡ true) → (keys : List Key) (numbers : List F) (key : Key) → fits limit (number_at v keys numbers key) ≡ true
  coefficient-fits within [] numbers key = fits-zero limit some
  coefficient-fits within (k ∷ keys) [] key = fits-zero limit some
  coefficient-fits within (k ∷ keys) (x ∷ numbers) key = by (coefficient-fits within keys numbers key) (same_key k key)
    where
      by : fits limit (number_at v keys numbers key) ≡ true → (b : Bool) → fits limit (cond b (v x) (number_at v keys numbers key)) ≡ true
      by rest true = within x
      by rest false = rest

  negated-fits : (x one : Number) → one ≡ neg_ℚ (whole (pos 1)) → fits limit x ≡ true → fits limit (x *ℚ one) ≡ true
  negated-fits x one is h = ap (fits limit) (negated-one x one is) ∙ fits-neg limit x ∙ h

  pub negated-no_fault : ((x : F) → fits limit (v x) ≡ true) → (b : Affine F) (one : Number) (key : Option Key) → one ≡ neg_ℚ (whole (pos 1)) → IsEntrywiseAnswer v (by_number (product_form_step limit) v b one) (Err (fault.Limit key)) → ⊥
  negated-no_fault within b one None is g =
      both_ways (fits limit (v b.constant *ℚ one)) g (negated-fits (v b.constant) one is (within b.constant))
  negated-no_fault within b one (Some key) is g =
      both_ways (fits limit (coefficient v b key *ℚ one)) g.2 (negated-fits (coefficient v b key) one is (coefficient-fits within b.keys b.numbers key))

  pub told-increased : (subtracts : Bool) (a b : Affine F) (r : Result (Affine F) FormFault) → subtracts ≡ false → IsForm v a → IsForm v b → IsEntrywiseAnswer v (of_two (sum_form_step limit) v a b) r → Told v r (entries_of_two (if subtracts then difference_step limit else sum_form_step limit) (form_in v a) (form_in v b))
  told-increased true a b r adds form other g = absurd (cc)
  told-increased false a b r adds form other g = told-sum a b r form other g

  pub told-lessened : (subtracts : Bool) (a b n : Affine F) (one : Number) (r : Result (Affine F) FormFault) → subtracts ≡ true → one ≡ neg_ℚ (whole (pos 1)) → IsForm v a → IsForm v b → IsEntrywiseAnswer v (by_number (product_form_step limit) v b one) (Ok n) → IsEntrywiseAnswer v (of_two (sum_form_step limit) v a n) r → Told v r (entries_of_two (if subtracts then difference_step limit else sum_form_step limit) (form_in v a) (form_in v b))
  told-lessened true a b n one r takes is form other g h = told-difference a b n one r is form other g h
  told-lessened false a b n one r takes is form other g h = absurd (cc)

  -- so its fault is out of memory, which makes no claim
  pub told-negated_fault : ((x : F) → fits limit (v x) ≡ true) → (b : Affine F) (one : Number) (fault : FormFault) (steps : Result Form (Option Key)) → one ≡ neg_ℚ (whole (pos 1)) → IsEntrywiseAnswer v (by_number (product_form_step limit) v b one) (Err fault) → Told v (Err fault) steps
  told-negated_fault within b one (fault.Limit key) steps is g = absurd (negated-no_fault within b one key is g)
  told-negated_fault within b one fault.Memory steps is g = tt
