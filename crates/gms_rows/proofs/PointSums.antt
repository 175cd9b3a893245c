-- Forms at a point: the value of each step on forms.
use Rattle.std.proofs.Common.{◌≡◌, ℕ, pos, Bool, true, false, not, ◌&&◌, ◌||◌, ◌==◌, if◌then◌else◌, List, [], ◌∷◌, length, Option, Some, None, unwrap_or, Result, Ok, Err, refl, sym, ap, ◌∙◌, arith}
use Rattle.std.specs.List.{filter, find}
use Rattle.std.specs.FinMap as finite
use Rattle.std.proofs.lemmas.Bool.{both_ways, eqb-true, true_from_ne_false}
use Rattle.std.proofs.lemmas.List.Kept.{IsStrictlySortedBy-filter}
use Rattle.std.proofs.lemmas.Map.Views.{any-filter_same}
use Rattle.gms_labels.specs.declared.place.Place.{Place}
use Rattle.gq_number.specs.Number.{Number, whole, ◌+ℚ◌, ◌-ℚ◌, ◌*ℚ◌, ◌/ℚ◌, inv_ℚ}
use Rattle.gq_number.specs.Sums.{sum_by_ℚ}
use Rattle.gq_number.proofs.Field.{+ℚ-zero, *ℚ_comm, /ℚ_is}
use Rattle.gq_number.proofs.Ring.{ring_ℚ, zero-*ℚ}
use Rattle.gq_number.proofs.Sums.{sum_by_ℚ-nil, sum_by_ℚ-filter, sum_by_ℚ-+ℚ, sum_by_ℚ--ℚ, sum_by_ℚ-*ℚ_right}
use Rattle.gq_extended.specs.Extended.{Extended}
use Rattle.gq_extended.specs.Extended as extended
use Rattle.gms_eval.specs.Bindings.{Pairs}
use Rattle.gms_eval.specs.Faults.{faulted}
use Rattle.gms_eval.specs.declared.stop.StopKind.TheVariants.{Divide}
use Rattle.lp_form.specs.declared.key.Key.{Key}
use Rattle.lp_form.specs.Keys.{key_cmp, same_key, AreOrdered}
use Rattle.lp_form.specs.Forms.{Step, sum_form_step, difference_step, product_form_step, quotient_step}
use Rattle.lp_form.proofs.KeyOrder.{same_key-is}
use Rattle.gms_rows.specs.Forms.{Form, number_of_key, is_number, is_not_zero, numbers_at, keys_of_two, entrywise, entries_of_two, entries_by, where_fits, sum_of_forms, scaled_form, multiple, product_of_forms, quotient_of}
use Rattle.gms_rows.specs.InnerContracts.{is_among}
use Rattle.gms_rows.specs.Points.{form_at}
use Rattle.gms_rows.proofs.ColumnKeys.{same_keys}
use Rattle.gms_rows.proofs.Entries.{not_zero-zero, not_zero-false, unless-unwrapped, get-numbers_at}
use Rattle.gms_rows.proofs.FormSteps.{outside-one, outside-two}
use Rattle.gms_rows.proofs.KeyLists.{keys-ordered}

-- ---- sums over keys

-- what is 0 at the keys that are not among these
abbrev pub IsZeroOutside : (Key → Number) → List Key → Type 0
IsZeroOutside f keys = (q : Key) → is_among keys q ≡ false → f q ≡ whole (pos 0)

module _ (f : Key → Number) where
  abbrev counts : Key → Bool
  counts key = is_not_zero (f key)

  kept-among : (keys : List Key) (q : Key) → is_among (filter counts keys) q ≡ (counts q && is_among keys q)
  kept-among keys q = any-filter_same (same_key q) counts (counts q) (λ k e. ap counts (sym (same_key-is q k e))) keys

  among-some : (keys : List Key) (q : Key) → IsZeroOutside f keys → counts q ≡ true → is_among keys q ≡ true
  among-some keys q out e =
      true_from_ne_false (is_among keys q) (λ none. both_ways (counts q) (ap is_not_zero (out q none) ∙ not_zero-zero) e)

  same-kept : (ks ls : List Key) (q : Key) → IsZeroOutside f ks → IsZeroOutside f ls → (b : Bool) → counts q ≡ b → (b && is_among ks q) ≡ (b && is_among ls q)
  same-kept ks ls q out over false e = refl
  same-kept ks ls q out over true e = among-some ks q out e ∙ sym (among-some ls q over e)

  zero-counts : (key : Key) → counts key ≡ false → f key ≡ whole (pos 0)
  zero-counts key e = not_zero-false (f key) e

  -- a sum is the same over any keys in order outside of which its terms are 0
  pub sums-same : (ks ls : List Key) → AreOrdered ks → AreOrdered ls → IsZeroOutside f ks → IsZeroOutside f ls → sum_by_ℚ f ks ≡ sum_by_ℚ f ls
  sums-same ks ls up down out over =
      let lists : filter counts ks ≡ filter counts ls = same_keys (filter counts ks) (filter counts ls) (IsStrictlySortedBy-filter key_cmp counts ks up) (IsStrictlySortedBy-filter key_cmp counts ls down) (λ q. kept-among ks q ∙ same-kept ks ls q out over (counts q) refl ∙ sym (kept-among ls q)) in
      sym (sum_by_ℚ-filter f counts ks zero-counts) ∙ ap (sum_by_ℚ f) lists ∙ sum_by_ℚ-filter f counts ls zero-counts

-- ---- the form that steps give

-- a constant, and numbers at keys, those that are 0 left out
abbrev pub form_of_numbers : Number → (Key → Number) → List Key → Form
form_of_numbers constant number keys = record { constant = constant; numbers = numbers_at number keys }

made : (constant : Step) (at : Key → Step) (keys : List Key) (f : Form) → entrywise constant at keys ≡ Ok f → f ≡ form_of_numbers constant.number (λ key. (at key).number) keys
made constant at keys f e = by constant.fits (find (λ key. not (at key).fits) keys) e
  where
    by : (c : Bool) (o : Option Key) → (if not c then Err None else elim o [ Some key ↦ Err (Some key) | None ↦ Ok (form_of_numbers constant.number (λ key. (at key).number) keys) ]) ≡ Ok f → f ≡ form_of_numbers constant.number (λ key. (at key).number) keys
    by false o e = absurd (cc)
    by true None e = let same : form_of_numbers constant.number (λ key. (at key).number) keys ≡ f = cc in sym same
    by true (Some key) e = absurd (cc)

number-made : (constant : Number) (number : Key → Number) (keys : List Key) → IsZeroOutside number keys → (q : Key) → number_of_key (form_of_numbers constant number keys) q ≡ number q
number-made constant number keys outside q =
    ap (λ o. unwrap_or o (whole (pos 0))) (get-numbers_at number keys q (outside q)) ∙ unless-unwrapped (number q)

fitted : (at : Place) (b : Pairs) (left right : Option Key → Extended) (steps : Result Form (Option Key)) (f : Form) → where_fits at b left right steps ≡ Ok f → steps ≡ Ok f
fitted at b left right (Ok form) f e = let same : form ≡ f = cc in ap Ok same
fitted at b left right (Err key) f e = absurd (cc)

module _ (point : Key → Number) where
  abbrev term : Form → Key → Number
  term form key = number_of_key form key *ℚ point key

  zero-term : (form : Form) (keys : List Key) → IsZeroOutside (number_of_key form) keys → IsZeroOutside (term form) keys
  zero-term form keys out q none = ap (λ x. x *ℚ point q) (out q none) ∙ zero-*ℚ (point q)

  -- a form at a point, over any keys in order outside of which it has no number
  at-keys : (form : Form) (keys : List Key) → AreOrdered keys → IsZeroOutside (number_of_key form) keys → form_at point form ≡ form.constant +ℚ sum_by_ℚ (term form) keys
  at-keys form keys up out =
      ap (λ s. form.constant +ℚ s) (sums-same (term form) (finite.keys form.numbers) keys (keys-ordered form.numbers) up (zero-term form (finite.keys form.numbers) (outside-one form)) (zero-term form keys out))

  -- what steps give is at a point the sum of what they give
  stepped : (constant : Step) (at : Key → Step) (keys : List Key) (f : Form) → AreOrdered keys → IsZeroOutside (λ key. (at key).number) keys → entrywise constant at keys ≡ Ok f → form_at point f ≡ constant.number +ℚ sum_by_ℚ (λ key. (at key).number *ℚ point key) keys
  stepped constant at keys f up outside e =
      let number : Key → Number = λ key. (at key).number in
      let made_form = form_of_numbers constant.number number keys in
      let same = number-made constant.number number keys outside in
      ap (form_at point) (made constant at keys f e)
      ∙ at-keys made_form keys up (λ q none. same q ∙ outside q none)
      ∙ (λ i. constant.number +ℚ sum_by_ℚ (λ key. same key i *ℚ point key) keys)

  -- ---- sums

  module _ (a c : Form) where
    two-at : (form : Form) → IsZeroOutside (number_of_key form) (keys_of_two a c) → form_at point form ≡ form.constant +ℚ sum_by_ℚ (term form) (keys_of_two a c)
    two-at form out = at-keys form (keys_of_two a c) (keys-ordered _) out

    left-at : form_at point a ≡ a.constant +ℚ sum_by_ℚ (term a) (keys_of_two a c)
    left-at = two-at a (λ q none. (outside-two a c q none).0)

    right-at : form_at point c ≡ c.constant +ℚ sum_by_ℚ (term c) (keys_of_two a c)
    right-at = two-at c (λ q none. (outside-two a c q none).1)

    sums : (x y s t : Number) → x +ℚ y +ℚ (s +ℚ t) ≡ x +ℚ s +ℚ (y +ℚ t)
    sums x y s t = simp ring_ℚ

    differences : (x y s t : Number) → x -ℚ y +ℚ (s -ℚ t) ≡ x +ℚ s -ℚ (y +ℚ t)
    differences x y s t = simp ring_ℚ

    sum_term : (x y p : Number) → (x +ℚ y) *ℚ p ≡ x *ℚ p +ℚ y *ℚ p
    sum_term x y p = simp ring_ℚ

    difference_term : (x y p : Number) → (x -ℚ y) *ℚ p ≡ x *ℚ p -ℚ y *ℚ p
    difference_term x y p = simp ring_ℚ

    zero_sum : whole (pos 0) +ℚ whole (pos 0) ≡ whole (pos 0)
    zero_sum = simp ring_ℚ

    zero_difference : whole (pos 0) -ℚ whole (pos 0) ≡ whole (pos 0)
    zero_difference = simp ring_ℚ

    pub sum-at : (limit : ℕ) (f : Form) → entries_of_two (sum_form_step limit) a c ≡ Ok f → form_at point f ≡ form_at point a +ℚ form_at point c
    sum-at limit f e =
        stepped (sum_form_step limit a.constant c.constant) (λ key. sum_form_step limit (number_of_key a key) (number_of_key c key)) (keys_of_two a c) f (keys-ordered _)
        (λ q none. ap (λ x. x +ℚ number_of_key c q) (outside-two a c q none).0 ∙ ap (λ y. whole (pos 0) +ℚ y) (outside-two a c q none).1 ∙ zero_sum) e
        ∙ (λ i. a.constant +ℚ c.constant +ℚ sum_by_ℚ (λ key. sum_term (number_of_key a key) (number_of_key c key) (point key) i) (keys_of_two a c))
        ∙ ap (λ s. a.constant +ℚ c.constant +ℚ s) (sum_by_ℚ-+ℚ (term a) (term c) (keys_of_two a c))
        ∙ sums a.constant c.constant (sum_by_ℚ (term a) (keys_of_two a c)) (sum_by_ℚ (term c) (keys_of_two a c))
        ∙ ap (λ x. x +ℚ (c.constant +ℚ sum_by_ℚ (term c) (keys_of_two a c))) (sym left-at)
        ∙ ap (λ y. form_at point a +ℚ y) (sym right-at)

    pub difference-at : (limit : ℕ) (f : Form) → entries_of_two (difference_step limit) a c ≡ Ok f → form_at point f ≡ form_at point a -ℚ form_at point c
    difference-at limit f e =
        stepped (difference_step limit a.constant c.constant) (λ key. difference_step limit (number_of_key a key) (number_of_key c key)) (keys_of_two a c) f (keys-ordered _)
        (λ q none. ap (λ x. x -ℚ number_of_key c q) (outside-two a c q none).0 ∙ ap (λ y. whole (pos 0) -ℚ y) (outside-two a c q none).1 ∙ zero_difference) e
        ∙ (λ i. a.constant -ℚ c.constant +ℚ sum_by_ℚ (λ key. difference_term (number_of_key a key) (number_of_key c key) (point key) i) (keys_of_two a c))
        ∙ ap (λ s. a.constant -ℚ c.constant +ℚ s) (sum_by_ℚ--ℚ (term a) (term c) (keys_of_two a c))
        ∙ differences a.constant c.constant (sum_by_ℚ (term a) (keys_of_two a c)) (sum_by_ℚ (term c) (keys_of_two a c))
        ∙ ap (λ x. x -ℚ (c.constant +ℚ sum_by_ℚ (term c) (keys_of_two a c))) (sym left-at)
        ∙ ap (λ y. form_at point a -ℚ y) (sym right-at)

    pub sum_of-at : (limit : ℕ) (at : Place) (b : Pairs) (subtracts : Bool) (f : Form) → sum_of_forms limit at b subtracts a c ≡ Ok f → form_at point f ≡ (if subtracts then form_at point a -ℚ form_at point c else form_at point a +ℚ form_at point c)
    sum_of-at limit at b false f e = sum-at limit f (fitted at b _ _ _ f e)
    sum_of-at limit at b true f e = difference-at limit f (fitted at b _ _ _ f e)

  -- ---- products and quotients

  turned : (x y p : Number) → x *ℚ y *ℚ p ≡ x *ℚ p *ℚ y
  turned x y p = simp ring_ℚ

  spread : (x y s : Number) → x *ℚ y +ℚ s *ℚ y ≡ (x +ℚ s) *ℚ y
  spread x y s = simp ring_ℚ

  pub product-at : (limit : ℕ) (a f : Form) (x : Number) → entries_by (product_form_step limit) a x ≡ Ok f → form_at point f ≡ form_at point a *ℚ x
  product-at limit a f x e =
      stepped (product_form_step limit a.constant x) (λ key. product_form_step limit (number_of_key a key) x) (finite.keys a.numbers) f (keys-ordered a.numbers)
      (λ q none. ap (λ y. y *ℚ x) (outside-one a q none) ∙ zero-*ℚ x) e
      ∙ (λ i. a.constant *ℚ x +ℚ sum_by_ℚ (λ key. turned (number_of_key a key) x (point key) i) (finite.keys a.numbers))
      ∙ ap (λ s. a.constant *ℚ x +ℚ s) (sum_by_ℚ-*ℚ_right x (term a) (finite.keys a.numbers))
      ∙ spread a.constant x (sum_by_ℚ (term a) (finite.keys a.numbers))

  over : (x y p : Number) → x /ℚ y *ℚ p ≡ x *ℚ p *ℚ inv_ℚ y
  over x y p = ap (λ z. z *ℚ p) (/ℚ_is x y) ∙ turned x (inv_ℚ y) p

  pub quotient-at : (limit : ℕ) (a f : Form) (x : Number) → entries_by (quotient_step limit) a x ≡ Ok f → form_at point f ≡ form_at point a /ℚ x
  quotient-at limit a f x e =
      stepped (quotient_step limit a.constant x) (λ key. quotient_step limit (number_of_key a key) x) (finite.keys a.numbers) f (keys-ordered a.numbers)
      (λ q none. /ℚ_is (number_of_key a q) x ∙ ap (λ y. y *ℚ inv_ℚ x) (outside-one a q none) ∙ zero-*ℚ (inv_ℚ x)) e
      ∙ (λ i. a.constant /ℚ x +ℚ sum_by_ℚ (λ key. over (number_of_key a key) x (point key) i) (finite.keys a.numbers))
      ∙ ap (λ s. a.constant /ℚ x +ℚ s) (sum_by_ℚ-*ℚ_right (inv_ℚ x) (term a) (finite.keys a.numbers))
      ∙ ap (λ y. y +ℚ sum_by_ℚ (term a) (finite.keys a.numbers) *ℚ inv_ℚ x) (/ℚ_is a.constant x)
      ∙ spread a.constant (inv_ℚ x) (sum_by_ℚ (term a) (finite.keys a.numbers))
      ∙ sym (/ℚ_is (form_at point a) x)

  -- a form that is a number
  pub number-at : (form : Form) → is_number form ≡ true → form_at point form ≡ form.constant
  number-at form is = by (finite.keys form.numbers) is
    where
      by : (keys : List Key) → (length keys == 0) ≡ true → form.constant +ℚ sum_by_ℚ (term form) keys ≡ form.constant
      by [] e = ap (λ s. form.constant +ℚ s) (sum_by_ℚ-nil (term form)) ∙ +ℚ-zero form.constant
      by (k ∷ keys) e = absurd (let none = eqb-true (length (k ∷ keys)) 0 e in omega arith)

  pub scaled-at : (limit : ℕ) (at : Place) (b : Pairs) (a f : Form) (x : Number) → scaled_form limit at b false a x ≡ Ok f → form_at point f ≡ form_at point a *ℚ x
  scaled-at limit at b a f x e = product-at limit a f x (fitted at b _ _ _ f e)

  pub product_of-at : (limit : ℕ) (at : Place) (b : Pairs) (a c f : Form) → (is_number a || is_number c) ≡ true → product_of_forms limit at b a c ≡ Ok f → form_at point f ≡ form_at point a *ℚ form_at point c
  product_of-at limit at b a c f one e = by (is_number c) refl e
    where
      by : (so : Bool) → is_number c ≡ so → (if so then scaled_form limit at b false a c.constant else multiple limit at b a.constant c) ≡ Ok f → form_at point f ≡ form_at point a *ℚ form_at point c
      by true so e = product-at limit a f c.constant (fitted at b _ _ _ f e) ∙ ap (λ y. form_at point a *ℚ y) (sym (number-at c so))
      by false so e =
          let left : is_number a ≡ true = other (is_number a) (is_number c) so one in
          product-at limit c f a.constant (fitted at b _ _ _ f e) ∙ *ℚ_comm (form_at point c) a.constant ∙ ap (λ y. y *ℚ form_at point c) (sym (number-at a left))
        where
          other : (p q : Bool) → q ≡ false → (p || q) ≡ true → p ≡ true
          other true q none e = refl
          other false q none e = absurd (both_ways q none e)

  pub quotient_of-at : (limit : ℕ) (at : Place) (b : Pairs) (a f : Form) (x : Number) → quotient_of limit at b a x ≡ Ok f → form_at point f ≡ form_at point a /ℚ x
  quotient_of-at limit at b a f x e = by (is_not_zero x) e
    where
      by : (so : Bool) → (if so then scaled_form limit at b true a x else Err (faulted Divide at b (extended.number a.constant) (extended.number x))) ≡ Ok f → form_at point f ≡ form_at point a /ℚ x
      by true e = quotient-at limit a f x (fitted at b _ _ _ f e)
      by false e = absurd (cc)
