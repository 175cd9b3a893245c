-- That the exact texts of numbers are read back.
use Rattle.std.proofs.Common.{◌≡◌, ℕ, zero, suc, ◌+◌, ◌*◌, ◌^◌, ◌<◌, ◌==◌, Bool, true, false, List, [], ◌∷◌, ◌++◌, length, refl, sym, ap, ◌∙◌, subst, arith, inl, inr, codes, decimal, ℤ, pos, negsuc, neg_ℤ, ◌-ℤ◌, nat_abs, add-one, if◌then◌else◌, ap₂, Option, Some, None, Result, Ok, Err}
use Rattle.std.specs.Prelude.{IsSomeAnd, SomeIff}
use Rattle.std.specs.Result.{result_ok}
use Rattle.std.proofs.lemmas.Bool.Decides.{nat_tests}
use Rattle.std.proofs.lemmas.Int.{ints, to_z-of_z, to_z_pos, fits_signed_from_abs}
use mir.Val.{to_z, of_z}
use mir.Syntax.{w128}
use Rattle.gq_number.specs.Number.{Number, ratio}
use Rattle.gq_number.proofs.Means.{ratio_itself}
use Rattle.gq_field.specs.declared.field.Limit.{Limit}
use Rattle.gq_field.specs.Fits.{fits, Answers}
use Rattle.gq_text.specs.Numeral.{AreDigits, spelled, IsNumeral}
use Rattle.gq_text.specs.InnerParts.{BeginsNoDigit, BeginsOther, SplitsDigits, SplitsSign}
use Rattle.gq_text.specs.ExactText.{whole_text, exact_text}
use Rattle.gq_text.proofs.Exacts.{numeral_is, fitting, either}
use Rattle.gq_text.proofs.Splits.{one_split, all_in_prefix}
use Rattle.gq_field.specs.Values.{signed}

-- if a value exists exactly when a fact holds, and the fact holds, the value exists
some-iff : (o : Option ℕ) (P : Type 0) (v : ℕ) → SomeIff o P v → P → IsSomeAnd o (λ m. m ≡ v)
some-iff None P v h p = absurd (h p)
some-iff (Some m) P v h p = h.1

-- ---- digits

-- digits that spell a small number are read as it
pub digits_back : (text digits rest : List ℕ) (o : Option ℕ) (n : ℕ) → n < 2 ^ 128 → text ≡ decimal n → SplitsDigits text digits rest → SomeIff o (0 * 10 ^ length digits + spelled digits < 2 ^ 128) (0 * 10 ^ length digits + spelled digits) → IsSomeAnd o (λ m. m ≡ n)
digits_back text digits rest o n small is split found =
    let m = numeral_is n (omega (arith, small)) in
    let same = all_in_prefix text digits rest split (subst AreDigits (sym is) m.digits) in
    let spells : spelled digits ≡ n = ap spelled (same.0 ∙ is) ∙ m.spells in
    let value : 0 * 10 ^ length digits + spelled digits ≡ n = omega (arith, spells) in
    subst (λ v. IsSomeAnd o (λ k. k ≡ v)) value (some-iff o (0 * 10 ^ length digits + spelled digits < 2 ^ 128) (0 * 10 ^ length digits + spelled digits) found (omega (arith, value, small)))

-- and nothing follows them
pub digits_alone : (text digits rest : List ℕ) (n : ℕ) → n < 2 ^ 128 → text ≡ decimal n → SplitsDigits text digits rest → rest ≡ []
digits_alone text digits rest n small is split =
    (all_in_prefix text digits rest split (subst AreDigits (sym is) (numeral_is n (omega (arith, small))).digits)).1

-- ---- the parts of an exact text

-- what follows a numerator: nothing, or `/` and a denominator
abbrev pub over_text : Number → List ℕ
over_text x = if x.denominator == 1 then [] else codes "/" ++ decimal x.denominator

over_begins : (x : Number) → BeginsNoDigit (over_text x)
over_begins x = by (x.denominator == 1)
  where
    by : (b : Bool) → BeginsNoDigit (if b then [] else codes "/" ++ decimal x.denominator)
    by true = tt
    by false = λ low. absurd (omega arith)

-- the sign and the magnitude of a text
pub record HasMagnitude (z : ℤ) (negative : Bool) (unsigned tail : List ℕ) : Type 0 where
  pub magnitude : ℕ
  pub signed_is : z ≡ signed negative magnitude
  pub size : magnitude ≡ nat_abs z
  pub text_is : unsigned ≡ decimal magnitude ++ tail

first_digit : (n : ℕ) (tail rest : List ℕ) (byte : ℕ) → n < 10 ^ 64 → byte < 48 → decimal n ++ tail ≡ byte ∷ rest → ⊥
first_digit n tail rest byte small low e = by (decimal n) (numeral_is n small) e
  where
    by : (ds : List ℕ) → IsNumeral n ds → ds ++ tail ≡ byte ∷ rest → ⊥
    by [] m e = absurd (let s = m.some in omega (arith, s))
    by (d ∷ ds) m e = let same : d ≡ byte = cc in let range = m.digits.0 in omega (arith, range, same, low)

after_first : (a b : ℕ) (s t : List ℕ) → a ∷ s ≡ b ∷ t → (a ≡ b) × (s ≡ t)
after_first a b s t e = (cc, cc)

-- a text that begins with a numerator splits at its sign
pub sign_split : (z : ℤ) (text tail : List ℕ) (negative : Bool) (unsigned : List ℕ) → nat_abs z < 2 ^ 127 → text ≡ whole_text z ++ tail → SplitsSign text negative unsigned → HasMagnitude z negative unsigned tail
sign_split (pos n) text tail negative unsigned small is split =
    elim split [
      | inl minus ↦ absurd (first_digit n tail unsigned 45 (omega (arith, small)) (omega arith) (sym is ∙ minus.0))
      | inr rest ↦ elim rest [
        | inl plus ↦ absurd (first_digit n tail unsigned 43 (omega (arith, small)) (omega arith) (sym is ∙ plus.0))
        | inr none ↦ record { magnitude = n; signed_is = ap (λ b. signed b n) (sym none.1); size = refl; text_is = sym none.0 ∙ is }
      ]
    ]
sign_split (negsuc n) text tail negative unsigned small is split =
    let begins : text ≡ 45 ∷ (decimal (n + 1) ++ tail) = is in
    elim split [
      | inl minus ↦ record { magnitude = suc n; signed_is = ap (λ b. signed b (suc n)) (sym minus.1); size = refl; text_is = (after_first 45 45 unsigned (decimal (n + 1) ++ tail) (sym minus.0 ∙ begins)).1 ∙ ap (λ k. decimal k ++ tail) (add-one n) }
      | inr rest ↦ elim rest [
        | inl plus ↦ absurd (let same = (after_first 43 45 unsigned (decimal (n + 1) ++ tail) (sym plus.0 ∙ begins)).0 in omega (arith, same))
        | inr none ↦ absurd (let other : BeginsOther 45 (45 ∷ (decimal (n + 1) ++ tail)) = subst (BeginsOther 45) begins none.2 in other refl)
      ]
    ]

-- a numerator's digits, and what follows them
pub record HasParts (x : Number) (negative : Bool) (digits rest : List ℕ) : Type 0 where
  pub signed_is : x.numerator ≡ signed negative (spelled digits)
  pub small : spelled digits < 2 ^ 127
  pub rest_is : rest ≡ over_text x

pub parts_back : (x : Number) (text unsigned digits rest : List ℕ) (negative : Bool) → nat_abs x.numerator < 2 ^ 127 → text ≡ exact_text x → SplitsSign text negative unsigned → SplitsDigits unsigned digits rest → HasParts x negative digits rest
parts_back x text unsigned digits rest negative small is sign split =
    let prefix = sign_split x.numerator text (over_text x) negative unsigned small is sign in
    let size = prefix.size in
    let m = numeral_is prefix.magnitude (omega (arith, size, small)) in
    let same = one_split digits (decimal prefix.magnitude) rest (over_text x) split.are_digits m.digits split.all (over_begins x) (sym split.text_is ∙ prefix.text_is) in
    let spells : spelled digits ≡ prefix.magnitude = ap spelled same.0 ∙ m.spells in
    record { signed_is = prefix.signed_is ∙ ap (signed negative) (sym spells); small = omega (arith, spells, size, small); rest_is = same.1 }

-- what follows a numerator is read as the denominator
pub below_back : (x : Number) (rest : List ℕ) (o : Option ℕ) → x.denominator < 2 ^ 127 → rest ≡ over_text x → (rest ≡ [] → IsSomeAnd o (λ d. d ≡ 1)) → ((n : ℕ) → n < 2 ^ 128 → rest ≡ 47 ∷ decimal n → IsSomeAnd o (λ d. d ≡ n)) → IsSomeAnd o (λ d. d ≡ x.denominator)
below_back x rest o small is one other =
    either (x.denominator == 1) (IsSomeAnd o (λ d. d ≡ x.denominator))
    (λ e. let is_one : x.denominator ≡ 1 = grind (arith, nat_tests) in subst (λ d. IsSomeAnd o (λ k. k ≡ d)) (sym is_one) (one (is ∙ ap (λ b. if b then [] else codes "/" ++ decimal x.denominator) e)))
    (λ e. other x.denominator (omega (arith, small)) (is ∙ ap (λ b. if b then [] else codes "/" ++ decimal x.denominator) e))

pub numerator_small : (limit : ℕ) (x : Number) → limit < 2 ^ 127 → fits limit x ≡ true → nat_abs x.numerator < 2 ^ 127
numerator_small limit x l f = let n = (fitting limit x f).numerator in omega (arith, n, l)

pub denominator_small : (limit : ℕ) (x : Number) → limit < 2 ^ 127 → fits limit x ≡ true → x.denominator < 2 ^ 127
denominator_small limit x l f = let d = (fitting limit x f).denominator in omega (arith, d, l)

-- ---- the number of both parts

-- the parts of a number within the limit make it
pub parts_make : {F : Type 0} (limit : ℕ) (value : F → Number) (r : Result F Limit) (x : Number) (n : ℤ) (d : ℕ) → n ≡ x.numerator → d ≡ x.denominator → fits limit x ≡ true → Answers value r (fits limit (ratio n d)) (ratio n d) → IsSomeAnd (result_ok r) (λ y. value y ≡ x)
parts_make {F} limit value r x n d p q f answers =
    let same : ratio n d ≡ x = ap₂ ratio p q ∙ ratio_itself x in
    by r (subst (λ y. Answers value r (fits limit y) y) same answers)
  where
    by : (r : Result F Limit) → Answers value r (fits limit x) x → IsSomeAnd (result_ok r) (λ y. value y ≡ x)
    by (Ok y) h = h.1
    by (Err e) h = absurd (let wrong = sym f ∙ h in cc)

-- ---- a magnitude with a sign, in 128 bits

minus_is : (n : ℕ) → pos 0 -ℤ pos n ≡ neg_ℤ (pos n)
minus_is zero = refl
minus_is (suc n) = omega (arith, ints)

minus_size : (n : ℕ) → nat_abs (neg_ℤ (pos n)) ≡ n
minus_size zero = refl
minus_size (suc n) = refl

negative_is : (n : ℕ) → n < 2 ^ 127 → to_z w128 (of_z w128 (pos 0 -ℤ to_z w128 n)) ≡ neg_ℤ (pos n)
negative_is n small =
    let size = minus_size n in
    ap (λ z. to_z w128 (of_z w128 (pos 0 -ℤ z))) (to_z_pos w128 n small) ∙ ap (λ z. to_z w128 (of_z w128 z)) (minus_is n) ∙ to_z-of_z w128 (neg_ℤ (pos n)) (fits_signed_from_abs w128 (neg_ℤ (pos n)) (omega (arith, size, small)))

-- its bits, by its sign
pub signed_true : (bits n : ℕ) (negative : Bool) → n < 2 ^ 127 → to_z w128 bits ≡ to_z w128 (of_z w128 (pos 0 -ℤ to_z w128 n)) → negative ≡ true → to_z w128 bits ≡ signed negative n
signed_true bits n negative small is so = is ∙ negative_is n small ∙ ap (λ b. signed b n) (sym so)

pub signed_false : (bits n : ℕ) (negative : Bool) → n < 2 ^ 127 → to_z w128 bits ≡ to_z w128 n → negative ≡ false → to_z w128 bits ≡ signed negative n
signed_false bits n negative small is so = is ∙ to_z_pos w128 n small ∙ ap (λ b. signed b n) (sym so)
