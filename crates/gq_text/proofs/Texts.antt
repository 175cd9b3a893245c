-- What the texts that are put mean, and that there is one of each.
use Rattle.std.proofs.Common.{◌≡◌, ℕ, suc, ◌+◌, ◌*◌, ◌/◌, ◌%◌, ◌^◌, ◌<◌, List, [], ◌∷◌, ◌++◌, length, codes, refl, sym, ap, ap₂, ◌∙◌, subst, arith, inl, inr, append_assoc, div-add-mod', ℤ, pos, negsuc}
use Rattle.gq_number.specs.Number.{Number, whole, ratio, ◌*ℚ◌, ◌/ℚ◌, neg_ℚ}
use Rattle.gq_number.proofs.Means.{same_by_means, ratio_means, ratio_itself}
use Rattle.gq_number.proofs.Field.{means-neg_ℚ}
use Rattle.gq_number.proofs.Naming.{decimal_parts, ratio-one, ratio_is}
use Rattle.gq_text.specs.Numeral.{AreDigits, spelled, IsNumeral, WithSign}
use Rattle.gq_text.specs.Decimal.{number_of, Spells, MeansNumber, MeansSigned}
use Rattle.gq_text.specs.Shown.{with_decimal_point, IsFixed, IsFixedSigned, IsRoundedText, IsExactText, MeansQuotient}
use Rattle.gq_text.proofs.Numerals.{spelled-append, one_numeral, same_digits}
use Rattle.gq_text.proofs.Literals.{tens_above}
use Rattle.gq_text.proofs.Combined.{times_tens}

append_nil : (xs : List ℕ) → xs ++ [] ≡ xs
append_nil [] = refl
append_nil (x ∷ xs) = ap (λ (l : List ℕ). x ∷ l) (append_nil xs)

-- ---- what digits without an exponent mean

plain_number : (before following : List ℕ) → number_of (record { before = before; following = following; exponent = pos 0 }) ≡ ratio (pos (spelled (before ++ following))) (10 ^ length following)
plain_number before following =
    let p = length following in
    ap (λ x. x *ℚ whole (pos (10 ^ 0))) (sym (decimal_parts (spelled before) (spelled following) p) ∙ ap (λ m. ratio (pos m) (10 ^ p)) (sym (spelled-append before following)))
    ∙ times_tens (spelled (before ++ following)) (10 ^ p) 0 (tens_above p) ∙ ap (λ m. ratio (pos m) (10 ^ p)) (omega arith)

pub numeral_means : (n : ℕ) (text : List ℕ) → IsNumeral n text → MeansNumber text (ratio (pos n) 1)
numeral_means n text m = (
  record { before = text; following = []; exponent = pos 0 },
  record { pointed = text; power = []; text_is = sym (append_nil text); before_digits = m.digits; after_digits = tt; some = (let s = m.some in omega arith); pointed_is = inr (refl, refl); power_is = refl },
  ap (λ k. ratio (pos k) 1) (sym m.spells ∙ ap spelled (sym (append_nil text))) ∙ sym (plain_number text []),
)

fixed_text : (text before following : List ℕ) → AreDigits before → AreDigits following → 0 < length before → text ≡ before ++ with_decimal_point following → Spells text (record { before = before; following = following; exponent = pos 0 })
fixed_text text before [] h k some layout =
    record { pointed = before; power = []; text_is = layout; before_digits = h; after_digits = tt; some = omega arith; pointed_is = inr (refl, refl); power_is = refl }
fixed_text text before (b ∷ bs) h k some layout =
    record { pointed = before ++ (codes "." ++ (b ∷ bs)); power = []; text_is = layout ∙ sym (append_nil (before ++ (codes "." ++ (b ∷ bs)))); before_digits = h; after_digits = k; some = omega arith; pointed_is = inl (sym (append_assoc before (codes ".") (b ∷ bs))); power_is = refl }

pub fixed_means : (d n : ℕ) (text : List ℕ) → IsFixed d n text → MeansNumber text (ratio (pos n) (10 ^ d))
fixed_means d n text f =
    let split = div-add-mod' n (10 ^ d) in
    let number : spelled (f.before ++ f.following) ≡ n = spelled-append f.before f.following ∙ ap₂ (λ a b. a * 10 ^ length f.following + b) f.before_is.spells f.after_spells ∙ ap (λ p. n / 10 ^ d * 10 ^ p + n % 10 ^ d) f.after_places ∙ split in (
      record { before = f.before; following = f.following; exponent = pos 0 },
      fixed_text text f.before f.following f.before_is.digits f.after_digits f.before_is.some f.text_is,
      ap₂ (λ k p. ratio (pos k) (10 ^ p)) (sym number) (sym f.after_places) ∙ sym (plain_number f.before f.following),
    )

neg-ratio : (n d : ℕ) → 0 < d → ratio (negsuc n) d ≡ neg_ℚ (ratio (pos (suc n)) d)
neg-ratio n d some = sym (same_by_means (means-neg_ℚ (ratio_means (pos (suc n)) d some)) (ratio_means (negsuc n) d some) refl)

-- a sign before what means a number
pub signed_means : (Is : ℕ → List ℕ → Type 0) (d : ℕ) (z : ℤ) (text : List ℕ) → 0 < d → ((n : ℕ) (t : List ℕ) → Is n t → MeansNumber t (ratio (pos n) d)) → WithSign Is z text → MeansSigned text (ratio z d)
signed_means Is d (pos n) text some means h = inl (means n text h)
signed_means Is d (negsuc n) text some means h = inr (h.0, ratio (pos (suc n)) d, h.1, means (suc n) h.0 h.2, neg-ratio n d some)

pub fixed_reads : (d : ℕ) (n : ℤ) (text : List ℕ) → IsFixedSigned d n text → MeansSigned text (ratio n (10 ^ d))
fixed_reads d n text h = signed_means (IsFixed d) (10 ^ d) n text (tens_above d) (fixed_means d) h

pub exact_reads_back : (x : Number) (text : List ℕ) → IsExactText x text → MeansQuotient text x
exact_reads_back x text h =
    elim h [
      | inl one ↦ inl (subst (MeansSigned text) (ap (ratio x.numerator) (sym one.0) ∙ ratio_itself x) (signed_means IsNumeral 1 x.numerator text (omega arith) numeral_means one.1))
      | inr more ↦ let parts = more.1 in
          inr (
            parts.0,
            parts.1,
            ratio x.numerator 1,
            ratio (pos x.denominator) 1,
            parts.2,
            signed_means IsNumeral 1 x.numerator parts.0 (omega arith) numeral_means parts.3,
            numeral_means x.denominator parts.1 parts.4,
            sym (ratio_itself x) ∙ ratio_is x.numerator x.denominator ∙ ap₂ (λ y z. y /ℚ z) (sym (ratio-one x.numerator)) (sym (ratio-one (pos x.denominator))),
          )
    ]

-- ---- one text

-- a whole number has one text after its sign, if magnitudes have one
pub one_with_sign : (Is : ℕ → List ℕ → Type 0) (z : ℤ) (s t : List ℕ) → ((n : ℕ) (s t : List ℕ) → Is n s → Is n t → s ≡ t) → WithSign Is z s → WithSign Is z t → s ≡ t
one_with_sign Is (pos n) s t one h k = one n s t h k
one_with_sign Is (negsuc n) s t one h k = h.1 ∙ ap (λ (l : List ℕ). codes "-" ++ l) (one (suc n) h.0 k.0 h.2 k.2) ∙ sym k.1

pub one_fixed : (d n : ℕ) (s t : List ℕ) → IsFixed d n s → IsFixed d n t → s ≡ t
one_fixed d n s t f g =
    let before = one_numeral (n / 10 ^ d) f.before g.before f.before_is g.before_is in
    let following = same_digits f.following g.following f.after_digits g.after_digits (f.after_places ∙ sym g.after_places) (f.after_spells ∙ sym g.after_spells) in
    f.text_is ∙ ap₂ (λ (a b : List ℕ). a ++ with_decimal_point b) before following ∙ sym g.text_is

pub one_rounded : (d : ℕ) (x : Number) (s t : List ℕ) → IsRoundedText d x s → IsRoundedText d x t → s ≡ t
one_rounded d x s t h k = one_with_sign (IsFixed d) _ s t (one_fixed d) h k

pub one_exact : (x : Number) (s t : List ℕ) → IsExactText x s → IsExactText x t → s ≡ t
one_exact x s t h k =
    elim h [
      | inl one ↦ elim k [ inl one' ↦ one_with_sign IsNumeral x.numerator s t one_numeral one.1 one'.1 | inr more' ↦ absurd (more'.0 one.0) ]
      | inr more ↦ elim k [
        | inl one' ↦ absurd (more.0 one'.0)
        | inr more' ↦ let a = more.1 in let b = more'.1 in
            a.2 ∙ ap₂ (λ (u v : List ℕ). u ++ codes "/" ++ v) (one_with_sign IsNumeral x.numerator a.0 b.0 one_numeral a.3 b.3) (one_numeral x.denominator a.1 b.1 a.4 b.4) ∙ sym b.2
      ]
    ]
