-- A text with a sign, and a quotient's text, are read in one way: a decimal begins with no `-` and
-- has no `/`.
use Rattle.std.proofs.Common.{◌≡◌, ◌≢◌, ℕ, ◌+◌, ◌<◌, List, [], ◌∷◌, ◌++◌, length, codes, refl, sym, ap, ap₂, ◌∙◌, subst, arith, inl, inr, append_assoc, ℤ}
use Rattle.gq_number.specs.Number.{Number, ◌/ℚ◌, neg_ℚ}
use Rattle.gq_text.specs.Numeral.{AreDigits}
use Rattle.gq_text.specs.Decimal.{Decimal, IsSigned, IsExponent, Spells, MeansNumber, MeansSigned}
use Rattle.gq_text.specs.InnerParts.{BeginsOther, Divides}
use Rattle.gq_text.specs.Shown.{MeansQuotient}
use Rattle.gq_text.proofs.Splits.{one_number, Divides-from}

-- ---- signs

digits_begin : (byte : ℕ) (digits more : List ℕ) → byte < 48 → AreDigits digits → 0 < length digits → BeginsOther byte (digits ++ more)
digits_begin byte [] more low h some = absurd (omega arith)
digits_begin byte (b ∷ bs) more low h some = λ e. absurd (let range = h.0 in omega arith)

-- a decimal begins with a digit or a point
begins_no_minus : (text : List ℕ) (d : Decimal) → Spells text d → BeginsOther 45 text
begins_no_minus text d s = let p = Divides-from text d s in first text d.before d.following s.power p s.some
  where
    first : (text before following rest : List ℕ) → Divides text before following rest → 0 < length before + length following → BeginsOther 45 text
    first text [] following rest p some =
        elim p.tail_is [
          | inl dotted ↦ let at_point : BeginsOther 45 (46 ∷ (following ++ rest)) = (λ e. absurd (omega arith)) in subst (BeginsOther 45) (sym (p.text_is ∙ dotted)) at_point
          | inr bare ↦ absurd (let none = ap length bare.0 in omega arith)
        ]
    first text (b ∷ bs) following rest p some = subst (BeginsOther 45) (sym p.text_is) (digits_begin 45 (b ∷ bs) p.tail (omega arith) p.before_digits (omega arith))

means_no_minus : (text rest : List ℕ) (x : Number) → MeansNumber text x → ¬ (text ≡ codes "-" ++ rest)
means_no_minus text rest x m e = let other : BeginsOther 45 (45 ∷ rest) = subst (BeginsOther 45) e (begins_no_minus text m.0 m.1) in other refl

pub one_signed : (text : List ℕ) (x y : Number) → MeansSigned text x → MeansSigned text y → x ≡ y
one_signed text x y m n =
    elim m [
      | inl plus ↦ elim n [ inl plus' ↦ one_number text x y plus plus' | inr minus' ↦ absurd (means_no_minus text minus'.0 x plus minus'.2) ]
      | inr minus ↦ elim n [
        | inl plus' ↦ absurd (means_no_minus text minus.0 y plus' minus.2)
        | inr minus' ↦
            let rest : minus.0 ≡ minus'.0 = following minus.0 minus'.0 (sym minus.2 ∙ minus'.2) in
            minus.4 ∙ ap neg_ℚ (one_number minus'.0 minus.1 minus'.1 (subst (λ t. MeansNumber t minus.1) rest minus.3) minus'.3) ∙ sym minus'.4
      ]
    ]
  where
    following : (a b : List ℕ) → 45 ∷ a ≡ 45 ∷ b → a ≡ b
    following a b e = cc

-- ---- slashes

-- no byte is `/`
HasNoSlash : List ℕ → Type 0
HasNoSlash [] = Unit {0}
HasNoSlash (b ∷ bs) = (b ≢ 47) × HasNoSlash bs

no_slash_append : (xs ys : List ℕ) → HasNoSlash xs → HasNoSlash ys → HasNoSlash (xs ++ ys)
unfolding HasNoSlash
no_slash_append [] ys h k = k
no_slash_append (x ∷ xs) ys h k = (h.0, no_slash_append xs ys h.1 k)

no_slash_digits : (xs : List ℕ) → AreDigits xs → HasNoSlash xs
unfolding HasNoSlash
no_slash_digits [] h = tt
no_slash_digits (x ∷ xs) h = (λ e. absurd (let low = h.0 in omega arith), no_slash_digits xs h.2)

no_slash_at : (b : ℕ) (bs : List ℕ) → b ≢ 47 → HasNoSlash bs → HasNoSlash (b ∷ bs)
unfolding HasNoSlash
no_slash_at b bs h k = (h, k)

no_slash_none : HasNoSlash []
unfolding HasNoSlash
no_slash_none = tt

no_slash_signed : (text : List ℕ) (e : ℤ) → IsSigned text e → HasNoSlash text
no_slash_signed text e s =
    let digits = no_slash_digits s.0 s.1.0 in
    elim s.2 [
      | inl bare ↦ subst HasNoSlash (sym bare.0) digits
      | inr rest ↦ elim rest [
        | inl plus ↦ subst HasNoSlash (sym plus.0) (no_slash_at 43 s.0 (λ e. absurd (omega arith)) digits)
        | inr minus ↦ subst HasNoSlash (sym minus.0) (no_slash_at 45 s.0 (λ e. absurd (omega arith)) digits)
      ]
    ]

no_slash_exponent : (text : List ℕ) (e : ℤ) → IsExponent text e → HasNoSlash text
no_slash_exponent [] e h = no_slash_none
no_slash_exponent (mark ∷ text) e h = no_slash_at mark text (λ same. elim h.0 [ inl small ↦ absurd (omega arith) | inr large ↦ absurd (omega arith) ]) (no_slash_signed text e h.1)

no_slash_number : (text : List ℕ) (x : Number) → MeansNumber text x → HasNoSlash text
no_slash_number text x m =
    let s = m.1 in let d = m.0 in
    let before = no_slash_digits d.before s.before_digits in
    let following = no_slash_digits d.following s.after_digits in
    let power = no_slash_exponent s.power d.exponent s.power_is in
    let pointed : HasNoSlash s.pointed = elim s.pointed_is [
      | inl dotted ↦ subst HasNoSlash (sym (dotted ∙ append_assoc d.before (codes ".") d.following)) (no_slash_append d.before (46 ∷ d.following) before (no_slash_at 46 d.following (λ e. absurd (omega arith)) following))
      | inr bare ↦ subst HasNoSlash (sym bare.1) before
    ] in
    subst HasNoSlash (sym s.text_is) (no_slash_append s.pointed s.power pointed power)

no_slash_means : (text : List ℕ) (x : Number) → MeansSigned text x → HasNoSlash text
no_slash_means text x m =
    elim m [
      | inl plus ↦ no_slash_number text x plus
      | inr minus ↦ subst HasNoSlash (sym minus.2) (no_slash_at 45 minus.0 (λ e. absurd (omega arith)) (no_slash_number minus.0 minus.1 minus.3))
    ]

-- a slash splits a text in one way, if none occurs before it
one_slash : (a b c d : List ℕ) → HasNoSlash a → HasNoSlash c → a ++ 47 ∷ b ≡ c ++ 47 ∷ d → (a ≡ c) × (b ≡ d)
unfolding HasNoSlash
one_slash [] b [] d h k e = (refl, cc)
one_slash [] b (y ∷ c) d h k e = absurd (k.0 (let f : 47 ≡ y = cc in sym f))
one_slash (x ∷ a) b [] d h k e = absurd (h.0 (let f : x ≡ 47 = cc in f))
one_slash (x ∷ a) b (y ∷ c) d h k e =
    let rest = one_slash a b c d h.1 k.1 (let f : a ++ 47 ∷ b ≡ c ++ 47 ∷ d = cc in f) in
    (ap₂ (λ (z : ℕ) (zs : List ℕ). z ∷ zs) (let f : x ≡ y = cc in f) rest.0, rest.1)

a_slash : (a b : List ℕ) → ¬ HasNoSlash (a ++ 47 ∷ b)
unfolding HasNoSlash
a_slash [] b h = h.0 refl
a_slash (x ∷ a) b h = a_slash a b h.1

at_slash : (text a b : List ℕ) → text ≡ a ++ codes "/" ++ b → text ≡ a ++ 47 ∷ b
at_slash text a b e = e ∙ append_assoc a (codes "/") b

-- so a quotient's text means one number
pub one_quotient : (text : List ℕ) (x y : Number) → MeansQuotient text x → MeansQuotient text y → x ≡ y
one_quotient text x y m n =
    elim m [
      | inl one ↦ elim n [
        | inl one' ↦ one_signed text x y one one'
        | inr over' ↦ absurd (a_slash over'.0 over'.1 (subst HasNoSlash (at_slash text over'.0 over'.1 over'.4) (no_slash_means text x one)))
      ]
      | inr over ↦ elim n [
        | inl one' ↦ absurd (a_slash over.0 over.1 (subst HasNoSlash (at_slash text over.0 over.1 over.4) (no_slash_means text y one')))
        | inr over' ↦
            let same = one_slash over.0 over.1 over'.0 over'.1 (no_slash_means over.0 over.2 over.5) (no_slash_means over'.0 over'.2 over'.5) (sym (at_slash text over.0 over.1 over.4) ∙ at_slash text over'.0 over'.1 over'.4) in
            let above = one_signed over'.0 over.2 over'.2 (subst (λ t. MeansSigned t over.2) same.0 over.5) over'.5 in
            let below = one_number over'.1 over.3 over'.3 (subst (λ t. MeansNumber t over.3) same.1 over.6) over'.6 in
            over.7 ∙ ap₂ (λ u v. u /ℚ v) above below ∙ sym over'.7
      ]
    ]
