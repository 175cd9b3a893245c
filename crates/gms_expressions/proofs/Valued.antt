-- The number that a text means, where it means one.
use Rattle.std.proofs.Common.{◌≡◌, ℕ, ◌+◌, ◌<◌, ◌==◌, ◌⊎◌, Bool, true, false, cond, List, [], ◌∷◌, ◌++◌, length, take, drop, refl, sym, ap, ap₂, ◌∙◌, subst, arith, inl, inr, ℤ, pos, neg_ℤ}
use Rattle.std.specs.List.{prefix_len}
use Rattle.std.specs.Char.{is_ascii_digit}
use Rattle.std.proofs.lemmas.List.{append-nil}
use Rattle.std.proofs.lemmas.Bool.Decides.{eqb_tells}
use Rattle.gq_text.specs.Numeral.{AreDigits, spelled}
use Rattle.gq_text.specs.Decimal.{Decimal, number_of, IsSomeDigits, IsSigned, IsExponent, MeansNumber}
use Rattle.gq_text.specs.InnerParts.{BeginsNoDigit, SplitsDigits, Divides, SplitsSign, exponent_of}
use Rattle.gq_text.proofs.Splits.{counted_digits, all_in_prefix, signed_digits as only_digits, IsSigned_from, Divides-from, Spells-from, one_division}
use Rattle.gq_text.proofs.Readings.{no_digits, no_power}
use Rattle.gms_expressions.specs.Valuations.{IsValuation, leading_digits, after_digits, point_digits, after_point, signed_digits, exponent_in, number_meant}

-- something of which P holds, or that there is none
abbrev pub Told : {X : Type 0} → (X → Type 0) → Type 0
Told {X} P = ((x : X) × P x) ⊎ ((x : X) → ¬ P x)

-- ---- exponents

digits_told : (text digits rest : List ℕ) → SplitsDigits text digits rest → IsSomeDigits text ⊎ (¬ IsSomeDigits text)
digits_told text [] rest p = inr (λ h. let prefix = all_in_prefix text [] rest p h.0 in let none : 0 ≡ length text = ap length prefix.0 in absurd (omega (arith, h.1)))
digits_told text (b ∷ bs) [] p = inl (subst (λ l. IsSomeDigits l) (sym (p.text_is ∙ append-nil (b ∷ bs))) (p.are_digits, omega arith))
digits_told text (b ∷ bs) (c ∷ cs) p = inr (λ h. let prefix = all_in_prefix text (b ∷ bs) (c ∷ cs) p h.0 in let none : length (c ∷ cs) ≡ 0 = ap length prefix.1 in absurd (omega arith))

-- a text with an optional sign before it, and its whole number
record SignTold (text : List ℕ) : Type 0 where
  negative : Bool
  digits : List ℕ
  splits : SplitsSign text negative digits
  number : signed_digits text ≡ exponent_of negative digits

sign_told : (text : List ℕ) → SignTold text
sign_told [] = record { negative = false; digits = []; splits = inr (inr (refl, refl, tt, tt)); number = refl }
sign_told (b ∷ bs) =
    elim (eqb_tells b 45) [
      | inl minus ↦ record {
        negative = true;
        digits = bs;
        splits = inl (ap (λ (z : ℕ). z ∷ bs) minus.1, refl);
        number = ap (λ t. cond t (neg_ℤ (pos (spelled bs))) (cond (b == 43) (pos (spelled bs)) (pos (spelled (b ∷ bs))))) minus.0;
      }
      | inr other ↦ elim (eqb_tells b 43) [
        | inl plus ↦ record {
          negative = false;
          digits = bs;
          splits = inr (inl (ap (λ (z : ℕ). z ∷ bs) plus.1, refl));
          number = ap (λ t. cond t (neg_ℤ (pos (spelled bs))) (cond (b == 43) (pos (spelled bs)) (pos (spelled (b ∷ bs))))) other.0 ∙ ap (λ t. cond t (pos (spelled bs)) (pos (spelled (b ∷ bs)))) plus.0;
        }
        | inr none ↦ record {
          negative = false;
          digits = b ∷ bs;
          splits = inr (inr (refl, refl, other.1, none.1));
          number = ap (λ t. cond t (neg_ℤ (pos (spelled bs))) (cond (b == 43) (pos (spelled bs)) (pos (spelled (b ∷ bs))))) other.0 ∙ ap (λ t. cond t (pos (spelled bs)) (pos (spelled (b ∷ bs)))) none.0;
        }
      ]
    ]

signed_told : (text : List ℕ) → Told (IsSigned text)
signed_told text =
    let s = sign_told text in
    elim (digits_told s.digits (take (prefix_len is_ascii_digit s.digits) s.digits) (drop (prefix_len is_ascii_digit s.digits) s.digits) (counted_digits s.digits)) [
      | inl h ↦ inl (exponent_of s.negative s.digits, IsSigned_from text s.digits s.negative s.splits h)
      | inr none ↦ inr (λ e h. none (only_digits text s.digits s.negative e h s.splits).0)
    ]

mark_told : (b : ℕ) → ((b ≡ 101) ⊎ (b ≡ 69)) ⊎ (¬ ((b ≡ 101) ⊎ (b ≡ 69)))
mark_told b =
    elim (eqb_tells b 101) [
      | inl small ↦ inl (inl small.1)
      | inr other ↦ elim (eqb_tells b 69) [
        | inl large ↦ inl (inr large.1)
        | inr none ↦ inr (λ h. elim h [ inl small ↦ other.1 small | inr large ↦ none.1 large ])
      ]
    ]

exponent_told : (text : List ℕ) → Told (IsExponent text)
exponent_told [] = inl (pos 0, refl)
exponent_told (mark ∷ text) =
    elim (mark_told mark) [
      | inl m ↦ elim (signed_told text) [ inl s ↦ inl (s.0, (m, s.1)) | inr none ↦ inr (λ e h. none e h.1) ]
      | inr other ↦ inr (λ e h. other h.0)
    ]

-- ---- decimals

-- the digits around a point that a text begins with, and what follows them
divides : (text : List ℕ) → Divides text (leading_digits text) (point_digits (after_digits text)) (after_point (after_digits text))
divides text =
    let prefix = counted_digits text in
    by (after_digits text) prefix.text_is prefix.are_digits prefix.all
  where
    by : (tail : List ℕ) → text ≡ leading_digits text ++ tail → AreDigits (leading_digits text) → BeginsNoDigit tail → Divides text (leading_digits text) (point_digits tail) (after_point tail)
    by [] is are all = record { tail = []; text_is = is; before_digits = are; after_digits = tt; tail_is = inr (refl, refl, tt); all = tt }
    by (b ∷ bs) is are all = go (b == 46) refl (eqb_tells b 46)
      where
        go : (t : Bool) → (b == 46) ≡ t → (((b == 46) ≡ true) × (b ≡ 46)) ⊎ (((b == 46) ≡ false) × (b ≡ 46 → ⊥)) → Divides text (leading_digits text) (cond t (leading_digits bs) []) (cond t (after_digits bs) (b ∷ bs))
        go true e (inl dot) = let d = counted_digits bs in record {
          tail = b ∷ bs;
          text_is = is;
          before_digits = are;
          after_digits = d.are_digits;
          tail_is = inl (ap (λ (z : ℕ). z ∷ bs) dot.1 ∙ ap (λ (l : List ℕ). 46 ∷ l) d.text_is);
          all = d.all;
        }
        go true e (inr other) = absurd cc
        go false e (inl dot) = absurd cc
        go false e (inr other) = record { tail = b ∷ bs; text_is = is; before_digits = are; after_digits = tt; tail_is = inr (refl, refl, other.1); all = all }

with_power : (text before following rest : List ℕ) → Divides text before following rest → 0 < length before + length following → Told (IsExponent rest) → Told (MeansNumber text)
with_power text before following rest p some (inl e) =
    let d : Decimal = record { before = before; following = following; exponent = e.0 } in
    inl (number_of d, (d, Spells-from text rest d p some e.1, refl))
with_power text before following rest p some (inr none) = inr (λ x. no_power text before following rest x p none)

divided_told : (text before following rest : List ℕ) → Divides text before following rest → Told (MeansNumber text)
divided_told text [] [] rest p = inr (λ x. no_digits text [] [] rest x p refl refl)
divided_told text [] (c ∷ cs) rest p = with_power text [] (c ∷ cs) rest p (omega arith) (exponent_told rest)
divided_told text (b ∷ bs) following rest p = with_power text (b ∷ bs) following rest p (omega arith) (exponent_told rest)

pub number_told : (text : List ℕ) → Told (MeansNumber text)
number_told text = divided_told text (leading_digits text) (point_digits (after_digits text)) (after_point (after_digits text)) (divides text)

-- ---- values

exponent_is : (text : List ℕ) (e : ℤ) → IsExponent text e → exponent_in text ≡ e
exponent_is [] e h = sym h
exponent_is (mark ∷ text) e h = let s = sign_told text in s.number ∙ sym (only_digits text s.digits s.negative e h.1 s.splits).1

pub number_in_is : IsValuation number_meant
unfolding number_meant
number_in_is text x m =
    let same = one_division text (leading_digits text) (point_digits (after_digits text)) (after_point (after_digits text)) m.0.before m.0.following m.1.power (divides text) (Divides-from text m.0 m.1) in
    let power = exponent_is (after_point (after_digits text)) m.0.exponent (subst (λ (r : List ℕ). IsExponent r m.0.exponent) (sym same.same_rest) m.1.power_is) in
    ap (λ (d : Decimal). number_of d) (ap₂ (λ (x : List ℕ × List ℕ) (e : ℤ). record { before = x.0; following = x.1; exponent = e }) (ap₂ (λ (a : List ℕ) (b : List ℕ). (a, b)) same.same_before same.same_after) power) ∙ sym m.2
