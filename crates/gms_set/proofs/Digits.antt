-- The digits at the end of a label, found from its end.
use Rattle.std.proofs.Common.{ℕ, ◌≡◌, ◌≤◌, ◌<◌, ◌-◌, true, false, List, length, get_or, sym, arith, subst, inl, inr}
use Rattle.std.proofs.lemmas.Bool.{cases_lt}
use Rattle.std.specs.Char.{is_ascii_digit}
use Rattle.std.specs.Int.{IsInRange}
use Rattle.std.specs.Str.{IsCharBoundary}
use Rattle.std.proofs.lemmas.List.Sums.{suffix_len_is}
use Rattle.std.proofs.lemmas.Str.{IsCharBoundary-end, IsCharBoundary-before_ascii}
use Rattle.gms_set.specs.Ranges.{text_length}

-- all bytes of a label from one on are digits
pub record AreDigitsFrom (label : List ℕ) (n : ℕ) : Type 0 where
  pub within : n ≤ length label
  pub digits : (i : ℕ) → n ≤ i → i < length label → is_ascii_digit (get_or label i 0) ≡ true

pub none-yet : (label : List ℕ) → AreDigitsFrom label (length label)
none-yet label = record { within = omega arith; digits = λ i at below. grind arith }

pub one-more : (label : List ℕ) (n : ℕ) → AreDigitsFrom label n → 0 < n → is_ascii_digit (get_or label (n - 1) 0) ≡ true → AreDigitsFrom label (n - 1)
one-more label n found some digit = record {
  within = (let w = found.within in omega arith);
  digits = λ i at below. elim (cases_lt i n) [
    | inl before ↦ (let e : i ≡ n - 1 = omega arith in subst (λ k. is_ascii_digit (get_or label k 0) ≡ true) (sym e) digit)
    | inr later ↦ found.digits i later below
  ];
}

in-range : (c : ℕ) → is_ascii_digit c ≡ true → IsInRange 48 57 c
in-range c digit = grind arith

pub decimal-from : (label : List ℕ) (n : ℕ) → AreDigitsFrom label n → (i : ℕ) → n ≤ i → i < length label → IsInRange 48 57 (get_or label i 0)
decimal-from label n found i at below = in-range (get_or label i 0) (found.digits i at below)

pub text_length-from : (label : List ℕ) (n : ℕ) → AreDigitsFrom label n → (0 < n → is_ascii_digit (get_or label (n - 1) 0) ≡ false) → n ≡ text_length label
text_length-from label n found stops =
    let is = suffix_len_is is_ascii_digit label n 0 found.within found.digits stops in
    let w = found.within in omega arith

pub boundary-from : (label : List ℕ) (n : ℕ) → AreDigitsFrom label n → IsCharBoundary label n
boundary-from label n found = elim (cases_lt n (length label)) [
  | inl before ↦ (let r = in-range (get_or label n 0) (found.digits n omega arith before) in IsCharBoundary-before_ascii label n before (let h = r.1 in omega arith))
  | inr later ↦ (let w = found.within in let e : n ≡ length label = omega arith in subst (IsCharBoundary label) (sym e) (IsCharBoundary-end label))
]
