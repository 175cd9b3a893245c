-- Digits that are appended in order, from the first on.
use Rattle.std.proofs.Common.{◌≡◌, ℕ, zero, suc, ◌+◌, ◌-◌, ◌*◌, ◌/◌, ◌%◌, ◌^◌, ◌<◌, ◌≤◌, List, [], ◌∷◌, ◌++◌, length, refl, sym, ap, ◌∙◌, subst, arith, append_assoc, length-append, div-add-mod', mod-lt, div-lt_iff_lt-mul}
use Rattle.std.proofs.Math.Nat.{pow-succ', one-le-pow}
use Rattle.gq_text.specs.Numeral.{AreDigits, spelled, IsNumeral}
use Rattle.gq_text.specs.InnerAppends.{AppendsDigits, AppendsNumeral}
use Rattle.gq_text.proofs.Numerals.{spelled_push, spelled-lt, AreDigits-append}

-- of n with `places` digits all but the last `left` are appended, and this rest remains
pub record HasDigits (old now : List ℕ) (n places left rest : ℕ) : Type 0 where
  pub digits : List ℕ
  pub appended : now ≡ old ++ digits
  pub are_digits : AreDigits digits
  pub places_are : length digits + left ≡ places
  pub splits : spelled digits * 10 ^ left + rest ≡ n
  pub small : rest < 10 ^ left

pub none_yet : (old : List ℕ) (n places : ℕ) → n < 10 ^ places → HasDigits old old n places places n
none_yet old n places small = record { digits = []; appended = sym (append_nil old); are_digits = tt; places_are = omega arith; splits = omega arith; small = small }
  where
    append_nil : (xs : List ℕ) → xs ++ [] ≡ xs
    append_nil [] = refl
    append_nil (x ∷ xs) = ap (λ (l : List ℕ). x ∷ l) (append_nil xs)

-- the next digit is at most 9
pub digit_small : (rest p k u : ℕ) → p ≡ suc k → u ≡ 10 ^ k → rest < 10 ^ p → rest / u < 10
digit_small rest p k u e f small =
    let some = one-le-pow k 10 (omega arith) in
    let unit : 10 ^ p ≡ 10 * u = ap (λ n. 10 ^ n) e ∙ pow-succ' 10 k ∙ ap (λ n. 10 * n) (sym f) in
    (div-lt_iff_lt-mul {k = u} {x = rest} {y = 10} (omega arith)).1 (omega arith)

pub one_more : (old now : List ℕ) (n places p k u rest : ℕ) → p ≡ suc k → u ≡ 10 ^ k → HasDigits old now n places p rest → HasDigits old (now ++ (48 + rest / u) ∷ []) n places k (rest % u)
one_more old now n places p k u rest e f so_far =
    let some = one-le-pow k 10 (omega arith) in
    let d = digit_small rest p k u e f so_far.small in
    let spread = div-add-mod' rest u in
    let unit : 10 ^ p ≡ 10 * u = ap (λ n. 10 ^ n) e ∙ pow-succ' 10 k ∙ ap (λ n. 10 * n) (sym f) in
    let was : spelled so_far.digits * (10 * u) + rest ≡ n = subst (λ t. spelled so_far.digits * t + rest ≡ n) unit so_far.splits in
    let pushed : spelled (so_far.digits ++ (48 + rest / u) ∷ []) ≡ spelled so_far.digits * 10 + rest / u = spelled_push so_far.digits (48 + rest / u) ∙ omega arith in
    record {
      digits = so_far.digits ++ (48 + rest / u) ∷ [];
      appended = ap (λ (l : List ℕ). l ++ (48 + rest / u) ∷ []) so_far.appended ∙ append_assoc old so_far.digits _;
      are_digits = AreDigits-append so_far.digits _ so_far.are_digits (omega arith, omega arith, tt);
      places_are = omega (arith, so_far.places_are, length-append so_far.digits ((48 + rest / u) ∷ []));
      splits = ap (λ s. s * 10 ^ k + rest % u) pushed ∙ subst (λ t. (spelled so_far.digits * 10 + rest / u) * t + rest % u ≡ n) f (omega arith);
      small = subst (λ t. rest % u < t) f (mod-lt rest (omega arith));
    }

pub all_pushed : (old now : List ℕ) (n places rest : ℕ) → HasDigits old now n places 0 rest → AppendsDigits old now n places
all_pushed old now n places rest so_far =
    let small = so_far.small in
    record { digits = so_far.digits; appended = so_far.appended; are_digits = so_far.are_digits; places_are = omega (arith, so_far.places_are); spells = omega (arith, so_far.splits) }

-- a tenth has a place less
pub tenth_small : (n places : ℕ) → 0 < places → n < 10 ^ places → n / 10 < 10 ^ (places - 1)
tenth_small n zero some small = absurd (omega (arith, some))
tenth_small n (suc k) some small =
    let unit : 10 ^ suc k ≡ 10 * 10 ^ k = pow-succ' 10 k in
    let less : k ≡ suc k - 1 = omega arith in
    subst (λ j. n / 10 < 10 ^ j) less ((div-lt_iff_lt-mul {k = 10} {x = n} {y = 10 ^ k} (omega arith)).1 (omega arith))

-- the digits of a tenth, and the last digit after them
pub digit_after : (old now : List ℕ) (n places : ℕ) → 0 < places → AppendsDigits old now (n / 10) (places - 1) → AppendsDigits old (now ++ (48 + n % 10) ∷ []) n places
digit_after old now n places some tenth =
    let last : n % 10 < 10 = mod-lt n (omega arith) in
    let spread = div-add-mod' n 10 in
    record {
      digits = tenth.digits ++ (48 + n % 10) ∷ [];
      appended = ap (λ (l : List ℕ). l ++ (48 + n % 10) ∷ []) tenth.appended ∙ append_assoc old tenth.digits _;
      are_digits = AreDigits-append tenth.digits _ tenth.are_digits (omega arith, omega arith, tt);
      places_are = omega (arith, tenth.places_are, length-append tenth.digits ((48 + n % 10) ∷ []), some);
      spells = spelled_push tenth.digits (48 + n % 10) ∙ ap (λ s. s * 10 + (48 + n % 10 - 48)) tenth.spells ∙ omega (arith, spread);
    }

-- digits that spell a number of as many places are its numeral
IsNumeral_from : (n k : ℕ) (ds : List ℕ) → AreDigits ds → length ds ≡ 1 + k → spelled ds ≡ n → (0 < k → 10 ^ k ≤ n) → IsNumeral n ds
IsNumeral_from n k [] h l e high = absurd (omega arith)
IsNumeral_from n k (b ∷ bs) h l e high =
    let rest = spelled-lt bs h.2 in
    let as_many : length bs ≡ k = omega arith in
    let unit : 10 ^ length bs ≡ 10 ^ k = ap (λ m. 10 ^ m) as_many in
    record { digits = h; some = omega arith; first = λ more zero_first. let low = high (omega arith) in let none : (b - 48) * 10 ^ length bs ≡ 0 = ap (λ d. (d - 48) * 10 ^ length bs) zero_first ∙ omega arith in omega arith; spells = e }

pub numeral_pushed : (old new : List ℕ) (n k : ℕ) → AppendsDigits old new n (1 + k) → (0 < k → 10 ^ k ≤ n) → AppendsNumeral old new n
numeral_pushed old new n k a high =
    record { numeral = a.digits; appended = a.appended; is_numeral = IsNumeral_from n k a.digits a.are_digits a.places_are a.spells high }
