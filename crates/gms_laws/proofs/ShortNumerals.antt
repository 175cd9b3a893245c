-- A numeral of at most nine digits is the text of a number that a literal may have.
use Rattle.std.proofs.lemmas.Bool.{and_parts}
use Rattle.std.proofs.Common.{◌≡◌, ◌≢◌, inl, inr, ℕ, zero, suc, ◌*◌, ◌/◌, ◌%◌, ◌^◌, ◌<◌, ◌≤◌, ◌==◌, ◌&&◌, ◌||◌, Bool, true, false, not, nat_lt, nat_le, List, [], ◌∷◌, length, pos, refl, sym, ap, ◌∙◌, subst, arith, ltb-true, leb-true}
use Rattle.std.proofs.Math.Nat.{pow-succ', pow-le-pow_right}
use Rattle.std.specs.List.{list_all}
use Rattle.std.specs.Prelude.{slice_index}
use Rattle.gq_number.specs.Number.{Number, ratio}
use Rattle.gq_text.specs.Decimal.{MeansNumber}
use Rattle.gq_text.specs.Literal.{HasNoTrailingZero, FitsLiteral}
use Rattle.gq_text.specs.Numeral.{AreDigits, spelled, IsNumeral}
use Rattle.gq_text.proofs.Literals.{fits_whole}
use Rattle.gq_text.proofs.Numerals.{spelled-lt}
use Rattle.gq_text.proofs.Texts.{numeral_means}

-- ---- a number without the zeros at its end

-- A number is m times ten to a power, where m does not end in 0.
pub record Shortened (n : ℕ) : Type 0 where
  pub m : ℕ
  pub e : ℕ
  pub shortest : HasNoTrailingZero m
  pub is : n ≡ m * 10 ^ e

power_more : (m e : ℕ) → 10 * (m * 10 ^ e) ≡ m * 10 ^ suc e
power_more m e = (let t : 10 * (m * 10 ^ e) ≡ m * (10 * 10 ^ e) = omega arith in t) ∙ ap (λ p. m * p) (sym (pow-succ' 10 e))

shorten : (fuel n : ℕ) → n ≤ fuel → Shortened n
shorten fuel zero h = record { m = 0; e = 0; shortest = inl refl; is = refl }
shorten zero (suc n) h = absurd (omega arith)
shorten (suc fuel) (suc n) h = by (suc n % 10) refl (λ k l. shorten fuel k l)
  where
    by : (rest : ℕ) → suc n % 10 ≡ rest → ((k : ℕ) → k ≤ fuel → Shortened k) → Shortened (suc n)
    by zero e less =
        let s = less (suc n / 10) (omega (arith, h)) in
        record { m = s.m; e = suc s.e; shortest = s.shortest; is = (let whole : suc n ≡ 10 * (suc n / 10) = omega arith in whole ∙ ap (λ k. 10 * k) s.is ∙ power_more s.m s.e) }
    by (suc r) e less = record { m = suc n; e = 0; shortest = inr (λ z. let no : suc r ≡ 0 = sym e ∙ z in cc); is = omega arith }

pub fits : (limit n : ℕ) → n ≤ limit → FitsLiteral limit (ratio (pos n) 1)
fits limit n h =
    let s = shorten n n (omega arith) in
    subst (λ k. FitsLiteral limit (ratio (pos k) 1)) (sym s.is) (fits_whole limit s.m s.e 0 s.e s.shortest (omega arith) (subst (λ k. k ≤ limit) s.is h))

-- ---- numerals

abbrev pub is_digit : ℕ → Bool
is_digit b = nat_le 48 b && nat_le b 57

-- at most nine digits, of which the first of several is not 0
abbrev is_none_left : List ℕ → Bool
is_none_left [] = true
is_none_left (b ∷ bs) = false

abbrev pub is_short : List ℕ → Bool
is_short [] = false
is_short (b ∷ bs) = is_digit b && (list_all is_digit bs && (nat_lt (length bs) 9 && (is_none_left bs || not (b == 48))))

pub right : (a b : Bool) → (a && b) ≡ true → b ≡ true
right true b h = h
right false b h = absurd (cc)

digits : (bs : List ℕ) → list_all is_digit bs ≡ true → AreDigits bs
digits [] h = tt
digits (b ∷ bs) h =
    let here = (and_parts (is_digit b) (list_all is_digit bs) h).0 in
    (leb-true 48 b ((and_parts (nat_le 48 b) (nat_le b 57) here).0), leb-true b 57 (right (nat_le 48 b) (nat_le b 57) here), digits bs (right (is_digit b) (list_all is_digit bs) h))

first_is : (b : ℕ) (bs : List ℕ) → (is_none_left bs || not (b == 48)) ≡ true → 1 < length (b ∷ bs) → slice_index (b ∷ bs) 0 ≢ 48
first_is b [] h some = absurd (omega arith)
first_is b (c ∷ cs) h some = λ e. let no : not (48 == 48) ≡ true = subst (λ k. not (k == 48) ≡ true) e h in cc

numeral : (b : ℕ) (bs : List ℕ) → is_short (b ∷ bs) ≡ true → IsNumeral (spelled (b ∷ bs)) (b ∷ bs) × (length bs < 9)
numeral b bs h =
    let one = (and_parts (is_digit b) (list_all is_digit bs && (nat_lt (length bs) 9 && (is_none_left bs || not (b == 48)))) h).0 in
    let others = right (is_digit b) (list_all is_digit bs && (nat_lt (length bs) 9 && (is_none_left bs || not (b == 48)))) h in
    let all = (and_parts (list_all is_digit bs) (nat_lt (length bs) 9 && (is_none_left bs || not (b == 48))) others).0 in
    let more = right (list_all is_digit bs) (nat_lt (length bs) 9 && (is_none_left bs || not (b == 48))) others in
    let are : AreDigits (b ∷ bs) = (leb-true 48 b ((and_parts (nat_le 48 b) (nat_le b 57) one).0), leb-true b 57 (right (nat_le 48 b) (nat_le b 57) one), digits bs all) in (
      record { digits = are; some = omega arith; first = first_is b bs (right (nat_lt (length bs) 9) (is_none_left bs || not (b == 48)) more); spells = refl },
      ltb-true (length bs) 9 ((and_parts (nat_lt (length bs) 9) (is_none_left bs || not (b == 48)) more).0),
    )

-- ten to a power at most nine
tens : (k : ℕ) → k ≤ 9 → 10 ^ k ≤ 10 ^ 9
tens k h = pow-le-pow_right {n = 10} (omega arith) h

-- such a text means a number that fits
pub short_means : (limit : ℕ) → 10 ^ 9 ≤ limit → (text : List ℕ) → is_short text ≡ true → (x : Number) × MeansNumber text x × FitsLiteral limit x
short_means limit wide [] h = absurd (cc)
short_means limit wide (b ∷ bs) h =
    let n = numeral b bs h in
    let below : spelled (b ∷ bs) < 10 ^ length (b ∷ bs) = spelled-lt (b ∷ bs) n.0.digits in
    let high : 10 ^ length (b ∷ bs) ≤ 10 ^ 9 = tens (length (b ∷ bs)) (omega (arith, n.1)) in
    (ratio (pos (spelled (b ∷ bs))) 1, numeral_means (spelled (b ∷ bs)) (b ∷ bs) n.0, fits limit (spelled (b ∷ bs)) (omega (arith, below, high, wide)))
