-- Numbers that fit under a limit: what steps that fit give, and the values that mean them.
use Rattle.std.proofs.Common.{◌≡◌, ℕ, zero, suc, ◌+◌, ◌*◌, ◌/◌, ◌^◌, ◌<◌, ◌≤◌, Bool, true, false, cond, ℤ, pos, ◌+ℤ◌, nat_abs, int_lt, List, [], ◌∷◌, map, refl, sym, ap₂, ◌∙◌, subst, subst₂, arith, div-le_self}
use Rattle.std.specs.List.{All, range_with_len}
use Rattle.std.proofs.lemmas.Bool.Decides.{nat_tests}
use Rattle.std.proofs.lemmas.List.Elements.{All-nil, All-cons, All-head, All-tail}
use Rattle.gq_number.specs.Gcd.{gcd}
use Rattle.gq_number.specs.Number.{Number, whole, ◌+ℚ◌, ◌-ℚ◌, neg_ℚ}
use Rattle.gq_number.proofs.Ring.{ring_ℚ}
use Rattle.gq_field.specs.declared.fraction.Fraction.{Fraction}
use Rattle.gq_field.specs.Fits.{fits, sum_fits}
use Rattle.gq_field.specs.Values.{fraction_value, signed}
use Rattle.gq_field.proofs.Fractions.{Shows, value_from_shows, shown_reduced, fits_yes}
use Rattle.gq_field.proofs.Signs.{signed-abs, fits-neg}
use Rattle.gq_field.proofs.Sums.{all_small, sum_of_fractions}
use Rattle.lp_form.proofs.Zeros.{fits-zero}
use Rattle.lp_core.specs.Sums.{value_of_column}
use Rattle.lp_core.specs.StandardForm.{directed}

-- a number fits
abbrev pub Fitting : ℕ → Number → Type 0
Fitting limit x = fits limit x ≡ true

-- ---- a sum that fits is a number that fits

parts_of : (limit : ℕ) (x : Number) → fits limit x ≡ true → (nat_abs x.numerator ≤ limit) × (x.denominator ≤ limit)
parts_of limit x h = grind (arith, nat_tests)

fraction_of : (limit : ℕ) (x : Number) → limit < 2 ^ 127 → Fitting limit x → (f : Fraction) × (fraction_value f ≡ x)
fraction_of limit x small h =
    let parts = parts_of limit x h in
    let above = parts.0 in
    let below = parts.1 in
    let shows : Shows x (int_lt x.numerator (pos 0)) (nat_abs x.numerator) x.denominator = record { above = sym (signed-abs x.numerator); below = refl } in
    let made : Fraction =
    record {
      negative = int_lt x.numerator (pos 0);
      magnitude = nat_abs x.numerator;
      denominator = x.denominator;
      reduced = shown_reduced shows;
      magnitude_small = omega arith;
      denominator_small = omega arith;
    } in
    (made, value_from_shows made x shows)

last_tests : (limit first second top low : ℕ) → all_small limit first second top low ≡ true → (top ≤ limit) × (low ≤ limit)
last_tests limit first second top low h = grind (arith, nat_tests)

at_most : (limit top rest : ℕ) → rest ≤ top → top ≤ limit → rest ≤ limit
at_most limit top rest less most = omega arith

fractions_within : (limit : ℕ) (f g : Fraction) → sum_fits limit (fraction_value f) (fraction_value g) ≡ true → Fitting limit (fraction_value f +ℚ fraction_value g)
fractions_within limit f g h =
    let common : ℕ = gcd f.denominator g.denominator in
    let first : ℕ = f.magnitude * (g.denominator / common) in
    let second : ℕ = g.magnitude * (f.denominator / common) in
    let z : ℤ = signed f.negative first +ℤ signed g.negative second in
    let shared : ℕ = gcd (nat_abs z) common in
    let low : ℕ = f.denominator / common * (g.denominator / shared) in
    let is = sum_of_fractions limit f g common first second (int_lt z (pos 0)) (nat_abs z) shared low refl refl refl (signed-abs z) refl refl in
    let tests = last_tests limit first second (nat_abs z) low (sym is.tests ∙ h) in
    fits_yes limit is.shows (at_most limit (nat_abs z) (nat_abs z / shared) (div-le_self (nat_abs z) shared) tests.0) tests.1

pub sum_within : (limit : ℕ) (x y : Number) → limit < 2 ^ 127 → Fitting limit x → Fitting limit y → sum_fits limit x y ≡ true → Fitting limit (x +ℚ y)
sum_within limit x y small first second h =
    let f = fraction_of limit x small first in
    let g = fraction_of limit y small second in
    subst₂ (λ a b. sum_fits limit a b ≡ true → Fitting limit (a +ℚ b)) f.1 g.1 (fractions_within limit f.0 g.0) h

pub neg_within : (limit : ℕ) (x : Number) → Fitting limit x → Fitting limit (neg_ℚ x)
neg_within limit x h = fits-neg limit x ∙ h

plus_negated : (x y : Number) → x +ℚ neg_ℚ y ≡ x -ℚ y
plus_negated x y = simp ring_ℚ

pub difference_within : (limit : ℕ) (x y : Number) → limit < 2 ^ 127 → Fitting limit x → Fitting limit y → sum_fits limit x (neg_ℚ y) ≡ true → Fitting limit (x -ℚ y)
difference_within limit x y small first second h = subst (Fitting limit) (plus_negated x y) (sum_within limit x (neg_ℚ y) small first (neg_within limit y second) h)

pub one_within : (limit : ℕ) → 1 ≤ limit → Fitting limit (whole (pos 1))
unfolding whole
one_within limit some = grind (arith, nat_tests)

pub cond_within : (limit : ℕ) (b : Bool) (x y : Number) → Fitting limit x → Fitting limit y → Fitting limit (cond b x y)
cond_within limit true x y first second = first
cond_within limit false x y first second = second

pub directed_within : (limit : ℕ) (b : Bool) (x : Number) → Fitting limit x → Fitting limit (directed b x)
directed_within limit true x h = h
directed_within limit false x h = neg_within limit x h

-- ---- lists of numbers that fit

pub number_within : (limit : ℕ) → 1 ≤ limit → (xs : List Number) (j : ℕ) → All (Fitting limit) xs → Fitting limit (value_of_column xs j)
number_within limit some [] j h = fits-zero limit some
number_within limit some (x ∷ xs) zero h = All-head (Fitting limit) x xs h
number_within limit some (x ∷ xs) (suc j) h = number_within limit some xs j (All-tail (Fitting limit) x xs h)

-- what holds at each number of a range
pub range_holds : (P : ℕ → Type 0) (a n : ℕ) → ((i : ℕ) → a ≤ i → i < a + n → P i) → All P (range_with_len a n)
range_holds P a zero h = All-nil P
range_holds P a (suc n) h = All-cons P a (range_with_len (a + 1) n) (h a (omega arith) (omega arith)) (range_holds P (a + 1) n (λ i low high. h i (omega arith) (omega arith)))

-- the values that mean these numbers
pub all_meant : {F : Type 0} (value : F → Number) (limit : ℕ) → ((x : Number) → Fitting limit x → (y : F) × (value y ≡ x)) → (xs : List Number) → All (Fitting limit) xs → (ys : List F) × (map value ys ≡ xs)
all_meant value limit each [] h = ([], refl)
all_meant value limit each (x ∷ xs) h =
    let one = each x (All-head (Fitting limit) x xs h) in
    let rest = all_meant value limit each xs (All-tail (Fitting limit) x xs h) in
    (one.0 ∷ rest.0, ap₂ (λ a l. a ∷ l) one.1 rest.1)
