-- What fits under a limit, and what a step answers.
use Rattle.std.specs.Prelude.{◌≡◌, ℕ, ◌*◌, ◌/◌, Bool, true, false, ◌&&◌, nat_le, ℤ, pos, ◌+ℤ◌, ◌*ℤ◌, nat_abs, Result, Ok, Err}
use Rattle.gq_number.specs.Number.{Number, gcd}
use Rattle.gq_field.specs.declared.field.Limit.{Limit}

-- whether the numerator and the denominator of the number are at most the limit in magnitude
abbrev pub fits : ℕ → Number → Bool
fits limit x = nat_le (nat_abs x.numerator) limit && nat_le x.denominator limit

-- Whether the sum of x = a/b and y = c/d fits: each intermediate number is at most the limit in
-- magnitude. With g the greatest common divisor of b and d, these are u = a (d/g), v = c (b/g),
-- their sum t, and the denominator (b/g) (d/h), where h is the greatest common divisor of t and g.
abbrev pub sum_fits : ℕ → Number → Number → Bool
sum_fits limit x y =
    let g : ℕ = gcd x.denominator y.denominator in
    let u : ℤ = x.numerator *ℤ pos (y.denominator / g) in
    let v : ℤ = y.numerator *ℤ pos (x.denominator / g) in
    let t : ℤ = u +ℤ v in
    let h : ℕ = gcd (nat_abs t) g in
    nat_le (nat_abs u) limit && nat_le (nat_abs v) limit && nat_le (nat_abs t) limit && nat_le (x.denominator / g * (y.denominator / h)) limit

-- the result of an operation that gives a value of F: a value that means x, and the test is true;
-- or the fault `Limit`, and the test is false. `value` gives the number that a value of F means
abbrev pub Answers : {F : Type 0} → (F → Number) → Result F Limit → Bool → Number → Type 0
Answers value (Ok y) test x = (test ≡ true) × (value y ≡ x)
Answers value (Err e) test x = test ≡ false
