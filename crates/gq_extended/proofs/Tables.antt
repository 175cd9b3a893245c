-- The tables of steps at the cases that the code tells apart.
use Rattle.std.proofs.Common.{◌≡◌, ◌≢◌, ℕ, Bool, true, false, ◌==◌, IsTrue, ◌↔◌, ℤ, pos, negsuc, ◌*ℤ◌, nat_abs, zero, suc, refl, ap, ap₂, ◌∙◌, Result, Ok, Err, arith}
use Rattle.std.proofs.lemmas.Bool.Decides.{nat_tests}
use Rattle.std.proofs.Common.{w8, to_z, of_z}
use Rattle.gq_number.specs.Number
use Rattle.gq_number.specs.Number.{sign_of, sign_of_ℤ, whole, ◌/ℚ◌}
use Rattle.gq_number.proofs.Quotients.{zero_from_numerator}
use Rattle.gq_extended.specs.declared.fault.ExtendedFault.{ExtendedFault}
use Rattle.gq_extended.specs.declared.fault.ExtendedFault.TheVariants.{Divide, Limit as StepLimit}
use Rattle.std.specs.Result.{IsErrAnd}
use Rattle.std.proofs.lemmas.Result.{err_from_is_err_and}
use Rattle.gq_extended.specs.declared.extended.Ext.{Ext}
use Rattle.gq_extended.specs.declared.extended.Ext.TheVariants.{Number, PlusInf, MinusInf, Na}
use Rattle.gq_extended.specs.Extended.{Extended, number, plus_infinity, minus_infinity, na, Outcome, is_zero, product, quotient, divided, direction, infinity_of, number_if}
use Rattle.gq_extended.specs.Meaning.{extended, outcome}

-- ---- faults that a step hands on

-- a fault that was made of the field's Limit
pub limit_told : {F : Type 0} (value : F → Number.Number) (test : Bool) (x : Number.Number) (r : Result (Ext F) ExtendedFault) → IsErrAnd r (λ e. e ≡ StepLimit) → test ≡ false → outcome value r ≡ number_if test x
limit_told value test x r told fails = let p = err_from_is_err_and r told in rw (p.1, p.2, fails) refl

-- a number that fits
pub number_told : (test : Bool) (x y : Number.Number) → test ≡ true → y ≡ x → Ok (number y) ≡ number_if test x
number_told test x y fit e = rw (fit, e) refl

-- ---- signs in a byte

read_sign : (n : ℤ) → to_z w8 (of_z w8 (sign_of_ℤ n)) ≡ sign_of_ℤ n
read_sign (pos zero) = refl
read_sign (pos (suc n)) = refl
read_sign (negsuc n) = refl

pub read_direction : (x : Extended) → to_z w8 (of_z w8 (direction x)) ≡ direction x
unfolding sign_of
read_direction (number x) = read_sign x.numerator
read_direction plus_infinity = refl
read_direction minus_infinity = refl
read_direction na = refl

-- what two signs in bytes lead to
pub by_signs : (x y : Extended) (a b : ℤ) (r : Outcome) → r ≡ infinity_of (to_z w8 (of_z w8 a) *ℤ to_z w8 (of_z w8 b)) → a ≡ direction x → b ≡ direction y → r ≡ infinity_of (direction x *ℤ direction y)
by_signs x y a b r told e f =
    told ∙ ap infinity_of (ap₂ ◌*ℤ◌ (ap (λ n. to_z w8 (of_z w8 n)) e ∙ read_direction x) (ap (λ n. to_z w8 (of_z w8 n)) f ∙ read_direction y))

-- ---- products

-- a product with an infinity on the right, and on the left
pub times_infinity : {F : Type 0} (value : F → Number.Number) (limit : ℕ) (x y : Ext F) → x ≢ Na → ((n : F) → y ≢ Number n) → y ≢ Na → product limit (extended value x) (extended value y) ≡ infinity_of (direction (extended value x) *ℤ direction (extended value y))
unfolding product
times_infinity value limit Na y some infinite other = absurd (some refl)
times_infinity value limit x (Number n) some infinite other = absurd (infinite n refl)
times_infinity value limit x Na some infinite other = absurd (other refl)
times_infinity value limit (Number n) PlusInf some infinite other = refl
times_infinity value limit (Number n) MinusInf some infinite other = refl
times_infinity value limit PlusInf PlusInf some infinite other = refl
times_infinity value limit PlusInf MinusInf some infinite other = refl
times_infinity value limit MinusInf PlusInf some infinite other = refl
times_infinity value limit MinusInf MinusInf some infinite other = refl

pub infinity_times : {F : Type 0} (value : F → Number.Number) (limit : ℕ) (x y : Ext F) → ((n : F) → x ≢ Number n) → x ≢ Na → y ≢ Na → product limit (extended value x) (extended value y) ≡ infinity_of (direction (extended value x) *ℤ direction (extended value y))
unfolding product
infinity_times value limit (Number n) y infinite some other = absurd (infinite n refl)
infinity_times value limit Na y infinite some other = absurd (some refl)
infinity_times value limit x Na infinite some other = absurd (other refl)
infinity_times value limit PlusInf (Number n) infinite some other = refl
infinity_times value limit PlusInf PlusInf infinite some other = refl
infinity_times value limit PlusInf MinusInf infinite some other = refl
infinity_times value limit MinusInf (Number n) infinite some other = refl
infinity_times value limit MinusInf PlusInf infinite some other = refl
infinity_times value limit MinusInf MinusInf infinite some other = refl

-- ---- quotients

is_zero-zero : is_zero (whole (pos 0)) ≡ true
unfolding whole
is_zero-zero = refl

test_zero : (k : ℕ) → (k == 0) ≡ true → k ≡ 0
test_zero k e = grind (arith, nat_tests)

numerator_zero : (n : ℤ) → (nat_abs n == 0) ≡ true → n ≡ pos 0
numerator_zero (pos zero) e = refl
numerator_zero (pos (suc n)) e = absurd (let f : suc n ≡ 0 = test_zero (suc n) e in omega arith)
numerator_zero (negsuc n) e = absurd (let f : suc n ≡ 0 = test_zero (suc n) e in omega arith)

pub zero_tested : (x : Number.Number) → is_zero x ≡ true → x ≡ whole (pos 0)
zero_tested x e = zero_from_numerator x (numerator_zero x.numerator e)

-- the test of the table, and that of the field
pub zero_told : (b : Bool) (x : Number.Number) → IsTrue b ↔ (x ≡ whole (pos 0)) → is_zero x ≡ b
zero_told true x told = ap is_zero (told.0 refl) ∙ is_zero-zero
zero_told false x told =
    unless (is_zero x) (λ e. let f : false ≡ true = told.1 (zero_tested x e) in cc)
  where
    unless : (b : Bool) → (b ≡ true → b ≡ false) → b ≡ false
    unless true f = f refl
    unless false f = refl

pub over_zero : (limit : ℕ) (x : Extended) (y : Number.Number) (b : Bool) → IsTrue b ↔ (y ≡ whole (pos 0)) → b ≡ true → quotient limit x (number y) ≡ Err Divide
unfolding quotient
over_zero limit x y b told e = rw (zero_told b y told, e) refl

pub over_other : (limit : ℕ) (x : Extended) (y : Number.Number) (b : Bool) → IsTrue b ↔ (y ≡ whole (pos 0)) → b ≡ false → quotient limit x (number y) ≡ divided limit x (number y)
unfolding quotient
over_other limit x y b told e = rw (zero_told b y told, e) refl

-- an infinity over a number
pub infinity_over : {F : Type 0} (value : F → Number.Number) (limit : ℕ) (x : Ext F) (y : Number.Number) → ((n : F) → x ≢ Number n) → x ≢ Na → divided limit (extended value x) (number y) ≡ infinity_of (direction (extended value x) *ℤ direction (number y))
infinity_over value limit (Number n) y infinite some = absurd (infinite n refl)
infinity_over value limit Na y infinite some = absurd (some refl)
infinity_over value limit PlusInf y infinite some = refl
infinity_over value limit MinusInf y infinite some = refl
