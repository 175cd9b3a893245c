-- The table of powers at a number.
use Rattle.std.proofs.Common.{◌≡◌, ◌≢◌, ℕ, zero, suc, ◌≤◌, Bool, true, false, ◌==◌, ℤ, pos, negsuc, nat_abs, int_le, nat_le, refl, sym, ap, ◌∙◌, arith, w32, to_z, of_z, SFits, Err, IsTrue, ◌↔◌}
use Rattle.std.proofs.lemmas.Int.{to_z-of_z}
use Rattle.std.proofs.lemmas.Bool.Decides.{nat_tests}
use Rattle.gq_number.specs.Number.{Number, whole, ◌/ℚ◌, inv_ℚ}
use Rattle.gq_number.proofs.Field.{/ℚ_is}
use Rattle.gq_number.proofs.Ring.{one-*ℚ}
use Rattle.gq_field.specs.Fits.{fits}
use Rattle.gq_extended.specs.Powers.{repeated_product, power_ℚ}
use Rattle.gq_extended.specs.declared.fault.ExtendedFault.TheVariants.{Divide}
use Rattle.gq_extended.specs.Extended.{number, raised, number_if, is_zero, power, quotient}
use Rattle.gq_extended.proofs.PowerParts.{one_where_none, reciprocal_fits}
use Rattle.gq_extended.proofs.Tables.{zero_told, zero_tested, number_told}

-- an exponent as the code reads it
read_magnitude : (n : ℤ) (k : ℕ) → SFits w32 n → k ≡ nat_abs (to_z w32 (of_z w32 n)) → k ≡ nat_abs n
read_magnitude n k fit e = e ∙ ap nat_abs (to_z-of_z w32 n fit)

read_sign : (n : ℤ) (b : Bool) → SFits w32 n → int_le (pos 0) (to_z w32 (of_z w32 n)) ≡ b → int_le (pos 0) n ≡ b
read_sign n b fit e = ap (int_le (pos 0)) (sym (to_z-of_z w32 n fit)) ∙ e

at_least_zero : (n : ℕ) → nat_le 0 n ≡ true
at_least_zero n = grind (arith, nat_tests)

at_or_above : (limit : ℕ) (x : Number) (n : ℤ) → 1 ≤ limit → int_le (pos 0) n ≡ true → raised limit (number x) n ≡ number_if (fits limit (repeated_product (nat_abs n) x)) (repeated_product (nat_abs n) x)
unfolding power_ℚ
at_or_above limit x (pos zero) some e =
    let one = one_where_none limit 0 x (whole (pos 1)) refl some refl in number_told _ _ _ one.0 one.1
at_or_above limit x (pos (suc n)) some e = refl
at_or_above limit x (negsuc n) some e = absurd (let f : false ≡ true = e in cc)

below : (limit : ℕ) (x : Number) (n : ℤ) → int_le (pos 0) n ≡ false → is_zero x ≡ false → raised limit (number x) n ≡ number_if (fits limit (repeated_product (nat_abs n) (inv_ℚ x))) (repeated_product (nat_abs n) (inv_ℚ x))
unfolding power_ℚ
below limit x (pos n) e some = absurd (let f : true ≡ false = sym (at_least_zero n) ∙ e in cc)
below limit x (negsuc n) e some = rw some refl

zero_below : (limit : ℕ) (x : Number) (n : ℤ) → int_le (pos 0) n ≡ false → is_zero x ≡ true → raised limit (number x) n ≡ Err Divide
zero_below limit x (pos n) e none = absurd (let f : true ≡ false = sym (at_least_zero n) ∙ e in cc)
zero_below limit x (negsuc n) e none = rw none refl

-- ---- the same of what the code has read

pub raised_up : (limit : ℕ) (x : Number) (n : ℤ) (k : ℕ) → 1 ≤ limit → SFits w32 n → int_le (pos 0) (to_z w32 (of_z w32 n)) ≡ true → k ≡ nat_abs (to_z w32 (of_z w32 n)) → number_if (fits limit (repeated_product k x)) (repeated_product k x) ≡ raised limit (number x) n
raised_up limit x n k some fit above e =
    sym (at_or_above limit x n some (read_sign n true fit above) ∙ ap (λ m. number_if (fits limit (repeated_product m x)) (repeated_product m x)) (sym (read_magnitude n k fit e)))

pub zero_down : (limit : ℕ) (x : Number) (n : ℤ) (b : Bool) → SFits w32 n → int_le (pos 0) (to_z w32 (of_z w32 n)) ≡ false → IsTrue b ↔ (x ≡ whole (pos 0)) → b ≡ true → Err Divide ≡ raised limit (number x) n
zero_down limit x n b fit low told e = sym (zero_below limit x n (read_sign n false fit low) (zero_told b x told ∙ e))

one_over : (x one : Number) → one ≡ whole (pos 1) → one /ℚ x ≡ inv_ℚ x
one_over x one e = rw e (/ℚ_is (whole (pos 1)) x ∙ one-*ℚ (inv_ℚ x))

pub raised_down : (limit : ℕ) (x one r : Number) (n : ℤ) (k : ℕ) (b : Bool) → SFits w32 n → int_le (pos 0) (to_z w32 (of_z w32 n)) ≡ false → IsTrue b ↔ (x ≡ whole (pos 0)) → b ≡ false → one ≡ whole (pos 1) → r ≡ one /ℚ x → k ≡ nat_abs (to_z w32 (of_z w32 n)) → number_if (fits limit (repeated_product k r)) (repeated_product k r) ≡ raised limit (number x) n
raised_down limit x one r n k b fit low told some e f g =
    rw (f, one_over x one e, read_magnitude n k fit g) (sym (below limit x n (read_sign n false fit low) (zero_told b x told ∙ some)))

-- the reciprocal of what fits is found
pub reciprocal_found : (limit : ℕ) (x one : Number) (b : Bool) → IsTrue b ↔ (x ≡ whole (pos 0)) → b ≡ false → one ≡ whole (pos 1) → fits limit x ≡ true → fits limit (one /ℚ x) ≡ false → ⊥
reciprocal_found limit x one b told some e fit fails =
    let other : x.numerator ≢ pos 0 = λ z. (let f : true ≡ false = ap (λ n. nat_abs n == 0) (sym z) ∙ zero_told b x told ∙ some in cc) in
    let found : fits limit (one /ℚ x) ≡ true = rw (one_over x one e) (reciprocal_fits limit x other fit) in
    let f : true ≡ false = sym found ∙ fails in
    cc

-- ---- the row of numbers

pub other_test : (x : Number) → x ≢ whole (pos 0) → is_zero x ≡ false
other_test x some = unless (is_zero x) (λ e. absurd (some (zero_tested x e)))
  where
    unless : (b : Bool) → (b ≡ true → b ≡ false) → b ≡ false
    unless true f = f refl
    unless false f = refl

raised_number : (limit : ℕ) (x : Number) (n : ℤ) → 1 ≤ limit → is_zero x ≡ false → raised limit (number x) n ≡ number_if (fits limit (power_ℚ x n)) (power_ℚ x n)
unfolding power_ℚ
raised_number limit x (pos zero) some other =
    let one = one_where_none limit 0 x (whole (pos 1)) refl some refl in number_told _ _ _ one.0 one.1
raised_number limit x (pos (suc n)) some other = refl
raised_number limit x (negsuc n) some other = rw other refl

le_test : (n : ℕ) → n ≤ 1024 → nat_le n 1024 ≡ true
le_test n h = grind (arith, nat_tests)

pub power_number : (limit : ℕ) (x : Number) (n : ℤ) → 1 ≤ limit → x ≢ whole (pos 0) → nat_abs n ≤ 1024 → power limit (number x) (number (whole n)) ≡ number_if (fits limit (power_ℚ x n)) (power_ℚ x n)
unfolding power whole
power_number limit x n some other small = rw (le_test (nat_abs n) small) (raised_number limit x n some (other_test x other))

pub quotient_number : (limit : ℕ) (x y : Number) → y ≢ whole (pos 0) → quotient limit (number x) (number y) ≡ number_if (fits limit (x /ℚ y)) (x /ℚ y)
unfolding quotient
quotient_number limit x y some = rw (other_test y some) refl
