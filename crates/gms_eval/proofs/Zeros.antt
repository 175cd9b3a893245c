-- Whether a number is 0, as the step of a table tests it and as a field does.
use Rattle.std.proofs.Common.{◌≡◌, zero, suc, Bool, true, false, ◌↔◌, IsTrue, ◌==◌, ℤ, pos, negsuc, nat_abs, refl, ap, ◌∙◌, eqb-true, arith}
use Rattle.gq_number.specs.Number.{Number, whole}
use Rattle.gq_number.proofs.Quotients.{zero_from_numerator}
use Rattle.gq_extended.specs.Extended.{is_zero}

-- the number 0 is 0
pub whole_zero : is_zero (whole (pos 0)) ≡ true
unfolding whole
whole_zero = refl

no_magnitude : (n : ℤ) → (nat_abs n == 0) ≡ true → n ≡ pos 0
no_magnitude (pos zero) e = refl
no_magnitude (pos (suc n)) e = absurd (let f : suc n ≡ 0 = eqb-true (suc n) 0 e in omega arith)
no_magnitude (negsuc n) e = absurd (let f : suc n ≡ 0 = eqb-true (suc n) 0 e in omega arith)

-- a number without a numerator is 0
pub zero_from_test : (x : Number) → is_zero x ≡ true → x ≡ whole (pos 0)
zero_from_test x e = zero_from_numerator x (no_magnitude x.numerator e)

-- the test of zero, by the answer of the field
pub zero_told : (b : Bool) (x : Number) → IsTrue b ↔ (x ≡ whole (pos 0)) → is_zero x ≡ b
zero_told true x told = ap is_zero (told.0 refl) ∙ whole_zero
zero_told false x told =
    unless (is_zero x) (λ e. let f : false ≡ true = told.1 (zero_from_test x e) in cc)
  where
    unless : (b : Bool) → (b ≡ true → b ≡ false) → b ≡ false
    unless true f = f refl
    unless false f = refl
