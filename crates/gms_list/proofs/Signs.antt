-- Numbers below 0, and their magnitudes.
use Rattle.std.proofs.Common.{◌≡◌, ◌∙◌, zero, suc, Bool, true, false, refl, ap, ℤ, pos, negsuc, ◌↔◌, IsTrue}
use Rattle.std.specs.declared.cmp.Ordering.{Ordering}
use Rattle.std.specs.declared.cmp.Ordering.TheVariants.{Less, Equal, Greater}
use Rattle.std.specs.Ordering.{is_eq}
use Rattle.gq_number.specs.Order.{number_cmp}
use Rattle.gq_number.proofs.Compares.{number_cmp_decides, number_cmp_total}
use Rattle.std.proofs.lemmas.Cmp.{tied_itself}
use Rattle.gq_number.specs.Number.{Number, whole, sign_of, sign_of_ℤ}
use Rattle.gms_list.specs.SolveText.{is_negative, is_zero_amount}
use Rattle.std.specs.Int.Signed.{lt_z}
use mir.Val.{to_z, of_z}
use mir.Syntax.{w8}

sign_tested : (z s : ℤ) → s ≡ sign_of_ℤ z → lt_z (to_z w8 (of_z w8 s)) (pos 0) ≡ is_negative z
sign_tested (pos zero) s e = rw e refl
sign_tested (pos (suc n)) s e = rw e refl
sign_tested (negsuc n) s e = rw e refl

-- the test of a sign, as eight bits hold it
pub below_tested : (x : Number) (s : ℤ) → s ≡ sign_of x → lt_z (to_z w8 (of_z w8 s)) (pos 0) ≡ is_negative x.numerator
unfolding sign_of
below_tested x s e = sign_tested x.numerator s e

is_equal : (o : Ordering) → is_eq o ≡ true → o ≡ Equal
is_equal Less e = absurd cc
is_equal Equal e = refl
is_equal Greater e = absurd cc

unless : (b : Bool) → (b ≡ true → b ≡ false) → b ≡ false
unless true f = f refl
unless false f = refl

-- the test for 0, as the field answers it
pub zero_told : (b : Bool) (x : Number) → IsTrue b ↔ (x ≡ whole (pos 0)) → is_zero_amount x ≡ b
zero_told true x told = ap is_zero_amount (told.0 refl) ∙ ap is_eq (tied_itself number_cmp_total (whole (pos 0)))
zero_told false x told =
    unless (is_zero_amount x) (λ e. let f : false ≡ true = told.1 ((number_cmp_decides x (whole (pos 0))).1.0 (is_equal (number_cmp x (whole (pos 0))) e)) in cc)
