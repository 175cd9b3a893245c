-- What fits over 63 bits fits over 127.
use Rattle.std.proofs.Common.{◌≡◌, ℕ, ◌≤◌, Bool, true, ◌&&◌, nat_le, arith, Result, Ok, Err, true≢false, sym, ◌∙◌}
use Rattle.std.proofs.lemmas.Bool.Decides.{nat_tests}
use Rattle.gq_number.specs.Number.{Number}
use Rattle.gq_field.specs.declared.field.Limit.{Limit}
use Rattle.gq_field.specs.declared.half.Half.{Half}
use Rattle.gq_field.specs.Fits.{fits, sum_fits, Answers}
use Rattle.gq_field.specs.Values.{half_value}
use Rattle.gq_frac.specs.declared.frac.Frac.{Frac}
use Rattle.gq_frac.specs.Frac.{frac_value}
use Rattle.gq_frac.specs.Steps.{KeepsAnswer}

both_below : (a b low high : ℕ) → low ≤ high → (nat_le a low && nat_le b low) ≡ true → (nat_le a high && nat_le b high) ≡ true
both_below a b low high h e = grind (arith, nat_tests)

all_below : (a b c d low high : ℕ) → low ≤ high → (nat_le a low && nat_le b low && nat_le c low && nat_le d low) ≡ true → (nat_le a high && nat_le b high && nat_le c high && nat_le d high) ≡ true
all_below a b c d low high h e = grind (arith, nat_tests)

-- what fits under a limit fits under a greater one
pub fits_more : (low high : ℕ) (x : Number) → low ≤ high → fits low x ≡ true → fits high x ≡ true
fits_more low high x h e = both_below _ _ low high h e

pub sum_fits_more : (low high : ℕ) (x y : Number) → low ≤ high → sum_fits low x y ≡ true → sum_fits high x y ≡ true
sum_fits_more low high x y h e = all_below _ _ _ _ low high h e

-- so an answer over 63 bits is the answer over 127
pub same_answer : (x : Number) (test more : Bool) (narrow : Result Half Limit) (wide : Result Frac Limit) → (test ≡ true → more ≡ true) → Answers half_value narrow test x → Answers frac_value wide more x → KeepsAnswer narrow wide
same_answer x test more (Ok h) (Ok f) keeps first second = second.1 ∙ sym first.1
same_answer x test more (Ok h) (Err e) keeps first second = absurd (true≢false (sym (keeps first.0) ∙ second))
same_answer x test more (Err e) wide keeps first second = tt
