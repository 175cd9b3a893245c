-- The definitions at small programs, over numbers and the limit 127.
use Rattle.std.proofs.Common.{◌≡◌, ℕ, true, false, pos, negsuc, List, [], ◌∷◌, Some, None, refl, take}
use Rattle.gq_number.specs.Gcd.{gcd, gcd_in_steps}
use Rattle.gq_number.specs.Number.{Number, ratio, whole, ◌+ℚ◌, ◌-ℚ◌, ◌*ℚ◌, ◌/ℚ◌, inv_ℚ, neg_ℚ}
use Rattle.gq_number.specs.Order.{number_cmp}
use Rattle.gq_number.specs.Sums.{sum_by_ℚ}
use Rattle.lp_form.specs.declared.key.Key.{Key}
use Rattle.lp_core.specs.declared.answer.StepName.TheVariants.{Standard as StandardStep, Ratio, Exchange, Recover}
use Rattle.lp_core.specs.declared.program.Sense.TheVariants as sense
use Rattle.lp_core.specs.declared.program.Column.{Column}
use Rattle.lp_core.specs.declared.program.Row.{Row}
use Rattle.lp_core.specs.declared.program.Lp.{Lp}
use Rattle.lp_core.specs.StandardForm.{standard_form}
use Rattle.lp_core.specs.Dictionary.{Dictionary, first_dictionary, exchanged}
use Rattle.lp_core.specs.Steps.{standard_steps, ratio_steps, pivot_row_steps, other_row_steps, levels_steps}
use Rattle.lp_core.specs.Pivots.{last_of}

abbrev key : ℕ → Key
key n = record { symbol = n; tuple = [] }

abbrev at_least : ℕ → Number → Column Number
at_least n bound = record { key = key n; lower = Some bound; upper = None }

abbrev most : ℕ → Number → List (ℕ × Number) → Row Number
most n right entries = record { key = key n; sense = sense.L; right = right; entries = entries }

-- the greatest value of the first column
abbrev greatest : List (Column Number) → List (Row Number) → Lp Number
greatest columns rows = record { columns = columns; rows = rows; objective = 0; maximize = true }

abbrev first_of : Lp Number → Dictionary
first_of lp = first_dictionary (standard_form (λ x. x) lp)

-- z at least 100, 2 z at most 1: the product does not fit
a_product : standard_steps (λ x. x) 127 (greatest (at_least 0 (whole (pos 100)) ∷ []) (most 1 (whole (pos 1)) ((0, whole (pos 2)) ∷ []) ∷ [])) ≡ (StandardStep 1 1 0, false) ∷ (StandardStep 1 1 1, false) ∷ []
unfolding gcd gcd_in_steps ratio whole ◌+ℚ◌ ◌-ℚ◌ ◌*ℚ◌ neg_ℚ sum_by_ℚ
a_product = refl

-- z at least 100, z at most -100: the difference does not fit
a_difference : standard_steps (λ x. x) 127 (greatest (at_least 0 (whole (pos 100)) ∷ []) (most 1 (whole (negsuc 99)) ((0, whole (pos 1)) ∷ []) ∷ [])) ≡ (StandardStep 1 1 0, true) ∷ (StandardStep 1 1 1, false) ∷ []
unfolding gcd gcd_in_steps ratio whole ◌+ℚ◌ ◌-ℚ◌ ◌*ℚ◌ neg_ℚ sum_by_ℚ
a_difference = refl

-- half of z at most 127: the ratio does not fit
a_ratio : ratio_steps 127 1 (first_of (greatest (at_least 0 (whole (pos 0)) ∷ []) (most 1 (whole (pos 127)) ((0, ratio (pos 1) 2) ∷ []) ∷ []))) 1 ≡ (Ratio 1 1, false) ∷ []
unfolding gcd gcd_in_steps ratio whole ◌+ℚ◌ ◌-ℚ◌ ◌*ℚ◌ ◌/ℚ◌ inv_ℚ neg_ℚ number_cmp sum_by_ℚ
a_ratio = refl

-- half of z and 100 y at most 1: in the row that is divided the quotient of y does not fit
a_quotient : pivot_row_steps 127 1 (first_of (greatest (at_least 0 (whole (pos 0)) ∷ at_least 1 (whole (pos 0)) ∷ []) (most 2 (whole (pos 1)) ((0, ratio (pos 1) 2) ∷ (1, whole (pos 100)) ∷ []) ∷ []))) 1 0 ≡ (Exchange 1 1 0 0, true) ∷ (Exchange 1 1 1 0, true) ∷ (Exchange 1 1 2 0, true) ∷ (Exchange 1 1 3 0, false) ∷ (Exchange 1 1 4 0, true) ∷ []
unfolding gcd gcd_in_steps ratio whole ◌+ℚ◌ ◌-ℚ◌ ◌*ℚ◌ ◌/ℚ◌ inv_ℚ neg_ℚ number_cmp sum_by_ℚ
a_quotient = refl

-- z at most 100 and -z at most 100: the new constant of the second row does not fit
a_constant : take 2 (other_row_steps 127 1 (first_of (greatest (at_least 0 (whole (pos 0)) ∷ []) (most 1 (whole (pos 100)) ((0, whole (pos 1)) ∷ []) ∷ most 2 (whole (pos 100)) ((0, whole (negsuc 0)) ∷ []) ∷ []))) 1 0 1) ≡ (Exchange 1 2 0 0, true) ∷ (Exchange 1 2 0 1, false) ∷ []
unfolding gcd gcd_in_steps ratio whole ◌+ℚ◌ ◌-ℚ◌ ◌*ℚ◌ ◌/ℚ◌ inv_ℚ neg_ℚ number_cmp sum_by_ℚ
a_constant = refl

-- x is at least 100, z less half of x at most -50, half of x at most 100: after two pivots the
-- level of x, 200, exceeds the limit
abbrev last_level : Lp Number
last_level =
    greatest (at_least 0 (whole (pos 0)) ∷ at_least 1 (whole (pos 100)) ∷ []) (most 2 (whole (negsuc 49)) ((0, whole (pos 1)) ∷ (1, ratio (negsuc 0) 2) ∷ []) ∷ most 3 (whole (pos 100)) ((1, ratio (pos 1) 2) ∷ []) ∷ [])

a_level : levels_steps (λ x. x) 127 last_level (last_of (exchanged (exchanged (first_of last_level) 1 0) 2 1)) ≡ (Recover 0 0 0 1, true) ∷ (Recover 0 1 0 1, false) ∷ []
unfolding gcd gcd_in_steps ratio whole ◌+ℚ◌ ◌-ℚ◌ ◌*ℚ◌ ◌/ℚ◌ inv_ℚ neg_ℚ number_cmp sum_by_ℚ
a_level = refl
