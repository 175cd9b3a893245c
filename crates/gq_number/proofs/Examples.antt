-- The definitions of numbers at numbers that are written out.
use Rattle.std.proofs.Common.{◌≡◌, pos, negsuc, [], ◌∷◌, refl}
use Rattle.std.proofs.Common.{Less}
use Rattle.gq_number.specs.Gcd.{gcd, gcd_in_steps}
use Rattle.gq_number.specs.Number.{ratio, whole, ◌+ℚ◌, ◌*ℚ◌, ◌/ℚ◌, inv_ℚ, neg_ℚ, floor_of, ceiling_of, rounded}
use Rattle.gq_number.specs.Order.{number_cmp, min_ℚ, max_ℚ, abs_ℚ}
use Rattle.gq_number.specs.Sums.{sum_by_ℚ, sum_ℚ, inner_ℚ}

large_gcd : gcd 999999999999999990 123456789012345678 ≡ 18
unfolding gcd gcd_in_steps
large_gcd = refl

sixths : (ratio (pos 1) 3 +ℚ ratio (pos 1) 6).denominator ≡ 2
unfolding gcd gcd_in_steps ratio ◌+ℚ◌
sixths = refl

halves : (rounded (ratio (negsuc 4) 2)) ≡ negsuc 2
unfolding gcd gcd_in_steps ratio rounded
halves = refl

floors : (floor_of (ratio (negsuc 4) 2)) ≡ negsuc 2
unfolding gcd gcd_in_steps ratio floor_of
floors = refl

ceilings : (ceiling_of (ratio (negsuc 4) 2)) ≡ negsuc 1
unfolding gcd gcd_in_steps ratio floor_of ceiling_of neg_ℚ
ceilings = refl

quotients : (ratio (pos 3) 4 /ℚ ratio (negsuc 8) 2).numerator ≡ negsuc 0
unfolding gcd gcd_in_steps ratio ◌/ℚ◌ ◌*ℚ◌ inv_ℚ
quotients = refl

orders : number_cmp (ratio (negsuc 4) 2) (ratio (negsuc 4) 3) ≡ Less
unfolding gcd gcd_in_steps ratio number_cmp
orders = refl

lessers : (min_ℚ (ratio (pos 1) 3) (ratio (pos 1) 2)).denominator ≡ 3
unfolding gcd gcd_in_steps ratio number_cmp min_ℚ
lessers = refl

magnitudes : (abs_ℚ (ratio (negsuc 4) 3)).numerator ≡ pos 5
unfolding gcd gcd_in_steps ratio number_cmp max_ℚ abs_ℚ neg_ℚ
magnitudes = refl

sums : (sum_ℚ (whole (pos 1) ∷ ratio (pos 1) 2 ∷ ratio (pos 1) 3 ∷ [])).numerator ≡ pos 11
unfolding gcd gcd_in_steps whole ratio ◌+ℚ◌ sum_by_ℚ
sums = refl

-- what the second list lacks counts as 0
inner_products : (inner_ℚ (whole (pos 1) ∷ whole (pos 2) ∷ whole (pos 9) ∷ []) (whole (pos 3) ∷ whole (pos 4) ∷ [])).numerator ≡ pos 11
unfolding gcd gcd_in_steps whole ratio ◌+ℚ◌ ◌*ℚ◌ inner_ℚ
inner_products = refl
