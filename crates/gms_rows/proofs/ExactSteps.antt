-- A step under a limit that fits is the step without limit, and so is a chain of such steps.
use Rattle.std.proofs.Common.{◌≡◌, ℕ, Bool, true, false, if◌then◌else◌, [], ◌∷◌, ◌++◌, Some, Ok, Err, ℤ, pos, negsuc, zero, suc, nat_abs, ◌==◌, refl, ap, ◌∙◌, arith}
use Rattle.std.proofs.lemmas.Bool.{eqb-true}
use Rattle.gms_labels.specs.declared.place.Place.{Place}
use Rattle.gq_number.specs.Number.{Number, ◌+ℚ◌, ◌-ℚ◌, ◌*ℚ◌, ◌/ℚ◌, neg_ℚ}
use Rattle.gq_number.proofs.Ring.{ring_ℚ}
use Rattle.gq_field.specs.Fits.{fits, sum_fits}
use Rattle.gq_extended.specs.Extended.{Extended, number, plus_infinity, minus_infinity, na, Outcome, number_if, is_zero, negated, sum, difference, product, quotient}
use Rattle.gq_extended.specs.declared.fault.ExtendedFault.TheVariants.{Divide}
use Rattle.gms_ast.specs.Trees.{Mark, signed}
use Rattle.gms_eval.specs.Nodes.{Marked, ValueStep, chain, sum_step, product_step}
use Rattle.gms_eval.specs.Nodes as nodes
use Rattle.gms_eval.specs.Bindings.{Pairs}
use Rattle.gms_eval.specs.Faults.{Answer, nothing, taken, ◌and_then◌}
use Rattle.gms_rows.specs.PointValues.{exact_sum, exact_difference, exact_product, exact_quotient, exact_sum_step, exact_product_step}
use Rattle.gms_rows.proofs.Domains.{given, only_value}

less_is : (x y : Number) → x -ℚ y ≡ x +ℚ neg_ℚ y
less_is x y = simp ring_ℚ

-- a number that fits
fits_only : (b : Bool) (x : Number) (z : Extended) → number_if b x ≡ Ok z → ◌≡◌ {A = Outcome} (Ok (number x)) (Ok z)
fits_only true x z e = e
fits_only false x z e = absurd (cc)

fits_over : (b c : Bool) (x : Number) (z : Extended) → ◌≡◌ {A = Outcome} (if b then Err Divide else number_if c x) (Ok z) → ◌≡◌ {A = Outcome} (if b then Err Divide else Ok (number x)) (Ok z)
fits_over true c x z e = e
fits_over false true x z e = e
fits_over false false x z e = absurd (cc)

module _ (limit : ℕ) where
  pub sum-exact : (x y z : Extended) → sum limit x y ≡ Ok z → exact_sum x y ≡ Ok z
  unfolding sum
  sum-exact (number x) (number y) z e = fits_only (sum_fits limit x y) (x +ℚ y) z e
  sum-exact (number x) plus_infinity z e = e
  sum-exact (number x) minus_infinity z e = e
  sum-exact (number x) na z e = e
  sum-exact plus_infinity (number y) z e = e
  sum-exact plus_infinity plus_infinity z e = e
  sum-exact plus_infinity minus_infinity z e = e
  sum-exact plus_infinity na z e = e
  sum-exact minus_infinity (number y) z e = e
  sum-exact minus_infinity plus_infinity z e = e
  sum-exact minus_infinity minus_infinity z e = e
  sum-exact minus_infinity na z e = e
  sum-exact na (number y) z e = e
  sum-exact na plus_infinity z e = e
  sum-exact na minus_infinity z e = e
  sum-exact na na z e = e

  pub difference-exact : (x y z : Extended) → difference limit x y ≡ Ok z → exact_difference x y ≡ Ok z
  unfolding difference sum negated
  difference-exact (number x) (number y) z e =
      ap {B = Outcome} (λ w. Ok (number w)) (less_is x y) ∙ fits_only (sum_fits limit x (neg_ℚ y)) (x +ℚ neg_ℚ y) z e
  difference-exact (number x) plus_infinity z e = e
  difference-exact (number x) minus_infinity z e = e
  difference-exact (number x) na z e = e
  difference-exact plus_infinity (number y) z e = e
  difference-exact plus_infinity plus_infinity z e = e
  difference-exact plus_infinity minus_infinity z e = e
  difference-exact plus_infinity na z e = e
  difference-exact minus_infinity (number y) z e = e
  difference-exact minus_infinity plus_infinity z e = e
  difference-exact minus_infinity minus_infinity z e = e
  difference-exact minus_infinity na z e = e
  difference-exact na (number y) z e = e
  difference-exact na plus_infinity z e = e
  difference-exact na minus_infinity z e = e
  difference-exact na na z e = e

  pub product-exact : (x y z : Extended) → product limit x y ≡ Ok z → exact_product x y ≡ Ok z
  unfolding product
  product-exact (number x) (number y) z e = fits_only (fits limit (x *ℚ y)) (x *ℚ y) z e
  product-exact (number x) plus_infinity z e = e
  product-exact (number x) minus_infinity z e = e
  product-exact (number x) na z e = e
  product-exact plus_infinity (number y) z e = e
  product-exact plus_infinity plus_infinity z e = e
  product-exact plus_infinity minus_infinity z e = e
  product-exact plus_infinity na z e = e
  product-exact minus_infinity (number y) z e = e
  product-exact minus_infinity plus_infinity z e = e
  product-exact minus_infinity minus_infinity z e = e
  product-exact minus_infinity na z e = e
  product-exact na (number y) z e = e
  product-exact na plus_infinity z e = e
  product-exact na minus_infinity z e = e
  product-exact na na z e = e

  pub quotient-exact : (x y z : Extended) → quotient limit x y ≡ Ok z → exact_quotient x y ≡ Ok z
  unfolding quotient
  quotient-exact (number x) (number y) z e = fits_over (is_zero y) (fits limit (x /ℚ y)) (x /ℚ y) z e
  quotient-exact (number x) plus_infinity z e = e
  quotient-exact (number x) minus_infinity z e = e
  quotient-exact (number x) na z e = e
  quotient-exact plus_infinity (number y) z e = e
  quotient-exact plus_infinity plus_infinity z e = e
  quotient-exact plus_infinity minus_infinity z e = e
  quotient-exact plus_infinity na z e = e
  quotient-exact minus_infinity (number y) z e = e
  quotient-exact minus_infinity plus_infinity z e = e
  quotient-exact minus_infinity minus_infinity z e = e
  quotient-exact minus_infinity na z e = e
  quotient-exact na (number y) z e = e
  quotient-exact na plus_infinity z e = e
  quotient-exact na minus_infinity z e = e
  quotient-exact na na z e = e

-- ---- steps on parts

taken_value : (at : Place) (b : Pairs) (x y : Extended) (o : Outcome) (z : Extended) → taken at b x y o ≡ Ok z → o ≡ Ok z
taken_value at b x y (Ok w) z e = ap {B = Outcome} Ok (only_value w z e)
taken_value at b x y (Err fault) z e = absurd (cc)

module _ (limit : ℕ) (b : Pairs) where
  sum_taken : (at : Place) (s : Bool) (x y z : Extended) → (if s then difference limit x y else sum limit x y) ≡ Ok z → taken at b x y (if s then exact_difference x y else exact_sum x y) ≡ Ok z
  sum_taken at true x y z e = ap (taken at b x y) (difference-exact limit x y z e)
  sum_taken at false x y z e = ap (taken at b x y) (sum-exact limit x y z e)

  product_taken : (at : Place) (d : Bool) (x y z : Extended) → (if d then quotient limit x y else product limit x y) ≡ Ok z → taken at b x y (if d then exact_quotient x y else exact_product x y) ≡ Ok z
  product_taken at true x y z e = ap (taken at b x y) (quotient-exact limit x y z e)
  product_taken at false x y z e = ap (taken at b x y) (product-exact limit x y z e)

  pub sum_step-exact : (mark : Mark) (x : Extended) (a : Answer Extended) (z : Extended) → sum_step limit b mark x a ≡ Ok z → exact_sum_step b mark x a ≡ Ok z
  sum_step-exact (signed at subtracts) x (Ok y) z e =
      sum_taken at subtracts x y z (taken_value at b x y (if subtracts then difference limit x y else sum limit x y) z e)
  sum_step-exact (signed at subtracts) x (Err fault) z e = absurd (cc)
  sum_step-exact mark x a z e = e

  pub product_step-exact : (mark : Mark) (x : Extended) (a : Answer Extended) (z : Extended) → product_step limit b mark x a ≡ Ok z → exact_product_step b mark x a ≡ Ok z
  product_step-exact (signed at divides) x (Ok y) z e =
      product_taken at divides x y z (taken_value at b x y (if divides then quotient limit x y else product limit x y) z e)
  product_step-exact (signed at divides) x (Err fault) z e = absurd (cc)
  product_step-exact mark x a z e = e

-- ---- chains

module _ (limited exact : ValueStep) (is : (mark : Mark) (x : Extended) (a : Answer Extended) (z : Extended) → limited mark x a ≡ Ok z → exact mark x a ≡ Ok z) where
  -- parts that make a value under a limit, and then others
  pub prefix-following : (empty : Answer Extended) (xs ys : Marked) (x z : Extended) → nodes.joined limited empty (Some x) xs ≡ Ok z → nodes.joined exact empty (Some x) (xs ++ ys) ≡ nodes.joined exact empty (Some z) ys
  prefix-following empty [] ys x z e = ap (λ w. nodes.joined exact empty (Some w) ys) (only_value x z e)
  prefix-following empty (p ∷ xs) ys x z e =
      let first = given (limited p.0 x p.1) (λ y. nodes.joined limited empty (Some y) xs) z e in
      ap (λ a. a and_then λ y. nodes.joined exact empty (Some y) (xs ++ ys)) (is p.0 x p.1 first.value first.is)
      ∙ prefix-following empty xs ys first.value z first.next_is

  -- the same from the first part on
  pub chain-following : (p : Mark × Answer Extended) (xs ys : Marked) (z : Extended) → chain limited (p ∷ xs) ≡ Ok z → chain exact ((p ∷ xs) ++ ys) ≡ nodes.joined exact (Ok nothing) (Some z) ys
  chain-following p xs ys z e =
      let first = given p.1 (λ x. nodes.joined limited (Ok nothing) (Some x) xs) z e in
      ap (λ a. a and_then λ x. nodes.joined exact (Ok nothing) (Some x) (xs ++ ys)) first.is
      ∙ prefix-following (Ok nothing) xs ys first.value z first.next_is

-- ---- numbers that are 0

numerator_zero : (n : ℤ) → (nat_abs n == 0) ≡ true → n ≡ pos 0
numerator_zero (pos zero) e = refl
numerator_zero (pos (suc n)) e = absurd (let f = eqb-true (suc n) 0 e in omega arith)
numerator_zero (negsuc n) e = absurd (let f = eqb-true (suc n) 0 e in omega arith)
