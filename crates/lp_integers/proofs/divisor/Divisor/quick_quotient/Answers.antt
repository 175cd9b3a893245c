-- The product of a quotient of one word and a divisor fits two words, so the comparison of the
-- stored numbers is that of the numbers.
use Rattle.std.proofs.Common.{rules, ℕ, ℤ, pos, ◌≡◌, ◌≤◌, ◌-◌, ◌*◌, ◌%◌, ◌^◌, ◌*ℤ◌, unsigned_abs, Fits, FitsSigned, to_z, of_z, sym, ap, ap₂, ◌∙◌, subst, arith}
use Rattle.std.specs.Int.{w64, w128}
use Rattle.std.proofs.lemmas.Int.{ints, to_z-of_z, to_z_pos, fits_signed_mul}
use borrow.Author.Gap.{read_sfits}
use mir.Facts.{sfits_widen}
use Rattle.lp_integers.proofs.divisor.Divisor.quick_quotient.Goals as goal

module _ (q : ℤ) (d : ℕ) (q_fits : FitsSigned w64 q) (d_fits : Fits w64 d) where
  product_is : to_z w128 (of_z w128 q) *ℤ to_z w128 d ≡ q *ℤ pos d
  product_is = ap₂ (λ x y. x *ℤ y) (to_z-of_z w128 q (sfits_widen {w = w64} {w' = w128} tt q_fits)) (to_z_pos w128 d (let h = d_fits.fits in omega arith))

  product_fits : FitsSigned w128 (to_z w128 (of_z w128 q) *ℤ to_z w128 d)
  product_fits =
      let few : unsigned_abs q ≤ 2 ^ 63 = let h = q_fits.sfits in omega (arith, ints) in
      let below = d_fits.fits in
      subst (FitsSigned w128) (sym product_is) (fits_signed_mul w128 q (pos d) (2 ^ 63) (2 ^ 64 - 1) few (omega arith) (omega arith))

  same_product : (n : ℤ) → FitsSigned w64 n → of_z w128 (to_z w128 (of_z w128 q) *ℤ to_z w128 d) ≡ of_z w128 (to_z w64 (of_z w64 n)) → q *ℤ pos d ≡ n
  same_product n n_fits is =
      sym product_is ∙ sym (to_z-of_z w128 (to_z w128 (of_z w128 q) *ℤ to_z w128 d) product_fits) ∙ ap (to_z w128) is
      ∙ ap (λ z. to_z w128 (of_z w128 z)) (to_z-of_z w64 n n_fits) ∙ to_z-of_z w128 n (sfits_widen {w = w64} {w' = w128} tt n_fits)

pub overflow_cast-quotient : goal.overflow_cast-quotient
overflow_cast-quotient c = sfits_widen {w = w64} {w' = w128} tt (read_sfits w64 ((of_z w64 c.wrapping_shr.result * of_z w64 c.args.self.inverse) % 2 ^ 64))

pub overflow_mul-quotient : goal.overflow_mul-quotient
overflow_mul-quotient c =
    let m : ℕ = (of_z w64 c.wrapping_shr.result * of_z w64 c.args.self.inverse) % 2 ^ 64 in
    let fits : Fits w64 c.args.self.value = search rules in
    product_fits (to_z w64 m) c.args.self.value (read_sfits w64 m) fits

pub returns-then-quotient-self : goal.returns-then-quotient-self
returns-then-quotient-self c =
    let m : ℕ = (of_z w64 c.wrapping_shr.result * of_z w64 c.args.self.inverse) % 2 ^ 64 in
    let fits : Fits w64 c.args.self.value = search rules in
    same_product (to_z w64 m) c.args.self.value (read_sfits w64 m) fits c.args.n c.ranges.n c.if-quotient-self.true
