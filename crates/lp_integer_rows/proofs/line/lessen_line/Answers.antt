use Rattle.std.proofs.Common.{rules, ℕ, ℤ, pos, nat_abs, ◌≡◌, ◌+◌, ◌*◌, ◌≤◌, ◌≤ℤ◌, ◌<ℤ◌, Fits, FitsSigned, to_z, of_z, refl, sym, ap₂, ◌∙◌, subst, subst₂, arith, mul_comm}
use Rattle.std.specs.Int.Signed.{yes_non_neg}
use Rattle.std.specs.Int.{w128}
use Rattle.std.proofs.lemmas.Int.{ints, to_z-of_z}
use Rattle.std.proofs.Math.Nat.{mul-le-mul_left, mul-le-mul_right}
use Rattle.lp_integer_rows.specs.declared.line.Line.{Line}
use Rattle.lp_integers.specs.Lines.{whole_at}
use Rattle.lp_integer_rows.specs.Form.{wholes, AreFactors}
use Rattle.lp_integer_rows.proofs.Updating.{lessened_line}
use Rattle.lp_integer_rows.proofs.line.lessen_line.Goals as goal

pub overflow_cast-line : goal.overflow_cast-line
overflow_cast-line c =
    let factor : ℤ = c.args.factors.line in
    let fits : FitsSigned w128 factor = search rules in
    let above : pos 0 <ℤ factor = c.requires.planned.3.factors.above in
    let least : pos 0 ≤ℤ factor = omega (arith, ints) in
    let is : factor ≡ to_z w128 (of_z w128 factor) = sym (to_z-of_z w128 factor fits) in
    let small : Fits w128 (nat_abs factor) = record { fits = omega (arith, ints, fits.sfits) } in
    (yes_non_neg (subst (λ z. pos 0 ≤ℤ z) is least), subst (λ z. Fits w128 (nat_abs z)) is small)

pub lessen-requires-clause-small : goal.lessen-requires-clause-small
lessen-requires-clause-small c =
    let within = c.requires.planned.3.within in
    let small = c.requires.planned.2 in
    omega arith

pub lessen-requires-clause-within_bound : goal.lessen-requires-clause-within_bound
lessen-requires-clause-within_bound c = λ k.
    let a : ℤ = to_z w128 (of_z w128 c.args.factors.line) in
    let b : ℤ = to_z w128 (of_z w128 c.args.factors.pivot) in
    let fits_a : FitsSigned w128 c.args.factors.line = search rules in
    let fits_b : FitsSigned w128 c.args.factors.pivot = search rules in
    let most_is : nat_abs a * c.args.line.now.most + nat_abs b * c.args.pivot.now.most ≡ c.args.factors.most =
    ap₂ (λ x y. nat_abs x * c.args.line.now.most + nat_abs y * c.args.pivot.now.most) (to_z-of_z w128 c.args.factors.line fits_a) (to_z-of_z w128 c.args.factors.pivot fits_b) ∙ sym c.requires.planned.3.most in
    let first : nat_abs a * nat_abs (whole_at (wholes c.args.line.now) k) ≤ nat_abs a * c.args.line.now.most = mul-le-mul_left (nat_abs a) (c.requires.line.numbers_within k) in
    let second : nat_abs b * nat_abs (whole_at (wholes c.args.pivot.now) k) ≤ nat_abs b * c.args.pivot.now.most = mul-le-mul_left (nat_abs b) (c.requires.pivot.numbers_within k) in
    omega arith

pub returns : goal.returns
returns c = λ bound column limited above planned.
    let a : ℤ = to_z w128 (of_z w128 c.args.factors.line) in
    let b : ℤ = to_z w128 (of_z w128 c.args.factors.pivot) in
    let fits_a : FitsSigned w128 c.args.factors.line = search rules in
    let fits_b : FitsSigned w128 c.args.factors.pivot = search rules in
    let a_is : a ≡ c.args.factors.line = to_z-of_z w128 c.args.factors.line fits_a in
    let b_is : b ≡ c.args.factors.pivot = to_z-of_z w128 c.args.factors.pivot fits_b in
    let factors : AreFactors (whole_at (wholes c.args.line.now) column) (whole_at (wholes c.args.pivot.now) column) a b =
    subst₂ (λ x y. AreFactors (whole_at (wholes c.args.line.now) column) (whole_at (wholes c.args.pivot.now) column) x y) (sym a_is) (sym b_is) planned.factors in
    let m = c.max-line.ensures in
    let inside = planned.within in
    let most : ℕ = nat_abs a * c.args.line.now.most + nat_abs b * c.args.pivot.now.most in
    let most_is : most ≡ c.args.factors.most = ap₂ (λ x y. nat_abs x * c.args.line.now.most + nat_abs y * c.args.pivot.now.most) a_is b_is ∙ sym planned.most in
    let lessened = c.in_ok-most.ensures in
    let lessened_most : c.in_ok-most.most ≤ most = lessened.small most (λ k.
    let first : nat_abs a * nat_abs (whole_at (wholes c.args.line.now) k) ≤ nat_abs a * c.args.line.now.most = mul-le-mul_left (nat_abs a) (c.requires.line.numbers_within k) in
    let second : nat_abs b * nat_abs (whole_at (wholes c.args.pivot.now) k) ≤ nat_abs b * c.args.pivot.now.most = mul-le-mul_left (nat_abs b) (c.requires.pivot.numbers_within k) in
    omega arith) in
    let extended : c.args.line.now.denominator * nat_abs a ≤ c.args.line.now.most * nat_abs a = mul-le-mul_right (nat_abs a) c.requires.line.denominator_within in
    let turned = mul_comm c.args.line.now.most (nat_abs a) in
    let after : Line = record { numbers = c.lessen.new.self; denominator = c.args.line.now.denominator * nat_abs a; most = c.max-line.result; marks = c.joined-line.result; leading = c.of-line.result } in
    let all_most : c.max-line.result ≤ most = omega arith in
    lessened_line c.args.line.now c.args.pivot.now after column a b c.args.factors c.requires.line c.requires.pivot c.requires.sized above factors
    (record {
      sized = lessened.sized;
      numbers = lessened.numbers;
      denominator = refl;
      numbers_within = λ k. let low = lessened.within k in omega arith;
      denominator_within = omega arith;
      most = all_most;
      small = omega arith;
      marks = λ k clear. (c.joined-line.ensures.own k clear, c.joined-line.ensures.others k clear);
      leading = c.of-line.ensures;
    }) a_is b_is planned.most
