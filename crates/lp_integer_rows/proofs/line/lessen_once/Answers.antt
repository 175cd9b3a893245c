use Rattle.std.proofs.Common.{rules, ℕ, ℤ, pos, nat_abs, List, ◌≡◌, ◌+◌, ◌*◌, ◌≤◌, FitsSigned, to_z, of_z, sym, ap, ap₂, ◌∙◌, subst₂, arith, mul-one}
use Rattle.std.specs.Int.{w128}
use Rattle.std.proofs.lemmas.Int.{to_z-of_z}
use Rattle.std.proofs.Math.Nat.{mul-le-mul_left}
use Rattle.lp_integer_rows.specs.declared.line.Line.{Line}
use Rattle.lp_integer_rows.specs.declared.marks.Marks.{Marks}
use Rattle.lp_integer_rows.specs.declared.leading.Leading.{Leading}
use Rattle.lp_integers.specs.Lines.{whole_at}
use Rattle.lp_integer_rows.specs.Form.{wholes, AreFactors}
use Rattle.lp_integer_rows.proofs.Updating.{lessened_line}
use Rattle.lp_integer_rows.proofs.line.lessen_once.Goals as goal

pub lessen_at-requires-clause-within_bound : goal.lessen_at-requires-clause-within_bound
lessen_at-requires-clause-within_bound c = λ k.
    let b : ℤ = to_z w128 (of_z w128 c.args.factors.pivot) in
    let fits_b : FitsSigned w128 c.args.factors.pivot = search rules in
    let most_is : nat_abs (pos 1) * c.args.line.now.most + nat_abs b * c.args.pivot.now.most ≡ c.args.factors.most =
    ap₂ (λ x y. nat_abs x * c.args.line.now.most + nat_abs y * c.args.pivot.now.most) (sym c.requires.once) (to_z-of_z w128 c.args.factors.pivot fits_b) ∙ sym c.requires.planned.3.most in
    let first : nat_abs (pos 1) * nat_abs (whole_at (wholes c.args.line.now) k) ≤ nat_abs (pos 1) * c.args.line.now.most = mul-le-mul_left (nat_abs (pos 1)) (c.requires.line.numbers_within k) in
    let second : nat_abs b * nat_abs (whole_at (wholes c.args.pivot.now) k) ≤ nat_abs b * c.args.pivot.now.most = mul-le-mul_left (nat_abs b) (c.requires.pivot.numbers_within k) in
    omega arith

pub returns-in_default-clause-same : goal.returns-in_default-clause-same
returns-in_default-clause-same c = λ _. ap (λ l. made l c.args.line.now.denominator c.args.line.now.most c.args.line.now.marks c.args.line.now.leading) c.in_default.ensures
  where
    made : List ℤ → ℕ → ℕ → Marks → Leading → Line
    made l d m k x = record { numbers = l; denominator = d; most = m; marks = k; leading = x }

pub returns-clause-lessened : goal.returns-clause-lessened
returns-clause-lessened c = λ _ bound column limited above planned.
    let b : ℤ = to_z w128 (of_z w128 c.args.factors.pivot) in
    let fits_b : FitsSigned w128 c.args.factors.pivot = search rules in
    let b_is : b ≡ c.args.factors.pivot = to_z-of_z w128 c.args.factors.pivot fits_b in
    let factors : AreFactors (whole_at (wholes c.args.line.now) column) (whole_at (wholes c.args.pivot.now) column) (pos 1) b =
    subst₂ (λ x y. AreFactors (whole_at (wholes c.args.line.now) column) (whole_at (wholes c.args.pivot.now) column) x y) c.requires.once (sym b_is) planned.factors in
    let inside = planned.within in
    let most : ℕ = nat_abs (pos 1) * c.args.line.now.most + nat_abs b * c.args.pivot.now.most in
    let most_is : most ≡ c.args.factors.most = ap₂ (λ x y. nat_abs x * c.args.line.now.most + nat_abs y * c.args.pivot.now.most) (sym c.requires.once) b_is ∙ sym planned.most in
    let lessened = c.in-Some.ensures in
    let one : nat_abs (pos 1) * c.args.line.now.most ≡ c.args.line.now.most = omega arith in
    let lessened_most : c.in-Some.most ≤ most = lessened.small most (λ k.
    let first : nat_abs (pos 1) * nat_abs (whole_at (wholes c.args.line.now) k) ≤ nat_abs (pos 1) * c.args.line.now.most = mul-le-mul_left (nat_abs (pos 1)) (c.requires.line.numbers_within k) in
    let second : nat_abs b * nat_abs (whole_at (wholes c.args.pivot.now) k) ≤ nat_abs b * c.args.pivot.now.most = mul-le-mul_left (nat_abs b) (c.requires.pivot.numbers_within k) in
    omega arith) (omega arith) in
    let above_least : c.args.line.now.most ≤ c.in-Some.most = lessened.extended in
    let low = c.requires.line.denominator_within in
    let after : Line = record { numbers = c.lessen_at.new.self; denominator = c.args.line.now.denominator; most = c.in-Some.most; marks = c.joined-line.result; leading = c.of-line.result } in
    lessened_line c.args.line.now c.args.pivot.now after column (pos 1) b c.args.factors c.requires.line c.requires.pivot c.requires.sized above factors
    (record {
      sized = lessened.sized;
      numbers = lessened.numbers;
      denominator = sym (mul-one c.args.line.now.denominator);
      numbers_within = lessened.within;
      denominator_within = omega arith;
      most = lessened_most;
      small = omega arith;
      marks = λ k clear. (c.joined-line.ensures.own k clear, c.joined-line.ensures.others k clear);
      leading = c.of-line.ensures;
    }) (sym c.requires.once) b_is planned.most
