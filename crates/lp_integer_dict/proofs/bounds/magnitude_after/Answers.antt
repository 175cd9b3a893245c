use Rattle.std.proofs.Common.{rules, ◌≡◌, ℤ, nat_abs, ◌+◌, ◌*◌, ◌<◌, ◌≤◌, ◌^◌, ◌-◌, ◌-ℤ◌, ◌*ℤ◌, FitsSigned, to_z, of_z, sym, ap, ap₂, ◌∙◌, subst₂, arith}
use Rattle.std.specs.Int.{w128}
use Rattle.std.proofs.lemmas.Int.{to_z-of_z}
use Rattle.std.proofs.Math.Nat.{mul-le-mul_left}
use Rattle.lp_integers.specs.Lines.{whole_at}
use Rattle.lp_integer_rows.specs.Form.{wholes}
use Rattle.lp_integers.proofs.Lines.{left_within}
use Rattle.lp_integer_dict.proofs.bounds.magnitude_after.Goals as goal

pub cross_difference-left-requires : goal.cross_difference-left-requires
cross_difference-left-requires c =
    let a : ℤ = c.args.factors.line in
    let b : ℤ = c.args.factors.pivot in
    let n : ℤ = whole_at (wholes c.args.line.now) 1 in
    let x : ℤ = whole_at (wholes c.args.pivot.now) 1 in
    let fits_a : FitsSigned w128 c.args.factors.line = search rules in
    let fits_b : FitsSigned w128 c.args.factors.pivot = search rules in
    let fits_n : FitsSigned w128 c.marked_number_at.result = search rules in
    let fits_x : FitsSigned w128 c.marked_number_at-2.result = search rules in
    let n_is : to_z w128 (of_z w128 c.marked_number_at.result) ≡ n = to_z-of_z w128 c.marked_number_at.result fits_n ∙ c.marked_number_at.ensures in
    let x_is : to_z w128 (of_z w128 c.marked_number_at-2.result) ≡ x = to_z-of_z w128 c.marked_number_at-2.result fits_x ∙ c.marked_number_at-2.ensures in
    let first : nat_abs a * nat_abs n ≤ nat_abs a * c.args.line.now.most = mul-le-mul_left (nat_abs a) (c.requires.line.numbers_within 1) in
    let second : nat_abs b * nat_abs x ≤ nat_abs b * c.args.pivot.now.most = mul-le-mul_left (nat_abs b) (c.requires.pivot.numbers_within 1) in
    let within_bound = c.requires.within_bound in
    let small : nat_abs a * nat_abs n + nat_abs b * nat_abs x < 2 ^ 127 = omega arith in
    subst₂ (λ s t. s + t < 2 ^ 127) (sym (ap₂ (λ s t. nat_abs s * nat_abs t) (to_z-of_z w128 c.args.factors.line fits_a) n_is)) (sym (ap₂ (λ s t. nat_abs s * nat_abs t) (to_z-of_z w128 c.args.factors.pivot fits_b) x_is)) small

pub returns-clause-value : goal.returns-clause-value
returns-clause-value c =
    let fits_a : FitsSigned w128 c.args.factors.line = search rules in
    let fits_b : FitsSigned w128 c.args.factors.pivot = search rules in
    let fits_n : FitsSigned w128 c.marked_number_at.result = search rules in
    let fits_x : FitsSigned w128 c.marked_number_at-2.result = search rules in
    let fits : FitsSigned w128 c.cross_difference-left.result = search rules in
    let n_is : to_z w128 (of_z w128 c.marked_number_at.result) ≡ whole_at (wholes c.args.line.now) 1 = to_z-of_z w128 c.marked_number_at.result fits_n ∙ c.marked_number_at.ensures in
    let x_is : to_z w128 (of_z w128 c.marked_number_at-2.result) ≡ whole_at (wholes c.args.pivot.now) 1 = to_z-of_z w128 c.marked_number_at-2.result fits_x ∙ c.marked_number_at-2.ensures in
    c.unsigned_abs.ensures.value ∙ ap nat_abs (to_z-of_z w128 c.cross_difference-left.result fits ∙ c.cross_difference-left.ensures
    ∙ ap₂ (λ s t. s -ℤ t) (ap₂ (λ s t. s *ℤ t) (to_z-of_z w128 c.args.factors.line fits_a) n_is) (ap₂ (λ s t. s *ℤ t) (to_z-of_z w128 c.args.factors.pivot fits_b) x_is))

pub returns-clause-small : goal.returns-clause-small
returns-clause-small c =
    let fits_a : FitsSigned w128 c.args.factors.line = search rules in
    let fits_b : FitsSigned w128 c.args.factors.pivot = search rules in
    let fits_n : FitsSigned w128 c.marked_number_at.result = search rules in
    let fits_x : FitsSigned w128 c.marked_number_at-2.result = search rules in
    let fits : FitsSigned w128 c.cross_difference-left.result = search rules in
    let n_is : to_z w128 (of_z w128 c.marked_number_at.result) ≡ whole_at (wholes c.args.line.now) 1 = to_z-of_z w128 c.marked_number_at.result fits_n ∙ c.marked_number_at.ensures in
    let x_is : to_z w128 (of_z w128 c.marked_number_at-2.result) ≡ whole_at (wholes c.args.pivot.now) 1 = to_z-of_z w128 c.marked_number_at-2.result fits_x ∙ c.marked_number_at-2.ensures in
    let value : c.unsigned_abs.result ≡ nat_abs (c.args.factors.line *ℤ whole_at (wholes c.args.line.now) 1 -ℤ c.args.factors.pivot *ℤ whole_at (wholes c.args.pivot.now) 1) =
    c.unsigned_abs.ensures.value ∙ ap nat_abs (to_z-of_z w128 c.cross_difference-left.result fits ∙ c.cross_difference-left.ensures
    ∙ ap₂ (λ s t. s -ℤ t) (ap₂ (λ s t. s *ℤ t) (to_z-of_z w128 c.args.factors.line fits_a) n_is) (ap₂ (λ s t. s *ℤ t) (to_z-of_z w128 c.args.factors.pivot fits_b) x_is)) in
    let first : nat_abs c.args.factors.line * nat_abs (whole_at (wholes c.args.line.now) 1) ≤ nat_abs c.args.factors.line * c.args.line.now.most = mul-le-mul_left (nat_abs c.args.factors.line) (c.requires.line.numbers_within 1) in
    let second : nat_abs c.args.factors.pivot * nat_abs (whole_at (wholes c.args.pivot.now) 1) ≤ nat_abs c.args.factors.pivot * c.args.pivot.now.most = mul-le-mul_left (nat_abs c.args.factors.pivot) (c.requires.pivot.numbers_within 1) in
    let within_bound = c.requires.within_bound in
    let within = left_within c.args.factors.line c.args.factors.pivot (whole_at (wholes c.args.line.now) 1) (whole_at (wholes c.args.pivot.now) 1) (2 ^ 127 - 1) (omega arith) in
    omega arith
