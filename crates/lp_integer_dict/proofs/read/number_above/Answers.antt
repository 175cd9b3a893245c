use Rattle.std.proofs.Common.{rules, ◌≡◌, ◌<◌, ◌^◌, ◌*◌, ◌+◌, ℤ, ◌-ℤ◌, ◌*ℤ◌, nat_abs, FitsSigned, to_z, of_z, sym, ap₂, ◌∙◌, subst₂, arith}
use Rattle.std.specs.Int.{w128}
use Rattle.std.proofs.lemmas.Int.{to_z-of_z}
use Rattle.lp_integers.specs.Lines.{whole_at}
use Rattle.lp_integer_rows.specs.Form.{wholes}
use Rattle.lp_integer_dict.proofs.Reading.{steps_within}
use Rattle.lp_integer_dict.proofs.read.number_above.Goals as goal

pub cross_difference-requires : goal.cross_difference-requires
cross_difference-requires c =
    let u : ℤ = whole_at (wholes c.args.pivot.now) 1 in
    let n : ℤ = whole_at (wholes c.args.line.now) c.args.column in
    let f : ℤ = whole_at (wholes c.args.line.now) 1 in
    let x : ℤ = whole_at (wholes c.args.pivot.now) c.args.column in
    let fits_u : FitsSigned w128 c.marked_number_at.result = search rules in
    let fits_n : FitsSigned w128 c.marked_number_at-2.result = search rules in
    let fits_f : FitsSigned w128 c.marked_number_at-3.result = search rules in
    let u_is : to_z w128 (of_z w128 c.marked_number_at.result) ≡ u = to_z-of_z w128 c.marked_number_at.result fits_u ∙ c.marked_number_at.ensures in
    let n_is : to_z w128 (of_z w128 c.marked_number_at-2.result) ≡ n = to_z-of_z w128 c.marked_number_at-2.result fits_n ∙ c.marked_number_at-2.ensures in
    let f_is : to_z w128 (of_z w128 c.marked_number_at-3.result) ≡ f = to_z-of_z w128 c.marked_number_at-3.result fits_f ∙ c.marked_number_at-3.ensures in
    let x_is : to_z w128 (of_z w128 c.args.above) ≡ x = to_z-of_z w128 c.args.above c.ranges.above ∙ c.requires.above in
    let both = steps_within c.args.line.now c.args.pivot.now c.requires.line c.requires.pivot c.args.column in
    let within_bound = c.requires.within_bound in
    let small : nat_abs u * nat_abs n + nat_abs f * nat_abs x < 2 ^ 127 = omega arith in
    subst₂ (λ s t. s + t < 2 ^ 127) (sym (ap₂ (λ s t. nat_abs s * nat_abs t) u_is n_is)) (sym (ap₂ (λ s t. nat_abs s * nat_abs t) f_is x_is)) small

pub returns : goal.returns
returns c =
    let fits_u : FitsSigned w128 c.marked_number_at.result = search rules in
    let fits_n : FitsSigned w128 c.marked_number_at-2.result = search rules in
    let fits_f : FitsSigned w128 c.marked_number_at-3.result = search rules in
    let fits : FitsSigned w128 c.cross_difference.result = search rules in
    let u_is : to_z w128 (of_z w128 c.marked_number_at.result) ≡ whole_at (wholes c.args.pivot.now) 1 = to_z-of_z w128 c.marked_number_at.result fits_u ∙ c.marked_number_at.ensures in
    let n_is : to_z w128 (of_z w128 c.marked_number_at-2.result) ≡ whole_at (wholes c.args.line.now) c.args.column = to_z-of_z w128 c.marked_number_at-2.result fits_n ∙ c.marked_number_at-2.ensures in
    let f_is : to_z w128 (of_z w128 c.marked_number_at-3.result) ≡ whole_at (wholes c.args.line.now) 1 = to_z-of_z w128 c.marked_number_at-3.result fits_f ∙ c.marked_number_at-3.ensures in
    let x_is : to_z w128 (of_z w128 c.args.above) ≡ whole_at (wholes c.args.pivot.now) c.args.column = to_z-of_z w128 c.args.above c.ranges.above ∙ c.requires.above in
    to_z-of_z w128 c.cross_difference.result fits ∙ c.cross_difference.ensures
    ∙ ap₂ (λ s t. s -ℤ t) (ap₂ (λ s t. s *ℤ t) u_is n_is) (ap₂ (λ s t. s *ℤ t) f_is x_is)
