use Rattle.std.proofs.Common.{◌≡◌, ◌∙◌, ap, ℤ, pos, nat_abs, SFits, to_z, of_z, rules, arith}
use Rattle.std.proofs.lemmas.Int.{ints, to_z-of_z}
use Rattle.std.specs.Int.{int_rem_euclid}
use mir.Syntax.{w128}
use Rattle.gms_eval.proofs.Bests.{shift-is, shift-below, around-before, around-past}
use Rattle.gms_eval.proofs.indices.around.Goals as goal

pub returns-then-shift-following : goal.returns-then-shift-following
returns-then-shift-following c =
    let r : ℤ = c.rem_euclid-shift.result in
    let fits : SFits w128 r = search rules in
    let count : to_z w128 c.args.count ≡ pos c.args.count = omega (arith, ints) in
    let e = shift-is c.args.count c.args.amount r (to_z w128 (of_z w128 r)) (c.rem_euclid-shift.ensures.value ∙ ap (λ z. int_rem_euclid z (to_z w128 c.args.count)) (to_z-of_z w128 c.args.amount c.ranges.amount) ∙ ap (int_rem_euclid c.args.amount) count) (to_z-of_z w128 r fits) in
    around-before c.args.place c.args.count c.args.amount (nat_abs (to_z w128 (of_z w128 r))) c.requires e c.if-shift-following.true

pub returns-else-shift-following : goal.returns-else-shift-following
returns-else-shift-following c =
    let r : ℤ = c.rem_euclid-shift.result in
    let fits : SFits w128 r = search rules in
    let count : to_z w128 c.args.count ≡ pos c.args.count = omega (arith, ints) in
    let e = shift-is c.args.count c.args.amount r (to_z w128 (of_z w128 r)) (c.rem_euclid-shift.ensures.value ∙ ap (λ z. int_rem_euclid z (to_z w128 c.args.count)) (to_z-of_z w128 c.args.amount c.ranges.amount) ∙ ap (int_rem_euclid c.args.amount) count) (to_z-of_z w128 r fits) in
    around-past c.args.place c.args.count c.args.amount (nat_abs (to_z w128 (of_z w128 r))) c.requires (shift-below c.args.count c.args.amount _ (omega arith) e) e c.if-shift-following.false
