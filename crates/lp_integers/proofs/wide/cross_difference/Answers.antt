use Rattle.std.proofs.Common.{nat_abs, ◌≡◌, ◌-ℤ◌, ◌*ℤ◌, ◌<◌, ◌^◌, FitsSigned, to_z, of_z, sym, ap₂, ◌∙◌, subst₂}
use Rattle.std.specs.Int.{w128}
use Rattle.std.proofs.lemmas.Int.{to_z-of_z}
use Rattle.lp_integers.proofs.Lines.{steps_have_bound}
use Rattle.lp_integers.proofs.wide.cross_difference.Goals as goal

pub product-first-requires : goal.product-first-requires
product-first-requires c =
    subst₂ (λ x y. nat_abs (x *ℤ y) < 2 ^ 127) (sym (to_z-of_z w128 c.args.a c.ranges.a)) (sym (to_z-of_z w128 c.args.n c.ranges.n)) (steps_have_bound (2 ^ 127) c.args.a c.args.b c.args.n c.args.x c.requires).first

pub product-second-requires : goal.product-second-requires
product-second-requires c =
    subst₂ (λ x y. nat_abs (x *ℤ y) < 2 ^ 127) (sym (to_z-of_z w128 c.args.b c.ranges.b)) (sym (to_z-of_z w128 c.args.x c.ranges.x)) (steps_have_bound (2 ^ 127) c.args.a c.args.b c.args.n c.args.x c.requires).second

pub difference-requires : goal.difference-requires
difference-requires c =
    let fits_first : FitsSigned w128 c.product-first.result = record { sfits = c.product-first.type_inv } in
    let fits_second : FitsSigned w128 c.product-second.result = record { sfits = c.product-second.type_inv } in
    let first : to_z w128 (of_z w128 c.product-first.result) ≡ c.args.a *ℤ c.args.n =
    to_z-of_z w128 c.product-first.result fits_first ∙ c.product-first.ensures ∙ ap₂ (λ x y. x *ℤ y) (to_z-of_z w128 c.args.a c.ranges.a) (to_z-of_z w128 c.args.n c.ranges.n) in
    let second : to_z w128 (of_z w128 c.product-second.result) ≡ c.args.b *ℤ c.args.x =
    to_z-of_z w128 c.product-second.result fits_second ∙ c.product-second.ensures ∙ ap₂ (λ x y. x *ℤ y) (to_z-of_z w128 c.args.b c.ranges.b) (to_z-of_z w128 c.args.x c.ranges.x) in
    subst₂ (λ x y. nat_abs (x -ℤ y) < 2 ^ 127) (sym first) (sym second) (steps_have_bound (2 ^ 127) c.args.a c.args.b c.args.n c.args.x c.requires).left

pub returns : goal.returns
returns c =
    let fits_first : FitsSigned w128 c.product-first.result = record { sfits = c.product-first.type_inv } in
    let fits_second : FitsSigned w128 c.product-second.result = record { sfits = c.product-second.type_inv } in
    let first : to_z w128 (of_z w128 c.product-first.result) ≡ c.args.a *ℤ c.args.n =
    to_z-of_z w128 c.product-first.result fits_first ∙ c.product-first.ensures ∙ ap₂ (λ x y. x *ℤ y) (to_z-of_z w128 c.args.a c.ranges.a) (to_z-of_z w128 c.args.n c.ranges.n) in
    let second : to_z w128 (of_z w128 c.product-second.result) ≡ c.args.b *ℤ c.args.x =
    to_z-of_z w128 c.product-second.result fits_second ∙ c.product-second.ensures ∙ ap₂ (λ x y. x *ℤ y) (to_z-of_z w128 c.args.b c.ranges.b) (to_z-of_z w128 c.args.x c.ranges.x) in
    let fits : FitsSigned w128 c.difference.result = record { sfits = c.difference.type_inv } in
    to_z-of_z w128 c.difference.result fits ∙ c.difference.ensures ∙ ap₂ (λ x y. x -ℤ y) first second
