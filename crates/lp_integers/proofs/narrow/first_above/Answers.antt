-- The first number above 0 is found, or there is none up to the end.
use Rattle.std.proofs.Common.{rules, ℤ, pos, FitsSigned, w64, subst}
use Rattle.std.specs.Prelude.{◌<ℤ◌}
use Rattle.std.proofs.lemmas.Int.{to_z-of_z}
use Rattle.lp_integers.specs.Lines.{whole_at}
use Rattle.lp_integers.proofs.Lines.{stored}
use Rattle.lp_integers.proofs.Topmost.{less_told, not_less_told, none_yet, none_more, first_found, none_found}
use Rattle.lp_integers.proofs.narrow.first_above.Goals as goal

pub loop-place-init : goal.loop-place-init
loop-place-init c = none_yet c.args.numbers.now c.args.start

pub returns-then-numbers-place-gt0 : goal.returns-then-numbers-place-gt0
returns-then-numbers-place-gt0 c =
    let number : ℤ = whole_at c.args.numbers.now c.loop-place.place in
    let fits : FitsSigned w64 number = search rules in
    first_found c.args.numbers.now c.args.start c.loop-place.place c.loop-place.invariant c.loop-place.auto.place c.loop-place-test.true
    (subst (λ z. pos 0 <ℤ z) (to_z-of_z w64 number fits) (less_told (pos 0) (stored w64 number) c.if-numbers-place-gt0.true))

pub loop-place-preserved : goal.loop-place-preserved
loop-place-preserved c =
    let number : ℤ = whole_at c.args.numbers.now c.loop-place.place in
    let fits : FitsSigned w64 number = search rules in
    none_more c.args.numbers.now c.args.start c.loop-place.place c.loop-place.invariant
    (subst (λ z. ¬ (pos 0 <ℤ z)) (to_z-of_z w64 number fits) (not_less_told (pos 0) (stored w64 number) c.if-numbers-place-gt0.false))

pub returns : goal.returns
returns c = none_found c.args.numbers.now c.args.start c.loop-place.place c.loop-place.invariant c.loop-place-test.false
