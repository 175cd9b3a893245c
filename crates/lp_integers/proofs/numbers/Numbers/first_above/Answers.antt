-- The first number above 0 is found, or there is none up to the end.
use Rattle.std.proofs.Common.{◌<◌, ◌≤◌, pos, sym, ap, ◌∙◌, subst}
use Rattle.std.specs.Int.{w128}
use Rattle.std.specs.Prelude.{◌<ℤ◌}
use Rattle.std.proofs.lemmas.Int.{to_z-of_z}
use Rattle.lp_integers.specs.Widths.{listed}
use Rattle.lp_integers.specs.Words.{IsFirstAbove}
use Rattle.lp_integers.proofs.Lines.{stored}
use Rattle.lp_integers.proofs.Topmost.{less_told, not_less_told, none_yet, none_more, first_found, none_found}
use Rattle.lp_integers.proofs.numbers.Numbers.first_above.Goals as goal

pub returns-in-Few : goal.returns-in-Few
returns-in-Few c = subst (λ l. IsFirstAbove l c.args.start c.first_above.result) (sym (ap listed c.in-Few.is) ∙ c.self.view_is) c.first_above.ensures

pub returns-in-Narrow : goal.returns-in-Narrow
returns-in-Narrow c =
    subst (λ l. IsFirstAbove l c.args.start c.first_above-in-Narrow.result)
    (c.as_slice.ensures.value ∙ sym (ap listed c.in-Narrow.is) ∙ c.self.view_is) c.first_above-in-Narrow.ensures

pub loop-place-init : goal.loop-place-init
loop-place-init c = none_yet c.args.self.now c.args.start

pub at-requires : goal.at-requires
at-requires c = subst (λ n. c.loop-place.place < n) c.len-place-end.ensures c.loop-place-test.true

pub returns-then-at-gt0 : goal.returns-then-at-gt0
returns-then-at-gt0 c =
    first_found c.args.self.now c.args.start c.loop-place.place c.loop-place.invariant c.loop-place.auto.place
    (subst (λ n. c.loop-place.place < n) c.len-place-end.ensures c.loop-place-test.true)
    (subst (λ z. pos 0 <ℤ z) (to_z-of_z w128 c.at.result (record { sfits = c.at.type_inv }) ∙ c.at.ensures)
    (less_told (pos 0) (stored w128 c.at.result) c.if-at-gt0.true))

pub loop-place-preserved : goal.loop-place-preserved
loop-place-preserved c =
    none_more c.args.self.now c.args.start c.loop-place.place c.loop-place.invariant
    (subst (λ z. ¬ (pos 0 <ℤ z)) (to_z-of_z w128 c.at.result (record { sfits = c.at.type_inv }) ∙ c.at.ensures)
    (not_less_told (pos 0) (stored w128 c.at.result) c.if-at-gt0.false))

pub returns : goal.returns
returns c =
    none_found c.args.self.now c.args.start c.loop-place.place c.loop-place.invariant
    (subst (λ n. n ≤ c.loop-place.place) c.len-place-end.ensures c.loop-place-test.false)
