-- A greater number becomes the best one so far.
use Rattle.std.proofs.Common.{◌≡◌, ◌+◌, ◌<◌, ◌≤◌, ℕ, ℤ, Option, to_z, refl, sym, ap, ◌∙◌, subst, subst₂}
use Rattle.std.specs.Int.{w128}
use Rattle.std.proofs.lemmas.Int.{to_z-of_z}
use Rattle.lp_integers.specs.Lines.{whole_at}
use Rattle.lp_integers.specs.Widths.{listed}
use Rattle.lp_integers.specs.Words.{IsGreatestAbove}
use Rattle.lp_integers.proofs.Lines.{stored}
use Rattle.lp_integers.proofs.Topmost.{BestBelow, less_told, not_less_told, none_yet, better, no_better, best_found}
use Rattle.lp_integers.proofs.numbers.Numbers.greatest_above.Goals as goal
use Rattle.lp_integers.proofs.numbers.Numbers.greatest_above.Goals.{then-number-most, else-number-most}

pub returns-in-Few : goal.returns-in-Few
returns-in-Few c = subst (λ l. IsGreatestAbove l c.args.start c.greatest_above.result) (sym (ap listed c.in-Few.is) ∙ c.self.view_is) c.greatest_above.ensures

pub returns-in-Narrow : goal.returns-in-Narrow
returns-in-Narrow c =
    subst (λ l. IsGreatestAbove l c.args.start c.greatest_above-in-Narrow.result)
    (c.as_slice.ensures.value ∙ sym (ap listed c.in-Narrow.is) ∙ c.self.view_is) c.greatest_above-in-Narrow.ensures

pub loop-place-init : goal.loop-place-init
loop-place-init c = (refl, none_yet c.args.self.now c.args.start)

pub at-number-requires : goal.at-number-requires
at-number-requires c = subst (λ n. c.loop-place.place < n) c.len-place-end.ensures c.loop-place-test.true

pub loop-place-preserved : goal.loop-place-preserved
loop-place-preserved c =
    let x : ℤ = stored w128 c.at-number.result in
    let is : x ≡ whole_at c.args.self.now c.loop-place.place =
    to_z-of_z w128 c.at-number.result (record { sfits = c.at-number.type_inv }) ∙ c.at-number.ensures in
    let most : ℤ = to_z w128 c.loop-place.most-bits in
    elim c.if-number-most.branch [
      | then-number-most w ↦
          subst₂ (λ (m : ℤ) (o : Option ℕ). BestBelow c.args.self.now c.args.start (c.loop-place.place + 1) m o) (sym w.most-is) (sym w.best-is)
          (better c.args.self.now c.args.start c.loop-place.place c.loop-place.auto.place most c.loop-place.best x is c.loop-place.invariant
          (less_told most x w.if-number-most.true))
      | else-number-most w ↦
          subst₂ (λ (m : ℤ) (o : Option ℕ). BestBelow c.args.self.now c.args.start (c.loop-place.place + 1) m o) (sym w.most-is) (sym w.best-is)
          (no_better c.args.self.now c.args.start c.loop-place.place c.loop-place.auto.place most c.loop-place.best x is c.loop-place.invariant
          (not_less_told most x w.if-number-most.false))
    ]

pub returns : goal.returns
returns c =
    best_found c.args.self.now c.args.start c.loop-place.place (to_z w128 c.loop-place.most-bits) c.loop-place.best c.loop-place.invariant
    (subst (λ n. n ≤ c.loop-place.place) c.len-place-end.ensures c.loop-place-test.false)
