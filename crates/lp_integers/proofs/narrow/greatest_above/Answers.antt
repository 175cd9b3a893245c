-- A greater number becomes the best one so far.
use Rattle.std.proofs.Common.{rules, ◌≡◌, ◌+◌, ℕ, ℤ, Option, FitsSigned, to_z, w64, refl, sym, subst₂}
use Rattle.std.proofs.lemmas.Int.{to_z-of_z}
use Rattle.lp_integers.specs.Lines.{whole_at}
use Rattle.lp_integers.proofs.Lines.{stored}
use Rattle.lp_integers.proofs.Topmost.{BestBelow, less_told, not_less_told, none_yet, better, no_better, best_found}
use Rattle.lp_integers.proofs.narrow.greatest_above.Goals as goal
use Rattle.lp_integers.proofs.narrow.greatest_above.Goals.{then-number-most, else-number-most}

pub loop-place-init : goal.loop-place-init
loop-place-init c = (refl, none_yet c.args.numbers.now c.args.start)

pub loop-place-preserved : goal.loop-place-preserved
loop-place-preserved c =
    let number : ℤ = whole_at c.args.numbers.now c.loop-place.place in
    let fits : FitsSigned w64 number = search rules in
    let x : ℤ = stored w64 number in
    let is : x ≡ number = to_z-of_z w64 number fits in
    let most : ℤ = to_z w64 c.loop-place.most-bits in
    elim c.if-number-most.branch [
      | then-number-most w ↦
          subst₂ (λ (m : ℤ) (o : Option ℕ). BestBelow c.args.numbers.now c.args.start (c.loop-place.place + 1) m o) (sym w.most-is) (sym w.best-is)
          (better c.args.numbers.now c.args.start c.loop-place.place c.loop-place.auto.place most c.loop-place.best x is c.loop-place.invariant
          (less_told most x w.if-number-most.true))
      | else-number-most w ↦
          subst₂ (λ (m : ℤ) (o : Option ℕ). BestBelow c.args.numbers.now c.args.start (c.loop-place.place + 1) m o) (sym w.most-is) (sym w.best-is)
          (no_better c.args.numbers.now c.args.start c.loop-place.place c.loop-place.auto.place most c.loop-place.best x is c.loop-place.invariant
          (not_less_told most x w.if-number-most.false))
    ]

pub returns : goal.returns
returns c =
    best_found c.args.numbers.now c.args.start c.loop-place.place
    (to_z w64 c.loop-place.most-bits) c.loop-place.best c.loop-place.invariant c.loop-place-test.false
