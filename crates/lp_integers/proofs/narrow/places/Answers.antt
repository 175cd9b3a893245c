use Rattle.std.proofs.Common.{rules, ◌≡◌, ◌≢◌, ◌+◌, ℤ, pos, FitsSigned, to_z, of_z, w64, sym, ap, ◌∙◌, subst, arith}
use Rattle.std.proofs.lemmas.Int.{to_z-of_z}
use Rattle.lp_integers.specs.Lines.{whole_at, ArePlaces}
use Rattle.lp_integers.proofs.Places.{places_none, places_more, places_past}
use Rattle.lp_integers.proofs.narrow.places.Goals as goal
use Rattle.lp_integers.proofs.narrow.places.Goals.{then-numbers-place-ne0+in_ok-push, else-numbers-place-ne0}

pub loop-place-init : goal.loop-place-init
loop-place-init c = subst (ArePlaces c.args.numbers.now 0) (sym c.new-places.ensures.items) (places_none c.args.numbers.now)

pub loop-place-preserved : goal.loop-place-preserved
loop-place-preserved c =
    let number : ℤ = whole_at c.args.numbers.now c.loop-place.place in
    let fits : FitsSigned w64 number = search rules in
    elim c.if-numbers-place-ne0.branch [
      | then-numbers-place-ne0+in_ok-push w ↦
          let some : number ≢ pos 0 = λ is. w.if-numbers-place-ne0.true (ap (of_z w64) is) in
          subst (λ v. ArePlaces c.args.numbers.now (c.loop-place.place + 1) v.items) (sym w.places-is)
          (subst (ArePlaces c.args.numbers.now (c.loop-place.place + 1)) (sym w.in_ok-push.ensures.items) (places_more c.args.numbers.now c.loop-place.place c.loop-place.places.items c.loop-place.invariant some))
      | else-numbers-place-ne0 w ↦
          let none : number ≡ pos 0 = sym (to_z-of_z w64 number fits) ∙ ap (to_z w64) w.if-numbers-place-ne0.false in
          subst (λ v. ArePlaces c.args.numbers.now (c.loop-place.place + 1) v.items) (sym w.places-is)
          (places_past c.args.numbers.now c.loop-place.place c.loop-place.places.items c.loop-place.invariant none)
    ]

pub returns : goal.returns
returns c = subst (λ n. ArePlaces c.args.numbers.now n c.loop-place.places.items) (omega arith) c.loop-place.invariant
