use Rattle.std.proofs.Common.{◌≡◌, ◌≢◌, ◌+◌, ◌<◌, length, IfOk, pos, FitsSigned, to_z, of_z, sym, ap, ◌∙◌, subst, arith}
use Rattle.std.specs.Int.{w128}
use Rattle.std.proofs.lemmas.Int.{to_z-of_z}
use Rattle.lp_integers.specs.Lines.{whole_at, ArePlaces}
use Rattle.lp_integers.specs.Widths.{listed}
use Rattle.lp_integers.proofs.Places.{places_none, places_more, places_past}
use Rattle.std.proofs.lemmas.Result.{IfOk-from_err}
use Rattle.lp_integers.proofs.numbers.Numbers.places.Goals as goal
use Rattle.lp_integers.proofs.numbers.Numbers.places.Goals.{then-at-ne0+in_ok-push, else-at-ne0}

pub loop-place-init : goal.loop-place-init
loop-place-init c = subst (ArePlaces c.args.self.now 0) (sym c.new-places.ensures.items) (places_none c.args.self.now)

pub loop-place-preserved : goal.loop-place-preserved
loop-place-preserved c =
    let fits : FitsSigned w128 c.at.result = record { sfits = c.at.type_inv } in
    elim c.if-at-ne0.branch [
      | then-at-ne0+in_ok-push w ↦
          let some : whole_at c.args.self.now c.loop-place.place ≢ pos 0 = λ is. w.if-at-ne0.true (ap (of_z w128) (c.at.ensures ∙ is)) in
          subst (λ v. ArePlaces c.args.self.now (c.loop-place.place + 1) v.items) (sym w.places-is)
          (subst (ArePlaces c.args.self.now (c.loop-place.place + 1)) (sym w.in_ok-push.ensures.items) (places_more c.args.self.now c.loop-place.place c.loop-place.places.items c.loop-place.invariant some))
      | else-at-ne0 w ↦
          let none : whole_at c.args.self.now c.loop-place.place ≡ pos 0 = sym c.at.ensures ∙ sym (to_z-of_z w128 c.at.result fits) ∙ ap (to_z w128) w.if-at-ne0.false in
          subst (λ v. ArePlaces c.args.self.now (c.loop-place.place + 1) v.items) (sym w.places-is)
          (places_past c.args.self.now c.loop-place.place c.loop-place.places.items c.loop-place.invariant none)
    ]

pub returns : goal.returns
returns c = subst (λ n. ArePlaces c.args.self.now n c.loop-place.places.items) (omega arith) c.loop-place.invariant

pub at-requires : goal.at-requires
at-requires c = subst (λ n. c.loop-place.place < n) c.len-place-end.ensures c.loop-place-test.true

pub returns-in_err-push : goal.returns-in_err-push
returns-in_err-push c = IfOk-from_err c.from_residual.result _ c.from_residual.ensures.0

pub returns-in-Few : goal.returns-in-Few
returns-in-Few c =
    subst (λ l. IfOk c.places.result (λ places. ArePlaces l (length l) places.items)) (sym (ap listed c.in-Few.is) ∙ c.self.view_is) c.places.ensures

pub returns-in-Narrow : goal.returns-in-Narrow
returns-in-Narrow c =
    subst (λ l. IfOk c.places-in-Narrow.result (λ places. ArePlaces l (length l) places.items))
    (c.as_slice.ensures.value ∙ sym (ap listed c.in-Narrow.is) ∙ c.self.view_is) c.places-in-Narrow.ensures
