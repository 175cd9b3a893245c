use Rattle.std.proofs.Common.{◌≡◌, ◌+◌, ◌<◌, ℕ, pos, length, Some, refl, sym, ap, ◌∙◌, subst, arith}
use Rattle.std.specs.Prelude.{slice_get, slice_index_or}
use Rattle.lp_integer_rows.specs.declared.line.Factors.{Factors}
use Rattle.lp_integer_rows.specs.Form.{IsPlanned, AreLinesExchanged}
use Rattle.lp_integer_rows.proofs.Plans.{index_get, exchanged_more, exchanged_past, exchanged_end}
use Rattle.lp_integer_rows.proofs.exchange.apply_plans.Goals as goal
use Rattle.lp_integer_rows.proofs.exchange.apply_plans.Goals.{then-i-place+in_ok-apply, else-i-place}

pub apply-requires-clause-line : goal.apply-requires-clause-line
apply-requires-clause-line c =
    let p = c.requires.planned.2 in
    let h = c.loop-i.invariant c.requires.planned.0 c.requires.planned.1 p in
    let there : slice_get c.args.lines.now.items c.loop-i.i ≡ Some c.index_mut-line.result.now =
    sym (h.left c.loop-i.i (omega arith)) ∙ index_get c.loop-i.lines.items c.loop-i.i c.index_mut-line.result.now c.index_mut-line.result.now (omega (arith, c.loop-i.lines.ok.0)) (sym c.index_mut-line.ensures.value) in
    (c.requires.lines.1 c.loop-i.i c.index_mut-line.result.now c.if-i-place.true there).0

pub apply-requires-clause-sized : goal.apply-requires-clause-sized
apply-requires-clause-sized c =
    let p = c.requires.planned.2 in
    let h = c.loop-i.invariant c.requires.planned.0 c.requires.planned.1 p in
    let there : slice_get c.args.lines.now.items c.loop-i.i ≡ Some c.index_mut-line.result.now =
    sym (h.left c.loop-i.i (omega arith)) ∙ index_get c.loop-i.lines.items c.loop-i.i c.index_mut-line.result.now c.index_mut-line.result.now (omega (arith, c.loop-i.lines.ok.0)) (sym c.index_mut-line.ensures.value) in
    c.requires.lines.2 ∙ sym (c.requires.lines.1 c.loop-i.i c.index_mut-line.result.now c.if-i-place.true there).1

pub returns : goal.returns
returns c = λ bound column p.
    let same = (c.loop-i.invariant bound column p).sized in
    exchanged_end column c.args.place c.args.pivot.now c.args.plans.now c.args.lines.now.items c.loop-i.lines.items c.loop-i.i (omega (arith, c.loop-i.lines.ok.0)) (c.loop-i.invariant bound column p)

pub apply-requires-clause-planned : goal.apply-requires-clause-planned
apply-requires-clause-planned c =
    let bound : ℕ = c.requires.planned.0 in
    let column : ℕ = c.requires.planned.1 in
    let p = c.requires.planned.2 in
    let h = c.loop-i.invariant bound column p in
    let within : c.loop-i.i < length c.loop-i.lines.items = omega (arith, c.loop-i.lines.ok.0) in
    let sized = p.planned.sized in
    let same = h.sized in
    let f : Factors = slice_index_or c.args.plans.now c.loop-i.i (record { line = pos 0; pivot = pos 0; most = 0 }) in
    let there : slice_get c.args.lines.now.items c.loop-i.i ≡ Some c.index_mut-line.result.now =
    sym (h.left c.loop-i.i (omega arith)) ∙ index_get c.loop-i.lines.items c.loop-i.i c.index_mut-line.result.now c.index_mut-line.result.now within (sym c.index_mut-line.ensures.value) in
    (bound, column, p.small, p.planned.each c.loop-i.i c.index_mut-line.result.now f c.if-i-place.true there (index_get c.args.plans.now c.loop-i.i f (record { line = pos 0; pivot = pos 0; most = 0 }) (omega arith) refl), p.above)

pub loop-i-preserved : goal.loop-i-preserved
loop-i-preserved c = λ bound column p.
    let h = c.loop-i.invariant bound column p in
    let within : c.loop-i.i < length c.loop-i.lines.items = omega (arith, c.loop-i.lines.ok.0) in
    let sized = p.planned.sized in
    let same = h.sized in
    elim c.if-i-place.branch [
      | then-i-place+in_ok-apply w ↦
          let f : Factors = slice_index_or c.args.plans.now c.loop-i.i (record { line = pos 0; pivot = pos 0; most = 0 }) in
          let there : slice_get c.args.lines.now.items c.loop-i.i ≡ Some w.index_mut-line.result.now =
          sym (h.left c.loop-i.i (omega arith)) ∙ index_get c.loop-i.lines.items c.loop-i.i w.index_mut-line.result.now w.index_mut-line.result.now within (sym w.index_mut-line.ensures.value) in
          let by : slice_get c.args.plans.now c.loop-i.i ≡ Some f = index_get c.args.plans.now c.loop-i.i f (record { line = pos 0; pivot = pos 0; most = 0 }) (omega arith) refl in
          let planned : IsPlanned bound column w.index_mut-line.result.now c.args.pivot.now f = p.planned.each c.loop-i.i w.index_mut-line.result.now f w.if-i-place.true there by in
          subst (λ ls. AreLinesExchanged column c.args.place c.args.pivot.now c.args.plans.now c.args.lines.now.items ls (c.loop-i.i + 1)) (sym (ap (λ v. v.items) w.lines-is))
          (exchanged_more column c.args.place c.args.pivot.now c.args.plans.now c.args.lines.now.items c.loop-i.lines.items c.loop-i.i w.index_mut-line.result.now w.apply.new.line f h within w.if-i-place.true there by (w.in_ok-apply.ensures bound column p.small p.above planned))
      | else-i-place w ↦
          subst (λ ls. AreLinesExchanged column c.args.place c.args.pivot.now c.args.plans.now c.args.lines.now.items ls (c.loop-i.i + 1)) (sym (ap (λ v. v.items) w.lines-is))
          (exchanged_past column c.args.place c.args.pivot.now c.args.plans.now c.args.lines.now.items c.loop-i.lines.items c.loop-i.i h w.if-i-place.false)
    ]
