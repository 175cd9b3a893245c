use Rattle.lp_form.proofs.LoopSteps.{get_or_itself}
use Rattle.std.proofs.Common.{◌≡◌, ◌+◌, arith}
use Rattle.std.specs.Prelude.{slice_index_or}
use Rattle.lp_core.specs.declared.answer.Pivot.{Pivot}
use Rattle.lp_dict.specs.Tableau.{dictionary}
use Rattle.lp_range.proofs.Loops.{pivot_is_required, leads_on, leads_end}
use Rattle.lp_range.proofs.replay.replayed.Goals as goal

pub after-requires : goal.after-requires
after-requires g c =
    let pivots = c.args.pivots.now in
    let i = c.loop-pivot.pivot-index in
    let none : Pivot = record { enter = 0; leave = 0 } in
    let p = slice_index_or pivots i none in
    let next : i + 1 ≡ c.loop-pivot.dict.upcoming = omega (arith, c.loop-pivot.invariant.upcoming, c.loop-pivot-test.true) in
    pivot_is_required g.F.ExactField.limit (i + 1) (dictionary g.F.ExactField.value c.loop-pivot.dict) pivots i p c.loop-pivot-test.true (get_or_itself pivots i none c.loop-pivot-test.true) c.requires.leads.0 (c.loop-pivot.invariant.same c.requires.leads.0 c.requires.leads.1) c.loop-pivot.dict.upcoming next

pub loop-pivot-preserved : goal.loop-pivot-preserved
loop-pivot-preserved g c =
    let pivots = c.args.pivots.now in
    let i = c.loop-pivot.pivot-index in
    let none : Pivot = record { enter = 0; leave = 0 } in
    let p = slice_index_or pivots i none in
    let before = c.loop-pivot.invariant.upcoming in
    let next = c.in_ok-dict.ensures.upcoming in
    record {
      same = λ last leads. leads_on g.F.ExactField.limit (i + 1) (dictionary g.F.ExactField.value c.loop-pivot.dict) pivots i p c.loop-pivot-test.true (get_or_itself pivots i none c.loop-pivot-test.true) last (c.loop-pivot.invariant.same last leads) (dictionary g.F.ExactField.value c.in_ok-dict.dict) c.in_ok-dict.ensures.exchanged;
      of_form = λ s h. c.in_ok-dict.ensures.of_form s (c.loop-pivot.invariant.of_form s h);
      upcoming = omega (arith, before, next, c.loop-pivot-test.true);
    }

pub returns-clause-reached : goal.returns-clause-reached
returns-clause-reached g c = λ last leads. leads_end g.F.ExactField.limit (c.loop-pivot.pivot-index + 1) (dictionary g.F.ExactField.value c.loop-pivot.dict) c.args.pivots.now c.loop-pivot.pivot-index last c.loop-pivot-test.false (c.loop-pivot.invariant.same last leads)
