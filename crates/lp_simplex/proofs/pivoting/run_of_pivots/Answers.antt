use Rattle.std.proofs.Common.{◌≡◌, ◌+◌, ◌<◌, ◌^◌, List, length, refl, sym, ap, ◌∙◌, subst, arith}
use Rattle.lp_core.specs.declared.answer.Pivot.{Pivot}
use Rattle.lp_dict.specs.Tableau.{dictionary}
use Rattle.lp_simplex.specs.InnerStates.{IsSoFar, StepsTo, HaltsAtLimit}
use Rattle.lp_simplex.proofs.Steps.{begins, count_more, continues, halts_early, halts_at_limit, pivot_run_is}
use Rattle.lp_simplex.proofs.pivoting.run_of_pivots.Goals as goal

pub loop-taken-init : goal.loop-taken-init
loop-taken-init g c =
    let first = dictionary g.F.ExactField.value c.args.first in
    let Choice = g.C.Choosing.chooses (g.C.Choosing.rule c.args.choice.now) in
    let Known = g.C.Choosing.remembers c.args.choice.now first in
    record {
      so_far =
          subst (λ (l : List Pivot). IsSoFar g.F.ExactField.limit g.F.ExactField.value Choice Known first l c.args.first) (sym c.new-pivots.ensures.items)
          (begins g.F.ExactField.value g.F.ExactField.limit Choice Known first c.args.first refl c.requires.upcoming c.requires.proper c.requires.fresh);
      rule = refl;
      count = ap length c.new-pivots.ensures.items;
    }

pub stepped-requires : goal.stepped-requires
stepped-requires g c = c.loop-taken.invariant.so_far.proper

pub loop-taken-preserved : goal.loop-taken-preserved
loop-taken-preserved g c =
    let first = dictionary g.F.ExactField.value c.args.first in
    let count = c.loop-taken.invariant.count in
    let few : length c.loop-taken.pivots.items + 1 < 2 ^ 64 = omega arith in
    let so_far = c.loop-taken.invariant.so_far in
    let Known = g.C.Choosing.remembers c.stepped.new.choice first in
    let Choice = g.C.Choosing.chooses (g.C.Choosing.rule c.args.choice.now) in
    let Chosen = Choice first c.loop-taken.pivots.items (dictionary g.F.ExactField.value c.loop-taken.dict) in
    record {
      so_far =
          continues g.F.ExactField.value g.F.ExactField.limit Choice Known first (g.C.Choosing.remembers c.loop-taken.choice first) c.loop-taken.pivots.items c.push.new.self.items c.loop-taken.dict c.in-Pivoted.after c.in-Pivoted.pivot few c.in_ok-push-in-Pivoted.ensures.items so_far
          (subst (λ o. StepsTo g.F.ExactField.limit g.F.ExactField.value Chosen Known c.loop-taken.pivots.items c.loop-taken.dict o) c.in-Pivoted.is (subst (λ rule. StepsTo g.F.ExactField.limit g.F.ExactField.value (g.C.Choosing.chooses rule first c.loop-taken.pivots.items (dictionary g.F.ExactField.value c.loop-taken.dict)) Known c.loop-taken.pivots.items c.loop-taken.dict c.in_ok-pivot.field-0) c.loop-taken.invariant.rule (c.in_ok-pivot.ensures.steps first c.loop-taken.pivots.items so_far.known)));
      rule = c.stepped.ensures.rule ∙ c.loop-taken.invariant.rule;
      count = count_more c.loop-taken.pivots.items c.push.new.self.items c.in-Pivoted.pivot c.loop-taken._taken c.in_ok-push-in-Pivoted.ensures.items count;
    }

pub returns-in-Halted : goal.returns-in-Halted
returns-in-Halted g c =
    let first = dictionary g.F.ExactField.value c.args.first in
    let count = c.loop-taken.invariant.count in
    let so_far = c.loop-taken.invariant.so_far in
    let next : c.loop-taken.dict.upcoming ≡ length c.loop-taken.pivots.items + 1 = omega (arith, so_far.upcoming) in
    let Known = g.C.Choosing.remembers c.stepped.new.choice first in
    let Choice = g.C.Choosing.chooses (g.C.Choosing.rule c.args.choice.now) in
    let Chosen = Choice first c.loop-taken.pivots.items (dictionary g.F.ExactField.value c.loop-taken.dict) in
    pivot_run_is g.F.ExactField.value g.F.ExactField.limit Choice (g.C.Choosing.remembers c.loop-taken.choice first) first c.args.iterlim (record { pivots = c.loop-taken.pivots; halt = c.in-Halted.halt }) c.loop-taken.dict (omega arith) so_far
    (halts_early g.F.ExactField.value g.F.ExactField.limit Chosen Known c.loop-taken.pivots.items c.args.iterlim (length c.loop-taken.pivots.items) c.loop-taken.dict c.in-Halted.halt next (omega arith)
    (subst (λ o. StepsTo g.F.ExactField.limit g.F.ExactField.value Chosen Known c.loop-taken.pivots.items c.loop-taken.dict o) c.in-Halted.is (subst (λ rule. StepsTo g.F.ExactField.limit g.F.ExactField.value (g.C.Choosing.chooses rule first c.loop-taken.pivots.items (dictionary g.F.ExactField.value c.loop-taken.dict)) Known c.loop-taken.pivots.items c.loop-taken.dict c.in_ok-pivot.field-0) c.loop-taken.invariant.rule (c.in_ok-pivot.ensures.steps first c.loop-taken.pivots.items so_far.known))))

pub returns : goal.returns
returns g c =
    let first = dictionary g.F.ExactField.value c.args.first in
    let count = c.loop-taken.invariant.count in
    let so_far = c.loop-taken.invariant.so_far in
    let most : length c.loop-taken.pivots.items ≡ c.args.iterlim = omega arith in
    let Choice = g.C.Choosing.chooses (g.C.Choosing.rule c.args.choice.now) in
    let Chosen = Choice first c.loop-taken.pivots.items (dictionary g.F.ExactField.value c.loop-taken.dict) in
    pivot_run_is g.F.ExactField.value g.F.ExactField.limit Choice (g.C.Choosing.remembers c.loop-taken.choice first) first c.args.iterlim (record { pivots = c.loop-taken.pivots; halt = c.halted-halt.result }) c.loop-taken.dict (omega arith) so_far
    (halts_at_limit g.F.ExactField.value g.F.ExactField.limit Chosen (g.C.Choosing.remembers c.loop-taken.choice first) c.loop-taken.pivots.items c.args.iterlim (length c.loop-taken.pivots.items) c.loop-taken.dict c.halted-halt.result most (subst (λ rule. HaltsAtLimit g.F.ExactField.limit g.F.ExactField.value (g.C.Choosing.chooses rule first c.loop-taken.pivots.items (dictionary g.F.ExactField.value c.loop-taken.dict)) c.loop-taken.dict c.halted-halt.result) c.loop-taken.invariant.rule (c.halted-halt.ensures first c.loop-taken.pivots.items so_far.known)))
