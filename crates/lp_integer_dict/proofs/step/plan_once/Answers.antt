use Rattle.std.proofs.Common.{◌≡◌, length, inl, inr, true≢false, Some, sym, ◌∙◌, subst, arith}
use Rattle.std.specs.Prelude.{slice_get, MatchOption}
use Rattle.lp_integer_rows.specs.Form.{ArePlanned, IsPlan, IsSomeCrowded}
use Rattle.lp_integer_dict.specs.WithinBound.{DeferredStaysWithinAfter}
use Rattle.lp_integer_rows.proofs.Plans.{index_get, some_at}
use Rattle.lp_integer_dict.proofs.Sameness.{line_above, plan_of}
use Rattle.lp_integer_dict.proofs.step.plan_once.Goals as goal

pub plan_lines-requires-clause-lines : goal.plan_lines-requires-clause-lines
plan_lines-requires-clause-lines c =
    let there : slice_get c.args.lines.now c.args.place ≡ Some c.index-lines-place.result = index_get c.args.lines.now c.args.place c.index-lines-place.result c.index-lines-place.result c.requires.within.0 (sym c.index-lines-place.is) in
    (c.requires.lines.0, c.requires.lines.1, (c.requires.lines.1 c.args.place c.index-lines-place.result there).1, c.requires.lines.3)

pub plan_lines-requires-clause-pivot : goal.plan_lines-requires-clause-pivot
plan_lines-requires-clause-pivot c =
    (c.requires.lines.1 c.args.place c.index-lines-place.result (index_get c.args.lines.now c.args.place c.index-lines-place.result c.index-lines-place.result c.requires.within.0 (sym c.index-lines-place.is))).0

pub plan_lines-requires-clause-above : goal.plan_lines-requires-clause-above
plan_lines-requires-clause-above c =
    line_above c.requires.lines.0 c.args.lines.now c.args.place c.args.column c.index-lines-place.result c.requires.lines.1 (index_get c.args.lines.now c.args.place c.index-lines-place.result c.index-lines-place.result c.requires.within.0 (sym c.index-lines-place.is)) c.requires.above

pub returns-then-leaving-place : goal.returns-then-leaving-place
returns-then-leaving-place c =
    let there : slice_get c.args.lines.now c.args.place ≡ Some c.index-lines-place.result = index_get c.args.lines.now c.args.place c.index-lines-place.result c.index-lines-place.result c.requires.within.0 (sym c.index-lines-place.is) in
    let planned : ArePlanned c.args.bound c.args.column c.args.place c.args.lines.now c.index-lines-place.result c.in-Some.plans.items (length c.args.lines.now) =
    subst (λ o. MatchOption o (IsSomeCrowded c.args.bound c.args.column c.args.place c.args.lines.now c.index-lines-place.result) (λ ps. ArePlanned c.args.bound c.args.column c.args.place c.args.lines.now c.index-lines-place.result ps.items (length c.args.lines.now))) c.in-Some.is c.in_ok-plans.ensures in
    record {
      planned = plan_of c.args.bound c.args.column c.args.place c.requires.lines.0 c.args.lines.now c.in-Some.plans.items c.index-lines-place.result c.requires.lines.1 there c.requires.small c.requires.above planned;
      within_bound = λ p l g other. absurd (other c.if-leaving-place.true);
    }

pub deferred_stays_within_after-requires-clause-planned : goal.deferred_stays_within_after-requires-clause-planned
deferred_stays_within_after-requires-clause-planned c =
    let there : slice_get c.args.lines.now c.args.place ≡ Some c.index-lines-place.result = index_get c.args.lines.now c.args.place c.index-lines-place.result c.index-lines-place.result c.requires.within.0 (sym c.index-lines-place.is) in
    let planned : ArePlanned c.args.bound c.args.column c.args.place c.args.lines.now c.index-lines-place.result c.in-Some.plans.items (length c.args.lines.now) =
    subst (λ o. MatchOption o (IsSomeCrowded c.args.bound c.args.column c.args.place c.args.lines.now c.index-lines-place.result) (λ ps. ArePlanned c.args.bound c.args.column c.args.place c.args.lines.now c.index-lines-place.result ps.items (length c.args.lines.now))) c.in-Some.is c.in_ok-plans.ensures in
    (c.args.column, λ p at. subst (IsPlan c.args.bound c.args.column c.args.place c.args.lines.now p) (sym c.as_slice.ensures.value) (plan_of c.args.bound c.args.column c.args.place c.requires.lines.0 c.args.lines.now c.in-Some.plans.items c.index-lines-place.result c.requires.lines.1 there c.requires.small c.requires.above planned p at))

pub returns : goal.returns
returns c =
    let there : slice_get c.args.lines.now c.args.place ≡ Some c.index-lines-place.result = index_get c.args.lines.now c.args.place c.index-lines-place.result c.index-lines-place.result c.requires.within.0 (sym c.index-lines-place.is) in
    let planned : ArePlanned c.args.bound c.args.column c.args.place c.args.lines.now c.index-lines-place.result c.in-Some.plans.items (length c.args.lines.now) =
    subst (λ o. MatchOption o (IsSomeCrowded c.args.bound c.args.column c.args.place c.args.lines.now c.index-lines-place.result) (λ ps. ArePlanned c.args.bound c.args.column c.args.place c.args.lines.now c.index-lines-place.result ps.items (length c.args.lines.now))) c.in-Some.is c.in_ok-plans.ensures in
    record {
      planned = plan_of c.args.bound c.args.column c.args.place c.requires.lines.0 c.args.lines.now c.in-Some.plans.items c.index-lines-place.result c.requires.lines.1 there c.requires.small c.requires.above planned;
      within_bound = λ p l g other p_at l_at g_at.
          subst (λ ps. DeferredStaysWithinAfter c.args.leaving p l g c.args.lines.now ps c.args.bound) c.as_slice.ensures.value
          ((c.deferred_stays_within_after.ensures p l g p_at l_at (subst (λ ps. slice_get ps c.args.leaving ≡ Some g) (sym c.as_slice.ensures.value) g_at)).0 c.if-not-deferred_stays_within_after.false);
    }

pub returns-in_default : goal.returns-in_default
returns-in_default c =
    let there : slice_get c.args.lines.now c.args.place ≡ Some c.index-lines-place.result = index_get c.args.lines.now c.args.place c.index-lines-place.result c.index-lines-place.result c.requires.within.0 (sym c.index-lines-place.is) in
    inl (c.index-lines-place.result, there, subst (λ o. MatchOption o (IsSomeCrowded c.args.bound c.args.column c.args.place c.args.lines.now c.index-lines-place.result) (λ ps. ArePlanned c.args.bound c.args.column c.args.place c.args.lines.now c.index-lines-place.result ps.items (length c.args.lines.now))) c.in_default.is c.in_ok-plans.ensures)

pub returns-then-not-deferred_stays_within_after : goal.returns-then-not-deferred_stays_within_after
returns-then-not-deferred_stays_within_after c =
    let there : slice_get c.args.lines.now c.args.place ≡ Some c.index-lines-place.result = index_get c.args.lines.now c.args.place c.index-lines-place.result c.index-lines-place.result c.requires.within.0 (sym c.index-lines-place.is) in
    let planned : ArePlanned c.args.bound c.args.column c.args.place c.args.lines.now c.index-lines-place.result c.in-Some.plans.items (length c.args.lines.now) =
    subst (λ o. MatchOption o (IsSomeCrowded c.args.bound c.args.column c.args.place c.args.lines.now c.index-lines-place.result) (λ ps. ArePlanned c.args.bound c.args.column c.args.place c.args.lines.now c.index-lines-place.result ps.items (length c.args.lines.now))) c.in-Some.is c.in_ok-plans.ensures in
    let l = some_at c.args.lines.now c.args.leaving c.requires.within.1 in
    let g = some_at c.in-Some.plans.items c.args.leaving (let sized = planned.sized in let within = c.requires.within.1 in omega arith) in
    let keeps = c.deferred_stays_within_after.ensures c.index-lines-place.result l.0 g.0 there l.1 (subst (λ ps. slice_get ps c.args.leaving ≡ Some g.0) (sym c.as_slice.ensures.value) g.1) in
    inr (record {
      plans = c.in-Some.plans.items;
      pivot = c.index-lines-place.result;
      line = l.0;
      factors = g.0;
      apart = c.if-leaving-place.false;
      pivot_there = there;
      line_there = l.1;
      factors_there = g.1;
      planned = plan_of c.args.bound c.args.column c.args.place c.requires.lines.0 c.args.lines.now c.in-Some.plans.items c.index-lines-place.result c.requires.lines.1 there c.requires.small c.requires.above planned c.index-lines-place.result there;
      crowded = λ h. true≢false (sym (keeps.1 (subst (λ ps. DeferredStaysWithinAfter c.args.leaving c.index-lines-place.result l.0 g.0 c.args.lines.now ps c.args.bound) (sym c.as_slice.ensures.value) h)) ∙ c.if-not-deferred_stays_within_after.true);
    })
