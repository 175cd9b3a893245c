use Rattle.std.proofs.Common.{◌≡◌, ◌+◌, Some, sym, ◌∙◌, subst, subst₂, arith}
use Rattle.std.specs.Prelude.{slice_get}
use Rattle.lp_integer_rows.specs.Form.{IsPlanned, ArePlanned}
use Rattle.lp_integer_rows.proofs.Plans.{index_get, planned_more}
use Rattle.lp_integer_rows.proofs.exchange.plan_lines.Goals as goal
use Rattle.lp_integer_rows.proofs.exchange.plan_lines.Goals.{then-i-place, else-i-place+in-Some}

pub loop-i-preserved : goal.loop-i-preserved
loop-i-preserved c =
    subst (λ ps. ArePlanned c.args.bound c.args.column c.args.place c.args.lines.now c.args.pivot.now ps (c.loop-i.i + 1)) (sym c.in_ok-push.ensures.items)
    (planned_more c.args.bound c.args.column c.args.place c.args.lines.now c.args.pivot.now c.loop-i.plans.items c.loop-i.i c.if-i-place.factors c.loop-i.invariant
    (elim c.if-i-place.branch [
      | then-i-place w ↦ λ l other there. absurd (other w.if-i-place.true)
      | else-i-place+in-Some w ↦ λ l other there.
          let here : slice_get c.args.lines.now c.loop-i.i ≡ Some w.index-lines-i.result = index_get c.args.lines.now c.loop-i.i w.index-lines-i.result w.index-lines-i.result (omega arith) (sym w.index-lines-i.is) in
          let same : w.index-lines-i.result ≡ l = cc in
          subst₂ (λ x f. IsPlanned c.args.bound c.args.column x c.args.pivot.now f) same (sym w.factors-is) w.in-Some.ensures
    ])
    (elim c.if-i-place.branch [
      | then-i-place w ↦ λ same. w.factors-is ∙ w.of_own-factors.ensures
      | else-i-place+in-Some w ↦ λ same. absurd (w.if-i-place.false same)
    ]))

pub plan-requires-clause-bounded : goal.plan-requires-clause-bounded
plan-requires-clause-bounded c =
    c.requires.bounded c.loop-i.i c.index-lines-i.result (index_get c.args.lines.now c.loop-i.i c.index-lines-i.result c.index-lines-i.result (omega arith) (sym c.index-lines-i.is))

pub returns-in_default : goal.returns-in_default
returns-in_default c =
    record {
      at = c.loop-i.i;
      line = c.index-lines-i.result;
      other = c.if-i-place.false;
      there = index_get c.args.lines.now c.loop-i.i c.index-lines-i.result c.index-lines-i.result (omega arith) (sym c.index-lines-i.is);
      crowded = c.in_default.ensures;
    }

pub plan-requires-clause-line : goal.plan-requires-clause-line
plan-requires-clause-line c = (c.requires.lines.1 c.loop-i.i c.index-lines-i.result (index_get c.args.lines.now c.loop-i.i c.index-lines-i.result c.index-lines-i.result (omega arith) (sym c.index-lines-i.is))).0

pub plan-requires-clause-sized : goal.plan-requires-clause-sized
plan-requires-clause-sized c = c.requires.lines.2 ∙ sym (c.requires.lines.1 c.loop-i.i c.index-lines-i.result (index_get c.args.lines.now c.loop-i.i c.index-lines-i.result c.index-lines-i.result (omega arith) (sym c.index-lines-i.is))).1

pub plan-requires-clause-within : goal.plan-requires-clause-within
plan-requires-clause-within c = let e = (c.requires.lines.1 c.loop-i.i c.index-lines-i.result (index_get c.args.lines.now c.loop-i.i c.index-lines-i.result c.index-lines-i.result (omega arith) (sym c.index-lines-i.is))).1 in let f = c.requires.lines.3 in omega arith
