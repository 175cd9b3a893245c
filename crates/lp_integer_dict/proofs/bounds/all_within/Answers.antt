use Rattle.std.proofs.Common.{◌≡◌, ◌<◌, ◌≤◌, inl, inr, Some, sym, ◌∙◌, subst, arith}
use Rattle.std.specs.Prelude.{slice_get}
use Rattle.std.proofs.lemmas.Bool.{cases_eq}
use Rattle.lp_integer_rows.specs.declared.line.Line.{Line}
use Rattle.lp_integer_rows.proofs.Plans.{index_get, get_within, same_some}
use Rattle.lp_integer_dict.proofs.bounds.all_within.Goals as goal

pub loop-i-preserved : goal.loop-i-preserved
loop-i-preserved c = λ i x less at.
    let there : slice_get c.args.lines.now c.loop-i.i ≡ Some c.index-lines-i.result = index_get c.args.lines.now c.loop-i.i c.index-lines-i.result c.index-lines-i.result c.loop-i-test.true (sym c.index-lines-i.is) in
    let most = c.if-lines-i.false in
    let here : c.index-lines-i.result.most ≤ c.args.bound = subst (λ (l : Line). l.most ≤ c.args.bound) (sym c.index-lines-i.is) most in
    elim (cases_eq i c.loop-i.i) [
      | inl same ↦ subst (λ (l : Line). l.most ≤ c.args.bound) (same_some c.index-lines-i.result x (sym there ∙ subst (λ k. slice_get c.args.lines.now k ≡ Some x) same at)) here
      | inr other ↦ c.loop-i.invariant i x (omega arith) at
    ]

pub returns-then-lines-i-clause-great : goal.returns-then-lines-i-clause-great
returns-then-lines-i-clause-great c = λ _. record {
  at = c.loop-i.i;
  line = c.index-lines-i.result;
  there = index_get c.args.lines.now c.loop-i.i c.index-lines-i.result c.index-lines-i.result c.loop-i-test.true (sym c.index-lines-i.is);
  great = subst (λ (l : Line). c.args.bound < l.most) (sym c.index-lines-i.is) c.if-lines-i.true;
}

pub returns-clause-within : goal.returns-clause-within
returns-clause-within c = λ yes i x at. c.loop-i.invariant i x (let less = get_within c.args.lines.now i x at in omega arith) at
