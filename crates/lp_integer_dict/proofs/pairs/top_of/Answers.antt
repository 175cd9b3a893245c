use Rattle.std.proofs.Common.{◌≡◌, ◌≤◌, inl, inr, Some, sym, ◌∙◌, subst, arith}
use Rattle.std.specs.Prelude.{slice_get, slice_index_or}
use Rattle.std.proofs.lemmas.Bool.{cases_eq}
use Rattle.lp_integer_rows.specs.declared.line.Line.{Line}
use Rattle.lp_integer_dict.proofs.Pairing.{first_most, second_most}
use Rattle.lp_integer_rows.proofs.Plans.{index_get, get_within, same_some}
use Rattle.lp_integer_dict.proofs.pairs.top_of.Goals as goal

pub loop-i-preserved : goal.loop-i-preserved
loop-i-preserved c = λ i x less at.
    let there : slice_get c.args.lines.now c.loop-i.i ≡ Some c.index-lines-i.result = index_get c.args.lines.now c.loop-i.i c.index-lines-i.result c.index-lines-i.result c.loop-i-test.true (sym c.index-lines-i.is) in
    let first : c.loop-i.top ≤ c.max-top.result = subst (λ m. c.loop-i.top ≤ m) (sym c.max-top.ensures) (first_most c.loop-i.top _) in
    let read : Line = slice_index_or c.args.lines.now c.loop-i.i c.index-lines-i.result in
    let most : read.most ≤ c.max-top.result = subst (λ m. read.most ≤ m) (sym c.max-top.ensures) (second_most c.loop-i.top read.most) in
    let second : c.index-lines-i.result.most ≤ c.max-top.result = subst (λ (l : Line). l.most ≤ c.max-top.result) (sym c.index-lines-i.is) most in
    elim (cases_eq i c.loop-i.i) [
      | inl same ↦ subst (λ (l : Line). l.most ≤ c.max-top.result) (same_some c.index-lines-i.result x (sym there ∙ subst (λ k. slice_get c.args.lines.now k ≡ Some x) same at)) second
      | inr other ↦ let old = c.loop-i.invariant i x (omega arith) at in omega arith
    ]

pub returns : goal.returns
returns c = λ i x at. c.loop-i.invariant i x (let less = get_within c.args.lines.now i x at in omega arith) at
