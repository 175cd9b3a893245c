use Rattle.std.proofs.Common.{◌≡◌, ◌≤◌, inl, inr, Some, refl, sym, ◌∙◌, subst, arith}
use Rattle.std.specs.Prelude.{slice_get, slice_index_or}
use Rattle.std.proofs.lemmas.Bool.{cases_eq}
use Rattle.lp_integer_rows.specs.declared.line.Factors.{Factors}
use Rattle.lp_integer_dict.proofs.Pairing.{first_most, second_most}
use Rattle.lp_integer_rows.proofs.Plans.{index_get, get_within, same_some}
use Rattle.lp_integer_dict.proofs.RowsWithinBound.{none}
use Rattle.lp_integer_dict.proofs.bounds.top_after.Goals as goal

pub loop-i-preserved : goal.loop-i-preserved
loop-i-preserved c = λ i x less at.
    let here : Factors = slice_index_or c.args.plans.now c.loop-i.i none in
    let there : slice_get c.args.plans.now c.loop-i.i ≡ Some here = index_get c.args.plans.now c.loop-i.i here none c.loop-i-test.true refl in
    let first : c.loop-i.top ≤ c.max-top.result = subst (λ m. c.loop-i.top ≤ m) (sym c.max-top.ensures) (first_most c.loop-i.top _) in
    let second : here.most ≤ c.max-top.result = subst (λ m. here.most ≤ m) (sym c.max-top.ensures) (second_most c.loop-i.top _) in
    elim (cases_eq i c.loop-i.i) [
      | inl same ↦ subst (λ (f : Factors). f.most ≤ c.max-top.result) (same_some here x (sym there ∙ subst (λ k. slice_get c.args.plans.now k ≡ Some x) same at)) second
      | inr other ↦ let old = c.loop-i.invariant i x (omega arith) at in omega arith
    ]

pub returns : goal.returns
returns c = λ i x at. c.loop-i.invariant i x (let less = get_within c.args.plans.now i x at in omega arith) at
