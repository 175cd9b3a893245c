use Rattle.std.proofs.Common.{rules, ◌≤◌, ℤ, pos, nat_abs, slice_index_or, FitsSigned, inl, inr, sym, ap, subst, below_more, arith}
use Rattle.std.specs.Int.{w64}
use Rattle.std.proofs.lemmas.Int.{to_z-of_z}
use Rattle.std.proofs.lemmas.Bool.{cases_lt}
use Rattle.lp_integers.proofs.Lines.{whole_past}
use Rattle.lp_integers.proofs.narrow.greatest.Goals as goal

pub loop-n-preserved : goal.loop-n-preserved
loop-n-preserved c =
    let number : ℤ = slice_index_or c.args.numbers.now c.loop-n.n-index (pos 0) in
    let fits_number : FitsSigned w64 number = search rules in
    let number_is = to_z-of_z w64 number fits_number in
    let old = c.loop-n.invariant in
    let above = c.greater-most.ensures.above in
    let extended = above.0 in
    let high : nat_abs number ≤ c.greater-most.result = subst (λ z. nat_abs z ≤ c.greater-most.result) number_is above.1 in (
      below_more _ _ (λ k less. let low = old.0 k less in omega arith) high,
      λ m within. elim c.greater-most.ensures.one [
        | inl e ↦ let low = old.1 m within in omega arith
        | inr e ↦ let low : nat_abs number ≤ m = within c.loop-n.n-index in let same = ap nat_abs number_is in omega arith
      ],
    )

pub returns-clause-within : goal.returns-clause-within
returns-clause-within c = λ v.
    elim (cases_lt v c.loop-n.n-index) [
      | inl less ↦ c.loop-n.invariant.0 v less
      | inr more ↦ subst (λ z. nat_abs z ≤ c.loop-n.most) (sym (whole_past c.args.numbers.now v (omega arith))) (omega arith)
    ]
