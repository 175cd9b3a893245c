use Rattle.std.proofs.Common.{rules, ◌≡◌, ℕ, ◌≤◌, nat_abs, FitsSigned, inl, inr, sym, ap, ◌∙◌, subst, arith}
use Rattle.std.specs.Int.{w128}
use Rattle.std.proofs.lemmas.Bool.{cases_eq}
use Rattle.std.proofs.lemmas.Int.{to_z-of_z}
use Rattle.lp_integer_dict.specs.WithinBound.{row_number}
use Rattle.lp_integer_dict.proofs.pairs.most_of_row.Goals as goal

pub loop-c-init : goal.loop-c-init
loop-c-init c =
    let is = c.read-most.ensures.shared in
    (omega arith, λ i less. absurd (omega arith), λ b low all. omega arith)

pub loop-c-preserved : goal.loop-c-preserved
loop-c-preserved c =
    let m : ℕ = c.unsigned_abs.result in
    let fits : FitsSigned w128 c.read-number.result.numerator = search rules in
    let m_is : m ≡ nat_abs (row_number c.args.deferred c.args.lines.now c.args.place c.loop-c.c) = c.unsigned_abs.ensures.value ∙ ap nat_abs (to_z-of_z w128 c.read-number.result.numerator fits ∙ c.read-number.ensures.numerator) in
    let is = c.max-most.ensures in
    let old = c.loop-c.invariant in
    let low = old.0 in (
      omega arith,
      λ i less. elim (cases_eq i c.loop-c.c) [
        | inl same ↦ subst (λ k. nat_abs (row_number c.args.deferred c.args.lines.now c.args.place k) ≤ c.max-most.result) (sym same) (omega arith)
        | inr other ↦ let before = old.1 i (omega arith) in omega arith
      ],
      λ b low_b all_b.
          let before = old.2 b low_b all_b in
          let here = all_b c.loop-c.c c.loop-c-test.true in
          omega arith,
    )

pub returns-clause-numbers : goal.returns-clause-numbers
returns-clause-numbers c = λ i less. c.loop-c.invariant.1 i (omega arith)
