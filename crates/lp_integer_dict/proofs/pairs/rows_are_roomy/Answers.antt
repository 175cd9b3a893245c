use Rattle.std.proofs.Common.{◌≤◌, ◌+◌, ◌*◌, inl, inr, sym, subst, arith}
use Rattle.std.specs.Prelude.{IsTrue}
use Rattle.std.proofs.lemmas.Bool.{cases_eq}
use Rattle.lp_integer_dict.specs.WithinBound.{row_most}
use Rattle.lp_integer_dict.proofs.Pairing.{found_within, first_most, second_most}
use Rattle.lp_integer_dict.proofs.pairs.rows_are_roomy.Goals as goal

pub loop-i-preserved : goal.loop-i-preserved
loop-i-preserved c = λ i less.
    let is = c.most_of.ensures in
    let first : c.loop-i.top ≤ c.max-top.result = subst (λ m. c.loop-i.top ≤ m) (sym c.max-top.ensures) (first_most c.loop-i.top c.most_of.result) in
    let second : c.most_of.result ≤ c.max-top.result = subst (λ m. c.most_of.result ≤ m) (sym c.max-top.ensures) (second_most c.loop-i.top c.most_of.result) in
    elim (cases_eq i c.loop-i.i) [
      | inl same ↦ subst (λ j. row_most c.args.deferred c.args.lines.now j ≤ c.max-top.result) (sym same) (subst (λ m. m ≤ c.max-top.result) is second)
      | inr apart ↦ let old = c.loop-i.invariant i (omega arith) in omega arith
    ]

pub returns : goal.returns
returns c = λ told. record {
  top = c.loop-i.top;
  rows = λ i less. c.loop-i.invariant i (omega arith);
  square = found_within c.sum_within.result (c.loop-i.top * c.loop-i.top + c.loop-i.top * c.loop-i.top) c.args.bound c.sum_within.ensures (subst IsTrue c.is_some.ensures told);
}
