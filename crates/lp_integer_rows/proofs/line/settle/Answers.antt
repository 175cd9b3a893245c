use Rattle.std.proofs.Common.{arith, inl, inr}
use Rattle.std.proofs.lemmas.Bool.{cases_lt}
use Rattle.lp_integer_rows.proofs.Updating.{measured_same, measured_lowest}
use Rattle.lp_integer_rows.proofs.line.settle.Goals as goal

pub returns-clause-same : goal.returns-clause-same
returns-clause-same c =
    let m = c.max-line.ensures in
    measured_same c.args.line.now c.reduce.new.line c.in_ok-reduce.ensures.same c.greatest-greatest.result c.max-line.result c.greatest-greatest.ensures.within c.greatest-greatest.ensures.small (omega arith) (omega arith)
    (elim (cases_lt c.greatest-greatest.result c.reduce.new.line.denominator) [ inl less ↦ inr (omega arith) | inr more ↦ inl (omega arith) ])

pub returns-clause-lowest : goal.returns-clause-lowest
returns-clause-lowest c =
    let m = c.max-line.ensures in
    measured_lowest c.args.line.now c.reduce.new.line c.in_ok-reduce.ensures.same c.greatest-greatest.result c.max-line.result c.greatest-greatest.ensures.within c.greatest-greatest.ensures.small (omega arith) (omega arith)
    (elim (cases_lt c.greatest-greatest.result c.reduce.new.line.denominator) [ inl less ↦ inr (omega arith) | inr more ↦ inl (omega arith) ]) c.in_ok-reduce.ensures.reduced
