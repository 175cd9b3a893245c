use Rattle.std.proofs.Common.{◌+◌, ◌≤◌, nat_abs, length, sym, ap, ap₂, ◌∙◌, subst, arith}
use Rattle.lp_integer_rows.specs.Form.{lines_number, numbers_above}
use Rattle.lp_integer_dict.specs.WithinBound.{AreWhole}
use Rattle.lp_integer_dict.specs.Whole.{WholeTableau}
use Rattle.lp_integer_dict.proofs.Wholes.{row_number}
use Rattle.lp_integer_dict.proofs.whole.Whole.number.Goals as goal

pub read-requires-clause-lines : goal.read-requires-clause-lines
read-requires-clause-lines c =
    let column = c.requires.column in
    let same = (ap (λ (t : WholeTableau). t.variables) c.self.view_is) in
    (c.self.inside.variables + 2, c.self.inside.bound, (subst (λ ls. AreWhole ls c.self.inside.deferred (c.self.inside.variables + 2) c.self.inside.bound) (sym c.as_slice.ensures.value) c.self.invariant.are_whole), omega arith)

pub read-requires-clause-within : goal.read-requires-clause-within
read-requires-clause-within c =
    let row = c.requires.row in
    let same = ap length (ap (λ (t : WholeTableau). t.basic) c.self.view_is) in
    let paired = c.self.invariant.paired in
    let sized = ap length c.as_slice.ensures.value in
    omega arith

pub returns-clause-number : goal.returns-clause-number
returns-clause-number c =
    c.read.ensures.number ∙ ap₂ (λ o ls. numbers_above o (lines_number ls) c.args.row c.args.column) (ap (λ (t : WholeTableau). t.deferred) c.self.view_is) (c.as_slice.ensures.value ∙ (ap (λ (t : WholeTableau). t.lines) c.self.view_is)) ∙ sym (row_number c.args.self.now c.args.row c.args.column c.requires.row)

pub returns-clause-within : goal.returns-clause-within
returns-clause-within c =
    subst (λ b. (nat_abs c.read.result.numerator ≤ b) × (c.read.result.denominator ≤ b)) (ap (λ (t : WholeTableau). t.bound) c.self.view_is) (c.read.ensures.within c.self.inside.bound (subst (λ ls. AreWhole ls c.self.inside.deferred (c.self.inside.variables + 2) c.self.inside.bound) (sym c.as_slice.ensures.value) c.self.invariant.are_whole).within_bound)
