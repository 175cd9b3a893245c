use Rattle.std.proofs.Common.{◌+◌, length, Some, None, sym, ap, ◌∙◌, subst, arith}
use Rattle.lp_integer_dict.specs.WithinBound.{AreWhole}
use Rattle.lp_integer_dict.specs.Whole.{WholeTableau, IsWhole, integer_dictionary}
use Rattle.lp_integer_dict.proofs.BoundLemmas.{every_ratio_fits}
use Rattle.lp_integer_dict.proofs.Wholes.{kept_ratio, bounded}
use Rattle.lp_integer_dict.proofs.Choices.{none_limits, least_leaves}
use Rattle.lp_integer_dict.proofs.whole.Whole.leaving.Goals as goal

pub least_ratio-requires-clause-lines : goal.least_ratio-requires-clause-lines
least_ratio-requires-clause-lines c =
    let there = c.requires.there in
    let same = (ap (λ (t : WholeTableau). t.variables) c.self.view_is) in
    (c.self.inside.variables + 2, c.self.inside.bound, (subst (λ ls. AreWhole ls c.self.inside.deferred (c.self.inside.variables + 2) c.self.inside.bound) (sym c.as_slice.ensures.value) c.self.invariant.are_whole), omega arith)

pub least_ratio-requires-clause-paired : goal.least_ratio-requires-clause-paired
least_ratio-requires-clause-paired c =
    let paired = c.self.invariant.paired in
    let sized = ap length c.as_slice.ensures.value in
    let also = ap length c.as_slice-2.ensures.value in
    omega arith

pub returns-in-Some-clause-choice : goal.returns-in-Some-clause-choice
returns-in-Some-clause-choice c =
    least_leaves (integer_dictionary c.args.self.now) c.args.enter c.in-Some.candidate (kept_ratio c.args.self.now c.self.inside.deferred c.as_slice.result.now c.as_slice-2.result.now c.args.enter (ap (λ (t : WholeTableau). t.deferred) c.self.view_is) (c.as_slice.ensures.value ∙ (ap (λ (t : WholeTableau). t.lines) c.self.view_is)) (c.as_slice-2.ensures.value ∙ (ap (λ (t : WholeTableau). t.basic) c.self.view_is)) (Some c.in-Some.candidate) c.in-Some.ensures)

pub returns-in-None-clause-choice : goal.returns-in-None-clause-choice
returns-in-None-clause-choice c =
    none_limits (integer_dictionary c.args.self.now) c.args.enter (kept_ratio c.args.self.now c.self.inside.deferred c.as_slice.result.now c.as_slice-2.result.now c.args.enter (ap (λ (t : WholeTableau). t.deferred) c.self.view_is) (c.as_slice.ensures.value ∙ (ap (λ (t : WholeTableau). t.lines) c.self.view_is)) (c.as_slice-2.ensures.value ∙ (ap (λ (t : WholeTableau). t.basic) c.self.view_is)) None c.in-None.ensures)

pub returns-in-Some-clause-fits : goal.returns-in-Some-clause-fits
returns-in-Some-clause-fits c = λ limit pivot within_bound. every_ratio_fits limit c.args.self.now.bound (integer_dictionary c.args.self.now) within_bound (bounded c.args.self.now (subst IsWhole c.self.view_is c.self.invariant)) pivot c.args.enter

pub returns-in-None-clause-fits : goal.returns-in-None-clause-fits
returns-in-None-clause-fits c = λ limit pivot within_bound. every_ratio_fits limit c.args.self.now.bound (integer_dictionary c.args.self.now) within_bound (bounded c.args.self.now (subst IsWhole c.self.view_is c.self.invariant)) pivot c.args.enter
