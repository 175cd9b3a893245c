use Rattle.std.proofs.Common.{◌+◌, length, Some, None, sym, ap, ◌∙◌, subst, arith}
use Rattle.lp_integer_dict.specs.WithinBound.{AreWhole}
use Rattle.lp_integer_dict.specs.Whole.{WholeTableau, integer_dictionary}
use Rattle.lp_integer_dict.proofs.Wholes.{kept_constant}
use Rattle.lp_integer_dict.proofs.Choices.{no_opening, opening_there, opening_least}
use Rattle.lp_integer_dict.proofs.whole.Whole.opening.Goals as goal

pub least_constant-requires-clause-lines : goal.least_constant-requires-clause-lines
least_constant-requires-clause-lines c =
    (c.self.inside.variables + 2, c.self.inside.bound, (subst (λ ls. AreWhole ls c.self.inside.deferred (c.self.inside.variables + 2) c.self.inside.bound) (sym c.as_slice.ensures.value) c.self.invariant.are_whole))

pub least_constant-requires-clause-paired : goal.least_constant-requires-clause-paired
least_constant-requires-clause-paired c =
    let paired = c.self.invariant.paired in
    let sized = ap length c.as_slice.ensures.value in
    let also = ap length c.as_slice-2.ensures.value in
    omega arith

pub returns-in-Some : goal.returns-in-Some
returns-in-Some c =
    let h = kept_constant c.args.self.now c.self.inside.deferred c.as_slice.result.now c.as_slice-2.result.now (ap (λ (t : WholeTableau). t.deferred) c.self.view_is) (c.as_slice.ensures.value ∙ (ap (λ (t : WholeTableau). t.lines) c.self.view_is)) (c.as_slice-2.ensures.value ∙ (ap (λ (t : WholeTableau). t.basic) c.self.view_is)) (Some c.in-Some.candidate) c.in-Some.ensures in
    (opening_there (integer_dictionary c.args.self.now) c.in-Some.candidate h, opening_least (integer_dictionary c.args.self.now) c.in-Some.candidate h)

pub returns-in-None : goal.returns-in-None
returns-in-None c =
    no_opening (integer_dictionary c.args.self.now) (kept_constant c.args.self.now c.self.inside.deferred c.as_slice.result.now c.as_slice-2.result.now (ap (λ (t : WholeTableau). t.deferred) c.self.view_is) (c.as_slice.ensures.value ∙ (ap (λ (t : WholeTableau). t.lines) c.self.view_is)) (c.as_slice-2.ensures.value ∙ (ap (λ (t : WholeTableau). t.basic) c.self.view_is)) None c.in-None.ensures)
