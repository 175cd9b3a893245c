use Rattle.std.proofs.Common.{ap, subst, ◌∙◌, Some}
use Rattle.lp_fraction_dict.specs.Tableau.{fraction_dictionary, IsTableau}
use Rattle.lp_fraction_dict.specs.Lines.{entries_of_rows}
use Rattle.lp_fraction_dict.proofs.Kept.{some_rows}
use Rattle.lp_fraction_dict.proofs.Choices.{kept_first, opening_there, opening_least}
use Rattle.lp_fraction_dict.proofs.dict.ExactDict.opening.Goals as goal

pub least_constant-requires-clause-rows : goal.least_constant-requires-clause-rows
least_constant-requires-clause-rows g c =
    some_rows g.F.ExactField.value c.args.self.now (subst (IsTableau g.F.ExactField.value) c.self.view_is c.self.invariant) (entries_of_rows c.as_slice.result.now) (ap entries_of_rows c.as_slice.ensures.value ∙ ap (λ t. t.rows) c.self.view_is)

pub returns-in-Some : goal.returns-in-Some
returns-in-Some g c =
    let h = kept_first g.F.ExactField.value g.F.ExactField.limit c.args.self.now (entries_of_rows c.as_slice.result.now) c.as_slice-2.result.now (ap entries_of_rows c.as_slice.ensures.value ∙ ap (λ t. t.rows) c.self.view_is) (c.as_slice-2.ensures.value ∙ ap (λ t. t.basic) c.self.view_is) (Some c.in-Some.candidate) c.in-Some.ensures in
    (opening_there g.F.ExactField.value (fraction_dictionary g.F.ExactField.value c.args.self.now) c.in-Some.candidate h, opening_least g.F.ExactField.value (fraction_dictionary g.F.ExactField.value c.args.self.now) c.in-Some.candidate h)
