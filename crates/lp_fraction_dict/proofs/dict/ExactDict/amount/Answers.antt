use Rattle.std.proofs.Common.{ap, subst, ◌∙◌, ◌≡◌, Some}
use Rattle.std.specs.Prelude.{slice_get, Contains}
use Rattle.lp_fraction_dict.specs.Tableau.{IsTableau}
use Rattle.lp_fraction_dict.specs.Lines.{entries_of_rows}
use Rattle.lp_fraction_dict.proofs.Kept.{read_basic, read_within, not_there}
use Rattle.lp_fraction_dict.proofs.dict.ExactDict.amount.Goals as goal

pub number_of_row-requires-clause-row : goal.number_of_row-requires-clause-row
number_of_row-requires-clause-row g c =
    read_within g.F.ExactField.value c.args.self.now (subst (IsTableau g.F.ExactField.value) c.self.view_is c.self.invariant) (entries_of_rows c.as_slice-in-Some.result.now) c.in-Some.place (ap entries_of_rows c.as_slice-in-Some.ensures.value ∙ ap (λ t. t.rows) c.self.view_is)

pub returns-in-Some-clause-basic : goal.returns-in-Some-clause-basic
returns-in-Some-clause-basic g c =
    let there = subst (λ b. slice_get b c.in-Some.place ≡ Some c.args.v) (c.as_slice.ensures.value ∙ ap (λ t. t.basic) c.self.view_is) c.in-Some.ensures in
    read_basic g.F.ExactField.value c.args.self.now (subst (IsTableau g.F.ExactField.value) c.self.view_is c.self.invariant) (entries_of_rows c.as_slice-in-Some.result.now) c.in-Some.place c.args.v 0 (g.F.ExactField.value c.number_of_row.result) (ap entries_of_rows c.as_slice-in-Some.ensures.value ∙ ap (λ t. t.rows) c.self.view_is) there c.number_of_row.ensures

pub returns-in-Some-clause-other : goal.returns-in-Some-clause-other
returns-in-Some-clause-other g c =
    let there = subst (λ b. slice_get b c.in-Some.place ≡ Some c.args.v) (c.as_slice.ensures.value ∙ ap (λ t. t.basic) c.self.view_is) c.in-Some.ensures in
    λ none. absurd (not_there g.F.ExactField.value c.args.self.now (subst (IsTableau g.F.ExactField.value) c.self.view_is c.self.invariant) c.in-Some.place c.args.v there none)

pub returns-in-None-clause-basic : goal.returns-in-None-clause-basic
returns-in-None-clause-basic g c =
    let none = subst (λ b. ¬ (Contains b c.args.v)) (c.as_slice.ensures.value ∙ ap (λ t. t.basic) c.self.view_is) c.in-None.ensures in
    λ k there. absurd (not_there g.F.ExactField.value c.args.self.now (subst (IsTableau g.F.ExactField.value) c.self.view_is c.self.invariant) k c.args.v there none)
