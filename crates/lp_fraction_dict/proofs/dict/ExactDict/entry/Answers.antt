use Rattle.std.proofs.Common.{ap, subst, sym, ◌∙◌, ◌≡◌, ◌+◌, ◌<◌, Some}
use Rattle.std.specs.Prelude.{slice_get, Contains}
use Rattle.lp_fraction_dict.specs.Tableau.{IsTableau}
use Rattle.lp_fraction_dict.specs.Lines.{entries_of_rows}
use Rattle.lp_fraction_dict.proofs.Kept.{read_basic, read_within, read_past, place_within, not_there}
use Rattle.lp_fraction_dict.proofs.dict.ExactDict.entry.Goals as goal

pub returns-then-other-self-clause-row : goal.returns-then-other-self-clause-row
returns-then-other-self-clause-row g c =
    let past = subst (λ t. t.variables < c.args.other) c.self.view_is c.if-other-self.true in
    λ k there none. c.zero.ensures ∙ sym (read_past g.F.ExactField.value c.args.self.now (subst (IsTableau g.F.ExactField.value) c.self.view_is c.self.invariant) k c.args.other past)

pub number_of_row-requires-clause-within : goal.number_of_row-requires-clause-within
number_of_row-requires-clause-within g c =
    let there = subst (λ b. slice_get b c.in-Some.place ≡ Some c.args.basic) (c.as_slice.ensures.value ∙ ap (λ t. t.basic) c.self.view_is) c.in-Some.ensures in
    place_within g.F.ExactField.value c.args.self.now (subst (IsTableau g.F.ExactField.value) c.self.view_is c.self.invariant) c.as_slice-in-Some.result.now c.in-Some.place c.args.basic (ap entries_of_rows c.as_slice-in-Some.ensures.value ∙ ap (λ t. t.rows) c.self.view_is) there

pub number_of_row-requires-clause-row : goal.number_of_row-requires-clause-row
number_of_row-requires-clause-row g c =
    read_within g.F.ExactField.value c.args.self.now (subst (IsTableau g.F.ExactField.value) c.self.view_is c.self.invariant) (entries_of_rows c.as_slice-in-Some.result.now) c.in-Some.place (ap entries_of_rows c.as_slice-in-Some.ensures.value ∙ ap (λ t. t.rows) c.self.view_is)

pub returns-in-Some-clause-row : goal.returns-in-Some-clause-row
returns-in-Some-clause-row g c =
    let at = subst (λ b. slice_get b c.in-Some.place ≡ Some c.args.basic) (c.as_slice.ensures.value ∙ ap (λ t. t.basic) c.self.view_is) c.in-Some.ensures in
    λ k there none. read_basic g.F.ExactField.value c.args.self.now (subst (IsTableau g.F.ExactField.value) c.self.view_is c.self.invariant) (entries_of_rows c.as_slice-in-Some.result.now) c.in-Some.place c.args.basic (c.args.other + 1) (g.F.ExactField.value c.number_of_row.result) (ap entries_of_rows c.as_slice-in-Some.ensures.value ∙ ap (λ t. t.rows) c.self.view_is) at c.number_of_row.ensures k there

pub returns-in-Some-clause-not_basic : goal.returns-in-Some-clause-not_basic
returns-in-Some-clause-not_basic g c =
    let at = subst (λ b. slice_get b c.in-Some.place ≡ Some c.args.basic) (c.as_slice.ensures.value ∙ ap (λ t. t.basic) c.self.view_is) c.in-Some.ensures in
    λ none. absurd (not_there g.F.ExactField.value c.args.self.now (subst (IsTableau g.F.ExactField.value) c.self.view_is c.self.invariant) c.in-Some.place c.args.basic at none)

pub returns-in-None-clause-row : goal.returns-in-None-clause-row
returns-in-None-clause-row g c =
    let none = subst (λ b. ¬ (Contains b c.args.basic)) (c.as_slice.ensures.value ∙ ap (λ t. t.basic) c.self.view_is) c.in-None.ensures in
    λ k there other. absurd (not_there g.F.ExactField.value c.args.self.now (subst (IsTableau g.F.ExactField.value) c.self.view_is c.self.invariant) k c.args.basic there none)
