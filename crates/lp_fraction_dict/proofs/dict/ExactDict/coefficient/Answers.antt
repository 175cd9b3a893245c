use Rattle.std.proofs.Common.{ap, subst, sym, ◌∙◌, ◌≡◌, ◌+◌, ◌<◌, Some}
use Rattle.std.specs.Prelude.{slice_get, Contains}
use Rattle.lp_fraction_dict.specs.Tableau.{IsTableau}
use Rattle.lp_fraction_dict.specs.Lines.{entries_of_rows}
use Rattle.lp_fraction_dict.proofs.Kept.{read_priced_row, read_priced_objective, read_within, read_past, place_within}
use Rattle.lp_fraction_dict.proofs.dict.ExactDict.coefficient.Goals as goal

pub returns-then-v-self-clause-priced : goal.returns-then-v-self-clause-priced
returns-then-v-self-clause-priced g c =
    let past = subst (λ t. t.variables < c.args.v) c.self.view_is c.if-v-self.true in
    λ k priced none. c.zero.ensures ∙ sym (read_past g.F.ExactField.value c.args.self.now (subst (IsTableau g.F.ExactField.value) c.self.view_is c.self.invariant) k c.args.v past)

pub number_of_row-requires-clause-within : goal.number_of_row-requires-clause-within
number_of_row-requires-clause-within g c =
    let there = subst (λ b. slice_get b c.in-Some.place ≡ Some 0) (c.as_slice.ensures.value ∙ ap (λ t. t.basic) c.self.view_is) c.in-Some.ensures in
    place_within g.F.ExactField.value c.args.self.now (subst (IsTableau g.F.ExactField.value) c.self.view_is c.self.invariant) c.as_slice-in-Some.result.now c.in-Some.place 0 (ap entries_of_rows c.as_slice-in-Some.ensures.value ∙ ap (λ t. t.rows) c.self.view_is) there

pub number_of_row-requires-clause-row : goal.number_of_row-requires-clause-row
number_of_row-requires-clause-row g c =
    read_within g.F.ExactField.value c.args.self.now (subst (IsTableau g.F.ExactField.value) c.self.view_is c.self.invariant) (entries_of_rows c.as_slice-in-Some.result.now) c.in-Some.place (ap entries_of_rows c.as_slice-in-Some.ensures.value ∙ ap (λ t. t.rows) c.self.view_is)

pub returns-in-Some-clause-priced : goal.returns-in-Some-clause-priced
returns-in-Some-clause-priced g c =
    let at = subst (λ b. slice_get b c.in-Some.place ≡ Some 0) (c.as_slice.ensures.value ∙ ap (λ t. t.basic) c.self.view_is) c.in-Some.ensures in
    λ k priced none. read_priced_row g.F.ExactField.value c.args.self.now (subst (IsTableau g.F.ExactField.value) c.self.view_is c.self.invariant) (entries_of_rows c.as_slice-in-Some.result.now) c.in-Some.place (c.args.v + 1) (g.F.ExactField.value c.number_of_row.result) (ap entries_of_rows c.as_slice-in-Some.ensures.value ∙ ap (λ t. t.rows) c.self.view_is) at c.number_of_row.ensures k priced

pub returns-in-None-clause-priced : goal.returns-in-None-clause-priced
returns-in-None-clause-priced g c =
    let none = subst (λ b. ¬ (Contains b 0)) (c.as_slice.ensures.value ∙ ap (λ t. t.basic) c.self.view_is) c.in-None.ensures in
    λ k priced other. read_priced_objective g.F.ExactField.value c.args.self.now (subst (IsTableau g.F.ExactField.value) c.self.view_is c.self.invariant) c.as_slice-in-None.result.now (c.args.v + 1) (g.F.ExactField.value c.number_at.result) (c.as_slice-in-None.ensures.value ∙ ap (λ t. t.objective) c.self.view_is) none c.number_at.ensures k priced
