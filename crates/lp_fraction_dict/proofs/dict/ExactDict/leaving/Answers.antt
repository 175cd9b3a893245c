use Rattle.std.proofs.Common.{ap, subst, sym, ◌∙◌, ◌+◌, Ok, Err}
use Rattle.lp_core.specs.declared.answer.StepName.TheVariants.{Ratio}
use Rattle.lp_core.specs.Steps.{FirstStop, ratio_steps}
use Rattle.lp_fraction_dict.specs.Tableau.{fraction_dictionary, IsTableau}
use Rattle.lp_fraction_dict.specs.Lines.{entries_of_rows}
use Rattle.lp_fraction_dict.proofs.Kept.{some_rows}
use Rattle.lp_fraction_dict.proofs.Choices.{Rated, kept_rated, all_rated, first_unrated, none_limits, least_leaves}
use Rattle.lp_fraction_dict.proofs.dict.ExactDict.leaving.Goals as goal

pub least_ratio-requires-clause-rows : goal.least_ratio-requires-clause-rows
least_ratio-requires-clause-rows g c =
    some_rows g.F.ExactField.value c.args.self.now (subst (IsTableau g.F.ExactField.value) c.self.view_is c.self.invariant) (entries_of_rows c.as_slice.result.now) (ap entries_of_rows c.as_slice.ensures.value ∙ ap (λ t. t.rows) c.self.view_is)

pub returns-in-Some-clause-fits : goal.returns-in-Some-clause-fits
returns-in-Some-clause-fits g c =
    all_rated g.F.ExactField.value g.F.ExactField.limit c.args.self.now.upcoming (fraction_dictionary g.F.ExactField.value c.args.self.now) c.args.enter c.in-Ok.best (kept_rated g.F.ExactField.value g.F.ExactField.limit c.args.self.now (entries_of_rows c.as_slice.result.now) c.as_slice-2.result.now (ap entries_of_rows c.as_slice.ensures.value ∙ ap (λ t. t.rows) c.self.view_is) (c.as_slice-2.ensures.value ∙ ap (λ t. t.basic) c.self.view_is) c.args.enter (Ok c.in-Ok.best) c.in-Ok.ensures)

pub returns-in-Some-clause-choice : goal.returns-in-Some-clause-choice
returns-in-Some-clause-choice g c =
    let h = kept_rated g.F.ExactField.value g.F.ExactField.limit c.args.self.now (entries_of_rows c.as_slice.result.now) c.as_slice-2.result.now (ap entries_of_rows c.as_slice.ensures.value ∙ ap (λ t. t.rows) c.self.view_is) (c.as_slice-2.ensures.value ∙ ap (λ t. t.basic) c.self.view_is) c.args.enter (Ok c.in-Ok.best) c.in-Ok.ensures in
    least_leaves g.F.ExactField.value g.F.ExactField.limit (fraction_dictionary g.F.ExactField.value c.args.self.now) c.args.enter c.in-Some.candidate (subst (λ b. Rated g.F.ExactField.value g.F.ExactField.limit (fraction_dictionary g.F.ExactField.value c.args.self.now) c.args.enter (Ok b)) c.in-Some.is h)

pub returns-in-None-clause-fits : goal.returns-in-None-clause-fits
returns-in-None-clause-fits g c =
    all_rated g.F.ExactField.value g.F.ExactField.limit c.args.self.now.upcoming (fraction_dictionary g.F.ExactField.value c.args.self.now) c.args.enter c.in-Ok.best (kept_rated g.F.ExactField.value g.F.ExactField.limit c.args.self.now (entries_of_rows c.as_slice.result.now) c.as_slice-2.result.now (ap entries_of_rows c.as_slice.ensures.value ∙ ap (λ t. t.rows) c.self.view_is) (c.as_slice-2.ensures.value ∙ ap (λ t. t.basic) c.self.view_is) c.args.enter (Ok c.in-Ok.best) c.in-Ok.ensures)

pub returns-in-None-clause-choice : goal.returns-in-None-clause-choice
returns-in-None-clause-choice g c =
    let h = kept_rated g.F.ExactField.value g.F.ExactField.limit c.args.self.now (entries_of_rows c.as_slice.result.now) c.as_slice-2.result.now (ap entries_of_rows c.as_slice.ensures.value ∙ ap (λ t. t.rows) c.self.view_is) (c.as_slice-2.ensures.value ∙ ap (λ t. t.basic) c.self.view_is) c.args.enter (Ok c.in-Ok.best) c.in-Ok.ensures in
    none_limits g.F.ExactField.value g.F.ExactField.limit (fraction_dictionary g.F.ExactField.value c.args.self.now) c.args.enter (subst (λ b. Rated g.F.ExactField.value g.F.ExactField.limit (fraction_dictionary g.F.ExactField.value c.args.self.now) c.args.enter (Ok b)) c.in-None.is h)

pub returns-in-Err-clause-limit : goal.returns-in-Err-clause-limit
returns-in-Err-clause-limit g c =
    subst (λ n. FirstStop (ratio_steps g.F.ExactField.limit c.args.self.now.upcoming (fraction_dictionary g.F.ExactField.value c.args.self.now) c.args.enter) (Ratio n (c.in-Err.place + 1))) (ap (λ t. t.upcoming) (sym c.self.view_is))
    (first_unrated g.F.ExactField.value g.F.ExactField.limit c.args.self.now.upcoming (fraction_dictionary g.F.ExactField.value c.args.self.now) c.args.enter c.in-Err.place (kept_rated g.F.ExactField.value g.F.ExactField.limit c.args.self.now (entries_of_rows c.as_slice.result.now) c.as_slice-2.result.now (ap entries_of_rows c.as_slice.ensures.value ∙ ap (λ t. t.rows) c.self.view_is) (c.as_slice-2.ensures.value ∙ ap (λ t. t.basic) c.self.view_is) c.args.enter (Err c.in-Err.place) c.in-Err.ensures))
