use Rattle.std.proofs.Common.{map, ap, ◌∙◌, subst}
use Rattle.lp_core.specs.StandardForm.{Standard}
use Rattle.lp_std.specs.Meaning.{standard_value}
use Rattle.lp_std.specs.Last.{IsDictionaryOf}
use Rattle.lp_dict.specs.Tableau.{dictionary}
use Rattle.lp_range.specs.Ranges.{span_value}
use Rattle.lp_range.proofs.Joined.{optimum_solved, leads_back, some_last, entries_are, right_meets, cost_meets}
use Rattle.lp_range.proofs.reading.ranges.Goals as goal

pub form_of-requires-clause-none_crosses : goal.form_of-requires-clause-none_crosses
form_of-requires-clause-none_crosses g c = (optimum_solved g.F.ExactField.value g.F.ExactField.limit c.args.lp.now c.args.answer.now c.requires.answer c.requires.optimal).none

pub form_of-requires-clause-all_fit : goal.form_of-requires-clause-all_fit
form_of-requires-clause-all_fit g c = (optimum_solved g.F.ExactField.value g.F.ExactField.limit c.args.lp.now c.args.answer.now c.requires.answer c.requires.optimal).fit

pub replayed-requires-clause-leads : goal.replayed-requires-clause-leads
replayed-requires-clause-leads g c =
    some_last g.F.ExactField.value g.F.ExactField.limit c.args.lp.now c.args.answer.now c.requires.answer (dictionary g.F.ExactField.value c.in_ok-first.first) (standard_value g.F.ExactField.value c.in_ok-s.s) c.as_slice.result.now c.in_ok-first.ensures.first c.in_ok-s.ensures c.as_slice.ensures c.requires.optimal

pub rights_of-requires-clause-of_form : goal.rights_of-requires-clause-of_form
rights_of-requires-clause-of_form g c =
    subst (λ (s : Standard). IsDictionaryOf s (dictionary g.F.ExactField.value c.in_ok-last.last)) c.in_ok-s.ensures (c.in_ok-last.ensures.of_form (standard_value g.F.ExactField.value c.in_ok-s.s) c.in_ok-first.ensures.of_form)

pub returns-clause-entries : goal.returns-clause-entries
returns-clause-entries g c =
    let made = dictionary g.F.ExactField.value c.in_ok-last.last in
    let of_form = subst (λ (s : Standard). IsDictionaryOf s (dictionary g.F.ExactField.value c.in_ok-last.last)) c.in_ok-s.ensures (c.in_ok-last.ensures.of_form (standard_value g.F.ExactField.value c.in_ok-s.s) c.in_ok-first.ensures.of_form) in
    entries_are g.F.ExactField.value g.F.ExactField.limit c.args.lp.now c.args.answer.now c.requires.answer c.requires.well_formed made of_form
    (λ last leads. c.in_ok-last.ensures.reached last (leads_back g.F.ExactField.value g.F.ExactField.limit c.args.lp.now c.args.answer.now c.requires.answer (dictionary g.F.ExactField.value c.in_ok-first.first) (standard_value g.F.ExactField.value c.in_ok-s.s) c.as_slice.result.now c.in_ok-first.ensures.first c.in_ok-s.ensures c.as_slice.ensures last leads))
    c.new.result c.new-2.result (ap (map (span_value g.F.ExactField.value)) c.new.ensures ∙ c.in_ok-rights.ensures) (ap (map (span_value g.F.ExactField.value)) c.new-2.ensures ∙ c.in_ok-costs.ensures) c.requires.optimal

pub returns-clause-rights : goal.returns-clause-rights
returns-clause-rights g c =
    let made = dictionary g.F.ExactField.value c.in_ok-last.last in
    let of_form = subst (λ (s : Standard). IsDictionaryOf s (dictionary g.F.ExactField.value c.in_ok-last.last)) c.in_ok-s.ensures (c.in_ok-last.ensures.of_form (standard_value g.F.ExactField.value c.in_ok-s.s) c.in_ok-first.ensures.of_form) in
    right_meets g.F.ExactField.value g.F.ExactField.limit c.args.lp.now c.args.answer.now c.requires.answer c.requires.well_formed made of_form
    (λ last leads. c.in_ok-last.ensures.reached last (leads_back g.F.ExactField.value g.F.ExactField.limit c.args.lp.now c.args.answer.now c.requires.answer (dictionary g.F.ExactField.value c.in_ok-first.first) (standard_value g.F.ExactField.value c.in_ok-s.s) c.as_slice.result.now c.in_ok-first.ensures.first c.in_ok-s.ensures c.as_slice.ensures last leads))
    c.new.result c.new-2.result (ap (map (span_value g.F.ExactField.value)) c.new.ensures ∙ c.in_ok-rights.ensures) (ap (map (span_value g.F.ExactField.value)) c.new-2.ensures ∙ c.in_ok-costs.ensures)

pub returns-clause-costs : goal.returns-clause-costs
returns-clause-costs g c =
    let made = dictionary g.F.ExactField.value c.in_ok-last.last in
    let of_form = subst (λ (s : Standard). IsDictionaryOf s (dictionary g.F.ExactField.value c.in_ok-last.last)) c.in_ok-s.ensures (c.in_ok-last.ensures.of_form (standard_value g.F.ExactField.value c.in_ok-s.s) c.in_ok-first.ensures.of_form) in
    cost_meets g.F.ExactField.value g.F.ExactField.limit c.args.lp.now c.args.answer.now c.requires.answer c.requires.well_formed made of_form
    (λ last leads. c.in_ok-last.ensures.reached last (leads_back g.F.ExactField.value g.F.ExactField.limit c.args.lp.now c.args.answer.now c.requires.answer (dictionary g.F.ExactField.value c.in_ok-first.first) (standard_value g.F.ExactField.value c.in_ok-s.s) c.as_slice.result.now c.in_ok-first.ensures.first c.in_ok-s.ensures c.as_slice.ensures last leads))
    c.new.result c.new-2.result (ap (map (span_value g.F.ExactField.value)) c.new.ensures ∙ c.in_ok-rights.ensures) (ap (map (span_value g.F.ExactField.value)) c.new-2.ensures ∙ c.in_ok-costs.ensures)
