use Rattle.std.proofs.Common.{ℕ, ◌+◌, ◌<◌, ◌≤◌, length, sym, ap, ap₂, ◌∙◌, subst, FitsSigned, rules}
use Rattle.std.specs.Int.{w128}
use Rattle.std.proofs.lemmas.Int.{to_z-of_z}
use Rattle.gq_number.specs.Number.{ratio}
use Rattle.gq_number.proofs.Means.{ratio_itself}
use Rattle.lp_core.specs.Dictionary.{Dictionary}
use Rattle.lp_dict.specs.declared.body.Body.TheVariants as body
use Rattle.lp_dict.proofs.Kept.{kept_is}
use Rattle.lp_dict.proofs.dict.Dict.fraction.Goals as goal

pub number-fraction-requires-clause-row : goal.number-fraction-requires-clause-row
number-fraction-requires-clause-row g c =
    subst (λ (d : Dictionary). c.args.row ≤ length d.basic)
    (sym (kept_is g.F.ExactField.value c.args.self.now c.self.inside.body c.self.view_is (body.Whole c.in-Whole.rows c.in-Whole.field-1) c.in-Whole.is)) c.requires.row

pub number-fraction-requires-clause-column : goal.number-fraction-requires-clause-column
number-fraction-requires-clause-column g c =
    subst (λ (d : Dictionary). c.args.column ≤ d.variables + 1)
    (sym (kept_is g.F.ExactField.value c.args.self.now c.self.inside.body c.self.view_is (body.Whole c.in-Whole.rows c.in-Whole.field-1) c.in-Whole.is)) c.requires.column

pub returns-in-Whole-clause-value : goal.returns-in-Whole-clause-value
returns-in-Whole-clause-value g c =
    let top = c.number-fraction.result.numerator in
    let low = c.number-fraction.result.denominator in
    let fits : FitsSigned w128 top = search rules in
    ap (λ n. ratio n low) (to_z-of_z w128 top fits)
    ∙ c.number-fraction.ensures.number
    ∙ ap (λ (d : Dictionary). d.numbers c.args.row c.args.column) (kept_is g.F.ExactField.value c.args.self.now c.self.inside.body c.self.view_is (body.Whole c.in-Whole.rows c.in-Whole.field-1) c.in-Whole.is)

pub returns-in-Exact-clause-value : goal.returns-in-Exact-clause-value
returns-in-Exact-clause-value g c =
    ap₂ ratio c.parts.ensures.numerator c.parts.ensures.denominator
    ∙ ratio_itself _
    ∙ c.number_of-number.ensures
    ∙ ap (λ (d : Dictionary). d.numbers c.args.row c.args.column) (kept_is g.F.ExactField.value c.args.self.now c.self.inside.body c.self.view_is (body.Exact c.in-Exact.dict) c.in-Exact.is)

pub returns-in-Exact-clause-positive : goal.returns-in-Exact-clause-positive
returns-in-Exact-clause-positive g c =
    let x = g.F.ExactField.value c.number_of-number.result in
    subst (λ (n : ℕ). 0 < n) (sym c.parts.ensures.denominator) x.reduced.positive
