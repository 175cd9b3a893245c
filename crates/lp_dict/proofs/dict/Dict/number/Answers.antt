use Rattle.std.proofs.Common.{◌+◌, ◌≤◌, length, sym, ap, ◌∙◌, subst}
use Rattle.lp_core.specs.Dictionary.{Dictionary}
use Rattle.lp_dict.specs.declared.body.Body.TheVariants as body
use Rattle.lp_dict.proofs.Kept.{kept_is, bounded_whole}
use Rattle.lp_dict.proofs.dict.Dict.number.Goals as goal

pub number_at-requires-clause-bounded : goal.number_at-requires-clause-bounded
number_at-requires-clause-bounded g c =
    bounded_whole g.F.ExactField.value g.F.ExactField.limit c.self.inside.body c.in-Whole.rows c.in-Whole.field-1 c.self.invariant c.in-Whole.is

pub number_at-requires-clause-row : goal.number_at-requires-clause-row
number_at-requires-clause-row g c =
    subst (λ (d : Dictionary). c.args.row ≤ length d.basic)
    (sym (kept_is g.F.ExactField.value c.args.self.now c.self.inside.body c.self.view_is (body.Whole c.in-Whole.rows c.in-Whole.field-1) c.in-Whole.is)) c.requires.row

pub number_at-requires-clause-column : goal.number_at-requires-clause-column
number_at-requires-clause-column g c =
    subst (λ (d : Dictionary). c.args.column ≤ d.variables + 1)
    (sym (kept_is g.F.ExactField.value c.args.self.now c.self.inside.body c.self.view_is (body.Whole c.in-Whole.rows c.in-Whole.field-1) c.in-Whole.is)) c.requires.column

pub returns-in-Whole : goal.returns-in-Whole
returns-in-Whole g c =
    c.number_at.ensures
    ∙ ap (λ (d : Dictionary). d.numbers c.args.row c.args.column) (kept_is g.F.ExactField.value c.args.self.now c.self.inside.body c.self.view_is (body.Whole c.in-Whole.rows c.in-Whole.field-1) c.in-Whole.is)

pub returns-in-Exact : goal.returns-in-Exact
returns-in-Exact g c =
    c.number_of.ensures
    ∙ ap (λ (d : Dictionary). d.numbers c.args.row c.args.column) (kept_is g.F.ExactField.value c.args.self.now c.self.inside.body c.self.view_is (body.Exact c.in-Exact.dict) c.in-Exact.is)
