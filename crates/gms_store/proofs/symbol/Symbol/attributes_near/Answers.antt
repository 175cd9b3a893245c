use Rattle.std.proofs.Common.{◌∙◌, ap, unwrap_or}
use Rattle.gms_store.specs.Shown.{attributes_shown}
use Rattle.gms_store.specs.State.{attributes_in}
use Rattle.gms_store.proofs.Views.{read-shown, content-seen}
use Rattle.gms_store.proofs.symbol.Symbol.attributes_near.Goals as goal

pub returns-in-Variable : goal.returns-in-Variable
returns-in-Variable g c =
    ap (attributes_shown g.F.ExactField.value) (c.unwrap_or.ensures ∙ ap (λ o. unwrap_or o c.of_type.result) c.get_near.ensures)
    ∙ read-shown (attributes_shown g.F.ExactField.value) c.in-Variable.entries c.args.t.now c.of_type.result _ c.of_type.ensures
    ∙ ap (λ content. attributes_in content c.args.t.now) (content-seen g.F.ExactField.value c.self.inside.domain c.self.inside.content _ c.args.self.now c.self.view_is c.in-Variable.is)

pub returns-in-Equation : goal.returns-in-Equation
returns-in-Equation g c =
    ap (attributes_shown g.F.ExactField.value) (c.unwrap_or-in-Equation.ensures ∙ ap (λ o. unwrap_or o c.unbounded.result) c.get_near-in-Equation.ensures)
    ∙ read-shown (attributes_shown g.F.ExactField.value) c.in-Equation.entries c.args.t.now c.unbounded.result _ c.unbounded.ensures
    ∙ ap (λ content. attributes_in content c.args.t.now) (content-seen g.F.ExactField.value c.self.inside.domain c.self.inside.content _ c.args.self.now c.self.view_is c.in-Equation.is)
