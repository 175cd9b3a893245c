use Rattle.std.proofs.Common.{◌∙◌, ap, unwrap_or}
use Rattle.gq_extended.specs.Meaning.{extended}
use Rattle.gq_extended.specs.Extended.{number}
use Rattle.gms_store.specs.State.{value_in, zero}
use Rattle.gms_store.proofs.Views.{read-shown, content-seen}
use Rattle.gms_store.proofs.symbol.Symbol.value_near.Goals as goal

pub returns-in-Parameter : goal.returns-in-Parameter
returns-in-Parameter g c =
    ap (extended g.F.ExactField.value) (c.unwrap_or.ensures ∙ ap (λ o. unwrap_or o (Rattle.gq_extended.specs.declared.extended.Ext.TheVariants.Number c.zero.result)) c.get_near.ensures)
    ∙ read-shown (extended g.F.ExactField.value) c.in-Parameter.entries c.args.t.now _ zero (ap number c.zero.ensures)
    ∙ ap (λ content. value_in content c.args.t.now) (content-seen g.F.ExactField.value c.self.inside.domain c.self.inside.content _ c.args.self.now c.self.view_is c.in-Parameter.is)
