use Rattle.std.proofs.Common.{◌∙◌, sym}
use Rattle.gms_eval.proofs.Entries.{place-picks}
use Rattle.gms_eval.proofs.leading.place_at.Goals as goal

pub returns-clause-label : goal.returns-clause-label
returns-clause-label g c =
    place-picks g.F.ExactField.value g.F.ExactField.limit c.args.b.now c.args.sets.now c.args.indices.now c.args.position c.label.result c.place_of.result c.requires c.label.ensures (sym c.is_some.ensures ∙ c.if-is_some.false) (sym c.contains.ensures.value ∙ c.if-contains.false) c.place_of.ensures.within c.place_of.ensures.label
