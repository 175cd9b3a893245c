use Rattle.std.proofs.Common.{◌∙◌, ap, subst}
use Rattle.std.specs.FinMap as finite
use Rattle.gms_store.specs.InnerParts.{IsAtPlace}
use Rattle.gms_store.proofs.Parts.{get-following}
use Rattle.gms_store.proofs.values.Values.get_near.Goals as goal

pub returns-then-is_at_place : goal.returns-then-is_at_place
returns-then-is_at_place g c =
    get-following c.self.inside.following.items c.self.inside.tree.entries c.args.place c.args.t.now c.index.result.now c.self.invariant (subst (λ b. IsAtPlace b c.args.place c.args.t.now) c.deref.ensures.value (c.is_at_place.ensures c.if-is_at_place.true)) c.index.ensures
    ∙ ap (λ m. finite.get m c.args.t.now) c.self.view_is
