use Rattle.std.proofs.Common.{length, subst, sym}
use Rattle.gms_store.specs.State.{IsNormalContent}
use Rattle.gms_store.proofs.Views.{kept-content_of}
use Rattle.gms_store.proofs.symbol.Symbol.retype.Goals as goal

pub invariant_of-self : goal.invariant_of-self
invariant_of-self g c =
    subst (IsNormalContent (length c.self.inside.domain)) (sym c.declared-later.ensures) (kept-content_of (length c.self.inside.domain) c.args.kind)
