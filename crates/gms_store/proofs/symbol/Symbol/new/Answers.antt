use Rattle.std.proofs.Common.{length, subst, sym}
use Rattle.gms_store.specs.State.{IsNormalContent}
use Rattle.gms_store.proofs.Views.{kept-content_of}
use Rattle.gms_store.proofs.symbol.Symbol.new.Goals as goal

pub invariant_of-result : goal.invariant_of-result
invariant_of-result g c = subst (IsNormalContent (length c.new.result)) (sym c.declared.ensures) (kept-content_of (length c.new.result) c.args.kind)
