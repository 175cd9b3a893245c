use Rattle.std.proofs.Common.{◌∙◌, ap, sym}
use Rattle.std.specs.FinMap as finite
use Rattle.gms_tuple.specs.TupleSet.{removed}
use Rattle.gms_store.proofs.Parts.{keys-remove}
use Rattle.gms_store.proofs.entries.Entries.remove.Goals as goal

pub invariant_of-self : goal.invariant_of-self
invariant_of-self g c =
    c.remove.ensures.rest ∙ ap (λ members. removed members c.args.t.now) c.self.invariant ∙ keys-remove c.self.inside.values c.args.t.now ∙ ap finite.keys (sym c.remove-2.ensures)
