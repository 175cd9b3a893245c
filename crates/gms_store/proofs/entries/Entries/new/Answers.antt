use Rattle.std.proofs.Common.{◌∙◌, ap, sym}
use Rattle.std.specs.Map.{keys_of}
use Rattle.std.specs.FinMap as finite
use Rattle.gms_store.proofs.Maps.{no_entries}
use Rattle.gms_store.proofs.entries.Entries.new.Goals as goal

pub invariant_of-result : goal.invariant_of-result
invariant_of-result g c = c.new-2.ensures ∙ sym (ap keys_of no_entries) ∙ ap finite.keys (sym c.new.ensures)
