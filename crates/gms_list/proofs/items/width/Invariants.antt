use Rattle.std.proofs.Common.{◌≡◌, map, drop}
use Rattle.gq_extended.specs.Meaning.{extended}
use Rattle.gms_list.specs.ListingText.{tuple_width}
use Rattle.gms_list.proofs.Widths.{width_from}
use Rattle.gms_list.proofs.items.width.Given as goal

abbrev pub invariant-loop-t : goal.invariant-loop-t
invariant-loop-t g l =
    width_from l.labels l.width (map (λ entry. (entry.0, extended g.F.ExactField.value entry.1)) (drop l.t-index l.entries)) ≡ tuple_width l.labels (map (λ entry. (entry.0, extended g.F.ExactField.value entry.1)) l.entries)
