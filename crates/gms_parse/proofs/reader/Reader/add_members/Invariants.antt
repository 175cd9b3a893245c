use Rattle.std.proofs.Common.{◌≡◌, take, map, string_bytes}
use Rattle.gms_parse.proofs.Ranges.{Entering}
use Rattle.gms_parse.proofs.reader.Reader.add_members.Given as goal

abbrev pub invariant-loop-member : goal.invariant-loop-member
invariant-loop-member l =
    (l.tables.names ≡ l.fn.tables.names) × (l.part.bad_range ≡ l.fn.part.bad_range) × Entering l.fn.tables.labels l.tables.labels (take l.member-index (map string_bytes l.member-items)) l.fn.part.labels.items l.part.labels.items
