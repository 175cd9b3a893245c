use Rattle.std.proofs.Common.{◌≡◌, ◌*◌, ◌≤◌, map, min, length, drop}
use Rattle.gms_tuple.specs.Products.{tuple_product}
use Rattle.gms_exec.specs.Showing.{labels_at}
use Rattle.gms_exec.proofs.Positions.{size_from}
use Rattle.gms_exec.proofs.name_domains.NameDomain.count.Given as goal

abbrev pub invariant-loop-position : goal.invariant-loop-position
invariant-loop-position g l =
    (min (length (tuple_product (map (labels_at l.self.labels l.self.store.now) l.self.positions.now))) 18446744073709551615 ≡ min (l.count * size_from (labels_at l.self.labels l.self.store.now) (drop l.position-index l.self.positions.now)) 18446744073709551615)
    × (l.count ≤ 18446744073709551615)
