use Rattle.std.proofs.Common.{◌≡◌, ◌*◌, ◌≤◌, map, min, length, drop}
use Rattle.gms_tuple.specs.Products.{tuple_product}
use Rattle.gms_eval.specs.Domain.{labels_of}
use Rattle.gms_eval.proofs.Sizes.{size_from}
use Rattle.gms_eval.proofs.elements.count.Given as goal

abbrev pub invariant-loop-set : goal.invariant-loop-set
invariant-loop-set g l =
    (min (length (tuple_product (map (labels_of l.store) l.sets))) 18446744073709551615 ≡ min (l.count * size_from (labels_of l.store) (drop l.set-index l.sets)) 18446744073709551615)
    × (l.count ≤ 18446744073709551615)
