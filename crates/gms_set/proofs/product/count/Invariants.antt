use Rattle.std.proofs.Common.{◌≡◌, ◌-◌, ◌^◌, min, length, take}
use Rattle.gms_tuple.specs.Products.{tuple_product}
use Rattle.gms_set.proofs.product.count.Given as goal

abbrev pub invariant-loop-part : goal.invariant-loop-part
invariant-loop-part l = l.count ≡ min (length (tuple_product (take l.part-index l.parts))) (2 ^ 64 - 1)
