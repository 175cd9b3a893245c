use Rattle.gms_set.proofs.Products.{IsMade}
use Rattle.gms_set.proofs.product.tuple_at.Given as goal

abbrev pub invariant-loop-part : goal.invariant-loop-part
invariant-loop-part l = IsMade l.parts l.place l.part-index l.below l.rest l.tuple
