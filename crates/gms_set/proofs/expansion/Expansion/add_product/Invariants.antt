use Rattle.std.proofs.Common.{◌≡◌, ◌++◌, false, take}
use Rattle.gms_tuple.specs.Products.{tuple_product}
use Rattle.gms_set.specs.Expansion.{has_repeat, tuples_of, tuples_with_value}
use Rattle.gms_set.proofs.expansion.Expansion.add_product.Given as goal

abbrev pub invariant-loop-place : goal.invariant-loop-place
invariant-loop-place g l = record {
  given : l.self ≡ l.fn.self ++ tuples_with_value l.value (take l.place (tuple_product l.parts));
  distinct : has_repeat (tuples_of l.self) ≡ false;
}
