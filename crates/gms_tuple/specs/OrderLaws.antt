-- Laws of the order of tuples: it is total, and distinguishes all tuples that differ.
use Rattle.std.proofs.Common.{◌≡◌, ℕ, List}
use Rattle.std.specs.Cmp.{IsTotalOrder, IsPartialOrder, po, unsigned_ties}
use Rattle.std.specs.Cmp.Lexicographic.{lists_ties}
use Rattle.std.specs.Ordering.{nat_cmp, eq_by_cmp, as_partial_cmp}
use Rattle.std.proofs.lemmas.Cmp.{nat_list_cmp_total}
use Rattle.gms_tuple.specs.TupleOrder.{tuple_cmp, same_tuple}

-- the order is total: it is antisymmetric and transitive, and compares any two tuples
pub tuple_cmp-total : IsTotalOrder tuple_cmp
tuple_cmp-total = nat_list_cmp_total

-- two tuples have the same length and at each position the same label if and only if neither comes
-- before the other
pub same_tuple-tuple_cmp : (a b : List ℕ) → same_tuple a b ≡ eq_by_cmp tuple_cmp a b
same_tuple-tuple_cmp a b = lists_ties nat_cmp unsigned_ties a b

-- the order of tuples, with `Some` around each answer, is a lawful partial order that agrees with
-- `same_tuple`
pub tuple_cmp-partial : IsPartialOrder same_tuple (as_partial_cmp tuple_cmp)
tuple_cmp-partial = po tuple_cmp-total same_tuple-tuple_cmp
