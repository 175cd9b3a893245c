-- The order of keys (Chvatal, Linear Programming, names variables by their subscripts; here a
-- subscript is a key).
use Rattle.std.specs.Prelude.{Bool, List}
use Rattle.std.specs.declared.cmp.Ordering.{Ordering}
use Rattle.std.specs.Ordering.{nat_cmp, ordering_then, is_eq}
use Rattle.std.specs.List.Sorted.{IsStrictlySortedBy}
use Rattle.gms_tuple.specs.TupleOrder.{tuple_cmp}
use Rattle.lp_form.specs.declared.key.Key.{Key}

-- the order of two keys: by their symbols' numbers, and if these are equal by their tuples
abbrev pub key_cmp : Key → Key → Ordering
key_cmp a b = ordering_then (nat_cmp a.symbol b.symbol) (tuple_cmp a.tuple b.tuple)

-- whether two keys are equal
abbrev pub same_key : Key → Key → Bool
same_key a b = is_eq (key_cmp a b)

-- the keys are strictly ascending
abbrev pub AreOrdered : List Key → Type 0
AreOrdered keys = IsStrictlySortedBy key_cmp keys
