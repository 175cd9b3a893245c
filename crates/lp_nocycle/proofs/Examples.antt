-- The count of pivots at small numbers of variables, and where it passes 64 bits.
use Rattle.std.proofs.Common.{◌≡◌, Some, None, refl}
use Rattle.lp_nocycle.specs.PivotCount.{pivot_bound}

of_none : pivot_bound 0 ≡ Some 2
of_none = refl

of_eight : pivot_bound 8 ≡ Some 512
of_eight = refl

greatest : pivot_bound 62 ≡ Some 9223372036854775808
greatest = refl

past : pivot_bound 63 ≡ None
past = refl
