-- Variable 0 in the first dictionary.
use Rattle.std.proofs.Common.{◌+◌, length, arith}
use Rattle.lp_core.specs.StandardForm.{Standard}
use Rattle.lp_core.specs.Dictionary.{InPhaseOne, first_dictionary}
use Rattle.lp_fraction_dict.proofs.Begins.{range_at}
use Rattle.lp_fraction_dict.proofs.Kept.{index_get}

-- variable 0 is not basic in the first dictionary
pub none_in_first : (s : Standard) → ¬ (InPhaseOne (first_dictionary s))
none_in_first s h =
    let same = (range_at (length s.objective + 1) (length s.rows) h.0 0 (index_get (first_dictionary s).basic h.0 0 0 h.1 h.2)).1 in
    absurd (omega arith)
