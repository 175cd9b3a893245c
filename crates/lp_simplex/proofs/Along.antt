-- What holds along pivots, and one more.
use Rattle.std.proofs.Common.{List, [], ◌∷◌, ◌++◌}
use Rattle.lp_core.specs.declared.answer.Pivot.{Pivot}
use Rattle.lp_core.specs.Dictionary.{Dictionary}
use Rattle.lp_core.specs.Choices.{after_pivot, reached, AllAlong}

pub along_more : (At : Dictionary → Pivot → Type 0) (d : Dictionary) (ps : List Pivot) (p : Pivot) → AllAlong At d ps → At (reached d ps) p → AllAlong At d (ps ++ p ∷ [])
along_more At d [] p all here = (here, tt)
along_more At d (q ∷ ps) p all here = (all.0, along_more At (after_pivot d q) ps p all.1 here)

pub along_prefix : (At : Dictionary → Pivot → Type 0) (d : Dictionary) (ps : List Pivot) (p : Pivot) → AllAlong At d (ps ++ p ∷ []) → AllAlong At d ps
along_prefix At d [] p all = tt
along_prefix At d (q ∷ ps) p all = (all.0, along_prefix At (after_pivot d q) ps p all.1)

pub along_last : (At : Dictionary → Pivot → Type 0) (d : Dictionary) (ps : List Pivot) (p : Pivot) → AllAlong At d (ps ++ p ∷ []) → At (reached d ps) p
along_last At d [] p all = all.0
along_last At d (q ∷ ps) p all = along_last At (after_pivot d q) ps p all.1
