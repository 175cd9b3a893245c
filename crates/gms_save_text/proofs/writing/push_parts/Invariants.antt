use Rattle.std.proofs.Common.{◌≡◌, ◌++◌, take}
use Rattle.gms_save_text.specs.SavedState.{parts_from}
use Rattle.gms_save_text.proofs.writing.push_parts.Given as goal

abbrev pub invariant-loop-number : goal.invariant-loop-number
invariant-loop-number g l = l.into.items ≡ l.fn.into.items ++ parts_from l.store 0 (take l.number l.names)
