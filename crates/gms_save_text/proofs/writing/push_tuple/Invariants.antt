use Rattle.std.proofs.Common.{◌≡◌, ◌++◌, take}
use Rattle.gms_save_text.specs.SavedState.{tuple_text}
use Rattle.gms_save_text.proofs.writing.push_tuple.Given as goal

abbrev pub invariant-loop-label : goal.invariant-loop-label
invariant-loop-label l = l.into.items ≡ l.fn.into.items ++ tuple_text (take l.label-index l.label-items)
