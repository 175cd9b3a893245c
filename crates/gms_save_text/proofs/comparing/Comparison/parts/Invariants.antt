use Rattle.std.proofs.Common.{take}
use Rattle.gms_save_text.specs.SavedState.{parts_from}
use Rattle.gms_save_text.specs.Reading.{IsPast}
use Rattle.gms_save_text.proofs.comparing.Comparison.parts.Given as goal

abbrev pub invariant-loop-number : goal.invariant-loop-number
invariant-loop-number g l = IsPast (parts_from l.store 0 (take l.number l.names)) l.fn.self.left l.self.left
