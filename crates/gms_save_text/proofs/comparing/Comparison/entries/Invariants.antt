use Rattle.std.proofs.Common.{take, flat_map}
use Rattle.gms_store.specs.State.{symbol_at, given_in}
use Rattle.gms_save_text.specs.SavedState.{entry_line}
use Rattle.gms_save_text.specs.Reading.{IsPast}
use Rattle.gms_save_text.proofs.comparing.Comparison.entries.Given as goal

abbrev pub invariant-loop-place : goal.invariant-loop-place
invariant-loop-place g l = IsPast (flat_map (entry_line (symbol_at l.store l.name).content) (take l.place (given_in (symbol_at l.store l.name).content))) l.fn.self.left l.self.left
