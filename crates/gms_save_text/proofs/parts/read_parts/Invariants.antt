use Rattle.std.proofs.Common.{◌≡◌, ◌++◌, ℕ, List, length}
use Rattle.gms_store.specs.State.{State}
use Rattle.gms_save_text.specs.SavedState.{parts_from}
use Rattle.gms_save_text.specs.Validity.{declared_symbols}
use Rattle.gms_save_text.specs.Reading.{AreReadable}
use Rattle.gms_save_text.proofs.Mixing.{HasParts}
use Rattle.gms_save_text.proofs.parts.read_parts.Given as goal

abbrev pub invariant-loop-number : goal.invariant-loop-number
invariant-loop-number g l = record {
  declared : declared_symbols l.store ≡ declared_symbols l.fn.store;
  parts : (state : State) (rest : List ℕ) → length l.names ≡ length l.fn.store.symbols → AreReadable g.F.ExactField.limit l.fn.store.symbols state.symbols → l.fn.text ≡ parts_from state 0 l.names ++ rest → HasParts l.fn.store state l.names rest l.left l.store l.number;
}
