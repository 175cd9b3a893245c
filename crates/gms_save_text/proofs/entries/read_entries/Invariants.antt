use Rattle.std.proofs.Common.{◌≡◌, ◌++◌, ℕ, List, length, flat_map}
use Rattle.std.specs.List.{AllByRecursion}
use Rattle.gms_store.specs.State.{Content}
use Rattle.gms_save_text.specs.SavedState.{entry_line}
use Rattle.gms_save_text.specs.Validity.{declared_symbols}
use Rattle.gms_save_text.specs.Reading.{HasEntriesOfKind, IsReadable}
use Rattle.gms_save_text.proofs.Putting.{HasPut}
use Rattle.gms_save_text.proofs.entries.read_entries.Given as goal

abbrev pub invariant-loop-entry : goal.invariant-loop-entry
invariant-loop-entry g l = record {
  declared : declared_symbols l.store ≡ declared_symbols l.fn.store;
  put : (content : Content) (tuples : List (List ℕ)) (rest : List ℕ) → HasEntriesOfKind l.fn.named.kind content → AllByRecursion (IsReadable g.F.ExactField.limit l.fn.named.arity content) tuples → length tuples ≡ l.fn.count → l.fn.text ≡ flat_map (entry_line content) tuples ++ rest → HasPut l.fn.named.name l.fn.store content tuples rest l.left l.store l._entry;
}
