use Rattle.std.proofs.Common.{◌≡◌, ℕ, List, ◌++◌, length}
use Rattle.gms_save_text.specs.SavedState.{tuple_text}
use Rattle.gms_save_text.specs.Reading.{IsReadableTuple}
use Rattle.gms_save_text.proofs.Tuples.{HasRead, label_text}
use Rattle.gms_save_text.proofs.reading.tuple_at.Given as goal

abbrev pub invariant-loop-place : goal.invariant-loop-place
invariant-loop-place l = record {
  count : length l.tuple ≡ l._place;
  read : (t rest : List ℕ) → IsReadableTuple l.fn.arity t → l.fn.text ≡ tuple_text t ++ rest → HasRead label_text t rest l.left l.tuple l._place;
}
