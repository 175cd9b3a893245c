use Rattle.std.proofs.Common.{◌≡◌, ◌<◌, ℕ, [], get_or, false}
use Rattle.gms_labels.specs.Labels.{is_same}
use Rattle.gms_labels.proofs.labels.Labels.find_by_text.Given as goal

abbrev pub invariant-loop-place : goal.invariant-loop-place
invariant-loop-place l = (k : ℕ) → k < l.place → is_same l.text (get_or l.self k []) ≡ false
