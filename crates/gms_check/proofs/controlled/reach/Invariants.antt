use Rattle.std.proofs.Common.{◌≡◌, ℕ, length}
use Rattle.std.specs.Prelude.{slice_index_or}
use Rattle.gms_check.proofs.controlled.reach.Given as goal

abbrev pub invariant-loop : goal.invariant-loop
invariant-loop l =
    (length l.firsts.items ≡ l.counter) × ((n : ℕ) → slice_index_or l.firsts.items n 0 ≡ slice_index_or l.initial.firsts.items n 0)
