use Rattle.std.proofs.Common.{◌≡◌, ℕ, length}
use Rattle.std.specs.Prelude.{slice_index_or}
use Rattle.gms_rows.proofs.names.reach.Given as goal

abbrev pub invariant-loop : goal.invariant-loop
invariant-loop g l =
    (length l.list.items ≡ l.counter) × ((n : ℕ) → slice_index_or l.list.items n l.same ≡ slice_index_or l.initial.list.items n l.same)
