use Rattle.std.proofs.Common.{◌≡◌, ℕ, [], length}
use Rattle.std.specs.Prelude.{slice_index_or}
use Rattle.lp_fraction_dict.specs.Rows.{IsRow}
use Rattle.lp_fraction_dict.specs.Lines.{entries_of_rows}
use Rattle.lp_fraction_dict.proofs.Exchanging.{SoFar}
use Rattle.lp_fraction_dict.proofs.exchange.exchange_rows.Given as goal

abbrev pub invariant-loop-place : goal.invariant-loop-place
invariant-loop-place g l =
    (length l.rows.items ≡ length l.initial.rows.items)
    × ((high : ℕ) → ((k : ℕ) → IsRow g.F.ExactField.value 0 high (slice_index_or (entries_of_rows l.initial.rows.items) k [])) → IsRow g.F.ExactField.value 0 high l.pivot_row → SoFar g.F.ExactField.value g.F.ExactField.limit high l.column l.pivot_row (entries_of_rows l.initial.rows.items) (entries_of_rows l.rows.items) l.place)
