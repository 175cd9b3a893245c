-- Columns grow.
use Rattle.std.proofs.Common.{inl, inr, ℕ, ◌+◌, ◌==◌, ◌<◌, ◌≤◌, arith}
use Rattle.gms_grammar.proofs.LineLemmas.{true_or_false}
use Rattle.gms_grammar.specs.Columns.{column_after}

-- the column after a byte is at least the next, and at most eight further on
pub column_after-bounds : (column b : ℕ) → (column < column_after column b) × (column_after column b ≤ column + 8)
column_after-bounds column b = elim (true_or_false (b == 9)) [
  | inl h ↦ rw h (omega arith, omega arith)
  | inr h ↦ rw h (omega arith, omega arith)
]
