use Rattle.std.proofs.Common.{◌≡◌, ℕ, length, take}
use Rattle.lp_integers.specs.Lines.{whole_at}
use Rattle.lp_integers.specs.Words.{stored_number}
use Rattle.lp_integers.proofs.few.fill.Given as goal

abbrev pub invariant-loop-i : goal.invariant-loop-i
invariant-loop-i l = (length l.list ≡ length l.initial.list) × ((c : ℕ) → whole_at l.list c ≡ stored_number (take l.i l.words) c)
