use Rattle.std.proofs.Common.{ℕ, ◌<◌, ◌≤◌, nat_abs}
use Rattle.lp_integers.specs.Lines.{whole_at, AreWithin}
use Rattle.lp_integers.proofs.narrow.greatest.Given as goal

abbrev pub invariant-loop-n : goal.invariant-loop-n
invariant-loop-n l =
    ((c : ℕ) → c < l.n-index → nat_abs (whole_at l.numbers c) ≤ l.most) × ((m : ℕ) → AreWithin l.numbers m → l.most ≤ m)
