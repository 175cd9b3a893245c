-- The greater of two magnitudes is one of them.
use Rattle.std.proofs.Common.{◌≡◌, ◌<◌, ◌≤◌, ℕ, nat_abs, w64, inl, inr, refl, ap, ◌∙◌, arith}
use Rattle.std.proofs.lemmas.Int.{to_z-of_z}
use Rattle.lp_integers.proofs.narrow.greater.Goals as goal

above_both : (most m n : ℕ) → most < m → m ≡ n → (most ≤ m) × (n ≤ m)
above_both most m n less is = (omega arith, omega arith)

above_one : (most m n : ℕ) → m ≤ most → m ≡ n → (most ≤ most) × (n ≤ most)
above_one most m n from is = (omega arith, omega arith)

pub returns-then-magnitude-most-clause-above : goal.returns-then-magnitude-most-clause-above
returns-then-magnitude-most-clause-above c =
    above_both c.args.most c.unsigned_abs-magnitude.result (nat_abs c.args.n) c.if-magnitude-most.true
    (c.unsigned_abs-magnitude.ensures.value ∙ ap nat_abs (to_z-of_z w64 c.args.n c.ranges.n))

pub returns-then-magnitude-most-clause-one : goal.returns-then-magnitude-most-clause-one
returns-then-magnitude-most-clause-one c = inr (c.unsigned_abs-magnitude.ensures.value ∙ ap nat_abs (to_z-of_z w64 c.args.n c.ranges.n))

pub returns-else-magnitude-most-clause-above : goal.returns-else-magnitude-most-clause-above
returns-else-magnitude-most-clause-above c =
    above_one c.args.most c.unsigned_abs-magnitude.result (nat_abs c.args.n) c.if-magnitude-most.false
    (c.unsigned_abs-magnitude.ensures.value ∙ ap nat_abs (to_z-of_z w64 c.args.n c.ranges.n))

pub returns-else-magnitude-most-clause-one : goal.returns-else-magnitude-most-clause-one
returns-else-magnitude-most-clause-one c = inl refl
