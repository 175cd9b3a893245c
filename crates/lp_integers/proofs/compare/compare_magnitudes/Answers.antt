-- Words fit, and so do their products.
use Rattle.std.proofs.Common.{◌≤◌, ◌-◌, ◌^◌, ℕ, Fits, w64, arith}
use Rattle.lp_integers.proofs.compare.compare_magnitudes.Goals as goal

fits_word : (n : ℕ) → n ≤ 2 ^ 64 - 1 → Fits w64 n
fits_word n h = omega arith

pub overflow_cast-left : goal.overflow_cast-left
overflow_cast-left c = fits_word c.args.a c.if-a-le-WORD.true

pub overflow_cast-left-then-d-le-WORD : goal.overflow_cast-left-then-d-le-WORD
overflow_cast-left-then-d-le-WORD c = c.ranges.a

pub overflow_cast-left-then-d-le-WORD-2 : goal.overflow_cast-left-then-d-le-WORD-2
overflow_cast-left-then-d-le-WORD-2 c = fits_word c.args.d c.if-d-le-WORD.true

pub overflow_cast-left-then-d-le-WORD-3 : goal.overflow_cast-left-then-d-le-WORD-3
overflow_cast-left-then-d-le-WORD-3 c = c.ranges.d

pub overflow_cast-right : goal.overflow_cast-right
overflow_cast-right c = fits_word c.args.c c.if-c-le-WORD.true

pub overflow_cast-right-then-d-le-WORD : goal.overflow_cast-right-then-d-le-WORD
overflow_cast-right-then-d-le-WORD c = c.ranges.c

pub overflow_cast-right-then-d-le-WORD-2 : goal.overflow_cast-right-then-d-le-WORD-2
overflow_cast-right-then-d-le-WORD-2 c = fits_word c.args.b c.if-b-le-WORD.true

pub overflow_cast-right-then-d-le-WORD-3 : goal.overflow_cast-right-then-d-le-WORD-3
overflow_cast-right-then-d-le-WORD-3 c = c.ranges.b

pub compare_by_turns-requires-clause-first : goal.compare_by_turns-requires-clause-first
compare_by_turns-requires-clause-first c = c.requires.first

pub compare_by_turns-requires-clause-second : goal.compare_by_turns-requires-clause-second
compare_by_turns-requires-clause-second c = c.requires.second

pub returns-then-d-le-WORD : goal.returns-then-d-le-WORD
returns-then-d-le-WORD c = c.cmp.ensures

pub returns-else-a-le-WORD : goal.returns-else-a-le-WORD
returns-else-a-le-WORD c = c.compare_by_turns.ensures
