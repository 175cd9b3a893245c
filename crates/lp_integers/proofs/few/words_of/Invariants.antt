use Rattle.std.proofs.Common.{◌≡◌, ℕ, ◌<◌, ◌-◌, ◌^◌}
use Rattle.lp_integers.specs.Lines.{whole_at}
use Rattle.lp_integers.specs.Words.{stored_number, AreWords}
use Rattle.lp_integers.proofs.few.words_of.Given as goal

abbrev pub invariant-loop-place : goal.invariant-loop-place
invariant-loop-place l =
    AreWords (2 ^ 63 - 1) 0 l.place l.words.items × ((c : ℕ) → c < l.place → whole_at l.numbers c ≡ stored_number l.words.items c)
