use Rattle.std.proofs.Common.{◌≡◌, ◌<◌, ℕ, [], false, map, get_or}
use Rattle.gms_exec.specs.Options.{is_same_word}
use Rattle.gms_exec.proofs.options.chosen.Given as goal

-- no solver before the place has the name
abbrev pub invariant-loop-place : goal.invariant-loop-place
invariant-loop-place g l =
    (k : ℕ) → k < l.place → is_same_word l.word.text (get_or (map (λ b. (goal.LpSolver-dyn g (b.vtable, b.value)).name b.value) l.solvers) k []) ≡ false
