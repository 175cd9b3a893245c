use Rattle.std.proofs.Common.{◌≡◌, ◌<◌, ℕ, List, true}
use Rattle.gms_store.specs.State.{fits_at, symbol_of}
use Rattle.gms_run.proofs.closing.look_at_numbers.Given as goal
use Rattle.gq_frac.specs.Frac.{frac_limit}

-- the numbers of the names so far are within the limit
abbrev pub invariant-loop-name : goal.invariant-loop-name
invariant-loop-name l = (name : ℕ) → name < l.name → (t : List ℕ) → fits_at frac_limit (symbol_of l.store name).content t ≡ true
