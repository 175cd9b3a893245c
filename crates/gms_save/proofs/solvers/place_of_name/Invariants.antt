use Rattle.std.proofs.Common.{◌≡◌, ◌<◌, ℕ, [], false, map, get_or, string_bytes}
use Rattle.std.specs.Str.{str_eq_ignore_ascii_case}
use Rattle.gms_save.proofs.solvers.place_of_name.Given as goal

-- no solver before the place has the name
abbrev pub invariant-loop-place : goal.invariant-loop-place
invariant-loop-place l = (k : ℕ) → k < l.place → str_eq_ignore_ascii_case (get_or (map string_bytes l.solvers) k []) l.name ≡ false
