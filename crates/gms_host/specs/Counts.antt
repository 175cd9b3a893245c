-- Counters that saturate at the greatest number of their type.
use Rattle.std.specs.Prelude.{ℕ, ◌+◌, nat_lt, if◌then◌else◌}
use Rattle.gms_host.specs.Meaning.{greatest_count}

-- a count plus one, or the greatest number of 64 bits if it has that value
abbrev pub one_more : ℕ → ℕ
one_more n = if nat_lt n greatest_count then n + 1 else n
