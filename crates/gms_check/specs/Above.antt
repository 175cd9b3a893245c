-- The set that a set is directly below (GAMS User's Guide, "Set Definition", domain checking).
use Rattle.std.specs.Prelude.{ℕ, ◌==◌, List, Option, None, if◌then◌else◌}
use Rattle.gms_store.specs.State.{State, base_of}
use Rattle.gms_scope.specs.Below.{superset}

-- the domain set of a one-dimensional set `name`; if the domain set is an alias, the set of the
-- alias. None if the domain is no one-dimensional set that is declared before `name`, or if `name`
-- is an alias or no one-dimensional set. `declared` are the declared names, in order
abbrev pub directly_above : State → List ℕ → ℕ → Option ℕ
directly_above state declared name = if base_of state name == name then superset state declared name else None
