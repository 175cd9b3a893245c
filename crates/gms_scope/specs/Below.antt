-- Which sets are below others, and which indices and labels may occur at a position of a name (GAMS
-- User's Guide, "Set Definition", domain checking). A set is below itself, its domain set, the
-- domain set of that, and so on. A set in the domain of a name is valid there only if it is
-- declared before the name; this is the project's own rule.
use Rattle.std.specs.Prelude.{ℕ, zero, suc, Bool, true, false, ◌==◌, ◌&&◌, ◌||◌, List, [], ◌∷◌, length, Option, Some, None, if◌then◌else◌}
use Rattle.gms_tuple.specs.TupleSet.{has}
use Rattle.gms_store.specs.State.{State, base_of, members_of}
use Rattle.gms_scope.specs.Names.{is_index_set, positions}

-- whether `name` occurs in a list of names, and before the first occurrence of `other`, if any
abbrev pub is_met_before : List ℕ → ℕ → ℕ → Bool
is_met_before [] name other = false
is_met_before (first ∷ names) name other = if first == other then false else if first == name then true else is_met_before names name other

-- whether `domain_set`, a set in the domain of `name`, is valid there: it is a one-dimensional set
-- that is declared before the name, or before the set of which the name is an alias. `declared` are
-- the declared names, in order
abbrev pub bounds : State → List ℕ → ℕ → ℕ → Bool
bounds state declared name domain_set =
    is_index_set state domain_set && is_met_before declared domain_set (base_of state name)

-- the domain set of a one-dimensional set `name` with this domain, an alias replaced by its set;
-- None if the domain does not consist of one set, or that set is not one-dimensional, or is not
-- declared before `name` (`bounds`); `declared` are the declared names, in order
abbrev pub superset_in : State → List ℕ → ℕ → List (Option ℕ) → Option ℕ
superset_in state declared name (Some domain_set ∷ []) =
    if bounds state declared name domain_set then Some (base_of state domain_set) else None
superset_in state declared name domain = None

-- the domain set of a one-dimensional set `name`; if the domain set is an alias, the set of the
-- alias. None if `name` is no one-dimensional set, or has no domain set that is one-dimensional and
-- declared before `name` (`bounds`). `declared` are the declared names, in order
abbrev pub superset : State → List ℕ → ℕ → Option ℕ
superset state declared name = if is_index_set state name then superset_in state declared name (positions state name) else None

-- the set at the first position of a domain, an alias replaced by its set; None if the domain is
-- empty, or has no set at this position, or one that is not one-dimensional
abbrev pub first_base : State → List (Option ℕ) → Option ℕ
first_base state (Some domain_set ∷ domain) = if is_index_set state domain_set then Some (base_of state domain_set) else None
first_base state domain = None

-- the domain set of a one-dimensional set `name`, an alias replaced by its set; None if the name
-- has no one-dimensional domain set, or is no one-dimensional set
abbrev pub base_above : State → ℕ → Option ℕ
base_above state name = if is_index_set state name then first_base state (positions state name) else None

-- whether there is a set, and it has the property
abbrev pub is_some_with : Option ℕ → (ℕ → Bool) → Bool
is_some_with None property = false
is_some_with (Some name) property = property name

-- whether the set `other` is the set `name`, or is reached from `name` by at most `n` moves, each
-- from a set to its domain set, which `above` gives
abbrev pub is_below_within : ℕ → (ℕ → Option ℕ) → ℕ → ℕ → Bool
is_below_within zero above name other = name == other
is_below_within (suc n) above name other =
    (name == other) || is_some_with (above name) (λ domain_set. is_below_within n above domain_set other)

-- whether the set `name` is below the set `other`: `name` is this set, or the domain set of `name`,
-- which `above` gives, is below `other`. An alias is replaced by its set. A domain set is declared
-- before its subset, so a chain of domain sets is no longer than the list `declared` of the
-- declared names
abbrev pub is_below : State → List ℕ → (ℕ → Option ℕ) → ℕ → ℕ → Bool
is_below state declared above name other =
    is_below_within (length declared) above (base_of state name) (base_of state other)

-- whether the set `index` may be the index at a position where the domain of `name` has
-- `domain_set`. If `domain_set` is None, any set may. Otherwise `domain_set` is one-dimensional and
-- declared before `name` (`bounds`), and is the index, its domain set, the domain set of that, or
-- so on (`is_below`). `declared` are the declared names, in order; `above` gives the domain set of
-- each set
abbrev pub set_fits_position : State → List ℕ → (ℕ → Option ℕ) → ℕ → Option ℕ → ℕ → Bool
set_fits_position state declared above name None index = true
set_fits_position state declared above name (Some domain_set) index =
    bounds state declared name domain_set && is_below state declared above index domain_set

-- whether the label `n` may be the index at a position of `name`, where the domain has `domain_set`
-- at the position. If `domain_set` is None, any label may; otherwise `domain_set` has to be
-- one-dimensional and declared before `name` (`bounds`), and to have the label as a member
abbrev pub label_fits_position : State → List ℕ → ℕ → Option ℕ → ℕ → Bool
label_fits_position state declared name None n = true
label_fits_position state declared name (Some domain_set) n = bounds state declared name domain_set && has (members_of state domain_set) (n ∷ [])
