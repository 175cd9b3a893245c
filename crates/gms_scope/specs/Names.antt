-- What a name is declared as (GAMS User's Guide, "Set Definition"; "Language Items").
use Rattle.std.specs.Prelude.{ℕ, Bool, true, false, ◌==◌, ◌&&◌, List, length, Option}
use Rattle.gms_store.specs.declared.kind.SymbolKind.{SymbolKind}
use Rattle.gms_store.specs.declared.kind.SymbolKind.TheVariants as kind
use Rattle.gms_store.specs.State.{State, symbol_at, symbol_of}
use Rattle.gms_store.specs.Declarations.{is_set, is_undeclared, kind_in}

-- whether a kind is that of an equation
abbrev pub is_equation : SymbolKind → Bool
is_equation kind.Equation = true
is_equation kind = false

-- whether a kind is that of a model
abbrev pub is_model : SymbolKind → Bool
is_model kind.Model = true
is_model kind = false

-- the kind that a name is declared as
abbrev pub declared_kind : State → ℕ → SymbolKind
declared_kind state name = kind_in (symbol_at state name).content

-- whether nothing declares a name
abbrev pub has_no_declaration : State → ℕ → Bool
has_no_declaration state name = is_undeclared (symbol_at state name).content

-- whether a name is that of a set or of an alias of one
abbrev pub is_set_name : State → ℕ → Bool
is_set_name state name = is_set (symbol_at state name).content

-- the set of each position of a name, None for one that admits any label; an alias has the
-- positions of its set
abbrev pub positions : State → ℕ → List (Option ℕ)
positions state name = (symbol_of state name).domain

-- whether a name has one position
abbrev pub has_one_position : State → ℕ → Bool
has_one_position state name = length (positions state name) == 1

-- whether a name is that of a one-dimensional set, which can be an index, be controlled and be in a
-- domain
abbrev pub is_index_set : State → ℕ → Bool
is_index_set state name = is_set_name state name && has_one_position state name
