-- One state over another: the initial state of a run that resumes from a saved state (GAMS User's
-- Guide, "Save and Restart").
use Rattle.std.specs.Prelude.{List, [], ◌∷◌, if◌then◌else◌}
use Rattle.gms_store.specs.State.{Symbol, State}
use Rattle.gms_store.specs.Declarations.{is_undeclared}

-- the symbol `other` if it is declared, otherwise `symbol`
abbrev pub chosen : Symbol → Symbol → Symbol
chosen symbol other = if is_undeclared other.content then symbol else other

-- the symbols of a state, each replaced by the symbol at the same index in the list of others if
-- that one is declared
abbrev pub overlaid_symbols : List Symbol → List Symbol → List Symbol
overlaid_symbols [] others = []
overlaid_symbols (symbol ∷ symbols) [] = symbol ∷ symbols
overlaid_symbols (symbol ∷ symbols) (other ∷ others) = chosen symbol other ∷ overlaid_symbols symbols others

-- one state over another: a name of `state` has its symbol in `other` if `other` declares it, and
-- else its symbol in `state`; names that only `other` has are left out; the settings are those of
-- `other`
abbrev pub overlaid : State → State → State
overlaid state other = record { symbols = overlaid_symbols state.symbols other.symbols; settings = other.settings }
