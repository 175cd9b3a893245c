-- Which states are saved states of a program (GAMS User's Guide, "Save and Restart", "Set
-- Definition", "Variables", "The Option Statement"). These checks of a saved state are this
-- project's own rule.
use Rattle.std.specs.Prelude.{◌≡◌, ℕ, ◌≤◌, Bool, true, false, ◌&&◌, ◌||◌, ◌==◌, nat_lt, nat_le, List, [], ◌∷◌, length, map, Option, Some, None, All}
use Rattle.std.specs.List.{list_all, list_any}
use Rattle.std.specs.Char.{is_ascii_alphabetic, is_ascii_alphanumeric}
use Rattle.std.specs.FinMap as finite
use Rattle.gms_tuple.specs.TupleOrder.{IsOrdered}
use Rattle.gms_tuple.specs.TupleSet.{has}
use Rattle.gms_store.specs.declared.settings.Settings.{Settings}
use Rattle.gms_store.specs.Statuses.{all_statuses, model_number, solver_number}
use Rattle.gms_store.specs.State.{Content, set_of, parameter_of, variable_of, equation_of, model_with, Symbol, State, symbol_at, with_content, given_in, differs_in, fits_at, members_of, members_in, statuses_in}

-- ---- what is declared

-- the content without data; a model with 0 as both statuses
abbrev pub emptied : Content → Content
emptied (set_of members) = set_of []
emptied (parameter_of entries) = parameter_of finite.empty
emptied (variable_of type entries) = variable_of type finite.empty
emptied (equation_of entries) = equation_of finite.empty
emptied (model_with model solver) = model_with 0 0
emptied content = content

-- the symbols of a state, each without its data: the kind of each name, the sets of its positions,
-- the types of variables and the sets of aliases
abbrev pub declared_symbols : State → List Symbol
declared_symbols state = map (λ (symbol : Symbol). with_content symbol (emptied symbol.content)) state.symbols

-- ---- tuples

-- whether a label may occur at a position: it is a member of the position's set; a position without
-- a set (None) admits any label
abbrev pub fits_position : State → Option ℕ → ℕ → Bool
fits_position state None label = true
fits_position state (Some set) label = has (members_of state set) (label ∷ [])

-- whether a tuple is in a domain: it has as many labels as the domain has positions, each number of
-- a label is below `labels`, and each label may occur at its position
abbrev pub fits_domain : ℕ → State → List (Option ℕ) → List ℕ → Bool
fits_domain labels state [] [] = true
fits_domain labels state (set ∷ domain) (label ∷ tuple) = nat_lt label labels && (fits_position state set label && fits_domain labels state domain tuple)
fits_domain labels state domain tuple = false

-- ---- statuses, settings, solvers

-- whether the two numbers are the statuses of a model and its solver after some end of a solve, or
-- before the first solve
abbrev pub are_statuses : ℕ → ℕ → Bool
are_statuses model solver = list_any (λ status. model_number status == model && solver_number status == solver) all_statuses

-- whether the settings are in the ranges of their options
abbrev pub are_in_range : Settings → Bool
are_in_range settings =
    nat_le settings.limrow 2147483647 && (nat_le settings.limcol 2147483647 && (nat_le settings.iterlim 2147483647 && nat_le settings.decimals 8))

-- whether a byte may occur in the name of a solver: a letter, a digit or `_`
abbrev pub is_solver_byte : ℕ → Bool
is_solver_byte byte = is_ascii_alphanumeric byte || byte == 95

-- whether a text has the form of a solver's name in a save: a letter, followed by at most 62
-- letters, digits and `_`
abbrev pub is_solver_name : List ℕ → Bool
is_solver_name [] = false
is_solver_name (first ∷ rest) = is_ascii_alphabetic first && (list_all is_solver_byte rest && nat_le (length rest) 62)

-- ---- names

-- The data of a symbol are valid in a state with `labels` labels. The tuples ascend strictly, by
-- the first label numbers that differ, and are in the symbol's domain. They are exactly those whose
-- entry differs from that of an element without data. Numerators and denominators are at most
-- `limit`. A model has the two statuses of some end of a solve, or those before its first solve.
pub record IsGivenWell (limit labels : ℕ) (state : State) (symbol : Symbol) : Type 0 where
  pub ordered : IsOrdered (given_in symbol.content)
  -- a tuple has at most 10 labels
  pub few : All (λ t. length t ≤ 10) (given_in symbol.content)
  pub occur : All (λ t. fits_domain labels state symbol.domain t ≡ true) (given_in symbol.content)
  pub fit : (t : List ℕ) → fits_at limit symbol.content t ≡ true
  pub differs : (t : List ℕ) → has (given_in symbol.content) t ≡ differs_in symbol.content t
  pub statuses : are_statuses (statuses_in symbol.content).0 (statuses_in symbol.content).1 ≡ true

-- `state` is a saved state of a program. `declared` is the state of the program's declarations,
-- `loaded` that with their data, `labels` the number of the program's labels, `limit` the limit of
-- numerators and denominators, and `assigned` tells which sets the program assigns. `state`
-- declares what `declared` does, and the data of each name are valid; a set that the program does
-- not assign has the members of `loaded`; the settings are in their options' ranges; and `solver`
-- has the form of a solver's name.
pub record IsSavedOf (limit labels : ℕ) (declared loaded : State) (assigned : ℕ → Bool) (state : State) (solver : List ℕ) : Type 0 where
  pub declares : declared_symbols state ≡ declared_symbols declared
  pub given : (name : ℕ) → IsGivenWell limit labels state (symbol_at state name)
  pub static : (name : ℕ) → assigned name ≡ false → members_in (symbol_at state name).content ≡ members_in (symbol_at loaded name).content
  pub ranges : are_in_range state.settings ≡ true
  pub named : is_solver_name solver ≡ true
