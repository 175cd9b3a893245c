-- What each state of a run has in common with the one in which the run begins, so that it can be
-- saved and restored (GAMS User's Guide, "Save and Restart", "Set Definition", "Variables", "The
-- Option Statement").
use Rattle.std.specs.Prelude.{◌≡◌, ℕ, Bool, true, false, List, [], ◌∷◌, length, map, flat_map, Option, Some, None, All}
use Rattle.gq_number.specs.Number.{Number}
use Rattle.gms_ast.specs.declared.program.Program.{Program}
use Rattle.gms_tuple.specs.TupleOrder.{IsOrdered}
use Rattle.gms_tuple.specs.TupleSet.{has}
use Rattle.gms_store.specs.State.{Symbol, State, symbol_at, base_of, given_in, differs_in, members_in, statuses_in}
use Rattle.gms_store.specs.Declarations.{is_undeclared}
use Rattle.gms_scope.specs.DynamicSets.{assigned_names}
use Rattle.gms_check.specs.Loaded.{loaded}
use Rattle.gms_check.specs.Past.{is_among}
use Rattle.gms_save_text.specs.Validity.{declared_symbols, fits_position, are_statuses, are_in_range}

-- The tuples with data of a symbol are distinct and ascend (`IsOrdered`), have one label for each
-- of its positions, and are those whose entry differs from that of an element without data; a model
-- has the statuses of some end of a solve, or those before any.
pub record IsTidy (symbol : Symbol) : Type 0 where
  pub ordered : IsOrdered (given_in symbol.content)
  pub long : All (λ t. length t ≡ length symbol.domain) (given_in symbol.content)
  pub differs : (t : List ℕ) → has (given_in symbol.content) t ≡ differs_in symbol.content t
  pub statuses : are_statuses (statuses_in symbol.content).0 (statuses_in symbol.content).1 ≡ true

-- each label of the tuple is a member of the set of its position, if the position has one;
-- positions or labels without a counterpart are not restricted
abbrev pub FitPositions : State → List (Option ℕ) → List ℕ → Type 0
FitPositions state [] tuple = Unit {0}
FitPositions state (set ∷ domain) [] = Unit {0}
FitPositions state (set ∷ domain) (label ∷ tuple) = (fits_position state set label ≡ true) × FitPositions state domain tuple

-- The set is declared, and `assigned`, a test of the names that are assigned, is false for it or,
-- if it is an alias, for its set.
pub record IsFixedSet (assigned : ℕ → Bool) (state : State) (set : ℕ) : Type 0 where
  pub declared : is_undeclared (symbol_at state set).content ≡ false
  pub static : assigned (base_of state set) ≡ false

-- the set of each of these positions, if it has one, is declared and not assigned: the test
-- `assigned` is false for it or, if it is an alias, for its set
abbrev pub AreFixed : (ℕ → Bool) → State → List (Option ℕ) → Type 0
AreFixed assigned state [] = Unit {0}
AreFixed assigned state (None ∷ domain) = AreFixed assigned state domain
AreFixed assigned state (Some set ∷ domain) = IsFixedSet assigned state set × AreFixed assigned state domain

-- the names that the statements of a program assign, an alias replaced by its set
abbrev pub names_assigned : {F : Type 0} → State → Program F → List ℕ
names_assigned state program = map (base_of state) (flat_map assigned_names program.statements.items)

-- What holds of `state` if it follows `first` in a run that assigns only names for which
-- `is_assigned` is true: it declares the symbols of `first`, data aside; each satisfies `IsTidy`,
-- an invariant of the data; the members of a set that is not assigned are those in `first`; and the
-- settings are in the ranges of their options.
pub record IsLater (first : State) (is_assigned : ℕ → Bool) (state : State) : Type 0 where
  pub declares : declared_symbols state ≡ declared_symbols first
  pub given : (name : ℕ) → IsTidy (symbol_at state name)
  pub static : (name : ℕ) → is_assigned name ≡ false → members_in (symbol_at state name).content ≡ members_in (symbol_at first name).content
  pub ranges : are_in_range state.settings ≡ true

-- A run of the program's statements may begin in the state `first`: it may follow (`IsLater`) the
-- state in which the program's own run begins, in a run that assigns only names that the program
-- assigns.
abbrev pub MayBegin : {F : Type 0} → (F → Number) → Program F → State → Type 0
MayBegin value program first = IsLater (loaded value program) (is_among (names_assigned (loaded value program) program)) first
