-- The state of a run: finite maps from the names of a program to what is known of them: GAMS User's
-- Guide, "Set Definition", "Data Entry: Parameters, Scalars and Tables", "Variables", "Equations".
-- Which entries are kept is this project's rule.
use Rattle.std.specs.Prelude.{◌≡◌, ℕ, Bool, true, false, not, ◌&&◌, ◌==◌, List, [], length, set, slice_get, Option, Some, None, unwrap_or, if◌then◌else◌, pos}
use Rattle.std.specs.FinMap as finite
use Rattle.std.specs.Ordering.{eq_by_cmp}
use Rattle.gq_number.specs.Number.{Number, whole}
use Rattle.gq_number.specs.Order.{number_cmp}
use Rattle.gq_field.specs.Fits.{fits}
use Rattle.gq_extended.specs.Extended as extended
use Rattle.gms_tuple.specs.TupleOrder.{tuple_cmp}
use Rattle.gms_tuple.specs.TupleSet.{has, inserted, removed}
use Rattle.gms_store.specs.declared.kind.VariableType.{VariableType}
use Rattle.gms_store.specs.declared.kind.VariableType.TheVariants.{Free, Positive, Negative, Discrete}
use Rattle.gms_store.specs.declared.settings.Settings.{Settings}

-- a finite map from tuples to values of `X`
abbrev pub Entries : Type 0 → Type 0
Entries X = finite.FinMap tuple_cmp X

-- The attributes of an element of a variable or an equation.
pub record Attributes : Type 0 where
  -- the lower bound, if finite
  pub lower : Option Number
  -- the upper bound, if finite
  pub upper : Option Number
  pub level : Number
  pub marginal : Number

-- What a name denotes. A parameter, a variable and an equation keep exactly the entries that differ
-- from the one that an element without data has.
pub data Content : Type 0 where
  -- the name is not declared
  undeclared : Content
  -- an alias of the set whose name has this number
  alias_of : ℕ → Content
  -- a set, with its members
  set_of : List (List ℕ) → Content
  parameter_of : Entries extended.Extended → Content
  variable_of : VariableType → Entries Attributes → Content
  equation_of : Entries Attributes → Content
  -- a model, with the number of the model's status and that of the solver's, in this order
  model_with : ℕ → ℕ → Content

-- What is known of a name of the program. Its domain has, for each position, the number of the name
-- of the position's set, or None if the position admits any label. The content is what the name
-- denotes.
pub record Symbol : Type 0 where
  pub domain : List (Option ℕ)
  pub content : Content

-- The state of a run.
pub record State : Type 0 where
  -- the symbol of the name of each number
  pub symbols : List Symbol
  -- the values of the options
  pub settings : Settings

-- ---- names

-- the symbol of a name that nothing declares
abbrev pub no_symbol : Symbol
no_symbol = record { domain = []; content = undeclared }

-- the symbol of the name with this number; an undeclared one past the last name
abbrev pub symbol_at : State → ℕ → Symbol
symbol_at state name = unwrap_or (slice_get state.symbols name) no_symbol

-- the number of the name that a name stands for, by its content: that of the set of an alias, and
-- otherwise its own
abbrev pub alias_target : ℕ → Content → ℕ
alias_target name (alias_of base) = base
alias_target name content = name

-- the number of the name that a name stands for in a state: that of the set of an alias, and
-- otherwise its own
abbrev pub base_of : State → ℕ → ℕ
base_of state name = alias_target name (symbol_at state name).content

-- the symbol that the name of this number stands for: that of the set of an alias, and otherwise
-- the one of the name
abbrev pub symbol_of : State → ℕ → Symbol
symbol_of state name = symbol_at state (base_of state name)

-- the state in which the name of this number, or the set of which it is an alias, has this symbol
abbrev pub with_symbol : State → ℕ → Symbol → State
with_symbol state name symbol = record { symbols = set state.symbols (base_of state name) symbol; settings = state.settings }

-- ---- what is read

-- 0, the value of a parameter at a tuple without data
abbrev pub zero : extended.Extended
zero = extended.number (whole (pos 0))

-- whether two numbers are equal
abbrev pub same_number : Number → Number → Bool
same_number a b = eq_by_cmp number_cmp a b

-- whether a value differs from 0, the value of a parameter at a tuple without data
abbrev pub is_given : extended.Extended → Bool
is_given (extended.number x) = not (same_number x (whole (pos 0)))
is_given value = true

-- the attributes with no bounds, level 0 and marginal 0
abbrev pub unbounded : Attributes
unbounded = record { lower = None; upper = None; level = whole (pos 0); marginal = whole (pos 0) }

-- the attributes of an element of a variable without data: the bounds of the variable's type, level
-- 0 and marginal 0. `Discrete` is the type of a `binary` or `integer` variable and the like, an
-- error of the program; it sets no bounds
abbrev pub absent_variable : VariableType → Attributes
absent_variable Free = unbounded
absent_variable Positive = record { lower = Some (whole (pos 0)); upper = None; level = whole (pos 0); marginal = whole (pos 0) }
absent_variable Negative = record { lower = None; upper = Some (whole (pos 0)); level = whole (pos 0); marginal = whole (pos 0) }
absent_variable Discrete = unbounded

-- the attributes of an element without data: of a variable by its type; of an equation, and of any
-- other content, no bounds, level 0 and marginal 0
abbrev pub absent : Content → Attributes
absent (variable_of type entries) = absent_variable type
absent content = unbounded

-- whether two bounds are equal, or both infinite (None)
abbrev pub same_bound : Option Number → Option Number → Bool
same_bound None None = true
same_bound (Some a) (Some b) = same_number a b
same_bound a b = false

-- whether two elements have equal bounds, levels and marginals
abbrev pub same_attributes : Attributes → Attributes → Bool
same_attributes a b =
    same_bound a.lower b.lower && (same_bound a.upper b.upper && (same_number a.level b.level && same_number a.marginal b.marginal))

-- the members of a set; none of any other content
abbrev pub members_in : Content → List (List ℕ)
members_in (set_of members) = members
members_in content = []

-- the value of a parameter at a tuple: 0 if none is kept, and for any other content
abbrev pub value_in : Content → List ℕ → extended.Extended
value_in (parameter_of entries) t = unwrap_or (finite.get entries t) zero
value_in content t = zero

-- the attributes of a variable or an equation at a tuple: those of an element without data if none
-- are kept; for any other content no bounds, level 0 and marginal 0
abbrev pub attributes_in : Content → List ℕ → Attributes
attributes_in (variable_of type entries) t = unwrap_or (finite.get entries t) (absent_variable type)
attributes_in (equation_of entries) t = unwrap_or (finite.get entries t) unbounded
attributes_in content t = unbounded

-- whether a content is that of a variable or an equation
abbrev pub has_attributes : Content → Bool
has_attributes (variable_of type entries) = true
has_attributes (equation_of entries) = true
has_attributes content = false

-- the tuples with data: the members of a set, or the tuples at which a parameter, a variable or an
-- equation keeps an entry; none of any other content
abbrev pub given_in : Content → List (List ℕ)
given_in (set_of members) = members
given_in (parameter_of entries) = finite.keys entries
given_in (variable_of type entries) = finite.keys entries
given_in (equation_of entries) = finite.keys entries
given_in content = []

-- the number of a model's status and that of the solver's; 0 and 0 of any other content
abbrev pub statuses_in : Content → ℕ × ℕ
statuses_in (model_with model solver) = (model, solver)
statuses_in content = (0, 0)

-- the members of the set that this name denotes, itself or as an alias; none if it denotes no set
abbrev pub members_of : State → ℕ → List (List ℕ)
members_of state name = members_in (symbol_of state name).content

-- the value of the parameter of this name at a tuple: 0 if none is kept, or if the name is no
-- parameter
abbrev pub value_of : State → ℕ → List ℕ → extended.Extended
value_of state name t = value_in (symbol_of state name).content t

-- the attributes of the variable or equation of this name at a tuple: those of an element without
-- data if none are kept; if the name is neither, no bounds, level 0 and marginal 0
abbrev pub attributes_of : State → ℕ → List ℕ → Attributes
attributes_of state name t = attributes_in (symbol_of state name).content t

-- the tuples with data of this name: the members of the set that it denotes, itself or as an alias,
-- or the tuples at which a parameter, a variable or an equation keeps an entry; none of any other
-- name
abbrev pub given_of : State → ℕ → List (List ℕ)
given_of state name = given_in (symbol_of state name).content

-- whether there are data at a tuple: it is a member of the set, or the value of the parameter or
-- the attributes of the variable or equation there differ from those of an element without data;
-- false for any other content
abbrev pub differs_in : Content → List ℕ → Bool
differs_in (set_of members) t = has members t
differs_in (parameter_of entries) t = is_given (value_in (parameter_of entries) t)
differs_in content t = not (same_attributes (attributes_in content t) (absent content))

-- whether a value is within the limit of the size of numbers: its numerator and its denominator are
-- at most `limit` in magnitude (`fits`); true for an infinity and NA
abbrev pub value_fits : ℕ → extended.Extended → Bool
value_fits limit (extended.number x) = fits limit x
value_fits limit value = true

-- whether a bound is within the limit of the size of numbers: its numerator and its denominator are
-- at most `limit` in magnitude (`fits`); true for an infinite bound (None)
abbrev pub bound_fits : ℕ → Option Number → Bool
bound_fits limit None = true
bound_fits limit (Some x) = fits limit x

-- whether the finite bounds, the level and the marginal are within the limit of the size of
-- numbers: the numerator and the denominator of each are at most `limit` in magnitude (`fits`)
abbrev pub attributes_fit : ℕ → Attributes → Bool
attributes_fit limit a = bound_fits limit a.lower && (bound_fits limit a.upper && (fits limit a.level && fits limit a.marginal))

-- whether all numbers that a parameter, a variable or an equation has at a tuple are within the
-- limit of the size of numbers: the numerator and the denominator of each are at most `limit` in
-- magnitude; true for any other content
abbrev pub fits_at : ℕ → Content → List ℕ → Bool
fits_at limit (parameter_of entries) t = value_fits limit (value_in (parameter_of entries) t)
fits_at limit (variable_of type entries) t = attributes_fit limit (attributes_in (variable_of type entries) t)
fits_at limit (equation_of entries) t = attributes_fit limit (attributes_in (equation_of entries) t)
fits_at limit content t = true

-- each entry of the map is at a tuple of `arity` labels, and has a value for which `differs` is
-- true: it differs from the value at a tuple without data
abbrev pub AreDifferent : {X : Type 0} → (X → Bool) → ℕ → Entries X → Type 0
AreDifferent differs arity entries = (t : List ℕ) (x : _) → finite.get entries t ≡ Some x → (length t ≡ arity) × (differs x ≡ true)

-- The invariant of the content of a name with `arity` positions: all tuples have `arity` labels,
-- and no entry is kept that equals the one of an element without data.
abbrev pub IsNormalContent : ℕ → Content → Type 0
IsNormalContent arity (set_of members) = (t : List ℕ) → has members t ≡ true → length t ≡ arity
IsNormalContent arity (parameter_of entries) = AreDifferent is_given arity entries
IsNormalContent arity (variable_of type entries) = AreDifferent (λ a. not (same_attributes a (absent_variable type))) arity entries
IsNormalContent arity (equation_of entries) = AreDifferent (λ a. not (same_attributes a unbounded)) arity entries
IsNormalContent arity content = Unit {0}

-- ---- what is written

-- a map after a write at a tuple: the value is kept if `differs`, that is, if it differs from the
-- value without data, and otherwise the tuple has no entry
abbrev pub entries_after_write : {X : Type 0} → Bool → Entries X → List ℕ → X → Entries X
entries_after_write differs entries t x = if differs then finite.insert entries t x else finite.remove entries t

-- the map with the value, if there is one, inserted at a tuple
abbrev pub put_where : {X : Type 0} → Option X → Entries X → List ℕ → Entries X
put_where None entries t = entries
put_where (Some x) entries t = finite.insert entries t x

-- a set with a tuple inserted if `on`, otherwise removed; any other content stays
abbrev pub with_membership : Content → List ℕ → Bool → Content
with_membership (set_of members) t on = set_of (if on then inserted members t else removed members t)
with_membership content t on = content

-- a parameter's content after this value was written at a tuple, where a value of 0 leaves no entry
-- there; any other content is unchanged
abbrev pub with_value : Content → List ℕ → extended.Extended → Content
with_value (parameter_of entries) t x = parameter_of (entries_after_write (is_given x) entries t x)
with_value content t x = content

-- a variable or an equation with these attributes at a tuple; any other content stays
abbrev pub with_attributes : Content → List ℕ → Attributes → Content
with_attributes (variable_of type entries) t a = variable_of type (entries_after_write (not (same_attributes a (absent_variable type))) entries t a)
with_attributes (equation_of entries) t a = equation_of (entries_after_write (not (same_attributes a unbounded)) entries t a)
with_attributes content t a = content

-- a model with these statuses, its own and the solver's; any other content stays
abbrev pub with_statuses : Content → ℕ → ℕ → Content
with_statuses (model_with m s) model solver = model_with model solver
with_statuses content model solver = content

-- the symbol with this content
abbrev pub with_content : Symbol → Content → Symbol
with_content symbol content = record { domain = symbol.domain; content = content }

-- the symbol with this content if the tuple has as many labels as the symbol has positions,
-- otherwise the symbol unchanged
abbrev pub if_fits : Symbol → List ℕ → Content → Symbol
if_fits symbol t content = if length t == length symbol.domain then with_content symbol content else symbol

-- After a write one entry of one name has changed, and all else stays. A name of another kind and a
-- tuple of another length change nothing.

-- the state after a tuple was inserted into the set that this name denotes, itself or as an alias,
-- if `on`, otherwise removed from it; unchanged if the name denotes no set, or if the set's number
-- of positions is not the tuple's number of labels
abbrev pub after_membership : State → ℕ → List ℕ → Bool → State
after_membership state name t on =
    with_symbol state name (if_fits (symbol_of state name) t (with_membership (symbol_of state name).content t on))

-- the state after this value was written to the parameter of this name at a tuple; unchanged if the
-- name is no parameter, or has another number of positions than the tuple has labels
abbrev pub after_value : State → ℕ → List ℕ → extended.Extended → State
after_value state name t x = with_symbol state name (if_fits (symbol_of state name) t (with_value (symbol_of state name).content t x))

-- the state after these attributes were written to the variable or equation of this name at a
-- tuple; unchanged if the name is neither, or has another number of positions than the tuple has
-- labels
abbrev pub after_attributes : State → ℕ → List ℕ → Attributes → State
after_attributes state name t a =
    with_symbol state name (if_fits (symbol_of state name) t (with_attributes (symbol_of state name).content t a))

-- the state after the two statuses of the model of this name, its own and the solver's, were
-- written; unchanged if the name is no model
abbrev pub after_statuses : State → ℕ → ℕ → ℕ → State
after_statuses state name model solver =
    with_symbol state name (with_content (symbol_of state name) (with_statuses (symbol_of state name).content model solver))

-- the state with these settings
abbrev pub with_settings : State → Settings → State
with_settings state settings = record { symbols = state.symbols; settings = settings }

-- ---- attributes, one of them new

-- the attributes with this lower bound
abbrev pub with_lower : Attributes → Option Number → Attributes
with_lower a bound = record { lower = bound; upper = a.upper; level = a.level; marginal = a.marginal }

-- the attributes with this upper bound
abbrev pub with_upper : Attributes → Option Number → Attributes
with_upper a bound = record { lower = a.lower; upper = bound; level = a.level; marginal = a.marginal }

-- the attributes with this level
abbrev pub with_level : Attributes → Number → Attributes
with_level a x = record { lower = a.lower; upper = a.upper; level = x; marginal = a.marginal }

-- the attributes with this marginal
abbrev pub with_marginal : Attributes → Number → Attributes
with_marginal a x = record { lower = a.lower; upper = a.upper; level = a.level; marginal = x }
