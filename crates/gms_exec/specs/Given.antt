-- What an assignment assigns to elements, and the state after it (GAMS User's Guide, "Data
-- Manipulations with Parameters", "Variables", "Dynamic Sets"). Each element to which something is
-- assigned has that in place of its old value; all else stays.
use Rattle.std.specs.Prelude.{ℕ, pos, Bool, true, false, not, ◌==◌, List, [], ◌∷◌, ◌++◌, length, map, filter, flat_map, reverse, Option, Some, None, unwrap_or, option_map}
use Rattle.std.specs.List.{list_any}
use Rattle.std.specs.FinMap as finite
use Rattle.gq_number.specs.Number.{Number, whole}
use Rattle.gq_extended.specs.Extended.{Extended, number}
use Rattle.gms_ast.specs.declared.expression.Suffix.{Suffix}
use Rattle.gms_ast.specs.declared.expression.Suffix.TheVariants as suffix
use Rattle.gms_tuple.specs.TupleOrder.{tuple_cmp, same_tuple}
use Rattle.gms_store.specs.State.{State, Entries, Attributes, Content, set_of, parameter_of, variable_of, equation_of, Symbol, symbol_of, with_symbol, with_content, is_given, attributes_in, absent_variable, same_attributes, unbounded, with_lower, with_upper, with_level, with_marginal}

-- What an assignment assigns to an element.
pub data Given : Type 0 where
  -- whether it is a member of the set
  member : Bool → Given
  -- a value
  value_is : Extended → Given

-- elements, each with what is assigned to it, in the order of the assignment
abbrev pub AllGiven : Type 0
AllGiven = List (List ℕ × Given)

-- ---- sets

-- a list of the element with whether it becomes a member; empty if a value is assigned
abbrev pub member_given : List ℕ × Given → List (List ℕ × Bool)
member_given (t, member on) = (t, on) ∷ []
member_given (t, value_is x) = []

-- the elements to which an assignment to a set assigns, each with whether it becomes a member;
-- elements to which a value is assigned are not among them
abbrev pub members_given : AllGiven → List (List ℕ × Bool)
members_given all = flat_map member_given all

-- whether a tuple is one of these elements
abbrev pub is_given_among : List (List ℕ × Bool) → List ℕ → Bool
is_given_among given t = list_any (λ one. same_tuple one.0 t) given

-- the tuples in ascending order, without repetition
abbrev pub ordered_tuples : List (List ℕ) → List (List ℕ)
ordered_tuples tuples = finite.keys (finite.from_entries {R = tuple_cmp} (map (λ t. (t, true)) tuples))

-- The members of a set after some elements became members or ceased to be; the other members stay.
-- If an element occurs twice, which no accepted program does, the later counts.
abbrev pub with_members : List (List ℕ × Bool) → List (List ℕ) → List (List ℕ)
with_members given members =
    let last = finite.from_entries {R = tuple_cmp} (reverse given) in
    ordered_tuples (finite.keys (finite.retain_keys last (λ t. unwrap_or (finite.get last t) false)) ++ filter (λ t. not (is_given_among given t)) members)

-- ---- values

-- a list of the element with the value that is assigned to it; empty if membership is assigned
abbrev pub value_given : List ℕ × Given → List (List ℕ × Extended)
value_given (t, member on) = []
value_given (t, value_is x) = (t, x) ∷ []

-- the elements with the values that are assigned to them
abbrev pub values_given : AllGiven → List (List ℕ × Extended)
values_given all = flat_map value_given all

-- A map with some new entries: each of their tuples has the new value, and every other tuple its
-- old one. Only values for which `differs` is true are kept. Of two new entries at one tuple, which
-- no accepted program has, the later counts.
abbrev pub overlaid_entries : {X : Type 0} → (X → Bool) → List (List ℕ × X) → Entries X → Entries X
overlaid_entries differs new entries =
    let all = finite.from_entries {R = tuple_cmp} (reverse new ++ finite.entries entries) in
    finite.retain_keys all (λ t. unwrap_or (option_map differs (finite.get all t)) false)

-- ---- variables and equations

-- the number that a value is; 0 if the value is an infinity or NA, which is assigned to no level
-- and no marginal
abbrev pub number_of_value : Extended → Number
number_of_value (number x) = x
number_of_value value = whole (pos 0)

-- the bound that a value is; None, an infinite bound, if the value is no number
abbrev pub bound_of_value : Extended → Option Number
bound_of_value (number x) = Some x
bound_of_value value = None

-- the attributes with this number as both bounds and as level
abbrev pub fixed : Number → Attributes → Attributes
fixed x a = record { lower = Some x; upper = Some x; level = x; marginal = a.marginal }

-- the attributes of an element with the attributes `a`, after this value was assigned to the
-- attribute of this suffix, for `Fx` to both bounds and the level; unchanged if the suffix is that
-- of no attribute
abbrev pub with_attribute : Suffix → Attributes → Extended → Attributes
with_attribute suffix.Lo a value = with_lower a (bound_of_value value)
with_attribute suffix.Up a value = with_upper a (bound_of_value value)
with_attribute suffix.L a value = with_level a (number_of_value value)
with_attribute suffix.M a value = with_marginal a (number_of_value value)
with_attribute suffix.Fx a value = fixed (number_of_value value) a
with_attribute other a value = a

-- the elements to which values are assigned, each with its attributes afterwards: those that it has
-- in `content`, with its value assigned to the attribute of this suffix (`with_attribute`)
abbrev pub attributes_given : Suffix → Content → AllGiven → List (List ℕ × Attributes)
attributes_given suffix content all =
    map (λ given. (given.0, with_attribute suffix (attributes_in content given.0) given.1)) (values_given all)

-- ---- the state

-- the elements with the values that are assigned to a parameter; none if there is a suffix
abbrev pub plain_values : Suffix → AllGiven → List (List ℕ × Extended)
plain_values suffix.None all = values_given all
plain_values other all = []

-- the content of a name after an assignment to the name with this suffix; `all` has the elements,
-- each with what is assigned to it. Entries that equal those of an element without data are not
-- kept. A content that is no set, parameter, variable or equation is unchanged.
abbrev pub with_given : Suffix → AllGiven → Content → Content
with_given suffix all (set_of members) = set_of (with_members (members_given all) members)
with_given suffix all (parameter_of entries) = parameter_of (overlaid_entries is_given (plain_values suffix all) entries)
with_given suffix all (variable_of type entries) =
    variable_of type (overlaid_entries (λ a. not (same_attributes a (absent_variable type))) (attributes_given suffix (variable_of type entries) all) entries)
with_given suffix all (equation_of entries) =
    equation_of (overlaid_entries (λ a. not (same_attributes a unbounded)) (attributes_given suffix (equation_of entries) all) entries)
with_given suffix all content = content

-- the elements that have as many labels as the name has positions; in an accepted program all
-- elements do
abbrev pub fitting : Symbol → AllGiven → AllGiven
fitting symbol all = filter (λ given. length given.0 == length symbol.domain) all

-- the state after an assignment of `all` to elements of the name, with this suffix: the entries of
-- those elements change that have as many labels as the name has positions, and all else stays
abbrev pub after_given : Suffix → ℕ → AllGiven → State → State
after_given suffix name all state =
    let symbol = symbol_of state name in
    with_symbol state name (with_content symbol (with_given suffix (fitting symbol all) symbol.content))
