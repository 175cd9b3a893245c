-- The state in which elements have what they are given: as one write after another.
use Rattle.gms_store.proofs.Maps.{same_map}
use Rattle.gms_exec.proofs.Assigned.{following-given}
use Rattle.std.proofs.Common.{◌≡◌, ℕ, Bool, true, false, not, ◌&&◌, ◌==◌, List, [], ◌∷◌, ◌++◌, length, refl, sym, ap, ◌∙◌, cond, Option, Some, None, unwrap_or, pos}
use Rattle.std.specs.declared.cmp.Ordering.{Ordering}
use Rattle.std.specs.declared.cmp.Ordering.TheVariants.{Less, Equal, Greater}
use Rattle.std.specs.Ordering.{is_eq, eq_by_cmp}
use Rattle.std.specs.FinMap as finite
use Rattle.std.proofs.lemmas.Bool.{and_parts, not-false}
use Rattle.std.proofs.lemmas.Cmp.{tied_itself}
use Rattle.std.proofs.lemmas.Grind.{flat_map-append}
use Rattle.std.proofs.lemmas.List.Elements.{filter-append}
use Rattle.gq_number.specs.Number.{Number, whole}
use Rattle.gq_number.specs.Order.{number_cmp}
use Rattle.gq_number.proofs.Compares.{number_cmp_decides, number_cmp_total}
use Rattle.gq_extended.specs.Extended as extended
use Rattle.gms_ast.specs.declared.expression.Suffix.{Suffix}
use Rattle.gms_ast.specs.declared.expression.Suffix.TheVariants as suffix
use Rattle.gms_tuple.specs.TupleOrder.{tuple_cmp, IsOrdered}
use Rattle.gms_tuple.specs.OrderLaws.{tuple_cmp-total}
use Rattle.gms_tuple.specs.TupleSet.{has}
use Rattle.gms_tuple.proofs.Ordered.{same_tuple_refl}
use Rattle.gms_store.specs.State.{State, Entries, Attributes, Content, undeclared, alias_of, set_of, parameter_of, variable_of, equation_of, model_with, Symbol, symbol_of, alias_target, with_content, if_fits, entries_after_write, with_value, with_attributes, with_membership, is_given, same_number, same_bound, same_attributes, absent_variable, unbounded, given_in, differs_in, attributes_in, after_value, after_attributes, after_membership, attributes_of}
use Rattle.gms_store.specs.State as state_words
use Rattle.gms_exec.specs.Given.{Given, member, value_is, AllGiven, members_given, values_given, plain_values, overlaid_entries, with_members, number_of_value, bound_of_value, fixed, with_attribute, with_given, fitting, after_given}
use Rattle.gms_exec.proofs.Changes.{changed, changed-same, changed-as, changed-twice}
use Rattle.gms_exec.proofs.MemberSets.{with_members-append, with_members-none, with_members-one}
use Rattle.gms_exec.proofs.Overlays.{same-tie, overlaid-append, overlaid-none, overlaid-one, overlaid-same, all-kept, IsAllKept, made_over, made-append}

-- ---- what is the same

number_equal : (o : Ordering) → not (is_eq o) ≡ false → o ≡ Equal
number_equal Less e = absurd cc
number_equal Equal e = refl
number_equal Greater e = absurd cc

same-number : (a b : Number) → same_number a b ≡ true → a ≡ b
same-number a b e = (number_cmp_decides a b).1.0 (number_equal (number_cmp a b) (ap not e))

same-bound : (a b : Option Number) → same_bound a b ≡ true → a ≡ b
same-bound None None e = refl
same-bound None (Some b) e = absurd cc
same-bound (Some a) None e = absurd cc
same-bound (Some a) (Some b) e = ap Some (same-number a b e)

same-attributes : (a b : Attributes) → same_attributes a b ≡ true → a ≡ b
same-attributes a b e =
    let first = and_parts (same_bound a.lower b.lower) (same_bound a.upper b.upper && (same_number a.level b.level && same_number a.marginal b.marginal)) e in
    let second = and_parts (same_bound a.upper b.upper) (same_number a.level b.level && same_number a.marginal b.marginal) first.1 in
    let third = and_parts (same_number a.level b.level) (same_number a.marginal b.marginal) second.1 in
    λ i. record { lower = same-bound a.lower b.lower first.0 i; upper = same-bound a.upper b.upper second.0 i; level = same-number a.level b.level third.0 i; marginal = same-number a.marginal b.marginal third.1 i }

same_number-refl : (x : Number) → same_number x x ≡ true
same_number-refl x = ap is_eq (tied_itself number_cmp_total x)

same_bound-refl : (x : Option Number) → same_bound x x ≡ true
same_bound-refl None = refl
same_bound-refl (Some x) = same_number-refl x

same_attributes-refl : (a : Attributes) → same_attributes a a ≡ true
same_attributes-refl a = rw (same_bound-refl a.lower, same_bound-refl a.upper, same_number-refl a.level, same_number-refl a.marginal) refl

-- whether attributes differ from absent ones
abbrev differs_from : Attributes → Attributes → Bool
differs_from absent a = not (same_attributes a absent)

no_difference : (a : Attributes) → differs_from a a ≡ false
no_difference a = ap not (same_attributes-refl a)

nothing-differs : (absent a : Attributes) → differs_from absent a ≡ false → absent ≡ a
nothing-differs absent a e = sym (same-attributes a absent (not-false (same_attributes a absent) e))

zero_is_none : is_given state_words.zero ≡ false
zero_is_none = ap not (same_number-refl (whole (pos 0)))

-- of two values that an element is given the later counts
with_attribute-over : (s : Suffix) (a : Attributes) (x y : extended.Extended) → with_attribute s (with_attribute s a x) y ≡ with_attribute s a y
with_attribute-over suffix.None a x y = refl
with_attribute-over suffix.Lo a x y = refl
with_attribute-over suffix.Up a x y = refl
with_attribute-over suffix.L a x y = refl
with_attribute-over suffix.M a x y = refl
with_attribute-over suffix.Fx a x y = refl
with_attribute-over suffix.ModelStat a x y = refl
with_attribute-over suffix.SolveStat a x y = refl

-- ---- in sequence

values_given-append : (one other : AllGiven) → values_given (one ++ other) ≡ values_given one ++ values_given other
values_given-append one other = flat_map-append _ one other

plain_values-append : (s : Suffix) (one other : AllGiven) → plain_values s (one ++ other) ≡ plain_values s one ++ plain_values s other
plain_values-append suffix.None one other = values_given-append one other
plain_values-append suffix.Lo one other = refl
plain_values-append suffix.Up one other = refl
plain_values-append suffix.L one other = refl
plain_values-append suffix.M one other = refl
plain_values-append suffix.Fx one other = refl
plain_values-append suffix.ModelStat one other = refl
plain_values-append suffix.SolveStat one other = refl

with_given-append : (s : Suffix) (one other : AllGiven) (content : Content) → with_given s other (with_given s one content) ≡ with_given s (one ++ other) content
with_given-append s one other undeclared = refl
with_given-append s one other (alias_of base) = refl
with_given-append s one other (set_of members) =
    ap set_of (with_members-append (members_given one) (members_given other) members ∙ ap (λ given. with_members given members) (sym (flat_map-append _ one other)))
with_given-append s one other (parameter_of entries) =
    ap parameter_of (overlaid-append is_given (plain_values s one) (plain_values s other) entries ∙ ap (λ new. overlaid_entries is_given new entries) (sym (plain_values-append s one other)))
with_given-append s one other (variable_of type entries) =
    ap (variable_of type) (made-append (differs_from (absent_variable type)) (absent_variable type) (nothing-differs (absent_variable type)) (with_attribute s) (with_attribute-over s) (values_given one) (values_given other) entries ∙ ap (λ vs. overlaid_entries (differs_from (absent_variable type)) (made_over (differs_from (absent_variable type)) (absent_variable type) (nothing-differs (absent_variable type)) (with_attribute s) (with_attribute-over s) entries vs) entries) (sym (values_given-append one other)))
with_given-append s one other (equation_of entries) =
    ap equation_of (made-append (differs_from unbounded) unbounded (nothing-differs unbounded) (with_attribute s) (with_attribute-over s) (values_given one) (values_given other) entries ∙ ap (λ vs. overlaid_entries (differs_from unbounded) (made_over (differs_from unbounded) unbounded (nothing-differs unbounded) (with_attribute s) (with_attribute-over s) entries vs) entries) (sym (values_given-append one other)))
with_given-append s one other (model_with model solver) = refl

-- what a name is where its elements are given something
abbrev given_to : Suffix → AllGiven → Symbol → Symbol
given_to s all symbol = with_content symbol (with_given s (fitting symbol all) symbol.content)

pub after_given-append : (s : Suffix) (name : ℕ) (one other : AllGiven) (state : State) → after_given s name other (after_given s name one state) ≡ after_given s name (one ++ other) state
after_given-append s name one other state =
    let symbol : Symbol = symbol_of state name in
    changed-twice (given_to s one) (λ symbol n. following-given s (fitting symbol one) symbol.content n) name state (given_to s other)
    ∙ ap (λ content. state_words.with_symbol state name (with_content symbol content)) (with_given-append s (fitting symbol one) (fitting symbol other) symbol.content ∙ ap (λ all. with_given s all symbol.content) (sym (filter-append _ one other)))

-- ---- one alone

-- a content whose stored entries all differ from an absent one
pub record IsTidy (content : Content) : Type 0 where
  pub differs : (t : List ℕ) → has (given_in content) t ≡ differs_in content t
  pub is_ordered : IsOrdered (given_in content)

parameter-kept : (entries : Entries extended.Extended) → IsTidy (parameter_of entries) → IsAllKept is_given entries
parameter-kept entries tidy = all-kept is_given state_words.zero zero_is_none entries tidy.differs

variable-kept : (type : _) (entries : Entries Attributes) → IsTidy (variable_of type entries) → IsAllKept (differs_from (absent_variable type)) entries
variable-kept type entries tidy =
    all-kept (differs_from (absent_variable type)) (absent_variable type) (no_difference (absent_variable type)) entries tidy.differs

equation-kept : (entries : Entries Attributes) → IsTidy (equation_of entries) → IsAllKept (differs_from unbounded) entries
equation-kept entries tidy = all-kept (differs_from unbounded) unbounded (no_difference unbounded) entries tidy.differs

plain-none : (s : Suffix) → plain_values s [] ≡ []
plain-none suffix.None = refl
plain-none suffix.Lo = refl
plain-none suffix.Up = refl
plain-none suffix.L = refl
plain-none suffix.M = refl
plain-none suffix.Fx = refl
plain-none suffix.ModelStat = refl
plain-none suffix.SolveStat = refl

-- where nothing is given nothing changes
with_given-none : (s : Suffix) (content : Content) → IsTidy content → with_given s [] content ≡ content
with_given-none s undeclared tidy = refl
with_given-none s (alias_of base) tidy = refl
with_given-none s (set_of members) tidy = ap set_of (with_members-none members tidy.is_ordered)
with_given-none s (parameter_of entries) tidy =
    ap parameter_of (ap (λ new. overlaid_entries is_given new entries) (plain-none s) ∙ overlaid-none is_given entries (parameter-kept entries tidy))
with_given-none s (variable_of type entries) tidy =
    ap (variable_of type) (overlaid-none (differs_from (absent_variable type)) entries (variable-kept type entries tidy))
with_given-none s (equation_of entries) tidy = ap equation_of (overlaid-none (differs_from unbounded) entries (equation-kept entries tidy))
with_given-none s (model_with model solver) tidy = refl

pub after_given-none : (s : Suffix) (name : ℕ) (state : State) → IsTidy (symbol_of state name).content → after_given s name [] state ≡ state
after_given-none s name state tidy =
    changed-same (given_to s []) name state (ap (with_content (symbol_of state name)) (with_given-none s (symbol_of state name).content tidy))

-- one element that is given something, by its effect on the content
module _ (s : Suffix) (given : List ℕ × Given) (change : Content → Content) (does : (content : Content) → IsTidy content → with_given s (given ∷ []) content ≡ change content) where
  pub after_given-one : (name : ℕ) (state : State) → IsTidy (symbol_of state name).content → after_given s name (given ∷ []) state ≡ changed (λ symbol. if_fits symbol given.0 (change symbol.content)) name state
  after_given-one name state tidy =
      changed-as (given_to s (given ∷ [])) (λ symbol. if_fits symbol given.0 (change symbol.content)) name state (by (symbol_of state name) tidy (length given.0 == length (symbol_of state name).domain))
    where
      by : (symbol : Symbol) → IsTidy symbol.content → (b : Bool) → with_content symbol (with_given s (cond b (given ∷ []) []) symbol.content) ≡ cond b (with_content symbol (change symbol.content)) symbol
      by symbol tidy true = ap (with_content symbol) (does symbol.content tidy)
      by symbol tidy false = ap (with_content symbol) (with_given-none s symbol.content tidy)

-- a member
member-does : (s : Suffix) (t : List ℕ) (on : Bool) (content : Content) → IsTidy content → with_given s ((t, member on) ∷ []) content ≡ with_membership content t on
member-does s t on undeclared tidy = refl
member-does s t on (alias_of base) tidy = refl
member-does s t on (set_of members) tidy = ap set_of (with_members-one t on members tidy.is_ordered)
member-does s t on (parameter_of entries) tidy =
    ap parameter_of (ap (λ new. overlaid_entries is_given new entries) (none s) ∙ overlaid-none is_given entries (parameter-kept entries tidy))
  where
    none : (s : Suffix) → plain_values s ((t, member on) ∷ []) ≡ []
    none suffix.None = refl
    none suffix.Lo = refl
    none suffix.Up = refl
    none suffix.L = refl
    none suffix.M = refl
    none suffix.Fx = refl
    none suffix.ModelStat = refl
    none suffix.SolveStat = refl
member-does s t on (variable_of type entries) tidy =
    ap (variable_of type) (overlaid-none (differs_from (absent_variable type)) entries (variable-kept type entries tidy))
member-does s t on (equation_of entries) tidy = ap equation_of (overlaid-none (differs_from unbounded) entries (equation-kept entries tidy))
member-does s t on (model_with model solver) tidy = refl

pub member-given : (s : Suffix) (name : ℕ) (t : List ℕ) (on : Bool) (state : State) → IsTidy (symbol_of state name).content → after_membership state name t on ≡ after_given s name ((t, member on) ∷ []) state
member-given s name t on state tidy = sym (after_given-one s (t, member on) (λ content. with_membership content t on) (member-does s t on) name state tidy)

-- a value of a parameter
value-does : (t : List ℕ) (x : extended.Extended) (content : Content) → IsTidy content → with_given suffix.None ((t, value_is x) ∷ []) content ≡ with_value content t x
value-does t x undeclared tidy = refl
value-does t x (alias_of base) tidy = refl
value-does t x (set_of members) tidy = ap set_of (with_members-none members tidy.is_ordered)
value-does t x (parameter_of entries) tidy = ap parameter_of (overlaid-one is_given t x entries (parameter-kept entries tidy))
value-does t x (variable_of type entries) tidy =
    ap (variable_of type) (overlaid-same (differs_from (absent_variable type)) (absent_variable type) (no_difference (absent_variable type)) t entries (variable-kept type entries tidy))
value-does t x (equation_of entries) tidy =
    ap equation_of (overlaid-same (differs_from unbounded) unbounded (no_difference unbounded) t entries (equation-kept entries tidy))
value-does t x (model_with model solver) tidy = refl

pub value-given : (name : ℕ) (t : List ℕ) (x : extended.Extended) (state : State) → IsTidy (symbol_of state name).content → after_value state name t x ≡ after_given suffix.None name ((t, value_is x) ∷ []) state
value-given name t x state tidy = sym (after_given-one suffix.None (t, value_is x) (λ content. with_value content t x) (value-does t x) name state tidy)

-- a status, which no assignment gives
status-does : (s : Suffix) → ((entries : Entries extended.Extended) (t : List ℕ) (x : extended.Extended) → plain_values s ((t, value_is x) ∷ []) ≡ []) → ((a : Attributes) (x : extended.Extended) → with_attribute s a x ≡ a) → (t : List ℕ) (x : extended.Extended) (content : Content) → IsTidy content → with_given s ((t, value_is x) ∷ []) content ≡ content
status-does s none same t x undeclared tidy = refl
status-does s none same t x (alias_of base) tidy = refl
status-does s none same t x (set_of members) tidy = ap set_of (with_members-none members tidy.is_ordered)
status-does s none same t x (parameter_of entries) tidy =
    ap parameter_of (ap (λ new. overlaid_entries is_given new entries) (none entries t x) ∙ overlaid-none is_given entries (parameter-kept entries tidy))
status-does s none same t x (variable_of type entries) tidy =
    ap (variable_of type) (ap (λ a. overlaid_entries (differs_from (absent_variable type)) ((t, a) ∷ []) entries) (same (attributes_in (variable_of type entries) t) x) ∙ overlaid-same (differs_from (absent_variable type)) (absent_variable type) (no_difference (absent_variable type)) t entries (variable-kept type entries tidy))
status-does s none same t x (equation_of entries) tidy =
    ap equation_of (ap (λ a. overlaid_entries (differs_from unbounded) ((t, a) ∷ []) entries) (same (attributes_in (equation_of entries) t) x) ∙ overlaid-same (differs_from unbounded) unbounded (no_difference unbounded) t entries (equation-kept entries tidy))
status-does s none same t x (model_with model solver) tidy = refl

status-given : (s : Suffix) → ((entries : Entries extended.Extended) (t : List ℕ) (x : extended.Extended) → plain_values s ((t, value_is x) ∷ []) ≡ []) → ((a : Attributes) (x : extended.Extended) → with_attribute s a x ≡ a) → (name : ℕ) (t : List ℕ) (x : extended.Extended) (state : State) → IsTidy (symbol_of state name).content → state ≡ after_given s name ((t, value_is x) ∷ []) state
status-given s none same name t x state tidy =
    sym (after_given-one s (t, value_is x) (λ content. content) (status-does s none same t x) name state tidy ∙ changed-same (λ symbol. if_fits symbol t symbol.content) name state (by (symbol_of state name) (length t == length (symbol_of state name).domain)))
  where
    by : (symbol : Symbol) (b : Bool) → cond b (with_content symbol symbol.content) symbol ≡ symbol
    by symbol true = refl
    by symbol false = refl

pub model-given : (name : ℕ) (t : List ℕ) (x : extended.Extended) (state : State) → IsTidy (symbol_of state name).content → state ≡ after_given suffix.ModelStat name ((t, value_is x) ∷ []) state
model-given = status-given suffix.ModelStat (λ entries t x. refl) (λ a x. refl)

pub solver-given : (name : ℕ) (t : List ℕ) (x : extended.Extended) (state : State) → IsTidy (symbol_of state name).content → state ≡ after_given suffix.SolveStat name ((t, value_is x) ∷ []) state
solver-given = status-given suffix.SolveStat (λ entries t x. refl) (λ a x. refl)

-- ---- attributes

-- a content with changed attributes at a tuple
abbrev attributes_by : (Attributes → Attributes) → List ℕ → Content → Content
attributes_by f t content = with_attributes content t (f (attributes_in content t))

attribute-does : (s : Suffix) → ((entries : Entries extended.Extended) (t : List ℕ) (x : extended.Extended) → plain_values s ((t, value_is x) ∷ []) ≡ []) → (t : List ℕ) (x : extended.Extended) (content : Content) → IsTidy content → with_given s ((t, value_is x) ∷ []) content ≡ attributes_by (λ a. with_attribute s a x) t content
attribute-does s none t x undeclared tidy = refl
attribute-does s none t x (alias_of base) tidy = refl
attribute-does s none t x (set_of members) tidy = ap set_of (with_members-none members tidy.is_ordered)
attribute-does s none t x (parameter_of entries) tidy =
    ap parameter_of (ap (λ new. overlaid_entries is_given new entries) (none entries t x) ∙ overlaid-none is_given entries (parameter-kept entries tidy))
attribute-does s none t x (variable_of type entries) tidy =
    ap (variable_of type) (overlaid-one (differs_from (absent_variable type)) t (with_attribute s (attributes_in (variable_of type entries) t) x) entries (variable-kept type entries tidy))
attribute-does s none t x (equation_of entries) tidy =
    ap equation_of (overlaid-one (differs_from unbounded) t (with_attribute s (attributes_in (equation_of entries) t) x) entries (equation-kept entries tidy))
attribute-does s none t x (model_with model solver) tidy = refl

-- the state with changed attributes of an element
abbrev state_by : (Attributes → Attributes) → List ℕ → ℕ → State → State
state_by f t name state = after_attributes state name t (f (attributes_of state name t))

attribute-given : (s : Suffix) → ((entries : Entries extended.Extended) (t : List ℕ) (x : extended.Extended) → plain_values s ((t, value_is x) ∷ []) ≡ []) → (name : ℕ) (t : List ℕ) (x : extended.Extended) (state : State) → IsTidy (symbol_of state name).content → state_by (λ a. with_attribute s a x) t name state ≡ after_given s name ((t, value_is x) ∷ []) state
attribute-given s none name t x state tidy =
    sym (after_given-one s (t, value_is x) (attributes_by (λ a. with_attribute s a x) t) (attribute-does s none t x) name state tidy)

pub lower-given : (name : ℕ) (t : List ℕ) (x : extended.Extended) (state : State) → IsTidy (symbol_of state name).content → after_attributes state name t (state_words.with_lower (attributes_of state name t) (bound_of_value x)) ≡ after_given suffix.Lo name ((t, value_is x) ∷ []) state
lower-given = attribute-given suffix.Lo (λ entries t x. refl)

pub upper-given : (name : ℕ) (t : List ℕ) (x : extended.Extended) (state : State) → IsTidy (symbol_of state name).content → after_attributes state name t (state_words.with_upper (attributes_of state name t) (bound_of_value x)) ≡ after_given suffix.Up name ((t, value_is x) ∷ []) state
upper-given = attribute-given suffix.Up (λ entries t x. refl)

pub level-given : (name : ℕ) (t : List ℕ) (x : extended.Extended) (state : State) → IsTidy (symbol_of state name).content → after_attributes state name t (state_words.with_level (attributes_of state name t) (number_of_value x)) ≡ after_given suffix.L name ((t, value_is x) ∷ []) state
level-given = attribute-given suffix.L (λ entries t x. refl)

pub marginal-given : (name : ℕ) (t : List ℕ) (x : extended.Extended) (state : State) → IsTidy (symbol_of state name).content → after_attributes state name t (state_words.with_marginal (attributes_of state name t) (number_of_value x)) ≡ after_given suffix.M name ((t, value_is x) ∷ []) state
marginal-given = attribute-given suffix.M (λ entries t x. refl)

-- what a map has after a write
get-after : {X : Type 0} (b : Bool) (m : Entries X) (t : List ℕ) (x : X) (q : List ℕ) → finite.get (entries_after_write b m t x) q ≡ cond (eq_by_cmp tuple_cmp q t) (cond b (Some x) None) (finite.get m q)
get-after true m t x q = finite.get-insert tuple_cmp-total m t x q
get-after false m t x q = finite.get-remove tuple_cmp-total m t q

-- a write of an entry after another is the second alone
write-twice : {X : Type 0} (b d : Bool) (m : Entries X) (t : List ℕ) (x y : X) → entries_after_write d (entries_after_write b m t x) t y ≡ entries_after_write d m t y
write-twice {X} b d m t x y = same_map (entries_after_write d (entries_after_write b m t x) t y) (entries_after_write d m t y) (λ q.
    get-after d (entries_after_write b m t x) t y q
    ∙ ap (cond (eq_by_cmp tuple_cmp q t) (cond d (Some y) None)) (get-after b m t x q)
    ∙ again (eq_by_cmp tuple_cmp q t) (cond d (Some y) None) (cond b (Some x) None) (finite.get m q)
    ∙ sym (get-after d m t y q))
  where
    again : (e : Bool) (o p r : Option X) → cond e o (cond e p r) ≡ cond e o r
    again true o p r = refl
    again false o p r = refl

-- what is read where an entry was written
read-written : {X : Type 0} (differs : X → Bool) (absent : X) (nothing : (x : X) → differs x ≡ false → absent ≡ x) (m : Entries X) (t : List ℕ) (x : X) → unwrap_or (finite.get (entries_after_write (differs x) m t x) t) absent ≡ x
read-written {X} differs absent nothing m t x =
    ap (λ o. unwrap_or o absent) (get-after (differs x) m t x t ∙ ap (λ b. cond b (cond (differs x) (Some x) None) (finite.get m t)) (sym (same-tie t t) ∙ same_tuple_refl t)) ∙ by (differs x) refl
  where
    by : (b : Bool) → differs x ≡ b → unwrap_or (cond b (Some x) None) absent ≡ x
    by true e = refl
    by false e = nothing x e

-- attributes that are changed, and then changed once more
attributes-twice : (f g : Attributes → Attributes) (t : List ℕ) (content : Content) → attributes_by g t (attributes_by f t content) ≡ attributes_by (λ a. g (f a)) t content
attributes-twice f g t undeclared = refl
attributes-twice f g t (alias_of base) = refl
attributes-twice f g t (set_of members) = refl
attributes-twice f g t (parameter_of entries) = refl
attributes-twice f g t (variable_of type entries) =
    let differs : Attributes → Bool = differs_from (absent_variable type) in
    let a : Attributes = f (attributes_in (variable_of type entries) t) in
    ap (λ z. variable_of type (entries_after_write (differs (g z)) (entries_after_write (differs a) entries t a) t (g z))) (read-written (differs_from (absent_variable type)) (absent_variable type) (nothing-differs (absent_variable type)) entries t a)
    ∙ ap (variable_of type) (write-twice (differs a) (differs (g a)) entries t a (g a))
attributes-twice f g t (equation_of entries) =
    let differs : Attributes → Bool = differs_from unbounded in
    let a : Attributes = f (attributes_in (equation_of entries) t) in
    ap (λ z. equation_of (entries_after_write (differs (g z)) (entries_after_write (differs a) entries t a) t (g z))) (read-written (differs_from unbounded) unbounded (nothing-differs unbounded) entries t a)
    ∙ ap equation_of (write-twice (differs a) (differs (g a)) entries t a (g a))
attributes-twice f g t (model_with model solver) = refl

following-attributes : (f : Attributes → Attributes) (t : List ℕ) (content : Content) (n : ℕ) → alias_target n (attributes_by f t content) ≡ alias_target n content
following-attributes f t undeclared n = refl
following-attributes f t (alias_of base) n = refl
following-attributes f t (set_of members) n = refl
following-attributes f t (parameter_of entries) n = refl
following-attributes f t (variable_of type entries) n = refl
following-attributes f t (equation_of entries) n = refl
following-attributes f t (model_with model solver) n = refl

-- a name whose attributes are changed at a tuple that fits
abbrev symbol_by : (Attributes → Attributes) → List ℕ → Symbol → Symbol
symbol_by f t symbol = if_fits symbol t (attributes_by f t symbol.content)

following-symbol_by : (f : Attributes → Attributes) (t : List ℕ) (symbol : Symbol) (n : ℕ) → alias_target n (symbol_by f t symbol).content ≡ alias_target n symbol.content
following-symbol_by f t symbol n = by (length t == length symbol.domain)
  where
    by : (b : Bool) → alias_target n (cond b (with_content symbol (attributes_by f t symbol.content)) symbol).content ≡ alias_target n symbol.content
    by true = following-attributes f t symbol.content n
    by false = refl

symbol-twice : (f g : Attributes → Attributes) (t : List ℕ) (symbol : Symbol) → symbol_by g t (symbol_by f t symbol) ≡ symbol_by (λ a. g (f a)) t symbol
symbol-twice f g t symbol = by (length t == length symbol.domain) refl
  where
    by : (b : Bool) → (length t == length symbol.domain) ≡ b → symbol_by g t (cond b (with_content symbol (attributes_by f t symbol.content)) symbol) ≡ cond b (with_content symbol (attributes_by (λ a. g (f a)) t symbol.content)) symbol
    by true e =
        ap (λ b. cond b (with_content symbol (attributes_by g t (attributes_by f t symbol.content))) (with_content symbol (attributes_by f t symbol.content))) e
        ∙ ap (with_content symbol) (attributes-twice f g t symbol.content)
    by false e = ap (λ b. cond b (with_content symbol (attributes_by g t symbol.content)) symbol) e

state-twice : (f g : Attributes → Attributes) (t : List ℕ) (name : ℕ) (state : State) → state_by g t name (state_by f t name state) ≡ state_by (λ a. g (f a)) t name state
state-twice f g t name state =
    changed-twice (symbol_by f t) (following-symbol_by f t) name state (symbol_by g t) ∙ changed-as (λ symbol. symbol_by g t (symbol_by f t symbol)) (symbol_by (λ a. g (f a)) t) name state (symbol-twice f g t (symbol_of state name))

-- both bounds and the level, one after the other
pub fixed-given : (name : ℕ) (t : List ℕ) (x : extended.Extended) (n : Number) (state lower upper level : State) → IsTidy (symbol_of state name).content → n ≡ number_of_value x → lower ≡ after_attributes state name t (state_words.with_lower (attributes_of state name t) (Some n)) → upper ≡ after_attributes lower name t (state_words.with_upper (attributes_of lower name t) (Some n)) → level ≡ after_attributes upper name t (state_words.with_level (attributes_of upper name t) n) → level ≡ after_given suffix.Fx name ((t, value_is x) ∷ []) state
fixed-given name t x n state lower upper level tidy is one two three =
    let low : Attributes → Attributes = λ a. state_words.with_lower a (Some n) in
    let up : Attributes → Attributes = λ a. state_words.with_upper a (Some n) in
    let at : Attributes → Attributes = λ a. state_words.with_level a n in
    three
    ∙ ap (state_by at t name) (two ∙ ap (state_by up t name) one ∙ state-twice low up t name state)
    ∙ state-twice (λ a. up (low a)) at t name state
    ∙ ap (λ n. state_by (fixed n) t name state) is
    ∙ attribute-given suffix.Fx (λ entries t x. refl) name t x state tidy
