-- The content of each name after elements of one name were assigned, and what is read there.
use Rattle.std.proofs.Common.{◌≡◌, ℕ, ◌<◌, true, false, not, ◌&&◌, ◌==◌, List, length, refl, sym, ap, ◌∙◌, Option, Some, None, unwrap_or, option_map, pos}
use Rattle.std.specs.declared.cmp.Ordering.{Ordering}
use Rattle.std.specs.declared.cmp.Ordering.TheVariants.{Less, Equal, Greater}
use Rattle.std.specs.Ordering.{is_eq}
use Rattle.std.specs.List.{All}
use Rattle.std.proofs.lemmas.Bool.{and_parts, eq-eqb, not-false}
use Rattle.std.proofs.lemmas.List.Elements.{All-weaker}
use Rattle.gq_number.specs.Number.{Number, whole}
use Rattle.gq_number.specs.Order.{number_cmp}
use Rattle.gq_number.proofs.Compares.{number_cmp_decides}
use Rattle.gq_extended.specs.Extended as extended
use Rattle.gms_ast.specs.declared.expression.Suffix.{Suffix}
use Rattle.gms_ast.specs.declared.expression.Suffix.TheVariants as suffix
use Rattle.gms_tuple.specs.TupleSet.{has}
use Rattle.gms_tuple.proofs.Ordered.{filter_all}
use Rattle.gms_store.specs.State.{Entries, Attributes, Content, undeclared, alias_of, set_of, parameter_of, variable_of, equation_of, model_with, Symbol, State, alias_target, base_of, symbol_of, with_content, value_in, attributes_in, members_in, value_of, attributes_of, members_of, is_given, has_attributes, same_number, same_bound, same_attributes, absent_variable, unbounded}
use Rattle.gms_store.specs.State as state_words
use Rattle.gms_exec.specs.Given.{Given, AllGiven, values_given, members_given, with_attribute, attributes_given, with_given, fitting, after_given}
use Rattle.gms_exec.specs.Reads.{last_at, given_value, membership_at, attributes_with}
use Rattle.gms_exec.proofs.Symbols.{symbol-here, symbol-elsewhere}
use Rattle.gms_exec.proofs.Newest.{read-overlaid, last-made, has-with_members}

-- ---- what differs from nothing

equal-from_same : (o : Ordering) → not (is_eq o) ≡ false → o ≡ Equal
equal-from_same Less e = absurd cc
equal-from_same Equal e = refl
equal-from_same Greater e = absurd cc

number-same : (a b : Number) → same_number a b ≡ true → a ≡ b
number-same a b e = (number_cmp_decides a b).1.0 (equal-from_same (number_cmp a b) (ap not e))

bound-same : (a b : Option Number) → same_bound a b ≡ true → a ≡ b
bound-same None None e = refl
bound-same None (Some b) e = absurd cc
bound-same (Some a) None e = absurd cc
bound-same (Some a) (Some b) e = ap Some (number-same a b e)

attributes-same : (a b : Attributes) → same_attributes a b ≡ true → a ≡ b
attributes-same a b e =
    let first = and_parts (same_bound a.lower b.lower) (same_bound a.upper b.upper && (same_number a.level b.level && same_number a.marginal b.marginal)) e in
    let second = and_parts (same_bound a.upper b.upper) (same_number a.level b.level && same_number a.marginal b.marginal) first.1 in
    let third = and_parts (same_number a.level b.level) (same_number a.marginal b.marginal) second.1 in
    λ i. record { lower = bound-same a.lower b.lower first.0 i; upper = bound-same a.upper b.upper second.0 i; level = number-same a.level b.level third.0 i; marginal = number-same a.marginal b.marginal third.1 i }

pub zero-not_given : (x : extended.Extended) → is_given x ≡ false → state_words.zero ≡ x
zero-not_given (extended.number x) e = ap extended.number (sym (number-same x (whole (pos 0)) (not-false (same_number x (whole (pos 0))) e)))
zero-not_given extended.plus_infinity e = absurd cc
zero-not_given extended.minus_infinity e = absurd cc
zero-not_given extended.na e = absurd cc

-- attributes that are not kept are those of an absent element
pub absent-not_given : (absent a : Attributes) → not (same_attributes a absent) ≡ false → absent ≡ a
absent-not_given absent a e = sym (attributes-same a absent (not-false (same_attributes a absent) e))

-- ---- contents

-- elements that are given something leave what a name stands for
pub following-given : (kind : Suffix) (all : AllGiven) (content : Content) (n : ℕ) → alias_target n (with_given kind all content) ≡ alias_target n content
following-given kind all undeclared n = refl
following-given kind all (alias_of base) n = refl
following-given kind all (set_of members) n = refl
following-given kind all (parameter_of entries) n = refl
following-given kind all (variable_of type entries) n = refl
following-given kind all (equation_of entries) n = refl
following-given kind all (model_with model solver) n = refl

either-attributes : (kind : Suffix) (a : Attributes) (o : Option extended.Extended) → unwrap_or (option_map (with_attribute kind a) o) a ≡ attributes_with kind a o
either-attributes kind a None = refl
either-attributes kind a (Some x) = refl

module _ (kind : Suffix) (all : AllGiven) (t : List ℕ) where
  -- what elements of a variable or an equation are given, at one of them
  given-there : (content : Content) → last_at (attributes_given kind content all) t ≡ option_map (with_attribute kind (attributes_in content t)) (given_value all t)
  given-there content = last-made (λ u x. with_attribute kind (attributes_in content u) x) t (values_given all)

  pub attributes-given : (content : Content) → has_attributes content ≡ true → attributes_in (with_given kind all content) t ≡ attributes_with kind (attributes_in content t) (given_value all t)
  attributes-given undeclared has = absurd cc
  attributes-given (alias_of base) has = absurd cc
  attributes-given (set_of members) has = absurd cc
  attributes-given (parameter_of entries) has = absurd cc
  attributes-given (variable_of type entries) has =
      read-overlaid (λ a. not (same_attributes a (absent_variable type))) (absent_variable type) (absent-not_given (absent_variable type)) (attributes_given kind (variable_of type entries) all) entries t
      ∙ ap (λ o. unwrap_or o (attributes_in (variable_of type entries) t)) (given-there (variable_of type entries))
      ∙ either-attributes kind (attributes_in (variable_of type entries) t) (given_value all t)
  attributes-given (equation_of entries) has =
      read-overlaid (λ a. not (same_attributes a unbounded)) unbounded (absent-not_given unbounded) (attributes_given kind (equation_of entries) all) entries t
      ∙ ap (λ o. unwrap_or o (attributes_in (equation_of entries) t)) (given-there (equation_of entries))
      ∙ either-attributes kind (attributes_in (equation_of entries) t) (given_value all t)
  attributes-given (model_with model solver) has = absurd cc

-- ---- states

-- where all elements have as many labels as the name has positions, all are given something
all-fitting : (symbol : Symbol) (all : AllGiven) → All (λ given. length given.0 ≡ length symbol.domain) all → fitting symbol all ≡ all
all-fitting symbol all fit =
    filter_all (λ (given : List ℕ × Given). length given.0 == length symbol.domain) all
    (All-weaker (λ (given : List ℕ × Given). length given.0 ≡ length symbol.domain) (λ (given : List ℕ × Given). (length given.0 == length symbol.domain) ≡ true) (λ given e. eq-eqb (length given.0) (length symbol.domain) e) all fit)

module _ (state : State) (name : ℕ) (kind : Suffix) (all : AllGiven) where
  -- the changed name
  pub symbol-given : base_of state name < length state.symbols → symbol_of (after_given kind name all state) name ≡ with_content (symbol_of state name) (with_given kind (fitting (symbol_of state name) all) (symbol_of state name).content)
  symbol-given within =
      symbol-here state name (with_content (symbol_of state name) (with_given kind (fitting (symbol_of state name) all) (symbol_of state name).content)) (following-given kind (fitting (symbol_of state name) all) (symbol_of state name).content) within

  -- every other name
  pub symbol-not_given : (other : ℕ) → (base_of state other ≡ base_of state name → ⊥) → symbol_of (after_given kind name all state) other ≡ symbol_of state other
  symbol-not_given other apart =
      symbol-elsewhere state name (with_content (symbol_of state name) (with_given kind (fitting (symbol_of state name) all) (symbol_of state name).content)) (following-given kind (fitting (symbol_of state name) all) (symbol_of state name).content) other apart

  module _ (within : base_of state name < length state.symbols) (fit : All (λ given. length given.0 ≡ length (symbol_of state name).domain) all) where
    -- the content of the changed name
    content-given : (symbol_of (after_given kind name all state) name).content ≡ with_given kind all (symbol_of state name).content
    content-given = ap (λ (s : Symbol). s.content) (symbol-given within) ∙ ap (λ all. with_given kind all (symbol_of state name).content) (all-fitting (symbol_of state name) all fit)

    pub members-after : (members : List (List ℕ)) (t : List ℕ) → (symbol_of state name).content ≡ set_of members → has (members_of (after_given kind name all state) name) t ≡ unwrap_or (membership_at all t) (has (members_of state name) t)
    members-after members t is =
        ap (λ c. has (members_in c) t) (content-given ∙ ap (with_given kind all) is)
        ∙ has-with_members (members_given all) members t
        ∙ ap (λ c. unwrap_or (membership_at all t) (has (members_in c) t)) (sym is)

    pub attributes-after : (t : List ℕ) → has_attributes (symbol_of state name).content ≡ true → attributes_of (after_given kind name all state) name t ≡ attributes_with kind (attributes_of state name t) (given_value all t)
    attributes-after t has = ap (λ c. attributes_in c t) content-given ∙ attributes-given kind all t (symbol_of state name).content has

pub values-after : (state : State) (name : ℕ) (all : AllGiven) (entries : Entries extended.Extended) (t : List ℕ) → base_of state name < length state.symbols → (symbol_of state name).content ≡ parameter_of entries → All (λ given. length given.0 ≡ length (symbol_of state name).domain) all → value_of (after_given suffix.None name all state) name t ≡ unwrap_or (given_value all t) (value_of state name t)
values-after state name all entries t within is fit =
    ap (λ c. value_in c t) (content-given state name suffix.None all within fit ∙ ap (with_given suffix.None all) is)
    ∙ read-overlaid is_given state_words.zero zero-not_given (values_given all) entries t
    ∙ ap (λ c. unwrap_or (given_value all t) (value_in c t)) (sym is)
