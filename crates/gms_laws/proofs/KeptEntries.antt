-- What a name has where an assignment gives nothing.
use Rattle.std.proofs.Common.{◌≡◌, ◌∙◌, ◌==◌, ℕ, Bool, true, false, List, [], ◌∷◌, cond, filter, length, Option, None, unwrap_or, refl, ap, inl, inr}
use Rattle.gq_extended.specs.Extended.{Extended}
use Rattle.gms_ast.specs.declared.expression.Suffix.{Suffix}
use Rattle.gms_ast.specs.declared.expression.Suffix.TheVariants as suffix
use Rattle.gms_tuple.specs.TupleSet.{has}
use Rattle.gms_store.specs.State.{State, Content, undeclared, alias_of, set_of, parameter_of, variable_of, equation_of, model_with, Symbol, attributes_in, base_of, is_given, members_in, symbol_at, symbol_of, value_in, with_content, with_symbol, zero}
use Rattle.gms_exec.specs.Given.{Given, AllGiven, after_given, fitting, members_given, plain_values, with_given}
use Rattle.gms_exec.specs.Reads.{attributes_with, last_at}
use Rattle.gms_exec.proofs.Assigned.{attributes-given, following-given, zero-not_given}
use Rattle.gms_exec.proofs.Newest.{has-with_members, read-overlaid}
use Rattle.gms_exec.proofs.Symbols.{at-after, base-after}
use Rattle.gms_laws.proofs.LastGiven.{In, member-none, value-none}

-- ---- contents

-- nothing is given at a tuple
abbrev pub Nothing : AllGiven → List ℕ → Type 0
Nothing all t = (what : Given) → In (t, what) all → ⊥

plain-none : (kind : Suffix) (all : AllGiven) (t : List ℕ) → Nothing all t → last_at (plain_values kind all) t ≡ None
plain-none suffix.None all t nothing = value-none all t nothing
plain-none kind all t nothing = refl

module _ (kind : Suffix) (all : AllGiven) (t : List ℕ) (nothing : Nothing all t) where
  kept-value : (content : Content) → value_in (with_given kind all content) t ≡ value_in content t
  kept-value undeclared = refl
  kept-value (alias_of base) = refl
  kept-value (set_of members) = refl
  kept-value (parameter_of entries) =
      read-overlaid is_given zero zero-not_given (plain_values kind all) entries t
      ∙ ap (λ (o : Option Extended). unwrap_or o (value_in (parameter_of entries) t)) (plain-none kind all t nothing)
  kept-value (variable_of type entries) = refl
  kept-value (equation_of entries) = refl
  kept-value (model_with model solver) = refl

  kept-member : (content : Content) → has (members_in (with_given kind all content)) t ≡ has (members_in content) t
  kept-member undeclared = refl
  kept-member (alias_of base) = refl
  kept-member (set_of members) =
      has-with_members (members_given all) members t
      ∙ ap (λ (o : Option Bool). unwrap_or o (has members t)) (member-none all t nothing)
  kept-member (parameter_of entries) = refl
  kept-member (variable_of type entries) = refl
  kept-member (equation_of entries) = refl
  kept-member (model_with model solver) = refl

  kept-attributes : (content : Content) → attributes_in (with_given kind all content) t ≡ attributes_in content t
  kept-attributes undeclared = refl
  kept-attributes (alias_of base) = refl
  kept-attributes (set_of members) = refl
  kept-attributes (parameter_of entries) = refl
  kept-attributes (variable_of type entries) =
      attributes-given kind all t (variable_of type entries) refl
      ∙ ap (attributes_with kind (attributes_in (variable_of type entries) t)) (value-none all t nothing)
  kept-attributes (equation_of entries) =
      attributes-given kind all t (equation_of entries) refl
      ∙ ap (attributes_with kind (attributes_in (equation_of entries) t)) (value-none all t nothing)
  kept-attributes (model_with model solver) = refl

-- ---- states

in-filter : (keep : List ℕ × Given → Bool) (all : AllGiven) (one : List ℕ × Given) → In one (filter keep all) → In one all
in-filter keep [] one there = there
in-filter keep (first ∷ all) one there = by (keep first) (in-filter keep all one) there
  where
    by : (b : Bool) → (In one (filter keep all) → In one all) → In one (cond b (first ∷ filter keep all) (filter keep all)) → In one (first ∷ all)
    by true rest (inl same) = inl same
    by true rest (inr later) = inr (rest later)
    by false rest later = inr (rest later)

module _ (state : State) (name : ℕ) (kind : Suffix) (all : AllGiven) where
  abbrev new : Symbol
  new = with_content (symbol_of state name) (with_given kind (fitting (symbol_of state name) all) (symbol_of state name).content)

  -- what is read of the name, where what it is given changes nothing of it
  read-kept : {X : Type 0} (read : Content → X) → read (with_given kind (fitting (symbol_of state name) all) (symbol_of state name).content) ≡ read (symbol_of state name).content
      → read (symbol_of (after_given kind name all state) name).content ≡ read (symbol_of state name).content
  read-kept {X} read same =
      ap (λ (n : ℕ). read (symbol_at (with_symbol state name new) n).content) (base-after state name new (following-given kind (fitting (symbol_of state name) all) (symbol_of state name).content) name)
      ∙ elim (at-after state name new (base_of state name)) [
        | inl old ↦ ap (λ (s : Symbol). read s.content) old
        | inr changed ↦ ap (λ (s : Symbol). read s.content) changed.1 ∙ same
      ]

  module _ (t : List ℕ) (nothing : Nothing all t) where
    nothing-fitting : Nothing (fitting (symbol_of state name) all) t
    nothing-fitting what there = nothing what (in-filter (λ given. length given.0 == length (symbol_of state name).domain) all (t, what) there)

    pub value-kept : value_in (symbol_of (after_given kind name all state) name).content t ≡ value_in (symbol_of state name).content t
    value-kept =
        read-kept (λ content. value_in content t) (kept-value kind (fitting (symbol_of state name) all) t nothing-fitting (symbol_of state name).content)

    pub member-kept : has (members_in (symbol_of (after_given kind name all state) name).content) t ≡ has (members_in (symbol_of state name).content) t
    member-kept =
        read-kept (λ content. has (members_in content) t) (kept-member kind (fitting (symbol_of state name) all) t nothing-fitting (symbol_of state name).content)

    pub attributes-kept : attributes_in (symbol_of (after_given kind name all state) name).content t ≡ attributes_in (symbol_of state name).content t
    attributes-kept =
        read-kept (λ content. attributes_in content t) (kept-attributes kind (fitting (symbol_of state name) all) t nothing-fitting (symbol_of state name).content)
