-- Whether tuples are in domains, label by label.
use Rattle.std.proofs.lemmas.Bool.{and_parts}
use Rattle.std.proofs.Common.{◌≡◌, ◌∙◌, ℕ, zero, suc, ◌+◌, ◌<◌, Bool, true, false, ◌&&◌, ◌||◌, List, [], ◌∷◌, length, drop, get_or, slice_get, refl, sym, ap, ap₂, Option, Some, arith}
use Rattle.std.specs.Prelude.{nat_lt}
use Rattle.std.proofs.lemmas.List.Elements.{All-nil}
use Rattle.std.proofs.lemmas.List.{drop_more}
use Rattle.gms_tuple.specs.TupleOrder.{same_tuple}
use Rattle.gms_tuple.specs.TupleSet.{has}
use Rattle.gms_tuple.proofs.Ordered.{ordered-nil}
use Rattle.gms_store.specs.State.{Content, undeclared, alias_of, set_of, parameter_of, variable_of, equation_of, model_with, Symbol, State, absent}
use Rattle.gms_store.specs.Declarations.{is_alias}
use Rattle.gms_store.proofs.Views.{no_difference}
use Rattle.gms_save_text.specs.Validity.{IsGivenWell, fits_position, fits_domain}

module _ (labels : ℕ) (state : State) where
  -- a tuple in a domain has a label for each position
  occurs-length : (domain : List (Option ℕ)) (tuple : List ℕ) → fits_domain labels state domain tuple ≡ true → length domain ≡ length tuple
  occurs-length [] [] e = refl
  occurs-length [] (label ∷ tuple) e = absurd cc
  occurs-length (set ∷ domain) [] e = absurd cc
  occurs-length (set ∷ domain) (label ∷ tuple) e =
      let first = and_parts (nat_lt label labels) (fits_position state set label && fits_domain labels state domain tuple) e in
      let second = and_parts (fits_position state set label) (fits_domain labels state domain tuple) first.1 in
      ap suc (occurs-length domain tuple second.1)

  -- a tuple of another length does not
  pub occurs-not : (domain : List (Option ℕ)) (tuple : List ℕ) → (length domain ≡ length tuple → ⊥) → false ≡ fits_domain labels state domain tuple
  occurs-not domain tuple other = by (fits_domain labels state domain tuple) refl
    where
      by : (b : Bool) → fits_domain labels state domain tuple ≡ b → false ≡ b
      by true e = absurd (other (occurs-length domain tuple e))
      by false e = refl

  -- from a position on
  pub occurs-next : (domain : List (Option ℕ)) (tuple : List ℕ) (k : ℕ) (set : Option ℕ) (label : ℕ) → k < length domain → length domain ≡ length tuple → fits_domain labels state (drop k domain) (drop k tuple) ≡ (nat_lt (get_or tuple k label) labels && (fits_position state (get_or domain k set) (get_or tuple k label) && fits_domain labels state (drop (k + 1) domain) (drop (k + 1) tuple)))
  occurs-next domain tuple k set label within same =
      ap₂ (λ (d : List (Option ℕ)) (t : List ℕ). fits_domain labels state d t) (drop_more domain k set within) (drop_more tuple k label (omega (arith, same, within)))

-- what is the same as a member is one
pub member_at : (xs : List (List ℕ)) (n : ℕ) (x t : List ℕ) → slice_get xs n ≡ Some x → same_tuple x t ≡ true → has xs t ≡ true
member_at [] n x t at same = absurd cc
member_at (y ∷ ys) zero x t at same =
    let e : y ≡ x = cc in
    ap (λ b. b || has ys t) (ap (λ y. same_tuple y t) e ∙ same)
member_at (y ∷ ys) (suc n) x t at same = by (same_tuple y t) (member_at ys n x t at same)
  where
    by : (b : Bool) → has ys t ≡ true → (b || has ys t) ≡ true
    by true there = refl
    by false there = there

-- an alias has no data
pub alias_well : (limit labels : ℕ) (state : State) (symbol : Symbol) → is_alias symbol.content ≡ true → IsGivenWell limit labels state symbol
alias_well limit labels state symbol a = by symbol.domain symbol.content a
  where
    by : (domain : List (Option ℕ)) (content : Content) → is_alias content ≡ true → IsGivenWell limit labels state (record { domain = domain; content = content })
    by domain (alias_of base) a = record { ordered = ordered-nil; few = All-nil _; occur = All-nil _; fit = λ t. refl; differs = λ t. sym (no_difference (absent (alias_of base))); statuses = refl }
    by domain undeclared a = absurd cc
    by domain (set_of members) a = absurd cc
    by domain (parameter_of entries) a = absurd cc
    by domain (variable_of type entries) a = absurd cc
    by domain (equation_of entries) a = absurd cc
    by domain (model_with m s) a = absurd cc
