-- Labels that may stand for a set, and so for each set that it is below, and at each position that
-- it fits.
use Rattle.std.proofs.Common.{◌≡◌, ℕ, zero, suc, nat_lt, nat_le, Bool, true, false, ◌&&◌, ◌||◌, ◌==◌, if◌then◌else◌, List, [], ◌∷◌, length, Option, Some, None, refl, sym, ap, ◌∙◌, subst}
use Rattle.std.proofs.lemmas.Bool.{eqb-true, and_parts}
use Rattle.gms_tuple.specs.TupleSet.{has}
use Rattle.gms_store.specs.Declarations.{is_set, is_undeclared}
use Rattle.gms_store.specs.State.{State, Content, undeclared, alias_of, set_of, parameter_of, variable_of, equation_of, model_with, symbol_at, symbol_of, base_of, given_in, members_in, members_of}
use Rattle.gms_scope.specs.Below.{is_met_before, bounds, superset_in, superset, is_some_with, is_below_within, is_below, set_fits_position, label_fits_position}
use Rattle.gms_scope.specs.Names.{has_one_position, is_index_set, is_set_name, has_no_declaration, positions}
use Rattle.gms_check.specs.Above.{directly_above}
use Rattle.gms_check.proofs.Growing.{IsAfter}
use Rattle.gms_save_text.specs.Validity.{fits_position, fits_domain}
use Rattle.gms_run_laws.specs.LastStates.{IsFixedSet}

-- each member of a content is a tuple with data
pub members-given : (c : Content) (t : List ℕ) → has (members_in c) t ≡ true → has (given_in c) t ≡ true
members-given undeclared t there = absurd (cc)
members-given (alias_of base) t there = absurd (cc)
members-given (set_of members) t there = there
members-given (parameter_of entries) t there = absurd (cc)
members-given (variable_of type entries) t there = absurd (cc)
members-given (equation_of entries) t there = absurd (cc)
members-given (model_with model solver) t there = absurd (cc)

set-known : (c : Content) → is_set c ≡ true → is_undeclared c ≡ false
set-known undeclared e = absurd (cc)
set-known (alias_of base) e = refl
set-known (set_of members) e = refl
set-known (parameter_of entries) e = absurd (cc)
set-known (variable_of type entries) e = absurd (cc)
set-known (equation_of entries) e = absurd (cc)
set-known (model_with model solver) e = absurd (cc)

-- an index set is declared
pub index-known : (s : State) (set : ℕ) → is_index_set s set ≡ true → has_no_declaration s set ≡ false
index-known s set is = set-known (symbol_at s set).content (and_parts (is_set_name s set) (has_one_position s set) is).0

-- a tuple is in a domain, and has no more labels than a tuple may have
abbrev pub occurs_few : ℕ → State → List (Option ℕ) → List ℕ → Bool
occurs_few count state domain t = fits_domain count state domain t && nat_le (length t) 10

-- all data of a state are in their domains
abbrev pub DataOccur : ℕ → State → Type 0
DataOccur count first =
    (n : ℕ) (t : List ℕ) → has (given_in (symbol_at first n).content) t ≡ true → occurs_few count first (symbol_at first n).domain t ≡ true

module _ (count : ℕ) (first : State) (assigned : ℕ → Bool) where
  -- A label may stand for a set of this base: it is in the set's domain, and if the set is not
  -- assigned, it is a member.
  pub record MayOccur (base label : ℕ) : Type 0 where
    pub domain : fits_domain count first (symbol_at first base).domain (label ∷ []) ≡ true
    pub member : assigned base ≡ false → has (members_in (symbol_at first base).content) (label ∷ []) ≡ true

  -- such a label is one of the program's
  pub is-label : (base label : ℕ) → MayOccur base label → nat_lt label count ≡ true
  is-label base label may = by (symbol_at first base).domain may.domain
    where
      by : (domain : List (Option ℕ)) → fits_domain count first domain (label ∷ []) ≡ true → nat_lt label count ≡ true
      by [] e = absurd (cc)
      by (position ∷ domain) e = (and_parts (nat_lt label count) (fits_position first position label && fits_domain count first domain []) e).0

  -- the set of a position, if it has one, is fixed
  abbrev pub IsFixedAt : Option ℕ → Type 0
  IsFixedAt None = Unit {0}
  IsFixedAt (Some d) = IsFixedSet assigned first d

  module _ (starts : DataOccur count first) where
    -- a label that may stand for a set may stand for the set of its position
    one-up : (a d label : ℕ) → (symbol_at first a).domain ≡ Some d ∷ [] → MayOccur a label → MayOccur (base_of first d) label
    one-up a d label is may = record {
      domain = (and_parts (fits_domain count first (symbol_of first d).domain (label ∷ [])) true (starts (base_of first d) (label ∷ []) (members-given (symbol_of first d).content (label ∷ []) there))).0;
      member = λ static. there;
    }
      where
        own : (nat_lt label count && (has (members_of first d) (label ∷ []) && true)) ≡ true
        own = subst (λ (domain : List (Option ℕ)). fits_domain count first domain (label ∷ []) ≡ true) is may.domain

        there : has (members_of first d) (label ∷ []) ≡ true
        there = (and_parts (has (members_of first d) (label ∷ [])) true (and_parts (nat_lt label count) (has (members_of first d) (label ∷ []) && true) own).1).0

    module _ (s : State) (declared : List ℕ) (later : (n : ℕ) → has_no_declaration s n ≡ false → IsAfter (symbol_at s n) (symbol_at first n)) where
      base-same : (n : ℕ) → has_no_declaration s n ≡ false → base_of first n ≡ base_of s n
      base-same n known = (later n known).alike n

      -- the set that a set is directly below
      above-up : (a b label : ℕ) → directly_above s declared a ≡ Some b → MayOccur a label → MayOccur b label
      above-up a b label e may = by (base_of s a == a) refl e
        where
          at_one : is_index_set s a ≡ true → base_of s a ≡ a → (ds : List (Option ℕ)) → positions s a ≡ ds → superset_in s declared a ds ≡ Some b → MayOccur b label
          at_one index own [] is e = absurd (cc)
          at_one index own (None ∷ ds) is e = absurd (cc)
          at_one index own (Some d ∷ other ∷ ds) is e = absurd (cc)
          at_one index own (Some d ∷ []) is e = bound (bounds s declared a d) refl e
            where
              bound : (c : Bool) → bounds s declared a d ≡ c → (if c then Some (base_of s d) else None) ≡ Some b → MayOccur b label
              bound false none e = absurd (cc)
              bound true holds_so e =
                  let known = index-known s d (and_parts (is_index_set s d) (is_met_before declared d (base_of s a)) holds_so).0 in
                  let same : base_of s d ≡ b = cc in
                  let domain = (later a (index-known s a index)).domain ∙ ap (λ n. (symbol_at s n).domain) (sym own) ∙ is in
                  subst (λ n. MayOccur n label) (base-same d known ∙ same) (one-up a d label domain may)

          inside : (c : Bool) → is_index_set s a ≡ c → base_of s a ≡ a → (if c then superset_in s declared a (positions s a) else None) ≡ Some b → MayOccur b label
          inside true index own e = at_one index own (positions s a) refl e
          inside false index own e = absurd (cc)

          by : (c : Bool) → (base_of s a == a) ≡ c → (if c then superset s declared a else None) ≡ Some b → MayOccur b label
          by true own e = inside (is_index_set s a) refl (eqb-true (base_of s a) a own) e
          by false own e = absurd (cc)

      -- each set that it is below
      below-up : (n a b label : ℕ) → is_below_within n (directly_above s declared) a b ≡ true → MayOccur a label → MayOccur b label
      below-up zero a b label e may = subst (λ m. MayOccur m label) (eqb-true a b e) may
      below-up (suc n) a b label e may =
          by (a == b) refl e (λ m e may. below-up n m b label e may)
        where
          further : (o : Option ℕ) → directly_above s declared a ≡ o → is_some_with o (λ m. is_below_within n (directly_above s declared) m b) ≡ true → ((m : ℕ) → is_below_within n (directly_above s declared) m b ≡ true → MayOccur m label → MayOccur b label) → MayOccur b label
          further None is e next = absurd (cc)
          further (Some m) is e next = next m e (above-up a m label is may)

          by : (c : Bool) → (a == b) ≡ c → (c || is_some_with (directly_above s declared a) (λ m. is_below_within n (directly_above s declared) m b)) ≡ true → ((m : ℕ) → is_below_within n (directly_above s declared) m b ≡ true → MayOccur m label → MayOccur b label) → MayOccur b label
          by true same e next = subst (λ m. MayOccur m label) (eqb-true a b same) may
          by false same e next = further (directly_above s declared a) refl e next

      -- ---- positions

      -- a label of an index set that fits a position fits it too
      pub set-occurs : (name : ℕ) (position : Option ℕ) (index label : ℕ) → IsFixedAt position → has_no_declaration s index ≡ false → set_fits_position s declared (directly_above s declared) name position index ≡ true → MayOccur (base_of first index) label → fits_position first position label ≡ true
      set-occurs name None index label fixed known e may = refl
      set-occurs name (Some d) index label fixed known e may =
          let parts = and_parts (bounds s declared name d) (is_below s declared (directly_above s declared) index d) e in
          let index_set = (and_parts (is_index_set s d) (is_met_before declared d (base_of s name)) parts.0).0 in
          let there = below-up (length declared) (base_of s index) (base_of s d) label parts.1 (subst (λ n. MayOccur n label) (base-same index known) may) in
          (subst (λ n. MayOccur n label) (sym (base-same d (index-known s d index_set))) there).member fixed.static

      module _ (more : (d : ℕ) (t : List ℕ) → has_no_declaration s d ≡ false → has (members_of s d) t ≡ true → has (members_of first d) t ≡ true) where
        -- a label that fits one does
        pub label-occurs : (name : ℕ) (position : Option ℕ) (label : ℕ) → label_fits_position s declared name position label ≡ true → fits_position first position label ≡ true
        label-occurs name None label e = refl
        label-occurs name (Some d) label e =
            let parts = and_parts (bounds s declared name d) (has (members_of s d) (label ∷ [])) e in
            let index_set = (and_parts (is_index_set s d) (is_met_before declared d (base_of s name)) parts.0).0 in
            more d (label ∷ []) (index-known s d index_set) parts.1
