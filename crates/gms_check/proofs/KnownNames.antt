-- The names that are declared in sequence, and the set that each is directly below.
use mathlib.Core.Bool.{and-false, or-false, or-true}
use Rattle.std.proofs.Common.{◌≡◌, ◌<◌, ◌⊎◌, ℕ, Bool, true, false, not, ◌==◌, ◌&&◌, ◌||◌, List, [], ◌∷◌, ◌++◌, length, set, refl, sym, ap, ◌∙◌, subst, Option, Some, None, if◌then◌else◌, arith, inl, inr, eq-eqb}
use Rattle.std.specs.List.{list_any}
use Rattle.std.proofs.lemmas.Bool.{eqb-true, and_parts}
use Rattle.std.proofs.lemmas.List.{map-append, length-set, get_or-set_same, get_or-set_other}
use Rattle.std.proofs.lemmas.List.Folds.{list_any-append}
use Rattle.gms_store.specs.State.{Content, undeclared, alias_of, set_of, parameter_of, variable_of, equation_of, model_with, Symbol, State, no_symbol, symbol_at, alias_target, base_of}
use Rattle.gms_store.specs.Declarations.{is_set, is_undeclared, put_at}
use Rattle.gms_scope.specs.Below.{base_above, first_base, is_met_before, superset, superset_in}
use Rattle.gms_scope.specs.Entries.{DeclarationList, above_of, among, is_entered, names_of_entries}
use Rattle.gms_scope.specs.Names.{has_one_position, is_index_set, is_set_name, has_no_declaration, positions}
use Rattle.gms_check.specs.Above.{directly_above}
use Rattle.gms_check.proofs.Outlines.{read-at}

-- ---- tests

clash : {X : Type 0} → true ≡ false → X
clash e = absurd cc

differs : (a b : ℕ) → (a ≡ b → ⊥) → (a == b) ≡ false
differs a b ne = by (a == b) refl
  where
    by : (s : Bool) → (a == b) ≡ s → s ≡ false
    by true e = absurd (ne (eqb-true a b e))
    by false e = refl

apart : (a b : ℕ) → (a == b) ≡ false → a ≡ b → ⊥
apart a b e f = let t = eq-eqb a b f in cc

-- ---- the names of entries

-- whether a name is among names
abbrev pub is_in : List ℕ → ℕ → Bool
is_in names name = list_any (λ (other : ℕ). other == name) names

pub entered-in : (es : DeclarationList) (name : ℕ) → is_in (names_of_entries es) name ≡ is_entered es name
entered-in [] name = refl
entered-in (e ∷ es) name = ap (λ b. (e.0 == name) || b) (entered-in es name)

pub names-push : (es : DeclarationList) (name : ℕ) (above : Option ℕ) → names_of_entries (es ++ (name, above) ∷ []) ≡ names_of_entries es ++ name ∷ []
names-push es name above = map-append (λ (e : ℕ × Option ℕ). e.0) es ((name, above) ∷ [])

-- one name more, which is met before: nothing else is met before another
met-again : (names : List ℕ) (name a b : ℕ) → is_in names name ≡ true → is_met_before (names ++ name ∷ []) a b ≡ is_met_before names a b
met-again [] name a b e = absurd cc
met-again (first ∷ names) name a b e = by (first == b) refl (first == a) refl (first == name) refl (met-again names name a b)
  where
    end : (first name : ℕ) → (names : List ℕ) → (first == name) ≡ true → (first == b) ≡ false → (first == a) ≡ false → is_met_before (names ++ name ∷ []) a b ≡ is_met_before names a b
    end first name [] is q r =
        let same = eqb-true first name is in
        ap (λ (n : ℕ). if n == b then false else if n == a then true else false) (sym same) ∙ ap (λ (s : Bool). if s then false else if first == a then true else false) q ∙ ap (λ (s : Bool). if s then true else false) r
    end first name (n ∷ names) is q r =
        ap (λ (s : Bool). if n == b then false else if n == a then true else s) (end first name names is q r)

    by : (s : Bool) → (first == b) ≡ s → (t : Bool) → (first == a) ≡ t → (u : Bool) → (first == name) ≡ u → (is_in names name ≡ true → is_met_before (names ++ name ∷ []) a b ≡ is_met_before names a b) → (if s then false else if t then true else is_met_before (names ++ name ∷ []) a b) ≡ (if s then false else if t then true else is_met_before names a b)
    by true q t r u is rest = refl
    by false q true r u is rest = refl
    by false q false r true is rest = end first name names is q r
    by false q false r false is rest = rest (sym (ap (λ s. s || is_in names name) is) ∙ e)

-- nothing new is met before a name that is met already
met-kept : (names : List ℕ) (name a b : ℕ) → is_in names b ≡ true → is_met_before (names ++ name ∷ []) a b ≡ is_met_before names a b
met-kept [] name a b e = absurd cc
met-kept (first ∷ names) name a b e = by (first == b) refl (met-kept names name a b)
  where
    by : (s : Bool) → (first == b) ≡ s → (is_in names b ≡ true → is_met_before (names ++ name ∷ []) a b ≡ is_met_before names a b) → (if s then false else if first == a then true else is_met_before (names ++ name ∷ []) a b) ≡ (if s then false else if first == a then true else is_met_before names a b)
    by true q rest = refl
    by false q rest = ap (λ (s : Bool). if first == a then true else s) (rest (sym (ap (λ s. s || is_in names b) q) ∙ e))

-- a name that is not met is met before none
met-not : (names : List ℕ) (a b : ℕ) → is_in names a ≡ false → is_met_before names a b ≡ false
met-not [] a b e = refl
met-not (first ∷ names) a b e = by (first == b) (first == a) refl (met-not names a b)
  where
    by : (s t : Bool) → (first == a) ≡ t → (is_in names a ≡ false → is_met_before names a b ≡ false) → (if s then false else if t then true else is_met_before names a b) ≡ false
    by true t r rest = refl
    by false true r rest = absurd (let f = ap (λ s. s || is_in names a) r in cc)
    by false false r rest = rest (sym (ap (λ s. s || is_in names a) r) ∙ e)

-- what is met before a new name that is last
met-new : (names : List ℕ) (name a : ℕ) → is_in names name ≡ false → is_met_before (names ++ name ∷ []) a name ≡ is_in names a
met-new [] name a e = ap (λ (s : Bool). if s then false else if name == a then true else false) (eq-eqb name name refl)
met-new (first ∷ names) name a e = by (first == name) refl (first == a) (met-new names name a)
  where
    by : (s : Bool) → (first == name) ≡ s → (t : Bool) → (is_in names name ≡ false → is_met_before (names ++ name ∷ []) a name ≡ is_in names a) → (if s then false else if t then true else is_met_before (names ++ name ∷ []) a name) ≡ (t || is_in names a)
    by true q t rest = absurd (let f = ap (λ s. s || is_in names name) q in cc)
    by false q true rest = refl
    by false q false rest = rest (sym (ap (λ s. s || is_in names name) q) ∙ e)

above-again : (es : DeclarationList) (name : ℕ) (above : Option ℕ) (n : ℕ) → is_entered es name ≡ true → above_of (es ++ (name, above) ∷ []) n ≡ above_of es n
above-again [] name above n e = absurd cc
above-again (first ∷ es) name above n e = by (first.0 == n) refl (first.0 == name) refl (above-again es name above n)
  where
    end : (es : DeclarationList) → (name == n) ≡ false → above_of (es ++ (name, above) ∷ []) n ≡ above_of es n
    end [] q = ap (λ (s : Bool). if s then above else None) q
    end (f ∷ es) q = ap (λ (o : Option ℕ). if f.0 == n then f.1 else o) (end es q)

    by : (s : Bool) → (first.0 == n) ≡ s → (t : Bool) → (first.0 == name) ≡ t → (is_entered es name ≡ true → above_of (es ++ (name, above) ∷ []) n ≡ above_of es n) → (if s then first.1 else above_of (es ++ (name, above) ∷ []) n) ≡ (if s then first.1 else above_of es n)
    by true q t r rest = refl
    by false q true r rest =
        let same = eqb-true first.0 name r in
        end es (ap (λ (k : ℕ). k == n) (sym same) ∙ q)
    by false q false r rest = rest (sym (ap (λ s. s || is_entered es name) r) ∙ e)

above-other : (es : DeclarationList) (name : ℕ) (above : Option ℕ) (n : ℕ) → (name == n) ≡ false → above_of (es ++ (name, above) ∷ []) n ≡ above_of es n
above-other [] name above n q = ap (λ (s : Bool). if s then above else None) q
above-other (f ∷ es) name above n q = ap (λ (o : Option ℕ). if f.0 == n then f.1 else o) (above-other es name above n q)

above-new : (es : DeclarationList) (name : ℕ) (above : Option ℕ) → is_entered es name ≡ false → above_of (es ++ (name, above) ∷ []) name ≡ above
above-new [] name above e = ap (λ (s : Bool). if s then above else None) (eq-eqb name name refl)
above-new (first ∷ es) name above e = by (first.0 == name) refl (above-new es name above)
  where
    by : (s : Bool) → (first.0 == name) ≡ s → (is_entered es name ≡ false → above_of (es ++ (name, above) ∷ []) name ≡ above) → (if s then first.1 else above_of (es ++ (name, above) ∷ []) name) ≡ above
    by true q rest = absurd (let f = ap (λ s. s || is_entered es name) q in cc)
    by false q rest = rest (sym (ap (λ s. s || is_entered es name) q) ∙ e)

-- ---- what is known

-- whether a content is that of a set, and no alias
abbrev pub is_plain : Content → Bool
is_plain (set_of members) = true
is_plain content = false

-- What holds of a state with `count` names, and of the names that are declared in it.
pub record IsKnown (count : ℕ) (state : State) (es : DeclarationList) : Type 0 where
  pub size : length state.symbols ≡ count
  pub entered : (n : ℕ) → is_entered es n ≡ not (has_no_declaration state n)
  pub aliases : (n b : ℕ) → (symbol_at state n).content ≡ alias_of b → is_plain (symbol_at state b).content ≡ true
  pub above : (n : ℕ) → above_of es n ≡ directly_above state (names_of_entries es) n

plain-known : (c : Content) → is_plain c ≡ true → is_undeclared c ≡ true → ⊥
plain-known undeclared p q = clash (sym p)
plain-known (alias_of base) p q = clash (sym p)
plain-known (set_of members) p q = clash (sym q)
plain-known (parameter_of entries) p q = clash (sym p)
plain-known (variable_of type entries) p q = clash (sym p)
plain-known (equation_of entries) p q = clash (sym p)
plain-known (model_with model solver) p q = clash (sym p)

set-known : (c : Content) → is_set c ≡ true → is_undeclared c ≡ false
set-known undeclared p = clash (sym p)
set-known (alias_of base) p = refl
set-known (set_of members) p = refl
set-known (parameter_of entries) p = refl
set-known (variable_of type entries) p = refl
set-known (equation_of entries) p = refl
set-known (model_with model solver) p = refl

unknown-unset : (c : Content) → is_undeclared c ≡ true → is_set c ≡ false
unknown-unset undeclared p = refl
unknown-unset (alias_of base) p = clash (sym p)
unknown-unset (set_of members) p = clash (sym p)
unknown-unset (parameter_of entries) p = refl
unknown-unset (variable_of type entries) p = refl
unknown-unset (equation_of entries) p = refl
unknown-unset (model_with model solver) p = refl

-- a content is an alias, or a name of it stands for itself
alias-or : (n : ℕ) (c : Content) → ((b : ℕ) × (c ≡ alias_of b)) ⊎ (alias_target n c ≡ n)
alias-or n undeclared = inr refl
alias-or n (alias_of base) = inl (base, refl)
alias-or n (set_of members) = inr refl
alias-or n (parameter_of entries) = inr refl
alias-or n (variable_of type entries) = inr refl
alias-or n (equation_of entries) = inr refl
alias-or n (model_with model solver) = inr refl

first_set : (s : Bool) → s ≡ true → (r : Bool) → (s && r) ≡ r
first_set s e r = ap (λ b. b && r) e

and-second : (a b : Bool) → (a && b) ≡ true → b ≡ true
and-second true b e = e
and-second false b e = absurd cc

module _ (count : ℕ) (state : State) (es : DeclarationList) (known : IsKnown count state es) where
  -- what is known is among the names
  pub known-in : (n : ℕ) → has_no_declaration state n ≡ false → is_in (names_of_entries es) n ≡ true
  known-in n e = entered-in es n ∙ known.entered n ∙ ap not e

  -- and what is not is not
  pub unknown-in : (n : ℕ) → has_no_declaration state n ≡ true → is_in (names_of_entries es) n ≡ false
  unknown-in n e = entered-in es n ∙ known.entered n ∙ ap not e

  -- the set that a known alias stands for is known
  pub base-known : (n : ℕ) → has_no_declaration state n ≡ false → has_no_declaration state (base_of state n) ≡ false
  base-known n e = elim (alias-or n (symbol_at state n).content) [
    | inl a ↦ ap (λ (c : Content). has_no_declaration state (alias_target n c)) a.1 ∙ known_plain (symbol_at state a.0).content (known.aliases n a.0 a.1)
    | inr same ↦ ap (has_no_declaration state) same ∙ e
  ]
    where
      known_plain : (c : Content) → is_plain c ≡ true → is_undeclared c ≡ false
      known_plain c p = by (is_undeclared c) refl
        where
          by : (s : Bool) → is_undeclared c ≡ s → s ≡ false
          by true q = absurd (plain-known c p q)
          by false q = refl

  -- a known name once more
  pub known-again : (name : ℕ) (above : Option ℕ) → has_no_declaration state name ≡ false → IsKnown count state (es ++ (name, above) ∷ [])
  known-again name above old = record {
    size = known.size;
    entered = λ n. list_any-append (λ (e : ℕ × Option ℕ). e.0 == n) es ((name, above) ∷ []) ∙ twice n (name == n) refl;
    aliases = known.aliases;
    above = λ n. above-again es name above n (known.entered name ∙ ap not old) ∙ known.above n ∙ sym (ap (λ names. directly_above state names n) (names-push es name above) ∙ ap (λ (o : Option ℕ). if base_of state n == n then o else None) (ap (λ (o : Option ℕ). if is_index_set state n then o else None) (in_again n (positions state n))));
  }
    where
      twice : (n : ℕ) (s : Bool) → (name == n) ≡ s → (is_entered es n || (s || false)) ≡ not (has_no_declaration state n)
      twice n true q =
          let same = eqb-true name n q in
          or-true (is_entered es n) ∙ sym (ap (λ (k : ℕ). not (has_no_declaration state k)) (sym same) ∙ ap not old)
      twice n false q = or-false (is_entered es n) ∙ known.entered n

      in_again : (n : ℕ) (domain : List (Option ℕ)) → superset_in state (names_of_entries es ++ name ∷ []) n domain ≡ superset_in state (names_of_entries es) n domain
      in_again n [] = refl
      in_again n (None ∷ []) = refl
      in_again n (None ∷ x ∷ xs) = refl
      in_again n (Some s ∷ []) =
          ap (λ b. if is_index_set state s && b then Some (base_of state s) else None) (met-again (names_of_entries es) name s (base_of state n) (known-in name old))
      in_again n (Some s ∷ x ∷ xs) = refl

  module _ (name : ℕ) (new : has_no_declaration state name ≡ true) (symbol : Symbol) where
    after : State
    after = put_at state name symbol

    other-after : (n : ℕ) → (n ≡ name → ⊥) → symbol_at (put_at state name symbol) n ≡ symbol_at state n
    other-after n ne =
        read-at (set state.symbols name symbol) n ∙ get_or-set_other state.symbols name n symbol no_symbol ne ∙ sym (read-at state.symbols n)

    -- no name stands for a new one
    base-apart : (n : ℕ) → (n ≡ name → ⊥) → base_of state n ≡ name → ⊥
    base-apart n ne is = elim (alias-or n (symbol_at state n).content) [
      | inl a ↦ plain-known (symbol_at state name).content (ap (λ (k : ℕ). is_plain (symbol_at state k).content) (sym is ∙ ap (alias_target n) a.1) ∙ known.aliases n a.0 a.1) new
      | inr same ↦ ne (sym same ∙ is)
    ]

    base-kept : (n : ℕ) → (n ≡ name → ⊥) → base_of (put_at state name symbol) n ≡ base_of state n
    base-kept n ne = ap (λ (s : Symbol). alias_target n s.content) (other-after n ne)

    positions-kept : (n : ℕ) → (n ≡ name → ⊥) → positions (put_at state name symbol) n ≡ positions state n
    positions-kept n ne =
        ap (λ (b : ℕ). (symbol_at (put_at state name symbol) b).domain) (base-kept n ne) ∙ ap (λ (s : Symbol). s.domain) (other-after (base_of state n) (base-apart n ne))

    index-kept : (n : ℕ) → (n ≡ name → ⊥) → is_index_set (put_at state name symbol) n ≡ is_index_set state n
    index-kept n ne =
        ap (λ (s : Symbol). is_set s.content && has_one_position (put_at state name symbol) n) (other-after n ne) ∙ ap (λ (ps : List (Option ℕ)). is_set_name state n && (length ps == 1)) (positions-kept n ne)

    not-index : is_index_set state name ≡ false
    not-index = ap (λ b. b && has_one_position state name) (unknown-unset (symbol_at state name).content new)

    in-kept : (n : ℕ) → (n ≡ name → ⊥) → has_no_declaration state n ≡ false → (domain : List (Option ℕ)) → superset_in (put_at state name symbol) (names_of_entries es ++ name ∷ []) n domain ≡ superset_in state (names_of_entries es) n domain
    in-kept n ne old [] = refl
    in-kept n ne old (None ∷ []) = refl
    in-kept n ne old (None ∷ x ∷ xs) = refl
    in-kept n ne old (Some s ∷ x ∷ xs) = refl
    in-kept n ne old (Some s ∷ []) =
        ap (λ (b : ℕ). if is_index_set (put_at state name symbol) s && is_met_before (names_of_entries es ++ name ∷ []) s b then Some (base_of (put_at state name symbol) s) else None) (base-kept n ne)
        ∙ ap (λ b. if is_index_set (put_at state name symbol) s && b then Some (base_of (put_at state name symbol) s) else None) (met-kept (names_of_entries es) name s (base_of state n) (known-in (base_of state n) (base-known n old)))
        ∙ by (s == name) refl
      where
        by : (t : Bool) → (s == name) ≡ t → (if is_index_set (put_at state name symbol) s && is_met_before (names_of_entries es) s (base_of state n) then Some (base_of (put_at state name symbol) s) else None) ≡ (if is_index_set state s && is_met_before (names_of_entries es) s (base_of state n) then Some (base_of state s) else None)
        by true q =
            let same = eqb-true s name q in
            let out : is_met_before (names_of_entries es) s (base_of state n) ≡ false = met-not (names_of_entries es) s (base_of state n) (ap (is_in (names_of_entries es)) same ∙ unknown-in name new) in
            ap (λ b. if is_index_set (put_at state name symbol) s && b then Some (base_of (put_at state name symbol) s) else None) out
            ∙ ap (λ b. if b then Some (base_of (put_at state name symbol) s) else None) (and-false (is_index_set (put_at state name symbol) s))
            ∙ sym (ap (λ b. if is_index_set state s && b then Some (base_of state s) else None) out ∙ ap (λ b. if b then Some (base_of state s) else None) (and-false (is_index_set state s)))
        by false q =
            ap (λ b. if b && is_met_before (names_of_entries es) s (base_of state n) then Some (base_of (put_at state name symbol) s) else None) (index-kept s (apart s name q))
            ∙ ap (λ (b : ℕ). if is_index_set state s && is_met_before (names_of_entries es) s (base_of state n) then Some b else None) (base-kept s (apart s name q))

    above-kept : (n : ℕ) → (n ≡ name → ⊥) → directly_above (put_at state name symbol) (names_of_entries es ++ name ∷ []) n ≡ directly_above state (names_of_entries es) n
    above-kept n ne =
        ap (λ (b : ℕ). if b == n then superset (put_at state name symbol) (names_of_entries es ++ name ∷ []) n else None) (base-kept n ne)
        ∙ ap (λ (o : Option ℕ). if base_of state n == n then o else None)
        (ap (λ b. if b then superset_in (put_at state name symbol) (names_of_entries es ++ name ∷ []) n (positions (put_at state name symbol) n) else None) (index-kept n ne)
        ∙ ap (λ (ps : List (Option ℕ)). if is_index_set state n then superset_in (put_at state name symbol) (names_of_entries es ++ name ∷ []) n ps else None) (positions-kept n ne)
        ∙ by (is_index_set state n) refl)
      where
        by : (s : Bool) → is_index_set state n ≡ s → (if s then superset_in (put_at state name symbol) (names_of_entries es ++ name ∷ []) n (positions state n) else None) ≡ (if s then superset_in state (names_of_entries es) n (positions state n) else None)
        by true q = in-kept n ne (set-known (symbol_at state n).content ((and_parts (is_set_name state n) (has_one_position state n) q).0)) (positions state n)
        by false q = refl

    -- a new name, with what it is directly below
    pub known-new : (above : Option ℕ) → name < count → is_undeclared symbol.content ≡ false → ((b : ℕ) → symbol.content ≡ alias_of b → is_plain (symbol_at state b).content ≡ true) → above ≡ directly_above (put_at state name symbol) (names_of_entries es ++ name ∷ []) name → IsKnown count (put_at state name symbol) (es ++ (name, above) ∷ [])
    known-new above there declared alias right = record {
      size = length-set state.symbols name symbol ∙ known.size;
      entered = λ n. list_any-append (λ (e : ℕ × Option ℕ). e.0 == n) es ((name, above) ∷ []) ∙ entered_after n (name == n) refl;
      aliases = λ n b is. plain_after n b is (n == name) refl;
      above = λ n. above_after n (name == n) refl ∙ sym (ap (λ names. directly_above (put_at state name symbol) names n) (names-push es name above));
    }
      where
        within : name < length state.symbols
        within = subst (λ k. name < k) (sym known.size) there

        here : symbol_at (put_at state name symbol) name ≡ symbol
        here = read-at (set state.symbols name symbol) name ∙ get_or-set_same state.symbols name symbol no_symbol within

        entered_after : (n : ℕ) (s : Bool) → (name == n) ≡ s → (is_entered es n || (s || false)) ≡ not (has_no_declaration (put_at state name symbol) n)
        entered_after n true q =
            let same = eqb-true name n q in
            or-true (is_entered es n) ∙ sym (ap (λ (k : ℕ). not (has_no_declaration (put_at state name symbol) k)) (sym same) ∙ ap (λ (s : Symbol). not (is_undeclared s.content)) here ∙ ap not declared)
        entered_after n false q =
            or-false (is_entered es n) ∙ known.entered n ∙ sym (ap (λ (s : Symbol). not (is_undeclared s.content)) (other-after n (λ e. apart name n q (sym e))))

        kept_plain : (b : ℕ) → is_plain (symbol_at state b).content ≡ true → is_plain (symbol_at (put_at state name symbol) b).content ≡ true
        kept_plain b plain =
            ap (λ (s : Symbol). is_plain s.content) (other-after b (λ e. plain-known (symbol_at state name).content (ap (λ (k : ℕ). is_plain (symbol_at state k).content) (sym e) ∙ plain) new)) ∙ plain

        plain_after : (n b : ℕ) → (symbol_at (put_at state name symbol) n).content ≡ alias_of b → (s : Bool) → (n == name) ≡ s → is_plain (symbol_at (put_at state name symbol) b).content ≡ true
        plain_after n b is true q =
            let same = eqb-true n name q in
            kept_plain b (alias b (sym (ap (λ (s : Symbol). s.content) (ap (symbol_at (put_at state name symbol)) same ∙ here)) ∙ is))
        plain_after n b is false q =
            kept_plain b (known.aliases n b (sym (ap (λ (s : Symbol). s.content) (other-after n (apart n name q))) ∙ is))

        above_after : (n : ℕ) (s : Bool) → (name == n) ≡ s → above_of (es ++ (name, above) ∷ []) n ≡ directly_above (put_at state name symbol) (names_of_entries es ++ name ∷ []) n
        above_after n true q =
            let same = eqb-true name n q in
            subst (λ (k : ℕ). above_of (es ++ (name, above) ∷ []) k ≡ directly_above (put_at state name symbol) (names_of_entries es ++ name ∷ []) k) same (above-new es name above (known.entered name ∙ ap not new) ∙ right)
        above_after n false q =
            above-other es name above n q ∙ known.above n ∙ sym (above-kept n (λ e. apart name n q (sym e)))

    -- what a new name that is no alias is directly below
    pub new-above : name < count → alias_target name symbol.content ≡ name → among es (base_above (put_at state name symbol) name) ≡ directly_above (put_at state name symbol) (names_of_entries es ++ name ∷ []) name
    new-above there itself =
        by (is_index_set (put_at state name symbol) name) refl
        ∙ sym (ap (λ (b : Bool). if b then superset (put_at state name symbol) (names_of_entries es ++ name ∷ []) name else None) (eq-eqb (base_of (put_at state name symbol) name) name base))
      where
        within : name < length state.symbols
        within = subst (λ k. name < k) (sym known.size) there

        here : symbol_at (put_at state name symbol) name ≡ symbol
        here = read-at (set state.symbols name symbol) name ∙ get_or-set_same state.symbols name symbol no_symbol within

        base : base_of (put_at state name symbol) name ≡ name
        base = ap (λ (s : Symbol). alias_target name s.content) here ∙ itself

        entered_set : (s : ℕ) → is_index_set (put_at state name symbol) s ≡ true → is_entered es (base_of (put_at state name symbol) s) ≡ is_in (names_of_entries es) s
        entered_set s q = at (s == name) refl
          where
            at : (t : Bool) → (s == name) ≡ t → is_entered es (base_of (put_at state name symbol) s) ≡ is_in (names_of_entries es) s
            at true r =
                let same = eqb-true s name r in
                ap (λ (k : ℕ). is_entered es (base_of (put_at state name symbol) k)) same ∙ ap (is_entered es) (base ∙ sym same) ∙ sym (entered-in es s)
            at false r =
                let ne = apart s name r in
                let index : is_index_set state s ≡ true = sym (index-kept s ne) ∙ q in
                let old : has_no_declaration state s ≡ false = set-known (symbol_at state s).content ((and_parts (is_set_name state s) (has_one_position state s) index).0) in
                ap (is_entered es) (base-kept s ne) ∙ sym (entered-in es (base_of state s)) ∙ known-in (base_of state s) (base-known s old) ∙ sym (known-in s old)

        firsts : (domain : List (Option ℕ)) → (length domain == 1) ≡ true → among es (first_base (put_at state name symbol) domain) ≡ superset_in (put_at state name symbol) (names_of_entries es ++ name ∷ []) name domain
        firsts [] q = refl
        firsts (None ∷ []) q = refl
        firsts (None ∷ x ∷ xs) q = refl
        firsts (Some s ∷ x ∷ xs) q = absurd (let e = eqb-true (length (Some s ∷ x ∷ xs)) 1 q in omega arith)
        firsts (Some s ∷ []) q =
            at (is_index_set (put_at state name symbol) s) refl
            ∙ sym (ap (λ b. if is_index_set (put_at state name symbol) s && b then Some (base_of (put_at state name symbol) s) else None) (ap (is_met_before (names_of_entries es ++ name ∷ []) s) base ∙ met-new (names_of_entries es) name s (unknown-in name new)))
          where
            at : (t : Bool) → is_index_set (put_at state name symbol) s ≡ t → among es (if t then Some (base_of (put_at state name symbol) s) else None) ≡ (if t && is_in (names_of_entries es) s then Some (base_of (put_at state name symbol) s) else None)
            at true r = ap (λ (b : Bool). if b then Some (base_of (put_at state name symbol) s) else None) (entered_set s r)
            at false r = refl

        by : (t : Bool) → is_index_set (put_at state name symbol) name ≡ t → among es (if t then first_base (put_at state name symbol) (positions (put_at state name symbol) name) else None) ≡ (if t then superset_in (put_at state name symbol) (names_of_entries es ++ name ∷ []) name (positions (put_at state name symbol) name) else None)
        by true q = firsts (positions (put_at state name symbol) name) (and-second (is_set_name (put_at state name symbol) name) (has_one_position (put_at state name symbol) name) q)
        by false q = refl
