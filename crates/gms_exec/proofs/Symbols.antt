-- A state in which one name stands for another symbol: what each name stands for there.
use Rattle.std.proofs.Common.{◌≡◌, ◌⊎◌, ℕ, zero, suc, ◌<◌, Bool, true, false, ◌==◌, List, [], ◌∷◌, length, set, slice_get, refl, sym, ap, ◌∙◌, Some, unwrap_or, subst, arith, inl, inr}
use Rattle.std.proofs.lemmas.Bool.{eqb-true, eq-eqb, both_ways}
use Rattle.gms_store.specs.State.{Symbol, State, no_symbol, symbol_at, alias_target, base_of, symbol_of, with_symbol}

-- what is read of a list after a write at a place: there the new element, elsewhere the old one
get-set_here : (xs : List Symbol) (i : ℕ) (v : Symbol) → i < length xs → slice_get (set xs i v) i ≡ Some v
get-set_here [] i v within = absurd (omega arith)
get-set_here (x ∷ xs) zero v within = refl
get-set_here (x ∷ xs) (suc i) v within = get-set_here xs i v (omega arith)

get-set_either : (xs : List Symbol) (i : ℕ) (v : Symbol) → (slice_get (set xs i v) i ≡ slice_get xs i) ⊎ (slice_get (set xs i v) i ≡ Some v)
get-set_either [] i v = inl refl
get-set_either (x ∷ xs) zero v = inr refl
get-set_either (x ∷ xs) (suc i) v = get-set_either xs i v

get-set_elsewhere : (xs : List Symbol) (i j : ℕ) (v : Symbol) → (i ≡ j → ⊥) → slice_get (set xs i v) j ≡ slice_get xs j
get-set_elsewhere [] i j v apart = refl
get-set_elsewhere (x ∷ xs) zero zero v apart = absurd (apart refl)
get-set_elsewhere (x ∷ xs) zero (suc j) v apart = refl
get-set_elsewhere (x ∷ xs) (suc i) zero v apart = refl
get-set_elsewhere (x ∷ xs) (suc i) (suc j) v apart = get-set_elsewhere xs i j v (λ e. apart (ap suc e))

module _ (state : State) (name : ℕ) (new : Symbol) where
  -- the symbol at a number is as before, or it is the new symbol at the changed name
  pub at-after : (n : ℕ) → (symbol_at (with_symbol state name new) n ≡ symbol_at state n) ⊎ ((n ≡ base_of state name) × (symbol_at (with_symbol state name new) n ≡ new))
  at-after n = by (base_of state name == n) refl
    where
      by : (b : Bool) → (base_of state name == n) ≡ b → (symbol_at (with_symbol state name new) n ≡ symbol_at state n) ⊎ ((n ≡ base_of state name) × (symbol_at (with_symbol state name new) n ≡ new))
      by false apart = inl (ap (λ s. unwrap_or s no_symbol) (get-set_elsewhere state.symbols (base_of state name) n new (λ e. both_ways (base_of state name == n) apart (eq-eqb (base_of state name) n e))))
      by true same =
          let here : base_of state name ≡ n = eqb-true (base_of state name) n same in
          elim (get-set_either state.symbols (base_of state name) new) [
            | inl old ↦ inl (subst (λ n. unwrap_or (slice_get (set state.symbols (base_of state name) new) n) no_symbol ≡ unwrap_or (slice_get state.symbols n) no_symbol) here (ap (λ s. unwrap_or s no_symbol) old))
            | inr changed ↦ inr (sym here, subst (λ n. unwrap_or (slice_get (set state.symbols (base_of state name) new) n) no_symbol ≡ new) here (ap (λ s. unwrap_or s no_symbol) changed))
          ]

  module _ (alike : (n : ℕ) → alias_target n new.content ≡ alias_target n (symbol_of state name).content) where
    -- which name each name stands for stays
    pub base-after : (other : ℕ) → base_of (with_symbol state name new) other ≡ base_of state other
    base-after other = elim (at-after other) [
      | inl same ↦ ap (λ (s : Symbol). alias_target other s.content) same
      | inr changed ↦ ap (λ (s : Symbol). alias_target other s.content) changed.1 ∙ alike other ∙ ap (λ n. alias_target other (symbol_at state n).content) (sym changed.0)
    ]

    -- a name that stands for another one is as before
    pub symbol-elsewhere : (other : ℕ) → (base_of state other ≡ base_of state name → ⊥) → symbol_of (with_symbol state name new) other ≡ symbol_of state other
    symbol-elsewhere other apart = elim (at-after (base_of state other)) [
      | inl same ↦ ap (symbol_at (with_symbol state name new)) (base-after other) ∙ same
      | inr changed ↦ absurd (apart changed.0)
    ]

    -- the changed name is the new symbol
    pub symbol-here : base_of state name < length state.symbols → symbol_of (with_symbol state name new) name ≡ new
    symbol-here within =
        ap (symbol_at (with_symbol state name new)) (base-after name) ∙ ap (λ s. unwrap_or s no_symbol) (get-set_here state.symbols (base_of state name) new within)
