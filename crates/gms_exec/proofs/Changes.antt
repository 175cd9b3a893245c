-- States in which what one name stands for is changed.
use Rattle.std.proofs.Common.{◌≡◌, ◌⊎◌, ℕ, zero, suc, Bool, true, false, ◌==◌, List, [], ◌∷◌, set, slice_get, refl, ap, ◌∙◌, subst, Some, unwrap_or, inl, inr}
use Rattle.std.proofs.lemmas.Bool.{eqb-true, eq-eqb, both_ways}
use Rattle.gms_store.specs.State.{Symbol, State, no_symbol, symbol_at, alias_target, base_of, symbol_of, with_symbol}

-- ---- lists

-- writing an element where it is already changes nothing
set-same : {X : Type 0} (xs : List X) (i : ℕ) (d : X) → set xs i (unwrap_or (slice_get xs i) d) ≡ xs
set-same [] i d = refl
set-same (x ∷ xs) zero d = refl
set-same (x ∷ xs) (suc i) d = ap (λ ys. x ∷ ys) (set-same xs i d)

-- an element that is changed, and then changed once more
set-twice : {X : Type 0} (xs : List X) (i : ℕ) (d : X) (f g : X → X) → set (set xs i (f (unwrap_or (slice_get xs i) d))) i (g (unwrap_or (slice_get (set xs i (f (unwrap_or (slice_get xs i) d))) i) d)) ≡ set xs i (g (f (unwrap_or (slice_get xs i) d)))
set-twice [] i d f g = refl
set-twice (x ∷ xs) zero d f g = refl
set-twice (x ∷ xs) (suc i) d f g = ap (λ ys. x ∷ ys) (set-twice xs i d f g)

-- what is read at a place where something was written: the new element, or as before
read-set_or : {X : Type 0} (xs : List X) (i : ℕ) (v : X) → (slice_get (set xs i v) i ≡ slice_get xs i) ⊎ (slice_get (set xs i v) i ≡ Some v)
read-set_or [] i v = inl refl
read-set_or (x ∷ xs) zero v = inr refl
read-set_or (x ∷ xs) (suc i) v = read-set_or xs i v

-- and at another place
read-set_other : {X : Type 0} (xs : List X) (i j : ℕ) (v : X) → (i ≡ j → ⊥) → slice_get (set xs i v) j ≡ slice_get xs j
read-set_other [] i j v apart = refl
read-set_other (x ∷ xs) zero zero v apart = absurd (apart refl)
read-set_other (x ∷ xs) zero (suc j) v apart = refl
read-set_other (x ∷ xs) (suc i) zero v apart = refl
read-set_other (x ∷ xs) (suc i) (suc j) v apart = read-set_other xs i j v (λ e. apart (ap suc e))

-- ---- states

-- the state in which what a name stands for is changed
abbrev pub changed : (Symbol → Symbol) → ℕ → State → State
changed f name state = with_symbol state name (f (symbol_of state name))

-- a change after which a name stands for what it stood for
abbrev pub KeepsBase : (Symbol → Symbol) → Type 0
KeepsBase f = (s : Symbol) (n : ℕ) → alias_target n (f s).content ≡ alias_target n s.content

-- a change that changes nothing
pub changed-same : (f : Symbol → Symbol) (name : ℕ) (state : State) → f (symbol_of state name) ≡ symbol_of state name → changed f name state ≡ state
changed-same f name state e =
    ap (with_symbol state name) e ∙ ap (λ symbols. record { symbols = symbols; settings = state.settings }) (set-same state.symbols (base_of state name) no_symbol)

-- two changes that do the same to the symbol there
pub changed-as : (f g : Symbol → Symbol) (name : ℕ) (state : State) → f (symbol_of state name) ≡ g (symbol_of state name) → changed f name state ≡ changed g name state
changed-as f g name state e = ap (with_symbol state name) e

module _ (f : Symbol → Symbol) (keeps : KeepsBase f) (name : ℕ) (state : State) where
  -- what a name stands for stays
  base-after : base_of (changed f name state) name ≡ base_of state name
  base-after = by (base_of state name == name) refl
    where
      by : (b : Bool) → (base_of state name == name) ≡ b → base_of (changed f name state) name ≡ base_of state name
      by false apart =
          ap (λ s. alias_target name (unwrap_or s no_symbol).content) (read-set_other state.symbols (base_of state name) name (f (symbol_of state name)) (λ e. both_ways (base_of state name == name) apart (eq-eqb (base_of state name) name e)))
      by true same =
          let here : base_of state name ≡ name = eqb-true (base_of state name) name same in
          elim (read-set_or state.symbols (base_of state name) (f (symbol_of state name))) [
            | inl old ↦ subst (λ n. alias_target name (unwrap_or (slice_get (set state.symbols (base_of state name) (f (symbol_of state name))) n) no_symbol).content ≡ alias_target name (unwrap_or (slice_get state.symbols n) no_symbol).content) here (ap (λ s. alias_target name (unwrap_or s no_symbol).content) old)
            | inr put ↦ subst (λ n. alias_target name (unwrap_or (slice_get (set state.symbols (base_of state name) (f (symbol_of state name))) n) no_symbol).content ≡ alias_target name (unwrap_or (slice_get state.symbols n) no_symbol).content) here (ap (λ s. alias_target name (unwrap_or s no_symbol).content) put ∙ keeps (symbol_of state name) name)
          ]

  -- a change after another is both of them
  pub changed-twice : (g : Symbol → Symbol) → changed g name (changed f name state) ≡ changed (λ s. g (f s)) name state
  changed-twice g =
      ap (λ n. record { symbols = set (changed f name state).symbols n (g (symbol_at (changed f name state) n)); settings = state.settings }) base-after
      ∙ ap (λ symbols. record { symbols = symbols; settings = state.settings }) (set-twice state.symbols (base_of state name) no_symbol f g)
