-- What each name of the state in which an accepted program begins stands for is declared there.
use Rattle.std.proofs.Common.{◌≡◌, ℕ, Bool, true, false, not, ◌&&◌, cond, List, [], ◌∷◌, length, Option, Some, None, Ok, Err, Result, refl, sym, ap, ◌∙◌, subst, ◌⊎◌, inl, inr}
use Rattle.std.specs.List.{fold}
use Rattle.std.proofs.lemmas.Bool.{both_ways, and_parts, not-true}
use Rattle.gq_extended.specs.Extended.{Extended}
use Rattle.gq_extended.specs.Meaning.{extended as value_shown}
use Rattle.gq_number.specs.Number.{Number}
use Rattle.gms_ast.specs.declared.declaration.Decl.{Decl}
use Rattle.gms_ast.specs.declared.declaration.DeclKind.{DeclKind}
use Rattle.gms_ast.specs.declared.declaration.DeclKind.TheVariants as kind
use Rattle.gms_ast.specs.declared.program.Program.{Program}
use Rattle.gms_store.specs.Declarations.{names_of, positions_of, content_of, symbol_of_kind, retyped, is_set, is_undeclared, declared_again, put_at, declare, alias_symbol, can_join, join_name, declare_alias, model_symbol, declare_model, blank_state}
use Rattle.gms_store.specs.State.{State, Content, undeclared, alias_of, set_of, parameter_of, variable_of, equation_of, model_with, Symbol, symbol_at, symbol_of, alias_target, base_of, with_content, if_fits, with_membership, with_value}
use Rattle.gms_set.specs.declared.fault.SetFault.{SetFault}
use Rattle.gms_set.specs.Expansion.{ExpandedData, expanded}
use Rattle.gms_scope.specs.Data.{with_datum}
use Rattle.gms_check.specs.Loaded.{IsAccepted, loaded}
use Rattle.gms_check.specs.Past.{with_data, with_item, with_name}
use Rattle.gms_check.proofs.Growing.{put-at}
use Rattle.gms_check.proofs.IndexSetsStay.{none-declared}
use Rattle.gms_run_laws.specs.Agreeing.{declares, IsClosed}
use Rattle.gms_run_laws.proofs.DeclaredStates.{over-accepted}
use Rattle.gms_run_laws.proofs.LoadedPositions.{Gains, gains-fresh, gains-again, IsWithDatum, datum-member, datum-value, either-new, gains-new}

-- what is not declared stands for itself
pub own : (c : Content) (m : ℕ) → is_undeclared c ≡ true → alias_target m c ≡ m
own undeclared m e = refl
own (alias_of base) m e = absurd (cc)
own (set_of members) m e = absurd (cc)
own (parameter_of entries) m e = absurd (cc)
own (variable_of type entries) m e = absurd (cc)
own (equation_of entries) m e = absurd (cc)
own (model_with model solver) m e = absurd (cc)

abbrev OccursWell : State → ℕ → Symbol → Type 0
OccursWell state name new = (alias_target name new.content ≡ name) ⊎ (declares state (alias_target name new.content) ≡ true)

module _ (state : State) (name : ℕ) (new : Symbol) (gains : Gains (symbol_at state name) new) where
  abbrev next : State
  next = put_at state name new

  old-declared : (n : ℕ) → declares state n ≡ true → is_undeclared (symbol_at state n).content ≡ false
  old-declared n is = not-true (is_undeclared (symbol_at state n).content) is

  stays-declared : (n : ℕ) → declares state n ≡ true → declares next n ≡ true
  stays-declared n is = elim (put-at state name new n) [
    | inl same ↦ ap (λ (s : Symbol). not (is_undeclared s.content)) same ∙ is
    | inr changed ↦ ap (λ (s : Symbol). not (is_undeclared s.content)) changed.1 ∙ ap not (gains.declared (old-declared name (subst (λ m. declares state m ≡ true) changed.0 is)))
  ]

  -- a state stays closed where a declared name changes, or a new one stands for itself or for a
  -- declared name
  closed-put : IsClosed state → (is_undeclared (symbol_at state name).content ≡ true → OccursWell state name new) → IsClosed next
  closed-put closed fresh n is = elim (put-at state name new n) [
    | inl same ↦ subst (λ m. declares next m ≡ true) (sym (ap (λ (s : Symbol). alias_target n s.content) same)) (stays-declared (base_of state n) (closed n (sym (ap (λ (s : Symbol). not (is_undeclared s.content)) same) ∙ is)))
    | inr changed ↦ by (is_undeclared (symbol_at state name).content) refl changed.0 changed.1
  ]
    where
      by : (b : Bool) → is_undeclared (symbol_at state name).content ≡ b → n ≡ name → symbol_at next n ≡ new → declares next (base_of next n) ≡ true
      by true none at there =
          let base : base_of next n ≡ alias_target name new.content = ap (λ (s : Symbol). alias_target n s.content) there ∙ ap (λ m. alias_target m new.content) at in
          elim (fresh none) [
            | inl itself ↦ subst (λ m. declares next m ≡ true) (sym (base ∙ itself ∙ sym at)) is
            | inr other ↦ subst (λ m. declares next m ≡ true) (sym base) (stays-declared (alias_target name new.content) other)
          ]
      by false before at there = elim gains.alike [
        | inl none ↦ absurd (both_ways (is_undeclared (symbol_at state name).content) before none)
        | inr alike ↦
            let base : base_of next n ≡ base_of state name = ap (λ (s : Symbol). alias_target n s.content) there ∙ ap (λ m. alias_target m new.content) at ∙ alike name in
            subst (λ m. declares next m ≡ true) (sym base) (stays-declared (base_of state name) (closed name (ap not before)))
      ]

-- ---- declarations

pub new-itself : (k : DeclKind) (domain : List (Option ℕ)) (m : ℕ) → alias_target m (symbol_of_kind k domain).content ≡ m
new-itself kind.Set domain m = refl
new-itself kind.Parameter domain m = refl
new-itself kind.Scalar domain m = refl
new-itself kind.Table domain m = refl
new-itself kind.Free domain m = refl
new-itself kind.Positive domain m = refl
new-itself kind.Negative domain m = refl
new-itself kind.Discrete domain m = refl
new-itself kind.Equation domain m = refl

closed-declare : (k : DeclKind) (domain : List (Option ℕ)) (state : State) (name : ℕ) → IsClosed state → IsClosed (declare k domain state name)
closed-declare k domain state name closed =
    let s = symbol_at state name in
    closed-put state name (declared_again k domain s) (gains-again k domain s) closed
    (λ none. inl (ap (λ (b : Bool). alias_target name (cond b (symbol_of_kind k domain) (with_content s (retyped s.content (content_of k)))).content) none ∙ new-itself k domain name))

second-holds : (a b : Bool) → (a && b) ≡ true → b ≡ true
second-holds true b e = e
second-holds false b e = absurd (cc)

set-declared : (content : Content) → is_set content ≡ true → not (is_undeclared content) ≡ true
set-declared undeclared e = absurd (cc)
set-declared (alias_of base) e = refl
set-declared (set_of members) e = refl
set-declared (parameter_of values) e = absurd (cc)
set-declared (variable_of type entries) e = absurd (cc)
set-declared (equation_of entries) e = absurd (cc)
set-declared (model_with model solver) e = absurd (cc)

closed-join : (state : State) (old new : ℕ) → can_join state old new ≡ true → IsClosed state → IsClosed (join_name state old new)
closed-join state old new can closed =
    closed-put state new (alias_symbol (base_of state old)) (gains-fresh (symbol_at state new) (alias_symbol (base_of state old)) (second-holds (is_set (symbol_at state old).content) (is_undeclared (symbol_at state new).content) can)) closed
    (λ none. inr (closed old (set-declared (symbol_at state old).content ((and_parts (is_set (symbol_at state old).content) (is_undeclared (symbol_at state new).content) can).0))))

pub closed-alias : (state : State) (first second : ℕ) → IsClosed state → IsClosed (declare_alias state first second)
closed-alias state first second closed = by (can_join state first second) (can_join state second first) refl refl
  where
    by : (a b : Bool) → can_join state first second ≡ a → can_join state second first ≡ b → IsClosed (cond a (join_name state first second) (cond b (join_name state second first) (declare kind.Set [] (declare kind.Set [] state first) second)))
    by true b can other = closed-join state first second can closed
    by false true none can = closed-join state second first can closed
    by false false none other = closed-declare kind.Set [] (declare kind.Set [] state first) second (closed-declare kind.Set [] state first closed)

pub closed-model : (state : State) (name : ℕ) → IsClosed state → IsClosed (declare_model state name)
closed-model state name closed = by (is_undeclared (symbol_at state name).content) refl
  where
    by : (b : Bool) → is_undeclared (symbol_at state name).content ≡ b → IsClosed (cond b (put_at state name model_symbol) state)
    by true none = closed-put state name model_symbol (gains-fresh (symbol_at state name) model_symbol none) closed (λ none. inl refl)
    by false there = closed

-- ---- data

-- a datum changes nothing of what a name stands for
pub following-member : (n : ℕ) (t : List ℕ) (c : Content) → alias_target n (with_membership c t true) ≡ alias_target n c
following-member n t undeclared = refl
following-member n t (alias_of base) = refl
following-member n t (set_of members) = refl
following-member n t (parameter_of entries) = refl
following-member n t (variable_of type entries) = refl
following-member n t (equation_of entries) = refl
following-member n t (model_with model solver) = refl

pub following-value : (n : ℕ) (t : List ℕ) (x : Extended) (c : Content) → alias_target n (with_value c t x) ≡ alias_target n c
following-value n t x undeclared = refl
following-value n t x (alias_of base) = refl
following-value n t x (set_of members) = refl
following-value n t x (parameter_of entries) = refl
following-value n t x (variable_of type entries) = refl
following-value n t x (equation_of entries) = refl
following-value n t x (model_with model solver) = refl

closed-datum : (state : State) (name : ℕ) (t : List ℕ) (new : Content) → IsWithDatum t (symbol_of state name).content new → ((n : ℕ) → alias_target n new ≡ alias_target n (symbol_of state name).content) → IsClosed state → IsClosed (put_at state (base_of state name) (if_fits (symbol_of state name) t new))
closed-datum state name t new datum same closed =
    closed-put state (base_of state name) (if_fits (symbol_of state name) t new) (gains-new state name t new datum) closed
    (λ none. inl (either-new state name t new datum (λ (s : Symbol). alias_target (base_of state name) s.content ≡ base_of state name) (same (base_of state name) ∙ own (symbol_of state name).content (base_of state name) none) (own (symbol_of state name).content (base_of state name) none)))

module _ {F : Type 0} (v : F → Number) where
  closed-data : (ds : ExpandedData F) (state : State) (name : ℕ) → IsClosed state → IsClosed (fold (with_datum v name) state ds)
  closed-data [] state name closed = closed
  closed-data ((t, None) ∷ ds) state name closed =
      let s = symbol_of state name in
      closed-data ds (put_at state (base_of state name) (if_fits s t (with_membership s.content t true))) name (closed-datum state name t (with_membership s.content t true) (datum-member t s.content) (λ n. following-member n t s.content) closed)
  closed-data ((t, Some x) ∷ ds) state name closed =
      let s = symbol_of state name in
      closed-data ds (put_at state (base_of state name) (if_fits s t (with_value s.content t (value_shown v x)))) name (closed-datum state name t (with_value s.content t (value_shown v x)) (datum-value t (value_shown v x) s.content) (λ n. following-value n t (value_shown v x) s.content) closed)

  closed-given : (state : State) (name : ℕ) (given : Result (ExpandedData F) SetFault) → IsClosed state → IsClosed (with_data v state name given)
  closed-given state name (Ok given) closed = closed-data given state name closed
  closed-given state name (Err fault) closed = closed

  pub closed-item : (k : DeclKind) (state : State) (item : Decl F) → IsClosed state → IsClosed (with_item v k state item)
  closed-item k state item closed =
      closed-given (with_name v k state item) item.named.name (expanded state (positions_of k (names_of item.domain)) item.items) (closed-declare k (names_of item.domain) state item.named.name closed)

-- nothing is declared before any statement
pub blank-closed : (names : ℕ) → IsClosed (blank_state names)
blank-closed names n is =
    absurd (let e : ◌≡◌ {A = Bool} false true = sym (ap (λ (s : Symbol). not (is_undeclared s.content)) (none-declared names n)) ∙ is in let z : ⊥ = cc in z)

pub loaded-closed : {F : Type 0} (v : F → Number) (program : Program F) → IsAccepted v program → IsClosed (loaded v program)
loaded-closed v program accepted =
    over-accepted program IsClosed (λ k known item same clean closed. closed-item known.value k known.state item closed) closed-alias closed-model v accepted (blank-closed (length program.names))
