-- In the state in which an accepted program begins no model has been solved.
use Rattle.std.proofs.Common.{◌≡◌, ℕ, Bool, true, false, ◌==◌, cond, List, [], ◌∷◌, length, Option, Some, None, Result, Ok, Err, refl, sym, subst, inl, inr}
use Rattle.std.specs.List.{fold}
use Rattle.gq_number.specs.Number.{Number}
use Rattle.gq_extended.specs.Extended.{Extended}
use Rattle.gq_extended.specs.Meaning.{extended as value_shown}
use Rattle.gq_extended.specs.declared.extended.Ext.{Ext}
use Rattle.gms_ast.specs.declared.declaration.Decl.{Decl}
use Rattle.gms_ast.specs.declared.declaration.DeclKind.{DeclKind}
use Rattle.gms_ast.specs.declared.declaration.DeclKind.TheVariants as kind
use Rattle.gms_ast.specs.declared.program.Program.{Program}
use Rattle.gms_store.specs.declared.kind.VariableType.TheVariants as type
use Rattle.gms_store.specs.State.{State, Attributes, Entries, Content, undeclared, alias_of, set_of, parameter_of, variable_of, equation_of, model_with, Symbol, symbol_at, symbol_of, base_of, statuses_in, with_content, if_fits, with_membership, with_value}
use Rattle.gms_store.specs.Declarations.{names_of, positions_of, content_of, symbol_of_kind, retyped, is_undeclared, declared_again, put_at, declare, alias_symbol, model_symbol, join_name, can_join, declare_alias, declare_model}
use Rattle.gms_set.specs.declared.fault.SetFault.{SetFault}
use Rattle.gms_set.specs.Expansion.{ExpandedData, expanded}
use Rattle.gms_scope.specs.Data.{with_datum}
use Rattle.gms_check.specs.Loaded.{IsAccepted, loaded}
use Rattle.gms_check.specs.Past.{Known, with_data, with_item, with_name}
use Rattle.gms_check.proofs.Growing.{put-at}
use Rattle.gms_check.proofs.IndexSetsStay.{none-declared}
use Rattle.gms_run_laws.proofs.DeclaredStates.{over-accepted}

-- a content has the statuses of before a solve
abbrev IsUnsolved : Content → Type 0
IsUnsolved content = statuses_in content ≡ (0, 0)

-- so has each name
abbrev AreUnsolved : State → Type 0
AreUnsolved state = (n : ℕ) → IsUnsolved (symbol_at state n).content

unsolved-put : (state : State) (name : ℕ) (new : Symbol) → IsUnsolved new.content → AreUnsolved state → AreUnsolved (put_at state name new)
unsolved-put state name new none all n = elim (put-at state name new n) [
  | inl same ↦ subst (λ (s : Symbol). IsUnsolved s.content) (sym same) (all n)
  | inr changed ↦ subst (λ (s : Symbol). IsUnsolved s.content) (sym changed.1) none
]

unsolved-fold : {X : Type 0} (f : State → X → State) → ((s : State) (x : X) → AreUnsolved s → AreUnsolved (f s x)) → (xs : List X) (s : State) → AreUnsolved s → AreUnsolved (fold f s xs)
unsolved-fold f each [] s all = all
unsolved-fold f each (x ∷ xs) s all = unsolved-fold f each xs (f s x) (each s x all)

-- ---- declarations

unsolved-kind : (k : DeclKind) → IsUnsolved (content_of k)
unsolved-kind kind.Set = refl
unsolved-kind kind.Parameter = refl
unsolved-kind kind.Scalar = refl
unsolved-kind kind.Table = refl
unsolved-kind kind.Free = refl
unsolved-kind kind.Positive = refl
unsolved-kind kind.Negative = refl
unsolved-kind kind.Discrete = refl
unsolved-kind kind.Equation = refl

unsolved-free : (entries : Entries Attributes) (later : Content) → IsUnsolved (retyped (variable_of type.Free entries) later)
unsolved-free entries undeclared = refl
unsolved-free entries (alias_of base) = refl
unsolved-free entries (set_of members) = refl
unsolved-free entries (parameter_of values) = refl
unsolved-free entries (variable_of other none) = refl
unsolved-free entries (equation_of others) = refl
unsolved-free entries (model_with m s) = refl

unsolved-retyped : (content later : Content) → IsUnsolved content → IsUnsolved (retyped content later)
unsolved-retyped undeclared later none = refl
unsolved-retyped (alias_of base) later none = refl
unsolved-retyped (set_of members) later none = refl
unsolved-retyped (parameter_of values) later none = refl
unsolved-retyped (variable_of type.Free entries) later none = unsolved-free entries later
unsolved-retyped (variable_of type.Positive entries) later none = refl
unsolved-retyped (variable_of type.Negative entries) later none = refl
unsolved-retyped (variable_of type.Discrete entries) later none = refl
unsolved-retyped (equation_of others) later none = refl
unsolved-retyped (model_with m s) later none = none

unsolved-declare : (k : DeclKind) (domain : List (Option ℕ)) (state : State) (name : ℕ) → AreUnsolved state → AreUnsolved (declare k domain state name)
unsolved-declare k domain state name all =
    unsolved-put state name (declared_again k domain (symbol_at state name)) (by (is_undeclared (symbol_at state name).content)) all
  where
    by : (b : Bool) → IsUnsolved (cond b (symbol_of_kind k domain) (with_content (symbol_at state name) (retyped (symbol_at state name).content (content_of k)))).content
    by true = unsolved-kind k
    by false = unsolved-retyped (symbol_at state name).content (content_of k) (all name)

unsolved-alias : (state : State) (first second : ℕ) → AreUnsolved state → AreUnsolved (declare_alias state first second)
unsolved-alias state first second all = by (can_join state first second) (can_join state second first)
  where
    by : (a b : Bool) → AreUnsolved (cond a (join_name state first second) (cond b (join_name state second first) (declare kind.Set [] (declare kind.Set [] state first) second)))
    by true b = unsolved-put state second (alias_symbol (base_of state first)) refl all
    by false true = unsolved-put state first (alias_symbol (base_of state second)) refl all
    by false false =
        unsolved-declare kind.Set [] (declare kind.Set [] state first) second (unsolved-declare kind.Set [] state first all)

unsolved-model : (state : State) (name : ℕ) → AreUnsolved state → AreUnsolved (declare_model state name)
unsolved-model state name all = by (is_undeclared (symbol_at state name).content)
  where
    by : (b : Bool) → AreUnsolved (cond b (put_at state name model_symbol) state)
    by true = unsolved-put state name model_symbol refl all
    by false = all

-- ---- data

unsolved-fitted : (s : Symbol) (t : List ℕ) (new : Content) → IsUnsolved new → IsUnsolved s.content → IsUnsolved (if_fits s t new).content
unsolved-fitted s t new none old = by (length t == length s.domain)
  where
    by : (b : Bool) → IsUnsolved (cond b (with_content s new) s).content
    by true = none
    by false = old

unsolved-membership : (content : Content) (t : List ℕ) → IsUnsolved content → IsUnsolved (with_membership content t true)
unsolved-membership undeclared t none = none
unsolved-membership (alias_of base) t none = none
unsolved-membership (set_of members) t none = refl
unsolved-membership (parameter_of values) t none = none
unsolved-membership (variable_of type entries) t none = none
unsolved-membership (equation_of entries) t none = none
unsolved-membership (model_with m s) t none = none

unsolved-value : (content : Content) (t : List ℕ) (x : Extended) → IsUnsolved content → IsUnsolved (with_value content t x)
unsolved-value undeclared t x none = none
unsolved-value (alias_of base) t x none = none
unsolved-value (set_of members) t x none = none
unsolved-value (parameter_of values) t x none = refl
unsolved-value (variable_of type entries) t x none = none
unsolved-value (equation_of entries) t x none = none
unsolved-value (model_with m s) t x none = none

module _ {F : Type 0} (v : F → Number) where
  unsolved-datum : (name : ℕ) (state : State) (datum : List ℕ × Option (Ext F)) → AreUnsolved state → AreUnsolved (with_datum v name state datum)
  unsolved-datum name state (t, None) all =
      let s = symbol_of state name in
      let old = all (base_of state name) in
      unsolved-put state (base_of state name) (if_fits s t (with_membership s.content t true)) (unsolved-fitted s t (with_membership s.content t true) (unsolved-membership s.content t old) old) all
  unsolved-datum name state (t, Some x) all =
      let s = symbol_of state name in
      let old = all (base_of state name) in
      unsolved-put state (base_of state name) (if_fits s t (with_value s.content t (value_shown v x))) (unsolved-fitted s t (with_value s.content t (value_shown v x)) (unsolved-value s.content t (value_shown v x) old) old) all

  unsolved-data : (state : State) (name : ℕ) (given : Result (ExpandedData F) SetFault) → AreUnsolved state → AreUnsolved (with_data v state name given)
  unsolved-data state name (Ok given) all = unsolved-fold (with_datum v name) (unsolved-datum name) given state all
  unsolved-data state name (Err fault) all = all

unsolved-item : {F : Type 0} (k : DeclKind) (known : Known F) (item : Decl F) → AreUnsolved known.state → AreUnsolved (with_item known.value k known.state item)
unsolved-item k known item all =
    unsolved-data known.value (with_name known.value k known.state item) item.named.name (expanded known.state (positions_of k (names_of item.domain)) item.items) (unsolved-declare k (names_of item.domain) known.state item.named.name all)

-- no model has been solved where an accepted program begins
pub loaded-unsolved : {F : Type 0} (v : F → Number) (program : Program F) (name : ℕ) → IsAccepted v program → statuses_in (symbol_at (loaded v program) name).content ≡ (0, 0)
loaded-unsolved v program name accepted =
    over-accepted program AreUnsolved (λ k known item same clean all. unsolved-item k known item all) unsolved-alias unsolved-model v accepted (λ n. subst (λ (s : Symbol). IsUnsolved s.content) (sym (none-declared (length program.names) n)) refl) name
