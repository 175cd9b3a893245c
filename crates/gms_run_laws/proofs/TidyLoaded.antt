-- The state in which a program begins is tidy, and its settings are the first ones.
use Rattle.std.proofs.Common.{◌≡◌, ℕ, Bool, true, false, ◌||◌, ◌==◌, cond, List, [], ◌∷◌, length, Option, Some, None, unwrap_or, is_some, Result, Ok, Err, refl, sym, ap, ◌∙◌, subst, inl, inr}
use Rattle.std.specs.FinMap as finite
use Rattle.std.specs.List.{fold}
use Rattle.std.proofs.lemmas.Bool.{eqb-true, both_ways}
use Rattle.std.proofs.lemmas.List.Elements.{All-nil}
use Rattle.gq_number.specs.Number.{Number}
use Rattle.gq_extended.specs.Extended.{Extended}
use Rattle.gq_extended.specs.Meaning.{extended as value_shown}
use Rattle.gq_extended.specs.declared.extended.Ext.{Ext}
use Rattle.gms_ast.specs.declared.declaration.DeclKind.{DeclKind}
use Rattle.gms_ast.specs.declared.declaration.DeclKind.TheVariants as kind
use Rattle.gms_ast.specs.declared.declaration.Decl.{Decl}
use Rattle.gms_ast.specs.declared.declaration.ModelDecl.{ModelDecl}
use Rattle.gms_ast.specs.declared.program.Act.{Act, roll-Act}
use Rattle.gms_ast.specs.declared.program.Act.TheOpen.{Act-F}
use Rattle.gms_ast.specs.declared.program.Act.TheVariants.{rolls-Declare, rolls-Alias, rolls-Assign, rolls-Define, rolls-Model, rolls-Solve, rolls-Display, rolls-Loop, rolls-Options, rolls-Abort}
use Rattle.gms_ast.specs.declared.program.Program.{Program}
use Rattle.gms_ast.specs.declared.program.Stmt.{Stmt}
use Rattle.gms_tuple.specs.TupleOrder.{tuple_cmp, same_tuple}
use Rattle.gms_tuple.specs.TupleSet.{has, inserted}
use Rattle.gms_tuple.proofs.Members.{IsOrdered-inserted, has-inserted}
use Rattle.gms_tuple.proofs.Ordered.{ordered-nil, same_tuple-Decides}
use Rattle.gms_store.specs.declared.kind.VariableType.TheVariants as type
use Rattle.gms_store.specs.declared.kind.VariableType.{VariableType}
use Rattle.gms_store.specs.State.{State, Attributes, Entries, Content, undeclared, alias_of, set_of, parameter_of, variable_of, equation_of, model_with, Symbol, zero, symbol_at, symbol_of, base_of, absent_variable, unbounded, is_given, with_content, if_fits, with_membership, with_value, entries_after_write}
use Rattle.gms_store.specs.Declarations.{names_of, positions_of, content_of, symbol_of_kind, retyped, is_undeclared, declared_again, put_at, declare, alias_symbol, model_symbol, join_name, can_join, declare_alias, declare_model, first_settings, blank_state}
use Rattle.gms_store.proofs.Views.{no_difference, has-keys_of_map, zero_is_none}
use Rattle.gms_set.specs.declared.fault.SetFault.{SetFault}
use Rattle.gms_set.specs.Expansion.{ExpandedData, expanded}
use Rattle.gms_scope.specs.Data.{with_datum}
use Rattle.gms_check.specs.Loaded.{sound, loaded}
use Rattle.gms_check.specs.Past.{with_data, with_name, with_item, after_act, after_statement}
use Rattle.gms_check.proofs.Growing.{put-at, by_parts}
use Rattle.gms_check.proofs.IndexSetsStay.{none-declared}
use Rattle.gms_run_laws.specs.LastStates.{IsTidy}
use Rattle.gms_run_laws.proofs.LastStates.{AreTidy}
use Rattle.gms_run_laws.proofs.Tidying.{IsTidyMap, differs_from, over, has-long, long-from_has, tidy-written, tidy-parameter, parameter-map, tidy-variable, tidy-equation}

-- ---- nothing given

empty-map : {X : Type 0} (differs : X → Bool) (absent : X) (nothing : differs absent ≡ false) (n : ℕ) → IsTidyMap differs absent nothing n finite.empty
empty-map {X} differs absent nothing n =
    let none = λ (t : List ℕ). has-keys_of_map (finite.empty {X = X} {R = tuple_cmp}) t ∙ ap is_some (finite.get-empty tuple_cmp t) in
    record {
      long = long-from_has n (finite.keys (finite.empty {X = X} {R = tuple_cmp})) (λ t there. absurd (both_ways (has (finite.keys (finite.empty {X = X} {R = tuple_cmp})) t) (none t) there));
      reads = λ t. none t ∙ sym nothing ∙ sym (ap (λ o. differs (unwrap_or o absent)) (finite.get-empty tuple_cmp t));
    }

module _ (domain : List (Option ℕ)) where
  tidy-undeclared : IsTidy (over domain undeclared)
  tidy-undeclared = record { ordered = ordered-nil; long = All-nil (λ (t : List ℕ). length t ≡ length domain); differs = λ t. sym (no_difference unbounded); statuses = refl }

  tidy-set : IsTidy (over domain (set_of []))
  tidy-set = record { ordered = ordered-nil; long = All-nil (λ (t : List ℕ). length t ≡ length domain); differs = λ t. refl; statuses = refl }

  no-values : IsTidy (over domain (parameter_of finite.empty))
  no-values = tidy-parameter domain finite.empty (empty-map is_given zero zero_is_none (length domain))

  no-attributes : (t : VariableType) → IsTidy (over domain (variable_of t finite.empty))
  no-attributes t =
      tidy-variable domain t finite.empty (empty-map (differs_from (absent_variable t)) (absent_variable t) (no_difference (absent_variable t)) (length domain))

  tidy-kind : (k : DeclKind) → IsTidy (over domain (content_of k))
  tidy-kind kind.Set = tidy-set
  tidy-kind kind.Parameter = no-values
  tidy-kind kind.Scalar = no-values
  tidy-kind kind.Table = no-values
  tidy-kind kind.Free = no-attributes type.Free
  tidy-kind kind.Positive = no-attributes type.Positive
  tidy-kind kind.Negative = no-attributes type.Negative
  tidy-kind kind.Discrete = no-attributes type.Discrete
  tidy-kind kind.Equation = tidy-equation domain finite.empty (empty-map (differs_from unbounded) unbounded (no_difference unbounded) (length domain))

  retyped-free : (entries : Entries Attributes) (k : DeclKind) → IsTidy (over domain (variable_of type.Free entries)) → IsTidy (over domain (retyped (variable_of type.Free entries) (content_of k)))
  retyped-free entries kind.Set tidy = tidy
  retyped-free entries kind.Parameter tidy = tidy
  retyped-free entries kind.Scalar tidy = tidy
  retyped-free entries kind.Table tidy = tidy
  retyped-free entries kind.Free tidy = no-attributes type.Free
  retyped-free entries kind.Positive tidy = no-attributes type.Positive
  retyped-free entries kind.Negative tidy = no-attributes type.Negative
  retyped-free entries kind.Discrete tidy = no-attributes type.Discrete
  retyped-free entries kind.Equation tidy = tidy

  tidy-retyped : (content : Content) (k : DeclKind) → IsTidy (over domain content) → IsTidy (over domain (retyped content (content_of k)))
  tidy-retyped undeclared k tidy = tidy
  tidy-retyped (alias_of base) k tidy = tidy
  tidy-retyped (set_of members) k tidy = tidy
  tidy-retyped (parameter_of entries) k tidy = tidy
  tidy-retyped (variable_of type.Free entries) k tidy = retyped-free entries k tidy
  tidy-retyped (variable_of type.Positive entries) k tidy = tidy
  tidy-retyped (variable_of type.Negative entries) k tidy = tidy
  tidy-retyped (variable_of type.Discrete entries) k tidy = tidy
  tidy-retyped (equation_of entries) k tidy = tidy
  tidy-retyped (model_with m s) k tidy = tidy

  -- one more member, or value
  tidy-member : (t : List ℕ) (content : Content) → length t ≡ length domain → IsTidy (over domain content) → IsTidy (over domain (with_membership content t true))
  tidy-member t undeclared long tidy = tidy
  tidy-member t (alias_of base) long tidy = tidy
  tidy-member t (set_of members) long tidy = record {
    ordered = IsOrdered-inserted members t tidy.ordered;
    long = long-from_has (length domain) (inserted members t) (λ u there. by u (same_tuple t u) refl (sym (has-inserted members t u) ∙ there));
    differs = λ u. refl;
    statuses = refl;
  }
    where
      by : (u : List ℕ) (b : Bool) → same_tuple t u ≡ b → (b || has members u) ≡ true → length u ≡ length domain
      by u true same there = ap length (sym ((same_tuple-Decides t u).0 same)) ∙ long
      by u false other there = has-long (length domain) members u tidy.long there
  tidy-member t (parameter_of entries) long tidy = tidy
  tidy-member t (variable_of type entries) long tidy = tidy
  tidy-member t (equation_of entries) long tidy = tidy
  tidy-member t (model_with m s) long tidy = tidy

  tidy-value : (t : List ℕ) (x : Extended) (content : Content) → length t ≡ length domain → IsTidy (over domain content) → IsTidy (over domain (with_value content t x))
  tidy-value t x undeclared long tidy = tidy
  tidy-value t x (alias_of base) long tidy = tidy
  tidy-value t x (set_of members) long tidy = tidy
  tidy-value t x (parameter_of entries) long tidy =
      tidy-parameter domain (entries_after_write (is_given x) entries t x) (tidy-written is_given zero zero_is_none (length domain) t x entries long (parameter-map domain entries tidy))
  tidy-value t x (variable_of type entries) long tidy = tidy
  tidy-value t x (equation_of entries) long tidy = tidy
  tidy-value t x (model_with m s) long tidy = tidy

-- ---- states

-- The invariant while a program is declared and its data are given.
pub record BeginsWell (state : State) : Type 0 where
  pub tidy : AreTidy state
  pub settings : state.settings ≡ first_settings

well-put : (state : State) (name : ℕ) (new : Symbol) → IsTidy new → BeginsWell state → BeginsWell (put_at state name new)
well-put state name new tidy well = record {
  tidy = λ n. elim (put-at state name new n) [
    | inl same ↦ subst IsTidy (sym same) (well.tidy n)
    | inr changed ↦ subst IsTidy (sym changed.1) tidy
  ];
  settings = well.settings;
}

well-fold : {X : Type 0} (f : State → X → State) → ((s : State) (x : X) → BeginsWell s → BeginsWell (f s x)) → (xs : List X) (s : State) → BeginsWell s → BeginsWell (fold f s xs)
well-fold f each [] s well = well
well-fold f each (x ∷ xs) s well = well-fold f each xs (f s x) (each s x well)

well-declare : (k : DeclKind) (domain : List (Option ℕ)) (state : State) (name : ℕ) → BeginsWell state → BeginsWell (declare k domain state name)
well-declare k domain state name well =
    let s = symbol_at state name in
    well-put state name (declared_again k domain s) (by (is_undeclared s.content)) well
  where
    by : (b : Bool) → IsTidy (cond b (symbol_of_kind k domain) (with_content (symbol_at state name) (retyped (symbol_at state name).content (content_of k))))
    by true = tidy-kind (positions_of k domain) k
    by false = tidy-retyped (symbol_at state name).domain (symbol_at state name).content k (well.tidy name)

tidy-alias : (base : ℕ) → IsTidy (alias_symbol base)
tidy-alias base = record { ordered = ordered-nil; long = All-nil (λ (t : List ℕ). length t ≡ 0); differs = λ t. sym (no_difference unbounded); statuses = refl }

tidy-model : IsTidy model_symbol
tidy-model = record { ordered = ordered-nil; long = All-nil (λ (t : List ℕ). length t ≡ 0); differs = λ t. sym (no_difference unbounded); statuses = refl }

well-alias : (state : State) (first second : ℕ) → BeginsWell state → BeginsWell (declare_alias state first second)
well-alias state first second well = by (can_join state first second) (can_join state second first)
  where
    by : (a b : Bool) → BeginsWell (cond a (join_name state first second) (cond b (join_name state second first) (declare kind.Set [] (declare kind.Set [] state first) second)))
    by true b = well-put state second (alias_symbol (base_of state first)) (tidy-alias (base_of state first)) well
    by false true = well-put state first (alias_symbol (base_of state second)) (tidy-alias (base_of state second)) well
    by false false = well-declare kind.Set [] (declare kind.Set [] state first) second (well-declare kind.Set [] state first well)

well-model : (state : State) (name : ℕ) → BeginsWell state → BeginsWell (declare_model state name)
well-model state name well = by (is_undeclared (symbol_at state name).content)
  where
    by : (b : Bool) → BeginsWell (cond b (put_at state name model_symbol) state)
    by true = well-put state name model_symbol tidy-model well
    by false = well

-- a symbol in which a content of its fitting tuples was put, or which stays
tidy-fitted : (s : Symbol) (t : List ℕ) (new : Content) → (length t ≡ length s.domain → IsTidy (with_content s new)) → IsTidy s → IsTidy (if_fits s t new)
tidy-fitted s t new put tidy = by (length t == length s.domain) refl
  where
    by : (b : Bool) → (length t == length s.domain) ≡ b → IsTidy (cond b (with_content s new) s)
    by true same = put (eqb-true (length t) (length s.domain) same)
    by false other = tidy

module _ {F : Type 0} (v : F → Number) where
  well-datum : (name : ℕ) (state : State) (datum : List ℕ × Option (Ext F)) → BeginsWell state → BeginsWell (with_datum v name state datum)
  well-datum name state (t, None) well =
      let s = symbol_of state name in
      well-put state (base_of state name) (if_fits s t (with_membership s.content t true)) (tidy-fitted s t (with_membership s.content t true) (λ long. tidy-member s.domain t s.content long (well.tidy (base_of state name))) (well.tidy (base_of state name))) well
  well-datum name state (t, Some x) well =
      let s = symbol_of state name in
      well-put state (base_of state name) (if_fits s t (with_value s.content t (value_shown v x))) (tidy-fitted s t (with_value s.content t (value_shown v x)) (λ long. tidy-value s.domain t (value_shown v x) s.content long (well.tidy (base_of state name))) (well.tidy (base_of state name))) well

  well-data : (state : State) (name : ℕ) (given : Result (ExpandedData F) SetFault) → BeginsWell state → BeginsWell (with_data v state name given)
  well-data state name (Ok given) well = well-fold (with_datum v name) (well-datum name) given state well
  well-data state name (Err fault) well = well

  well-item : (k : DeclKind) (state : State) (item : Decl F) → BeginsWell state → BeginsWell (with_item v k state item)
  well-item k state item well =
      well-data (with_name v k state item) item.named.name (expanded state (positions_of k (names_of item.domain)) item.items) (well-declare k (names_of item.domain) state item.named.name well)

  well-act : (state : State) → BeginsWell state → (act : Act F) → BeginsWell (after_act v state act)
  well-act state well act = by_parts P by act
    where
      P : Act F → Type 0
      P a = BeginsWell (after_act v state a)

      by : (layer : Act-F F (Act F) (Stmt F)) → P (roll-Act F layer)
      by (Act-F.Declare k items) = subst P (sym (rolls-Declare k items)) (well-fold (with_item v k) (well-item k) items state well)
      by (Act-F.Alias first second) = subst P (sym (rolls-Alias first second)) (well-alias state first.name second.name well)
      by (Act-F.Assign target condition right_at right) = subst P (sym (rolls-Assign target condition right_at right)) well
      by (Act-F.Define equation indices condition left_at left side right_at right) =
          subst P (sym (rolls-Define equation indices condition left_at left side right_at right)) well
      by (Act-F.Model models) =
          subst P (sym (rolls-Model models)) (well-fold (λ state (model : ModelDecl). declare_model state model.named.name) (λ state model. well-model state model.named.name) models state well)
      by (Act-F.Solve model method objective maximize) = subst P (sym (rolls-Solve model method objective maximize)) well
      by (Act-F.Display items) = subst P (sym (rolls-Display items)) well
      by (Act-F.Loop control body) = subst P (sym (rolls-Loop control body)) well
      by (Act-F.Options settings) = subst P (sym (rolls-Options settings)) well
      by (Act-F.Abort condition items) = subst P (sym (rolls-Abort condition items)) well

  well-sound : (statements : List (Stmt F)) (state : State) → BeginsWell state → BeginsWell (fold (after_statement v) state (sound statements))
  well-sound [] state well = well
  well-sound (s ∷ statements) state well = well-sound statements (after_act v state s.act) (well-act state well s.act)

  -- before any statement nothing is declared
  blank-well : (names : ℕ) → BeginsWell (blank_state names)
  blank-well names = record { tidy = λ n. subst IsTidy (sym (none-declared names n)) (tidy-undeclared []); settings = refl }

  -- the state in which a program begins
  pub loaded-well : (program : Program F) → BeginsWell (loaded v program)
  loaded-well program = well-sound program.statements.items (blank_state (length program.names)) (blank-well (length program.names))
