-- In an accepted program each name has at most 10 positions, so each tuple with data has at most 10
-- labels.
use Rattle.std.proofs.Common.{◌≡◌, ◌≤◌, ℕ, Bool, true, false, ◌==◌, cond, List, [], ◌∷◌, length, Option, Some, None, Result, Ok, Err, sym, ap, subst, inl, inr, arith}
use Rattle.std.specs.List.{All, fold}
use Rattle.gq_number.specs.Number.{Number}
use Rattle.gq_extended.specs.Meaning.{extended as value_shown}
use Rattle.gq_extended.specs.declared.extended.Ext.{Ext}
use Rattle.gms_ast.specs.declared.declaration.Decl.{Decl}
use Rattle.gms_ast.specs.declared.declaration.DeclKind.{DeclKind}
use Rattle.gms_ast.specs.declared.declaration.DeclKind.TheVariants as kind
use Rattle.gms_ast.specs.declared.program.Program.{Program}
use Rattle.gms_store.specs.State.{State, Content, Symbol, symbol_at, symbol_of, base_of, given_in, with_content, if_fits, with_membership, with_value}
use Rattle.gms_store.specs.Declarations.{names_of, positions_of, content_of, symbol_of_kind, retyped, is_undeclared, declared_again, put_at, declare, alias_symbol, model_symbol, join_name, can_join, declare_alias, declare_model}
use Rattle.gms_set.specs.declared.fault.SetFault.{SetFault}
use Rattle.gms_set.specs.Expansion.{ExpandedData, expanded}
use Rattle.gms_scope.specs.Data.{with_datum}
use Rattle.gms_check.specs.declared.error.ErrorKind.TheVariants.{WrongArity}
use Rattle.gms_scope.specs.DynamicSets.{dynamic_sets}
use Rattle.gms_check.specs.CompileErrors.{of_program}
use Rattle.gms_check.specs.DeclarationUses.{item_uses}
use Rattle.gms_check.specs.Loaded.{IsAccepted, loaded}
use Rattle.gms_check.specs.Past.{is_among, Known, with_data, with_item, with_name}
use Rattle.gms_check.proofs.Growing.{put-at}
use Rattle.gms_check.proofs.IndexSetsStay.{none-declared}
use Rattle.gms_check.proofs.NoErrors.{AreClean}
use Rattle.gms_check.proofs.Soundness.{at-most}
use Rattle.gms_exec.specs.Run.{World}
use Rattle.gms_run_laws.specs.Reached.{IsReached}
use Rattle.gms_run_laws.proofs.DeclaredStates.{over-accepted}
use Rattle.gms_run_laws.proofs.Lasting.{IsLasting, loaded-begins, start-lasts}

-- each name has few positions
abbrev AreFew : State → Type 0
AreFew state = (n : ℕ) → length (symbol_at state n).domain ≤ 10

few-put : (state : State) (name : ℕ) (new : Symbol) → length new.domain ≤ 10 → AreFew state → AreFew (put_at state name new)
few-put state name new few all n = elim (put-at state name new n) [
  | inl same ↦ subst (λ (s : Symbol). length s.domain ≤ 10) (sym same) (all n)
  | inr changed ↦ subst (λ (s : Symbol). length s.domain ≤ 10) (sym changed.1) few
]

few-fold : {X : Type 0} (f : State → X → State) → ((s : State) (x : X) → AreFew s → AreFew (f s x)) → (xs : List X) (s : State) → AreFew s → AreFew (fold f s xs)
few-fold f each [] s few = few
few-fold f each (x ∷ xs) s few = few-fold f each xs (f s x) (each s x few)

few-declare : (k : DeclKind) (domain : List (Option ℕ)) (state : State) (name : ℕ) → length (positions_of k domain) ≤ 10 → AreFew state → AreFew (declare k domain state name)
few-declare k domain state name positions few =
    few-put state name (declared_again k domain (symbol_at state name)) (by (is_undeclared (symbol_at state name).content)) few
  where
    by : (b : Bool) → length (cond b (symbol_of_kind k domain) (with_content (symbol_at state name) (retyped (symbol_at state name).content (content_of k)))).domain ≤ 10
    by true = positions
    by false = few name

none-few : length {A = Option ℕ} [] ≤ 10
none-few = omega arith

one-few : length {A = Option ℕ} (None ∷ []) ≤ 10
one-few = omega arith

few-alias : (state : State) (first second : ℕ) → AreFew state → AreFew (declare_alias state first second)
few-alias state first second few = by (can_join state first second) (can_join state second first)
  where
    by : (a b : Bool) → AreFew (cond a (join_name state first second) (cond b (join_name state second first) (declare kind.Set [] (declare kind.Set [] state first) second)))
    by true b = few-put state second (alias_symbol (base_of state first)) none-few few
    by false true = few-put state first (alias_symbol (base_of state second)) none-few few
    by false false = few-declare kind.Set [] (declare kind.Set [] state first) second one-few (few-declare kind.Set [] state first one-few few)

few-model : (state : State) (name : ℕ) → AreFew state → AreFew (declare_model state name)
few-model state name few = by (is_undeclared (symbol_at state name).content)
  where
    by : (b : Bool) → AreFew (cond b (put_at state name model_symbol) state)
    by true = few-put state name model_symbol none-few few
    by false = few

-- data leave positions
few-fitted : (s : Symbol) (t : List ℕ) (new : Content) → length s.domain ≤ 10 → length (if_fits s t new).domain ≤ 10
few-fitted s t new few = by (length t == length s.domain)
  where
    by : (b : Bool) → length (cond b (with_content s new) s).domain ≤ 10
    by true = few
    by false = few

module _ {F : Type 0} (v : F → Number) where
  few-datum : (name : ℕ) (state : State) (datum : List ℕ × Option (Ext F)) → AreFew state → AreFew (with_datum v name state datum)
  few-datum name state (t, None) few =
      let s = symbol_of state name in
      few-put state (base_of state name) (if_fits s t (with_membership s.content t true)) (few-fitted s t (with_membership s.content t true) (few (base_of state name))) few
  few-datum name state (t, Some x) few =
      let s = symbol_of state name in
      few-put state (base_of state name) (if_fits s t (with_value s.content t (value_shown v x))) (few-fitted s t (with_value s.content t (value_shown v x)) (few (base_of state name))) few

  few-data : (state : State) (name : ℕ) (given : Result (ExpandedData F) SetFault) → AreFew state → AreFew (with_data v state name given)
  few-data state name (Ok given) few = few-fold (with_datum v name) (few-datum name) given state few
  few-data state name (Err fault) few = few

module _ {F : Type 0} (k : DeclKind) where
  -- a name that is declared without an error
  few-item : (program : Program F) (known : Known F) (item : Decl F) → known.assigned ≡ of_program program (is_among (dynamic_sets program)) → AreClean known (item_uses known k item) → AreFew known.state → AreFew (with_item known.value k known.state item)
  few-item program known item same clean few =
      few-data known.value (with_name known.value k known.state item) item.named.name (expanded known.state (positions_of k (names_of item.domain)) item.items) (few-declare k (names_of item.domain) known.state item.named.name (at-most 10 (length (positions_of k (names_of item.domain))) (clean.0 WrongArity)) few)

few-loaded : {F : Type 0} (v : F → Number) (program : Program F) → IsAccepted v program → AreFew (loaded v program)
few-loaded v program accepted =
    over-accepted program AreFew (λ k. few-item k program) few-alias few-model v accepted (λ n. subst (λ (s : Symbol). length s.domain ≤ 10) (sym (none-declared (length program.names) n)) none-few)

-- each tuple with data of a name has at most 10 labels, in each state that keeps what an accepted
-- program begins with
pub few-lasting : {F : Type 0} (v : F → Number) (program : Program F) (state : State) (name : ℕ) → IsAccepted v program → IsLasting v program state → All (λ (t : List ℕ). length t ≤ 10) (given_in (symbol_at state name).content)
few-lasting v program state name accepted lasts k d below =
    let long = (lasts.later.given name).long k d below in
    let same = ap length ((lasts.stays name).domain) in
    let few = few-loaded v program accepted name in
    omega (arith, long, same, few)

-- so it has in a state of an accepted program's run
pub few-given : {F : Type 0} (v : F → Number) (limit : ℕ) (world : World F) (state : State) (name : ℕ) → IsAccepted v world.program → IsReached v limit world (loaded v world.program) state → All (λ (t : List ℕ). length t ≤ 10) (given_in (symbol_at state name).content)
few-given v limit world state name accepted reached =
    few-lasting v world.program state name accepted (start-lasts v limit world (loaded v world.program) state (loaded-begins v world.program) reached)
