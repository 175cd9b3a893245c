-- While a program is loaded members of a set stay members of it, and what a declared name stands
-- for is declared.
use Rattle.std.proofs.lemmas.Bool.{and_parts, or_right}
use Rattle.std.proofs.Common.{◌≡◌, ℕ, Bool, true, false, ◌==◌, cond, List, [], ◌∷◌, length, Option, Some, None, Result, Ok, Err, refl, sym, ap, ◌∙◌, subst, inl, inr}
use Rattle.std.specs.List.{fold}
use Rattle.gq_extended.specs.Extended.{Extended}
use Rattle.gq_extended.specs.Meaning.{extended as value_shown}
use Rattle.gq_number.specs.Number.{Number}
use Rattle.gms_ast.specs.declared.declaration.Decl.{Decl}
use Rattle.gms_ast.specs.declared.declaration.DeclKind.{DeclKind}
use Rattle.gms_ast.specs.declared.declaration.DeclKind.TheVariants as declaring
use Rattle.gms_ast.specs.declared.declaration.ModelDecl.{ModelDecl}
use Rattle.gms_ast.specs.declared.program.Act.{Act, roll-Act}
use Rattle.gms_ast.specs.declared.program.Act.TheOpen.{Act-F}
use Rattle.gms_ast.specs.declared.program.Act.TheVariants.{rolls-Declare, rolls-Alias, rolls-Assign, rolls-Define, rolls-Model, rolls-Solve, rolls-Display, rolls-Loop, rolls-Options, rolls-Abort}
use Rattle.gms_ast.specs.declared.program.Stmt.{Stmt}
use Rattle.gms_set.specs.declared.fault.SetFault.{SetFault}
use Rattle.gms_set.specs.Expansion.{ExpandedData, expanded}
use Rattle.gms_tuple.specs.TupleOrder.{same_tuple}
use Rattle.gms_tuple.specs.TupleSet.{has}
use Rattle.gms_tuple.proofs.Members.{has-inserted}
use Rattle.gms_store.specs.declared.kind.VariableType.TheVariants as type
use Rattle.gms_store.specs.Declarations.{names_of, positions_of, content_of, symbol_of_kind, retyped, is_set, is_undeclared, put_at, declare, alias_symbol, can_join, join_name, declare_alias, model_symbol, declare_model, blank_state}
use Rattle.gms_store.specs.State.{State, Content, undeclared, alias_of, set_of, parameter_of, variable_of, equation_of, model_with, Symbol, symbol_at, symbol_of, base_of, members_in, with_content, if_fits, with_membership, with_value}
use Rattle.gms_scope.specs.Data.{with_datum}
use Rattle.gms_scope.specs.Names.{has_no_declaration}
use Rattle.gms_check.specs.Loaded.{sound}
use Rattle.gms_check.specs.Past.{with_data, with_item, with_name, after_act, after_statement, state_after}
use Rattle.gms_check.proofs.Growing.{put-at, by_parts}
use Rattle.gms_run_laws.specs.Agreeing.{IsClosed}
use Rattle.gms_run_laws.proofs.Closing.{closed-item, closed-alias, closed-model, blank-closed}

members-again : (c : Content) (k : DeclKind) → members_in (retyped c (content_of k)) ≡ members_in c
members-again undeclared k = refl
members-again (alias_of base) k = refl
members-again (set_of members) k = refl
members-again (parameter_of entries) k = refl
members-again (variable_of type.Free entries) declaring.Set = refl
members-again (variable_of type.Free entries) declaring.Parameter = refl
members-again (variable_of type.Free entries) declaring.Scalar = refl
members-again (variable_of type.Free entries) declaring.Table = refl
members-again (variable_of type.Free entries) declaring.Free = refl
members-again (variable_of type.Free entries) declaring.Positive = refl
members-again (variable_of type.Free entries) declaring.Negative = refl
members-again (variable_of type.Free entries) declaring.Discrete = refl
members-again (variable_of type.Free entries) declaring.Equation = refl
members-again (variable_of type.Positive entries) k = refl
members-again (variable_of type.Negative entries) k = refl
members-again (variable_of type.Discrete entries) k = refl
members-again (equation_of entries) k = refl
members-again (model_with model solver) k = refl

-- ---- what each step keeps

module _ {F : Type 0} (v : F → Number) (P : State → Type 0) (items : (k : DeclKind) (items : List (Decl F)) (s : State) → P s → P (fold (with_item v k) s items)) (alias : (s : State) (one two : ℕ) → P s → P (declare_alias s one two)) (models : (models : List ModelDecl) (s : State) → P s → P (fold (λ state (model : ModelDecl). declare_model state model.named.name) s models)) where
  kept-act : (s : State) → P s → (act : Act F) → P (after_act v s act)
  kept-act s there act = by_parts Q by act
    where
      Q : Act F → Type 0
      Q a = P (after_act v s a)

      by : (layer : Act-F F (Act F) (Stmt F)) → Q (roll-Act F layer)
      by (Act-F.Declare k those) = subst Q (sym (rolls-Declare k those)) (items k those s there)
      by (Act-F.Alias one two) = subst Q (sym (rolls-Alias one two)) (alias s one.name two.name there)
      by (Act-F.Assign target condition right_at right) = subst Q (sym (rolls-Assign target condition right_at right)) there
      by (Act-F.Define equation indices condition left_at left side right_at right) =
          subst Q (sym (rolls-Define equation indices condition left_at left side right_at right)) there
      by (Act-F.Model those) = subst Q (sym (rolls-Model those)) (models those s there)
      by (Act-F.Solve model method objective maximize) = subst Q (sym (rolls-Solve model method objective maximize)) there
      by (Act-F.Display shown) = subst Q (sym (rolls-Display shown)) there
      by (Act-F.Loop control body) = subst Q (sym (rolls-Loop control body)) there
      by (Act-F.Options settings) = subst Q (sym (rolls-Options settings)) there
      by (Act-F.Abort condition shown) = subst Q (sym (rolls-Abort condition shown)) there

  -- through statements without an error
  kept-sound : (statements : List (Stmt F)) (s : State) → P s → P (fold (after_statement v) s (sound statements))
  kept-sound [] s there = there
  kept-sound (statement ∷ statements) s there = kept-sound statements (after_act v s statement.act) (kept-act s there statement.act)

module _ (b : ℕ) (t : List ℕ) where
  -- a content has the member
  abbrev Has : Content → Type 0
  Has c = has (members_in c) t ≡ true

  -- the set of a state does
  abbrev pub Member : State → Type 0
  Member s = Has (symbol_at s b).content

  none-there : (c : Content) → is_undeclared c ≡ true → Has c → ⊥
  none-there undeclared e there = cc
  none-there (alias_of base) e there = cc
  none-there (set_of members) e there = cc
  none-there (parameter_of entries) e there = cc
  none-there (variable_of type entries) e there = cc
  none-there (equation_of entries) e there = cc
  none-there (model_with model solver) e there = cc

  member-put : (s : State) (i : ℕ) (new : Symbol) → (Has (symbol_at s i).content → Has new.content) → Member s → Member (put_at s i new)
  member-put s i new own there = elim (put-at s i new b) [
    | inl same ↦ subst (λ (x : Symbol). Has x.content) (sym same) there
    | inr changed ↦ subst (λ (x : Symbol). Has x.content) (sym changed.1) (own (subst (λ n. Has (symbol_at s n).content) changed.0 there))
  ]

  member-fresh : (s : State) (i : ℕ) (new : Symbol) → has_no_declaration s i ≡ true → Member s → Member (put_at s i new)
  member-fresh s i new unknown there =
      member-put s i new (λ there. absurd (none-there (symbol_at s i).content unknown there)) there

  member-declare : (k : DeclKind) (domain : List (Option ℕ)) (s : State) (i : ℕ) → Member s → Member (declare k domain s i)
  member-declare k domain s i there = by (is_undeclared (symbol_at s i).content) refl
    where
      by : (c : Bool) → is_undeclared (symbol_at s i).content ≡ c → Member (put_at s i (cond c (symbol_of_kind k domain) (with_content (symbol_at s i) (retyped (symbol_at s i).content (content_of k)))))
      by true unknown = member-fresh s i (symbol_of_kind k domain) unknown there
      by false known =
          member-put s i (with_content (symbol_at s i) (retyped (symbol_at s i).content (content_of k))) (λ there. ap (λ (members : List (List ℕ)). has members t) (members-again (symbol_at s i).content k) ∙ there) there

  member-join : (s : State) (old new : ℕ) → can_join s old new ≡ true → Member s → Member (join_name s old new)
  member-join s old new can there =
      member-fresh s new (alias_symbol (base_of s old)) ((and_parts (is_set (symbol_at s old).content) (is_undeclared (symbol_at s new).content) can).1) there

  member-alias : (s : State) (one two : ℕ) → Member s → Member (declare_alias s one two)
  member-alias s one two there = by (can_join s one two) (can_join s two one) refl refl
    where
      by : (a c : Bool) → can_join s one two ≡ a → can_join s two one ≡ c → Member (cond a (join_name s one two) (cond c (join_name s two one) (declare declaring.Set [] (declare declaring.Set [] s one) two)))
      by true c can other = member-join s one two can there
      by false true none can = member-join s two one can there
      by false false none other = member-declare declaring.Set [] (declare declaring.Set [] s one) two (member-declare declaring.Set [] s one there)

  member-model : (s : State) (name : ℕ) → Member s → Member (declare_model s name)
  member-model s name there = by (is_undeclared (symbol_at s name).content) refl
    where
      by : (c : Bool) → is_undeclared (symbol_at s name).content ≡ c → Member (cond c (put_at s name model_symbol) s)
      by true unknown = member-fresh s name model_symbol unknown there
      by false known = there

  member-models : (models : List ModelDecl) (s : State) → Member s → Member (fold (λ state (model : ModelDecl). declare_model state model.named.name) s models)
  member-models [] s there = there
  member-models (model ∷ models) s there = member-models models (declare_model s model.named.name) (member-model s model.named.name there)

  -- ---- data

  fitted-has : (x : Symbol) (u : List ℕ) (new : Content) → (Has x.content → Has new) → Has x.content → Has (if_fits x u new).content
  fitted-has x u new own there = by (length u == length x.domain)
    where
      by : (c : Bool) → Has (cond c (with_content x new) x).content
      by true = own there
      by false = there

  with-member : (c : Content) (u : List ℕ) → Has c → Has (with_membership c u true)
  with-member undeclared u there = there
  with-member (alias_of base) u there = there
  with-member (set_of members) u there = has-inserted members u t ∙ or_right (same_tuple u t) (has members t) there
  with-member (parameter_of entries) u there = there
  with-member (variable_of type entries) u there = there
  with-member (equation_of entries) u there = there
  with-member (model_with model solver) u there = there

  with-number : (c : Content) (u : List ℕ) (x : Extended) → Has c → Has (with_value c u x)
  with-number undeclared u x there = there
  with-number (alias_of base) u x there = there
  with-number (set_of members) u x there = there
  with-number (parameter_of entries) u x there = there
  with-number (variable_of type entries) u x there = there
  with-number (equation_of entries) u x there = there
  with-number (model_with model solver) u x there = there

  module _ {F : Type 0} (v : F → Number) where
    member-data : (ds : ExpandedData F) (s : State) (name : ℕ) → Member s → Member (fold (with_datum v name) s ds)
    member-data [] s name there = there
    member-data ((u, None) ∷ ds) s name there =
        let x = symbol_of s name in
        member-data ds (put_at s (base_of s name) (if_fits x u (with_membership x.content u true))) name (member-put s (base_of s name) (if_fits x u (with_membership x.content u true)) (λ there. fitted-has x u (with_membership x.content u true) (with-member x.content u) there) there)
    member-data ((u, Some value) ∷ ds) s name there =
        let x = symbol_of s name in
        member-data ds (put_at s (base_of s name) (if_fits x u (with_value x.content u (value_shown v value)))) name (member-put s (base_of s name) (if_fits x u (with_value x.content u (value_shown v value))) (λ there. fitted-has x u (with_value x.content u (value_shown v value)) (with-number x.content u (value_shown v value)) there) there)

    member-given : (s : State) (name : ℕ) (given : Result (ExpandedData F) SetFault) → Member s → Member (with_data v s name given)
    member-given s name (Ok given) there = member-data given s name there
    member-given s name (Err fault) there = there

    member-items : (k : DeclKind) (items : List (Decl F)) (s : State) → Member s → Member (fold (with_item v k) s items)
    member-items k [] s there = there
    member-items k (item ∷ items) s there =
        member-items k items (with_item v k s item) (member-given (with_name v k s item) item.named.name (expanded s (positions_of k (names_of item.domain)) item.items) (member-declare k (names_of item.domain) s item.named.name there))

    -- through statements without an error
    pub member-sound : (statements : List (Stmt F)) (s : State) → Member s → Member (fold (after_statement v) s (sound statements))
    member-sound = kept-sound v Member member-items member-alias member-models

-- ---- what names stand for

module _ {F : Type 0} (v : F → Number) where
  closed-items : (k : DeclKind) (items : List (Decl F)) (s : State) → IsClosed s → IsClosed (fold (with_item v k) s items)
  closed-items k [] s closed = closed
  closed-items k (item ∷ items) s closed = closed-items k items (with_item v k s item) (closed-item v k s item closed)

  closed-models : (models : List ModelDecl) (s : State) → IsClosed s → IsClosed (fold (λ state (model : ModelDecl). declare_model state model.named.name) s models)
  closed-models [] s closed = closed
  closed-models (model ∷ models) s closed = closed-models models (declare_model s model.named.name) (closed-model s model.named.name closed)

  closed-sound : (statements : List (Stmt F)) (s : State) → IsClosed s → IsClosed (fold (after_statement v) s (sound statements))
  closed-sound = kept-sound v IsClosed closed-items closed-alias closed-models

  -- what statements have declared so far
  pub closed-after : (count : ℕ) (statements : List (Stmt F)) → IsClosed (state_after v count (sound statements))
  closed-after count statements = closed-sound statements (blank_state count) (blank-closed count)
