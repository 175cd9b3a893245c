-- The statements after those of a saved program change nothing that these declare, if they type
-- none of its variables.
use Rattle.gms_check.proofs.Faultless.{none-first, none-left, none-right}
use Rattle.std.proofs.Common.{◌≡◌, ℕ, ◌≤◌, Bool, true, false, not, ◌&&◌, cond, if◌then◌else◌, List, [], ◌∷◌, ◌++◌, length, map, Option, None, Some, Ok, Err, Result, refl, sym, ap, ◌∙◌, subst, append_assoc, inl, inr}
use Rattle.std.specs.Prelude.{flat_map}
use Rattle.std.specs.List.{fold}
use Rattle.std.proofs.lemmas.Bool.{both_ways, and_parts, not-true}
use Rattle.std.proofs.lemmas.List.{length-set, map-append, append-nil}
use Rattle.std.proofs.lemmas.List.Sums.{fold-append}
use Rattle.gq_extended.specs.Meaning.{extended as value_shown}
use Rattle.gq_number.specs.Number.{Number}
use Rattle.gms_ast.specs.declared.declaration.Decl.{Decl}
use Rattle.gms_ast.specs.declared.declaration.DeclKind.{DeclKind}
use Rattle.gms_ast.specs.declared.declaration.DeclKind.TheVariants as kind
use Rattle.gms_ast.specs.declared.declaration.ModelDecl.{ModelDecl}
use Rattle.gms_ast.specs.declared.program.Act.{Act, roll-Act}
use Rattle.gms_ast.specs.declared.program.Act.TheOpen.{Act-F}
use Rattle.gms_ast.specs.declared.program.Act.TheVariants.{Declare, rolls-Declare, rolls-Alias, rolls-Assign, rolls-Define, rolls-Model, rolls-Solve, rolls-Display, rolls-Loop, rolls-Options, rolls-Abort}
use Rattle.gms_ast.specs.declared.program.Program.{Program}
use Rattle.gms_ast.specs.declared.program.Stmt.{Stmt}
use Rattle.gms_store.specs.declared.kind.VariableType.TheVariants as type
use Rattle.gms_store.specs.Declarations.{names_of, positions_of, content_of, symbol_of_kind, retyped, is_free, is_set, is_undeclared, declared_again, put_at, declare, alias_symbol, can_join, join_name, declare_alias, model_symbol, declare_model, blank_state}
use Rattle.gms_store.specs.State.{State, Content, undeclared, alias_of, set_of, parameter_of, variable_of, equation_of, model_with, Symbol, symbol_at, symbol_of, alias_target, base_of, with_content, if_fits, with_membership, with_value}
use Rattle.gms_set.specs.declared.fault.SetFault.{SetFault}
use Rattle.gms_set.specs.Expansion.{ExpandedData, expanded}
use Rattle.gms_scope.specs.Data.{with_datum}
use Rattle.gms_scope.specs.Names.{has_no_declaration, positions}
use Rattle.gms_check.specs.declared.error.CompileError.{CompileError}
use Rattle.gms_check.specs.declared.error.ErrorKind.TheVariants.{Redeclared}
use Rattle.gms_check.specs.CompileErrors.{act_errors, declaration_errors, errors_after, errors_of, is_faultless, known_after, known_after_item, known_in, statement_error}
use Rattle.gms_check.specs.DeclarationUses.{item_uses, kind_uses}
use Rattle.gms_check.specs.Errors.{first_error}
use Rattle.gms_check.specs.Loaded.{IsAccepted, loaded, sound}
use Rattle.gms_check.specs.Names.{is_variable, repeats_domain, may_be_typed}
use Rattle.gms_check.specs.Past.{Known, after_act, after_statement, state_after, with_data, with_item, with_name}
use Rattle.gms_check.proofs.Growing.{put-at, by_parts}
use Rattle.gms_check.proofs.NoErrors.{AreClean, are-clean}
use Rattle.gms_check.proofs.Soundness.{after-sound}
use Rattle.gms_run_laws.specs.Agreeing.{declares}
use Rattle.gms_run_laws.specs.Names.{Each}
use Rattle.gms_run_laws.proofs.Eaches.{each-left, each-right}
use Rattle.gms_run_laws.proofs.LoadedPositions.{gains-again, IsWithDatum, datum-member, datum-value, either-new}
use Rattle.gms_run_laws.specs.Extensions.{typed_by}
use Rattle.gms_run_laws.proofs.Closing.{own, new-itself, following-member, following-value}

free-itself : (c : Content) (m : ℕ) → is_free c ≡ true → alias_target m c ≡ m
free-itself undeclared m e = refl
free-itself (alias_of base) m e = absurd (cc)
free-itself (set_of members) m e = refl
free-itself (parameter_of entries) m e = refl
free-itself (variable_of type entries) m e = refl
free-itself (equation_of entries) m e = refl
free-itself (model_with model solver) m e = refl

free-variable : (c : Content) → is_free c ≡ true → is_variable c ≡ true
free-variable undeclared e = absurd (cc)
free-variable (alias_of base) e = absurd (cc)
free-variable (set_of members) e = absurd (cc)
free-variable (parameter_of entries) e = absurd (cc)
free-variable (variable_of type entries) e = refl
free-variable (equation_of entries) e = absurd (cc)
free-variable (model_with model solver) e = absurd (cc)

-- a set that is declared again stays what it is
set-again : (c : Content) → retyped c (set_of []) ≡ c
set-again undeclared = refl
set-again (alias_of base) = refl
set-again (set_of members) = refl
set-again (parameter_of entries) = refl
set-again (variable_of type.Free entries) = refl
set-again (variable_of type.Positive entries) = refl
set-again (variable_of type.Negative entries) = refl
set-again (variable_of type.Discrete entries) = refl
set-again (equation_of entries) = refl
set-again (model_with model solver) = refl

pub second-holds : (a b : Bool) → (a && b) ≡ true → b ≡ true
second-holds true b e = e
second-holds false b e = absurd (cc)

pub one-fails : (a b : Bool) → (not a && not b) ≡ false → a ≡ false → b ≡ true
one-fails true b e none = absurd (cc)
one-fails false true e none = refl
one-fails false false e none = absurd (cc)

module _ (first : State) where
  -- Each name that the first state declares is as it is there, and there are no fewer names.
  pub record Keeps (s : State) : Type 0 where
    pub kept : (n : ℕ) → declares first n ≡ true → symbol_at s n ≡ symbol_at first n
    pub many : length first.symbols ≤ length s.symbols

  as-many : (s : State) (i : ℕ) (new : Symbol) → length first.symbols ≤ length s.symbols → length first.symbols ≤ length (put_at s i new).symbols
  as-many s i new many = subst (λ (n : ℕ). length first.symbols ≤ n) (sym (length-set s.symbols i new)) many

  -- a name that the first state does not declare may be written
  keep-put : (s : State) (i : ℕ) (new : Symbol) → declares first i ≡ false → Keeps s → Keeps (put_at s i new)
  keep-put s i new none keeps = record {
    kept = λ n is. elim (put-at s i new n) [
      | inl same ↦ same ∙ keeps.kept n is
      | inr changed ↦ absurd (both_ways (declares first n) (ap (declares first) changed.0 ∙ none) is)
    ];
    many = as-many s i new keeps.many;
  }

  -- what is unknown later is not declared there
  not-there : (s : State) (i : ℕ) → Keeps s → has_no_declaration s i ≡ true → declares first i ≡ false
  not-there s i keeps unknown = by (declares first i) refl
    where
      by : (b : Bool) → declares first i ≡ b → b ≡ false
      by true is = absurd (both_ways (is_undeclared (symbol_at first i).content) (not-true (is_undeclared (symbol_at first i).content) is) (sym (ap (λ (x : Symbol). is_undeclared x.content) (keeps.kept i is)) ∙ unknown))
      by false is = refl

  -- ---- aliases and models

  keep-set : (s : State) (i : ℕ) → Keeps s → Keeps (declare kind.Set [] s i)
  keep-set s i keeps = by (has_no_declaration s i) refl
    where
      same : with_content (symbol_at s i) (retyped (symbol_at s i).content (set_of [])) ≡ symbol_at s i
      same = ap (with_content (symbol_at s i)) (set-again (symbol_at s i).content)

      by : (b : Bool) → has_no_declaration s i ≡ b → Keeps (put_at s i (cond b (symbol_of_kind kind.Set []) (with_content (symbol_at s i) (retyped (symbol_at s i).content (set_of [])))))
      by true unknown = keep-put s i (symbol_of_kind kind.Set []) (not-there s i keeps unknown) keeps
      by false known = record {
        kept = λ n is. elim (put-at s i (with_content (symbol_at s i) (retyped (symbol_at s i).content (set_of []))) n) [
          | inl still ↦ still ∙ keeps.kept n is
          | inr changed ↦ changed.1 ∙ same ∙ ap (symbol_at s) (sym changed.0) ∙ keeps.kept n is
        ];
        many = as-many s i (with_content (symbol_at s i) (retyped (symbol_at s i).content (set_of []))) keeps.many;
      }

  keep-join : (s : State) (old new : ℕ) → can_join s old new ≡ true → Keeps s → Keeps (join_name s old new)
  keep-join s old new can keeps =
      keep-put s new (alias_symbol (base_of s old)) (not-there s new keeps (second-holds (is_set (symbol_at s old).content) (is_undeclared (symbol_at s new).content) can)) keeps

  keep-alias : (s : State) (one two : ℕ) → Keeps s → Keeps (declare_alias s one two)
  keep-alias s one two keeps = by (can_join s one two) (can_join s two one) refl refl
    where
      by : (a b : Bool) → can_join s one two ≡ a → can_join s two one ≡ b → Keeps (cond a (join_name s one two) (cond b (join_name s two one) (declare kind.Set [] (declare kind.Set [] s one) two)))
      by true b can other = keep-join s one two can keeps
      by false true none can = keep-join s two one can keeps
      by false false none other = keep-set (declare kind.Set [] s one) two (keep-set s one keeps)

  keep-model : (s : State) (name : ℕ) → Keeps s → Keeps (declare_model s name)
  keep-model s name keeps = by (has_no_declaration s name) refl
    where
      by : (b : Bool) → has_no_declaration s name ≡ b → Keeps (cond b (put_at s name model_symbol) s)
      by true unknown = keep-put s name model_symbol (not-there s name keeps unknown) keeps
      by false known = keeps

  keep-models : (models : List ModelDecl) (s : State) → Keeps s → Keeps (fold (λ state (model : ModelDecl). declare_model state model.named.name) s models)
  keep-models [] s keeps = keeps
  keep-models (model ∷ models) s keeps = keep-models models (declare_model s model.named.name) (keep-model s model.named.name keeps)

  -- ---- data

  module _ (name : ℕ) (none : declares first name ≡ false) where
    -- a name that stands for itself, and is not declared at first
    record IsOwn (s : State) : Type 0 where
      keeps : Keeps s
      itself : base_of s name ≡ name

    own-content : (s : State) (t : List ℕ) (new : Content) → IsWithDatum t (symbol_of s name).content new → alias_target name new ≡ alias_target name (symbol_of s name).content → IsOwn s → IsOwn (put_at s (base_of s name) (if_fits (symbol_of s name) t new))
    own-content s t new datum same own_now = record {
      keeps = keep-put s (base_of s name) (if_fits (symbol_of s name) t new) (ap (declares first) own_now.itself ∙ none) own_now.keeps;
      itself = elim (put-at s (base_of s name) (if_fits (symbol_of s name) t new) name) [
        | inl still ↦ ap (λ (x : Symbol). alias_target name x.content) still ∙ own_now.itself
        | inr changed ↦
            ap (λ (x : Symbol). alias_target name x.content) changed.1
            ∙ either-new s name t new datum (λ (x : Symbol). alias_target name x.content ≡ alias_target name (symbol_of s name).content) same refl
            ∙ ap (λ m. alias_target name (symbol_at s m).content) own_now.itself
            ∙ own_now.itself
      ];
    }

    module _ {F : Type 0} (v : F → Number) where
      own-data : (ds : ExpandedData F) (s : State) → IsOwn s → IsOwn (fold (with_datum v name) s ds)
      own-data [] s own_now = own_now
      own-data ((t, None) ∷ ds) s own_now =
          let x = symbol_of s name in
          own-data ds (put_at s (base_of s name) (if_fits x t (with_membership x.content t true))) (own-content s t (with_membership x.content t true) (datum-member t x.content) (following-member name t x.content) own_now)
      own-data ((t, Some value) ∷ ds) s own_now =
          let x = symbol_of s name in
          own-data ds (put_at s (base_of s name) (if_fits x t (with_value x.content t (value_shown v value)))) (own-content s t (with_value x.content t (value_shown v value)) (datum-value t (value_shown v value) x.content) (following-value name t (value_shown v value) x.content) own_now)

      keep-data : (s : State) (given : Result (ExpandedData F) SetFault) → IsOwn s → Keeps (with_data v s name given)
      keep-data s (Ok given) own_now = (own-data given s own_now).keeps
      keep-data s (Err fault) own_now = own_now.keeps

  -- ---- declarations

  module _ (k : DeclKind) (domain : List (Option ℕ)) (s : State) (name : ℕ) where
    abbrev old : Symbol
    old = symbol_at s name

    abbrev new : Symbol
    new = declared_again k domain old

    -- a name that was unknown, or a free variable, stands for itself after its declaration
    new-own : (has_no_declaration s name ≡ false → is_free old.content ≡ true) → alias_target name new.content ≡ name
    new-own free = by (has_no_declaration s name) refl
      where
        by : (b : Bool) → has_no_declaration s name ≡ b → alias_target name new.content ≡ name
        by true unknown =
            ap (λ (b : Bool). alias_target name (cond b (symbol_of_kind k domain) (with_content old (retyped old.content (content_of k)))).content) unknown ∙ new-itself k domain name
        by false known = elim (gains-again k domain old).alike [
          | inl unknown ↦ absurd (both_ways (is_undeclared old.content) known unknown)
          | inr alike ↦ alike name ∙ free-itself old.content name (free known)
        ]

    old-own : (has_no_declaration s name ≡ false → is_free old.content ≡ true) → alias_target name old.content ≡ name
    old-own free = by (has_no_declaration s name) refl
      where
        by : (b : Bool) → has_no_declaration s name ≡ b → alias_target name old.content ≡ name
        by true unknown = own old.content name unknown
        by false known = free-itself old.content name (free known)

    own-declared : (none : declares first name ≡ false) → Keeps s → (has_no_declaration s name ≡ false → is_free old.content ≡ true) → IsOwn name none (declare k domain s name)
    own-declared none keeps free = record {
      keeps = keep-put s name new none keeps;
      itself = elim (put-at s name new name) [
        | inl same ↦ ap (λ (x : Symbol). alias_target name x.content) same ∙ old-own free
        | inr changed ↦ ap (λ (x : Symbol). alias_target name x.content) changed.1 ∙ new-own free
      ];
    }

  -- no name of these is a variable there
  abbrev NoVariables : List ℕ → Type 0
  NoVariables = Each (λ n. not (is_variable (symbol_at first n).content))

  module _ {F : Type 0} where
    -- a name that may be declared: it is unknown, or a free variable that is typed
    keep-item : (known : Known F) (k : DeclKind) (item : Decl F) → AreClean known (item_uses known k item) → (is_variable (content_of k) ≡ true → is_variable (symbol_at first item.named.name).content ≡ false) → Keeps known.state → Keeps (with_item known.value k known.state item)
    keep-item known k item clean typed keeps =
        let none = not-declared (has_no_declaration s name) refl in
        keep-data name none known.value (with_name known.value k s item) (expanded s (positions_of k domain) item.items) (own-declared k domain s name none keeps free)
      where
        s : State
        s = known.state

        name : ℕ
        name = item.named.name

        domain : List (Option ℕ)
        domain = names_of item.domain

        may : has_no_declaration s name ≡ false → may_be_typed known k name domain ≡ true
        may known_name = one-fails (has_no_declaration s name) (may_be_typed known k name domain) (clean.0 Redeclared) known_name

        free : has_no_declaration s name ≡ false → is_free (symbol_at s name).content ≡ true
        free known_name = (and_parts (is_free (symbol_at s name).content) (is_variable (content_of k) && repeats_domain s domain (positions s name)) (may known_name)).0

        variable : has_no_declaration s name ≡ false → is_variable (content_of k) ≡ true
        variable known_name =
            (and_parts (is_variable (content_of k)) (repeats_domain s domain (positions s name)) (second-holds (is_free (symbol_at s name).content) (is_variable (content_of k) && repeats_domain s domain (positions s name)) (may known_name))).0

        not-declared : (b : Bool) → has_no_declaration s name ≡ b → declares first name ≡ false
        not-declared true unknown = not-there s name keeps unknown
        not-declared false known_name = by (declares first name) refl
          where
            by : (b : Bool) → declares first name ≡ b → b ≡ false
            by true is =
                absurd (both_ways (is_variable (symbol_at first name).content) (typed (variable known_name)) (sym (ap (λ (x : Symbol). is_variable x.content) (keeps.kept name is)) ∙ free-variable (symbol_at s name).content (free known_name)))
            by false is = refl

    -- ---- statements

    keep-items : (k : DeclKind) (known : Known F) (items : List (Decl F)) → NoVariables (if is_variable (content_of k) then map (λ (item : Decl F). item.named.name) items else []) → declaration_errors known k items ≡ [] → Keeps known.state → Keeps (fold (with_item known.value k) known.state items)
    keep-items k known [] typed e keeps = keeps
    keep-items k known (item ∷ items) typed e keeps =
        let errors = errors_of known (item_uses known k item) in
        let none : errors ≡ [] = none-left errors (declaration_errors (known_after_item known k item) k items) e in
        let next : known_after_item known k item ≡ known_in known (with_item known.value k known.state item) = ap (λ (es : List CompileError). known_in known (if is_faultless es then with_item known.value k known.state item else with_name known.value k known.state item)) none in
        let rest = sym (ap (λ (known : Known F). declaration_errors known k items) next) ∙ none-right errors (declaration_errors (known_after_item known k item) k items) e in
        keep-items k (known_in known (with_item known.value k known.state item)) items (later (is_variable (content_of k)) typed) rest (keep-item known k item (are-clean known (item_uses known k item) none) (λ is. here (is_variable (content_of k)) is typed) keeps)
      where
        names : List (Decl F) → List ℕ
        names = map (λ (item : Decl F). item.named.name)

        here : (b : Bool) → b ≡ true → NoVariables (if b then names (item ∷ items) else []) → is_variable (symbol_at first item.named.name).content ≡ false
        here true is all = not-true (is_variable (symbol_at first item.named.name).content) all.0
        here false is all = absurd (cc)

        later : (b : Bool) → NoVariables (if b then names (item ∷ items) else []) → NoVariables (if b then names items else [])
        later true all = all.1
        later false all = tt

    keep-act : (known : Known F) (statement : Stmt F) → NoVariables (typed_by statement.act) → statement_error known statement ≡ None → Keeps known.state → Keeps (after_act known.value known.state statement.act)
    keep-act known statement typed e keeps = by_parts Q by statement.act refl typed
      where
        Q : Act F → Type 0
        Q a = statement.act ≡ a → NoVariables (typed_by a) → Keeps (after_act known.value known.state a)

        by : (layer : Act-F F (Act F) (Stmt F)) → Q (roll-Act F layer)
        by (Act-F.Declare k items) =
            subst Q (sym (rolls-Declare k items)) (λ is typed. keep-items k known items typed (none-right (errors_of known (kind_uses statement.at k)) (declaration_errors known k items) (none-first (act_errors known statement (Declare k items)) (sym (ap (λ (act : Act F). first_error (act_errors known statement act)) is) ∙ e))) keeps)
        by (Act-F.Alias one two) = subst Q (sym (rolls-Alias one two)) (λ is typed. keep-alias known.state one.name two.name keeps)
        by (Act-F.Assign target condition right_at right) = subst Q (sym (rolls-Assign target condition right_at right)) (λ is typed. keeps)
        by (Act-F.Define equation indices condition left_at left side right_at right) =
            subst Q (sym (rolls-Define equation indices condition left_at left side right_at right)) (λ is typed. keeps)
        by (Act-F.Model models) = subst Q (sym (rolls-Model models)) (λ is typed. keep-models models known.state keeps)
        by (Act-F.Solve model method objective maximize) = subst Q (sym (rolls-Solve model method objective maximize)) (λ is typed. keeps)
        by (Act-F.Display items) = subst Q (sym (rolls-Display items)) (λ is typed. keeps)
        by (Act-F.Loop control body) = subst Q (sym (rolls-Loop control body)) (λ is typed. keeps)
        by (Act-F.Options settings) = subst Q (sym (rolls-Options settings)) (λ is typed. keeps)
        by (Act-F.Abort condition items) = subst Q (sym (rolls-Abort condition items)) (λ is typed. keeps)

    module _ (v : F → Number) (joint : Program F) (accepted : IsAccepted v joint) where
      abbrev count : ℕ
      count = length joint.names

      state-then : (before : List (Stmt F)) (statement : Stmt F) → state_after v count (sound (before ++ statement ∷ [])) ≡ after_act v (state_after v count (sound before)) statement.act
      state-then before statement =
          ap (state_after v count) (map-append {B = Stmt F × Bool} (λ (statement : Stmt F). (statement, true)) before (statement ∷ [])) ∙ fold-append (after_statement v) (blank_state count) (sound before) ((statement, true) ∷ [])

      -- Later statements keep it, up to the state in which the joint program begins.
      pub keep-following : (before rest : List (Stmt F)) → joint.statements.items ≡ before ++ rest → NoVariables (flat_map (λ (statement : Stmt F). typed_by statement.act) rest) → Keeps (state_after v count (sound before)) → Keeps (loaded v joint)
      keep-following before [] is typed keeps =
          subst (λ (statements : List (Stmt F)). Keeps (state_after v count (sound statements))) (sym (is ∙ append-nil before)) keeps
      keep-following before (statement ∷ rest) is typed keeps =
          let none = after-sound v joint accepted.0 before [] statement rest (sym (ap (λ (statements : List (Stmt F)). errors_after v joint accepted.0 [] statements) is) ∙ accepted.1) in
          keep-following (before ++ statement ∷ []) rest (is ∙ sym (append_assoc before (statement ∷ []) rest)) (each-right (λ n. not (is_variable (symbol_at first n).content)) (typed_by statement.act) (flat_map (λ (statement : Stmt F). typed_by statement.act) rest) typed)
          (subst Keeps (sym (state-then before statement)) (keep-act (known_after v joint accepted.0 (sound before)) statement (each-left (λ n. not (is_variable (symbol_at first n).content)) (typed_by statement.act) (flat_map (λ (statement : Stmt F). typed_by statement.act) rest) typed) none keeps))
