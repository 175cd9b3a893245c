-- What each declaration of an accepted program keeps, with its data, holds of the state in which
-- its run begins.
use Rattle.gms_check.proofs.Faultless.{none-first, none-left, none-right}
use Rattle.std.proofs.Common.{◌≡◌, ℕ, Bool, true, if◌then◌else◌, List, [], ◌∷◌, ◌++◌, length, None, refl, sym, ap, ◌∙◌, subst, append_assoc}
use Rattle.std.specs.List.{fold}
use Rattle.std.proofs.lemmas.List.{map-append, append-nil}
use Rattle.std.proofs.lemmas.List.Sums.{fold-append}
use Rattle.gq_number.specs.Number.{Number}
use Rattle.gms_ast.specs.declared.declaration.Decl.{Decl}
use Rattle.gms_ast.specs.declared.declaration.DeclKind.{DeclKind}
use Rattle.gms_ast.specs.declared.declaration.ModelDecl.{ModelDecl}
use Rattle.gms_ast.specs.declared.program.Act.{Act, roll-Act}
use Rattle.gms_ast.specs.declared.program.Act.TheOpen.{Act-F}
use Rattle.gms_ast.specs.declared.program.Act.TheVariants.{Declare, rolls-Declare, rolls-Alias, rolls-Assign, rolls-Define, rolls-Model, rolls-Solve, rolls-Display, rolls-Loop, rolls-Options, rolls-Abort}
use Rattle.gms_ast.specs.declared.program.Program.{Program}
use Rattle.gms_ast.specs.declared.program.Stmt.{Stmt}
use Rattle.gms_store.specs.State.{State}
use Rattle.gms_store.specs.Declarations.{declare_alias, declare_model, blank_state}
use Rattle.gms_scope.specs.DynamicSets.{dynamic_sets}
use Rattle.gms_check.specs.declared.error.CompileError.{CompileError}
use Rattle.gms_check.specs.CompileErrors.{act_errors, declaration_errors, errors_after, errors_of, is_faultless, known_after, known_after_item, known_in, of_program, statement_error}
use Rattle.gms_check.specs.DeclarationUses.{item_uses, kind_uses}
use Rattle.gms_check.specs.Errors.{first_error}
use Rattle.gms_check.specs.Loaded.{IsAccepted, loaded, sound}
use Rattle.gms_check.specs.Past.{is_among, Known, after_act, after_statement, state_after, with_item, with_name}
use Rattle.gms_check.proofs.Growing.{by_parts}
use Rattle.gms_check.proofs.NoErrors.{AreClean, are-clean}
use Rattle.gms_check.proofs.Soundness.{after-sound}

module _ {F : Type 0} (program : Program F) (P : State → Type 0) (each_item : (k : DeclKind) (known : Known F) (item : Decl F) → known.assigned ≡ of_program program (is_among (dynamic_sets program)) → AreClean known (item_uses known k item) → P known.state → P (with_item known.value k known.state item)) (each_alias : (state : State) (first second : ℕ) → P state → P (declare_alias state first second)) (each_model : (state : State) (name : ℕ) → P state → P (declare_model state name)) where
  -- what is known of the sets that the program assigns
  abbrev KnowsAssigned : Known F → Type 0
  KnowsAssigned known = known.assigned ≡ of_program program (is_among (dynamic_sets program))

  over-items : (k : DeclKind) (known : Known F) (items : List (Decl F)) → KnowsAssigned known → declaration_errors known k items ≡ [] → P known.state → P (fold (with_item known.value k) known.state items)
  over-items k known [] same e p = p
  over-items k known (item ∷ items) same e p =
      let errors = errors_of known (item_uses known k item) in
      let none : errors ≡ [] = none-left errors (declaration_errors (known_after_item known k item) k items) e in
      let next : known_after_item known k item ≡ known_in known (with_item known.value k known.state item) = ap (λ (es : List CompileError). known_in known (if is_faultless es then with_item known.value k known.state item else with_name known.value k known.state item)) none in
      let rest = sym (ap (λ (known : Known F). declaration_errors known k items) next) ∙ none-right errors (declaration_errors (known_after_item known k item) k items) e in
      over-items k (known_in known (with_item known.value k known.state item)) items same rest (each_item k known item same (are-clean known (item_uses known k item) none) p)

  over-models : (models : List ModelDecl) (state : State) → P state → P (fold (λ state (model : ModelDecl). declare_model state model.named.name) state models)
  over-models [] state p = p
  over-models (model ∷ models) state p = over-models models (declare_model state model.named.name) (each_model state model.named.name p)

  -- a statement without an error
  over-act : (known : Known F) (statement : Stmt F) → KnowsAssigned known → statement_error known statement ≡ None → P known.state → P (after_act known.value known.state statement.act)
  over-act known statement same e p = by_parts Q by statement.act refl
    where
      Q : Act F → Type 0
      Q a = statement.act ≡ a → P (after_act known.value known.state a)

      by : (layer : Act-F F (Act F) (Stmt F)) → Q (roll-Act F layer)
      by (Act-F.Declare k items) =
          subst Q (sym (rolls-Declare k items)) (λ is. over-items k known items same (none-right (errors_of known (kind_uses statement.at k)) (declaration_errors known k items) (none-first (act_errors known statement (Declare k items)) (sym (ap (λ (act : Act F). first_error (act_errors known statement act)) is) ∙ e))) p)
      by (Act-F.Alias first second) = subst Q (sym (rolls-Alias first second)) (λ is. each_alias known.state first.name second.name p)
      by (Act-F.Assign target condition right_at right) = subst Q (sym (rolls-Assign target condition right_at right)) (λ is. p)
      by (Act-F.Define equation indices condition left_at left side right_at right) =
          subst Q (sym (rolls-Define equation indices condition left_at left side right_at right)) (λ is. p)
      by (Act-F.Model models) = subst Q (sym (rolls-Model models)) (λ is. over-models models known.state p)
      by (Act-F.Solve model method objective maximize) = subst Q (sym (rolls-Solve model method objective maximize)) (λ is. p)
      by (Act-F.Display items) = subst Q (sym (rolls-Display items)) (λ is. p)
      by (Act-F.Loop control body) = subst Q (sym (rolls-Loop control body)) (λ is. p)
      by (Act-F.Options settings) = subst Q (sym (rolls-Options settings)) (λ is. p)
      by (Act-F.Abort condition items) = subst Q (sym (rolls-Abort condition items)) (λ is. p)

  module _ (v : F → Number) (accepted : IsAccepted v program) where
    abbrev known_later : List (Stmt F) → Known F
    known_later before = known_after v program accepted.0 (sound before)

    abbrev count : ℕ
    count = length program.names

    state-then : (before : List (Stmt F)) (statement : Stmt F) → state_after v count (sound (before ++ statement ∷ [])) ≡ after_act v (state_after v count (sound before)) statement.act
    state-then before statement =
        ap (state_after v count) (map-append {B = Stmt F × Bool} (λ (statement : Stmt F). (statement, true)) before (statement ∷ [])) ∙ fold-append (after_statement v) (blank_state count) (sound before) ((statement, true) ∷ [])

    over-traversal : (before rest : List (Stmt F)) → program.statements.items ≡ before ++ rest → P (state_after v count (sound before)) → P (loaded v program)
    over-traversal before [] is p =
        subst (λ (statements : List (Stmt F)). P (state_after v count (sound statements))) (sym (is ∙ append-nil before)) p
    over-traversal before (statement ∷ rest) is p =
        let none = after-sound v program accepted.0 before [] statement rest (sym (ap (λ (statements : List (Stmt F)). errors_after v program accepted.0 [] statements) is) ∙ accepted.1) in
        over-traversal (before ++ statement ∷ []) rest (is ∙ sym (append_assoc before (statement ∷ []) rest)) (subst P (sym (state-then before statement)) (over-act (known_later before) statement refl none p))

    -- what holds where nothing is declared holds where the run begins
    pub over-accepted : P (blank_state (length program.names)) → P (loaded v program)
    over-accepted blank = over-traversal [] program.statements.items refl blank
