-- If a joint program has no error Restart, the statements of the new file type no variable of the
-- saved ones.
use Rattle.gms_check.proofs.Faultless.{none-first, none-left}
use Rattle.gms_check.proofs.TrialDeclarations.{none-later}
use Rattle.std.proofs.Common.{◌≡◌, ℕ, ◌≤◌, Bool, true, false, not, if◌then◌else◌, List, [], ◌∷◌, ◌++◌, length, map, Option, Some, None, refl, sym, ap, ◌∙◌, subst}
use Rattle.std.specs.Prelude.{filter, flat_map, is_none, option_to_list}
use Rattle.gq_number.specs.Number.{Number}
use Rattle.gms_labels.specs.declared.place.Place.{Place}
use Rattle.gms_ast.specs.declared.declaration.Decl.{Decl}
use Rattle.gms_ast.specs.declared.program.Act.{Act, roll-Act}
use Rattle.gms_ast.specs.declared.program.Act.TheOpen.{Act-F}
use Rattle.gms_ast.specs.declared.program.Act.TheVariants.{rolls-Declare, rolls-Alias, rolls-Assign, rolls-Define, rolls-Model, rolls-Solve, rolls-Display, rolls-Loop, rolls-Options, rolls-Abort}
use Rattle.gms_ast.specs.declared.program.Program.{Program}
use Rattle.gms_ast.specs.declared.program.Stmt.{Stmt}
use Rattle.gms_store.specs.Declarations.{blank_state, content_of, declared_by_all, declared_state}
use Rattle.gms_store.specs.State.{State, Content, undeclared, alias_of, set_of, parameter_of, variable_of, equation_of, model_with, Symbol, symbol_at}
use Rattle.gms_check.specs.declared.error.CompileError.{CompileError}
use Rattle.gms_check.specs.CompileErrors.{each_error, known_after, statement_error}
use Rattle.gms_check.specs.Errors.{first_error, sooner}
use Rattle.gms_check.specs.Loaded.{loaded}
use Rattle.gms_check.specs.Names.{is_variable}
use Rattle.gms_check.specs.Past.{Past}
use Rattle.gms_check.proofs.Growing.{by_parts}
use Rattle.gms_run_laws.specs.Names.{Each}
use Rattle.gms_run_laws.proofs.Eaches.{each-both}
use Rattle.gms_run_laws.specs.Extensions.{DeclaresItsOwn, TypesNone, typed_by}
use Rattle.gms_run_laws.proofs.Padding.{padded-after}
use Rattle.gms_save.specs.JointErrors.{each_sooner, is_saved, is_saved_variable, joint_errors, names_at, restart_at, restart_error, restart_errors, restarts_at, saved_names, targets, typed_names, names_fixed_set}
use Rattle.gms_save.proofs.LoadedNames.{loaded-declares, same-read}
use Rattle.gms_save_text.specs.Validity.{emptied}
use Rattle.gms_restart.specs.StatementLines.{AreSaved, AreNew}

-- ---- no error at all

no-first : (o : Option CompileError) (rest : List CompileError) → option_to_list o ++ rest ≡ [] → (o ≡ None) × (rest ≡ [])
no-first None rest e = (refl, e)
no-first (Some x) rest e = absurd (cc)

-- each of some statements has none of these errors
abbrev EachNone : {F : Type 0} → (Stmt F → Option CompileError) → List (Stmt F) → Type 0
EachNone f [] = Unit {0}
EachNone f (s ∷ statements) = (f s ≡ None) × EachNone f statements

module _ {F : Type 0} (v : F → Number) (joint : Program F) (solvers : List (List ℕ)) (f : Stmt F → Option CompileError) where
  each-none : (past : Past F) (xs : List (Stmt F)) → flat_map option_to_list (each_sooner f (each_error v joint solvers past xs) xs) ≡ [] → EachNone f xs
  each-none past [] e = tt
  each-none past (s ∷ xs) e =
      let error = statement_error (known_after v joint solvers past) s in
      let next = past ++ (s, is_none error) ∷ [] in
      let parts = no-first (sooner error (f s)) (flat_map option_to_list (each_sooner f (each_error v joint solvers next xs) xs)) e in
      (none-later error (f s) parts.0, each-none next xs parts.1)

none-following : {F : Type 0} (f : Stmt F → Option CompileError) (xs ys : List (Stmt F)) → EachNone f (xs ++ ys) → EachNone f ys
none-following f [] ys all = all
none-following f (x ∷ xs) ys all = none-following f xs ys all.1

-- ---- the names that an act types

none-at : (test : ℕ → Bool) (named : List (Place × ℕ)) → restarts_at test named ≡ [] → Each (λ n. not (test n)) (map (λ (p : Place × ℕ). p.1) named)
none-at test [] e = tt
none-at test (p ∷ named) e = by (test p.1) refl e (λ rest. none-at test named rest)
  where
    by : (b : Bool) → test p.1 ≡ b → map (λ (q : Place × ℕ). restart_at q.0) (if b then p ∷ filter (λ (q : Place × ℕ). test q.1) named else filter (λ (q : Place × ℕ). test q.1) named) ≡ [] → (restarts_at test named ≡ [] → Each (λ n. not (test n)) (map (λ (q : Place × ℕ). q.1) named)) → Each (λ n. not (test n)) (map (λ (q : Place × ℕ). q.1) (p ∷ named))
    by true is e next = absurd (cc)
    by false is e next = (ap not is, next e)

names-of-items : {F : Type 0} (items : List (Decl F)) → map (λ (p : Place × ℕ). p.1) (names_at items) ≡ map (λ (item : Decl F). item.named.name) items
names-of-items [] = refl
names-of-items (item ∷ items) = ap (λ (ns : List ℕ). item.named.name ∷ ns) (names-of-items items)

typed-same : {F : Type 0} (act : Act F) → map (λ (p : Place × ℕ). p.1) (typed_names act) ≡ typed_by act
typed-same {F} act = by_parts Q by act
  where
    Q : Act F → Type 0
    Q a = map (λ (p : Place × ℕ). p.1) (typed_names a) ≡ typed_by a

    kinds : (b : Bool) (items : List (Decl F)) → map (λ (p : Place × ℕ). p.1) (if b then names_at items else []) ≡ (if b then map (λ (item : Decl F). item.named.name) items else [])
    kinds true items = names-of-items items
    kinds false items = refl

    by : (layer : Act-F F (Act F) (Stmt F)) → Q (roll-Act F layer)
    by (Act-F.Declare kind items) = subst Q (sym (rolls-Declare kind items)) (kinds (is_variable (content_of kind)) items)
    by (Act-F.Alias first second) = subst Q (sym (rolls-Alias first second)) refl
    by (Act-F.Assign target condition right_at right) = subst Q (sym (rolls-Assign target condition right_at right)) refl
    by (Act-F.Define equation indices condition left_at left side right_at right) =
        subst Q (sym (rolls-Define equation indices condition left_at left side right_at right)) refl
    by (Act-F.Model models) = subst Q (sym (rolls-Model models)) refl
    by (Act-F.Solve model method objective maximize) = subst Q (sym (rolls-Solve model method objective maximize)) refl
    by (Act-F.Display items) = subst Q (sym (rolls-Display items)) refl
    by (Act-F.Loop control body) = subst Q (sym (rolls-Loop control body)) refl
    by (Act-F.Options settings) = subst Q (sym (rolls-Options settings)) refl
    by (Act-F.Abort condition items) = subst Q (sym (rolls-Abort condition items)) refl

keeps-variable : (c : Content) → is_variable (emptied c) ≡ is_variable c
keeps-variable undeclared = refl
keeps-variable (alias_of base) = refl
keeps-variable (set_of members) = refl
keeps-variable (parameter_of entries) = refl
keeps-variable (variable_of type entries) = refl
keeps-variable (equation_of entries) = refl
keeps-variable (model_with model solver) = refl

each-same : (p q : ℕ → Bool) → ((n : ℕ) → p n ≡ q n) → (ns : List ℕ) → Each p ns → Each q ns
each-same p q same [] all = tt
each-same p q same (n ∷ ns) all = (sym (same n) ∙ all.0, each-same p q same ns all.1)

module _ {F : Type 0} (from : ℕ) where
  -- the saved statements of two parts
  pub saved-prefix : (xs ys : List (Stmt F)) → AreSaved from xs → AreNew from ys → filter (is_saved from) (xs ++ ys) ≡ xs
  saved-prefix [] [] saved new = refl
  saved-prefix [] (y ∷ ys) saved new =
      ap (λ (b : Bool). if b then y ∷ filter (is_saved from) ys else filter (is_saved from) ys) new.0 ∙ saved-prefix [] ys tt new.1
  saved-prefix (x ∷ xs) ys saved new =
      ap (λ (b : Bool). if b then x ∷ filter (is_saved from) (xs ++ ys) else filter (is_saved from) (xs ++ ys)) saved.0 ∙ ap (λ (zs : List (Stmt F)). x ∷ zs) (saved-prefix xs ys saved.1 new)

  module _ (v : F → Number) (base joint : Program F) (firsts others : List (Stmt F)) (few : length base.names ≤ length joint.names) (own : DeclaresItsOwn base) (statements : joint.statements.items ≡ firsts ++ others) (declares : (s : State) → declared_by_all s firsts ≡ declared_by_all s base.statements.items) (saved : AreSaved from firsts) (new : AreNew from others) where
    -- the saved program with the names of the joint one
    abbrev wider : Program F
    wider = record base { names = joint.names }

    names-are : saved_names from joint ≡ declared_state wider
    names-are =
        ap (declared_by_all (blank_state (length joint.names))) (ap (filter (is_saved from)) statements ∙ saved-prefix firsts others saved new) ∙ declares (blank_state (length joint.names))

    variable-same : (n : ℕ) → is_saved_variable from joint n ≡ is_variable (symbol_at (loaded v base) n).content
    variable-same n =
        ap (λ (s : State). is_variable (symbol_at s n).content) names-are
        ∙ sym (same-read is_variable keeps-variable (loaded v wider) (declared_state wider) n (loaded-declares v wider))
        ∙ ap (λ (s : Symbol). is_variable s.content) ((padded-after (length base.names) v (length joint.names) few base.statements.items own).same n)

    none-typed : (xs : List (Stmt F)) → AreNew from xs → EachNone (restart_error from joint) xs → TypesNone (loaded v base) xs
    none-typed [] new none = tt
    none-typed (s ∷ xs) new none =
        let clean = ap (λ (b : Bool). if b then None else first_error (restart_errors from joint s)) (sym new.0) ∙ none.0 in
        let empty = none-left (restarts_at (is_saved_variable from joint) (typed_names s.act)) (restarts_at (names_fixed_set from joint) (targets s)) (none-first (restart_errors from joint s) clean) in
        let here = subst (Each (λ n. not (is_saved_variable from joint n))) (typed-same s.act) (none-at (is_saved_variable from joint) (typed_names s.act) empty) in
        each-both (λ n. not (is_variable (symbol_at (loaded v base) n).content)) (typed_by s.act) (flat_map (λ (s : Stmt F). typed_by s.act) xs)
        (each-same (λ n. not (is_saved_variable from joint n)) (λ n. not (is_variable (symbol_at (loaded v base) n).content)) (λ n. ap not (variable-same n)) (typed_by s.act) here) (none-typed xs new.1 none.1)

    -- The statements of the new file type no saved variable.
    pub types-none : (solvers : List (List ℕ)) → joint_errors v joint from solvers ≡ [] → TypesNone (loaded v base) others
    types-none solvers e =
        none-typed others new (none-following (restart_error from joint) firsts others (subst (EachNone (restart_error from joint)) statements (each-none v joint solvers (restart_error from joint) [] joint.statements.items e)))
