-- What a check of a joint program finds is what its errors are.
use Rattle.std.proofs.Common.{◌≡◌, ◌<◌, ◌≤◌, ◌+◌, ℕ, zero, suc, Bool, true, false, not, ◌==◌, ◌&&◌, ◌||◌, List, [], ◌∷◌, ◌++◌, length, get_or, map, set, take, replicate, refl, sym, ap, ◌∙◌, subst, cond, Option, Some, None, Vec, arith}
use Rattle.std.specs.Prelude.{filter, flat_map, nat_lt, if◌then◌else◌}
use Rattle.std.specs.declared.alloc.Global.{Global}
use mathlib.Core.Path.{fun_ext}
use Rattle.std.proofs.lemmas.Bool.{ltb-true, lt-ltb}
use Rattle.std.proofs.lemmas.Bool.Decides.{nat_tests}
use Rattle.std.proofs.lemmas.List.{append-nil, map-append, take_more, length-set, length-replicate, get_or_past}
use Rattle.std.proofs.lemmas.List.Elements.{filter-append, filter_more}
use Rattle.std.proofs.lemmas.List.Sums.{fold-append}
use Rattle.std.proofs.lemmas.Grind.{flat_map-append}
use Rattle.gq_frac.specs.declared.frac.Frac.{Frac}
use Rattle.gms_labels.specs.declared.place.Place.{Place}
use Rattle.gms_ast.specs.declared.declaration.Decl.{Decl}
use Rattle.gms_ast.specs.declared.declaration.DeclKind.{DeclKind}
use Rattle.gms_ast.specs.declared.declaration.DeclKind.TheVariants.{Set}
use Rattle.gms_ast.specs.declared.declaration.ModelDecl.{ModelDecl}
use Rattle.gms_ast.specs.declared.expression.Control.{Control}
use Rattle.gms_ast.specs.declared.expression.Expr.{Expr}
use Rattle.gms_ast.specs.declared.program.Act.{Act, Loop, out-Act, roll-Act, roll-out-Act}
use Rattle.gms_ast.specs.declared.program.Act.TheFolds.{fold-Act, fold-roll-Act, fold_out-Stmt}
use Rattle.gms_ast.specs.declared.program.Act.TheOpen.{Act-F, Stmt-F}
use Rattle.gms_ast.specs.declared.program.Act.TheVariants.{Declare, Alias, Assign, Model, rolls-Assign, rolls-Loop}
use Rattle.gms_ast.specs.declared.program.Program.{Program}
use Rattle.gms_ast.specs.declared.program.Right.{Right}
use Rattle.gms_ast.specs.declared.program.Stmt.{Stmt}
use Rattle.gms_ast.specs.declared.program.Target.{Target}
use Rattle.gms_store.specs.State.{Symbol, State, no_symbol, symbol_at, base_of}
use Rattle.gms_store.specs.Declarations.{alias_symbol, blank_state, can_join, declare, declare_alias, declare_each, declare_model, declare_models, declared_again, declared_by, declared_by_all, declared_state, is_set, is_undeclared, join_name, model_symbol, names_of, put_at}
use Rattle.gms_scope.specs.DynamicSets.{assigned_names}
use Rattle.gms_scope.specs.Facts.{marked, with_marks}
use Rattle.gms_check.specs.declared.error.CompileError.{CompileError}
use Rattle.gms_check.specs.Errors.{first_error, sooner}
use Rattle.gms_check.specs.Past.{is_among}
use Rattle.gms_check.proofs.Outlines.{read-at}
use Rattle.gms_check.proofs.PastFacts.{mark-one}
use Rattle.gms_check.proofs.Sooner.{first_of-append}
use Rattle.gms_save.specs.declared.restart.RestartCheck.{RestartCheck}
use Rattle.gms_save.specs.JointErrors.{names_fixed_set, is_fixed_set, is_saved, is_saved_variable, restart_at, restart_error, restarts_at, saved_assigned, saved_names, saved_statements, targets, targets_step, typed_names}
use Rattle.gms_save.specs.InnerRestartChecks.{IsCheckOf, error_by, fixed_by, unmarked_in, variable_in}

-- ---- the first error, name by name

restarts-append : (test : ℕ → Bool) (xs ys : List (Place × ℕ)) → restarts_at test (xs ++ ys) ≡ restarts_at test xs ++ restarts_at test ys
restarts-append test xs ys =
    ap (map {B = CompileError} (λ (named : Place × ℕ). restart_at named.0)) (filter-append (λ (named : Place × ℕ). test named.1) xs ys) ∙ map-append {B = CompileError} (λ (named : Place × ℕ). restart_at named.0) (filter (λ (named : Place × ℕ). test named.1) xs) (filter (λ (named : Place × ℕ). test named.1) ys)

-- the first error among names and others
pub first-append : (test : ℕ → Bool) (xs ys : List (Place × ℕ)) → first_error (restarts_at test (xs ++ ys)) ≡ sooner (first_error (restarts_at test xs)) (first_error (restarts_at test ys))
first-append test xs ys = ap first_error (restarts-append test xs ys) ∙ first_of-append (restarts_at test xs) (restarts_at test ys)

-- the error at one name
pub first-one : (test : ℕ → Bool) (at : Place) (name : ℕ) → (if test name then Some (restart_at at) else None) ≡ first_error (restarts_at test ((at, name) ∷ []))
first-one test at name = by (test name)
  where
    by : (b : Bool) → (if b then Some (restart_at at) else None) ≡ first_error (map {B = CompileError} (λ (named : Place × ℕ). restart_at named.0) (if b then (at, name) ∷ [] else []))
    by true = refl
    by false = refl

-- an error at one name, found by a test of it
pub first-where : (test : ℕ → Bool) (at : Place) (name : ℕ) (is_error : Bool) (found : Option CompileError) → found ≡ (if is_error then Some (restart_at at) else None) → is_error ≡ test name → found ≡ first_error (restarts_at test ((at, name) ∷ []))
first-where test at name is_error found e is =
    e ∙ ap (λ (b : Bool). if b then Some (restart_at at) else None) is ∙ first-one test at name

-- the names of one more
pub first-more : {X : Type 0} (test : ℕ → Bool) (f : X → List (Place × ℕ)) (xs : List X) (i : ℕ) (x : X) (now next found : Option CompileError) → i < length xs → x ≡ get_or xs i x → now ≡ first_error (restarts_at test (flat_map f (take i xs))) → found ≡ first_error (restarts_at test (f x)) → next ≡ sooner now found → next ≡ first_error (restarts_at test (flat_map f (take (i + 1) xs)))
first-more test f xs i x now next found l is so one step =
    step ∙ ap (λ o. sooner o found) so ∙ ap (sooner (first_error (restarts_at test (flat_map f (take i xs))))) one ∙ sym (first-append test (flat_map f (take i xs)) (f x)) ∙ ap (λ names. first_error (restarts_at test names)) whole
  where
    whole : flat_map f (take i xs) ++ f x ≡ flat_map f (take (i + 1) xs)
    whole =
        ap (λ names. flat_map f (take i xs) ++ names) (sym (append-nil (f x))) ∙ sym (flat_map-append f (take i xs) (x ∷ [])) ∙ ap (flat_map f) (sym (take_more xs i x l ∙ ap (λ y. take i xs ++ y ∷ []) (sym is)))

-- the same where each has one name
one-each : {X : Type 0} (g : X → Place × ℕ) (xs : List X) → map g xs ≡ flat_map (λ (x : X). g x ∷ []) xs
one-each g [] = refl
one-each g (x ∷ xs) = ap (λ names. g x ∷ names) (one-each g xs)

pub first-next : {X : Type 0} (test : ℕ → Bool) (g : X → Place × ℕ) (xs : List X) (i : ℕ) (x : X) (now next found : Option CompileError) → i < length xs → x ≡ get_or xs i x → now ≡ first_error (restarts_at test (map g (take i xs))) → found ≡ first_error (restarts_at test (g x ∷ [])) → next ≡ sooner now found → next ≡ first_error (restarts_at test (map g (take (i + 1) xs)))
first-next {X} test g xs i x now next found l is so one step =
    first-more test (λ (x : X). g x ∷ []) xs i x now next found l is (so ∙ ap (λ names. first_error (restarts_at test names)) (one-each g (take i xs))) one step ∙ ap (λ names. first_error (restarts_at test names)) (sym (one-each g (take (i + 1) xs)))

-- ---- what is given a type, and what is assigned

-- no other act gives a type
pub typed-other : {F : Type 0} (act : Act F) → ((kind : DeclKind) (items : List (Decl F)) → act ≡ Declare kind items → ⊥) → typed_names act ≡ []
typed-other (Declare kind items) no_declaration = absurd (no_declaration kind items refl)
typed-other act no_declaration = refl

-- names with their places
abbrev Names : Type 0
Names = List (Place × ℕ)

in-body : {F : Type 0} (statements : List (Stmt F)) → flat_map (λ names. names) (map (targets {F = F}) statements) ≡ flat_map targets statements
in-body [] = refl
in-body (s ∷ statements) = ap (λ names. targets s ++ names) (in-body statements)

module _ {F : Type 0} where
  -- what an act assigns
  abbrev targets_of : Act F → Names
  targets_of = fold-Act F Names Names targets_step (λ (s : Stmt-F F Names Names). s.act)

  targets-act : (s : Stmt F) → targets s ≡ targets_of s.act
  targets-act s = fold_out-Stmt F Names Names targets_step (λ (s : Stmt-F F Names Names). s.act) s

  -- an assignment assigns its target
  pub targets-Assign : (s : Stmt F) (target : Target F) (condition : Option (Expr F)) (right_at : Place) (right : Right F) → s.act ≡ Assign target condition right_at right → targets s ≡ (target.at, target.name) ∷ []
  targets-Assign s target condition right_at right e =
      targets-act s ∙ ap targets_of (e ∙ sym (rolls-Assign target condition right_at right)) ∙ fold-roll-Act F Names Names targets_step (λ (s : Stmt-F F Names Names). s.act) (Act-F.Assign target condition right_at right)

  -- a loop assigns what its statements do
  pub targets-Loop : (s : Stmt F) (control : Control F) (body : Vec (Stmt F) Global) → s.act ≡ Loop control body → targets s ≡ flat_map targets body.items
  targets-Loop s control body e =
      targets-act s ∙ ap targets_of (e ∙ sym (rolls-Loop control body)) ∙ fold-roll-Act F Names Names targets_step (λ (s : Stmt-F F Names Names). s.act) (Act-F.Loop control body) ∙ in-body body.items

  -- and nothing else assigns
  module _ (s : Stmt F) (no_assignment : (target : Target F) (condition : Option (Expr F)) (right_at : Place) (right : Right F) → s.act ≡ Assign target condition right_at right → ⊥) (no_loop : (control : Control F) (body : Vec (Stmt F) Global) → s.act ≡ Loop control body → ⊥) where
    by-layer : (layer : Act-F F (Act F) (Stmt F)) → s.act ≡ roll-Act F layer → targets s ≡ []
    by-layer (Act-F.Assign target condition right_at right) e = absurd (no_assignment target condition right_at right (e ∙ rolls-Assign target condition right_at right))
    by-layer (Act-F.Loop control body) e = absurd (no_loop control body (e ∙ rolls-Loop control body))
    by-layer (Act-F.Declare kind items) e = targets-act s ∙ ap targets_of e ∙ fold-roll-Act F Names Names targets_step (λ (s : Stmt-F F Names Names). s.act) (Act-F.Declare kind items)
    by-layer (Act-F.Alias first second) e = targets-act s ∙ ap targets_of e ∙ fold-roll-Act F Names Names targets_step (λ (s : Stmt-F F Names Names). s.act) (Act-F.Alias first second)
    by-layer (Act-F.Define equation indices condition left_at left side right_at right) e = targets-act s ∙ ap targets_of e ∙ fold-roll-Act F Names Names targets_step (λ (s : Stmt-F F Names Names). s.act) (Act-F.Define equation indices condition left_at left side right_at right)
    by-layer (Act-F.Model models) e = targets-act s ∙ ap targets_of e ∙ fold-roll-Act F Names Names targets_step (λ (s : Stmt-F F Names Names). s.act) (Act-F.Model models)
    by-layer (Act-F.Solve model method objective maximize) e = targets-act s ∙ ap targets_of e ∙ fold-roll-Act F Names Names targets_step (λ (s : Stmt-F F Names Names). s.act) (Act-F.Solve model method objective maximize)
    by-layer (Act-F.Display items) e = targets-act s ∙ ap targets_of e ∙ fold-roll-Act F Names Names targets_step (λ (s : Stmt-F F Names Names). s.act) (Act-F.Display items)
    by-layer (Act-F.Options settings) e = targets-act s ∙ ap targets_of e ∙ fold-roll-Act F Names Names targets_step (λ (s : Stmt-F F Names Names). s.act) (Act-F.Options settings)
    by-layer (Act-F.Abort condition items) e = targets-act s ∙ ap targets_of e ∙ fold-roll-Act F Names Names targets_step (λ (s : Stmt-F F Names Names). s.act) (Act-F.Abort condition items)

    pub targets-other : targets s ≡ []
    targets-other = by-layer (out-Act F s.act) (sym (roll-out-Act F s.act))

-- ---- how many names there are

-- a state has `n` names
abbrev Counts : ℕ → State → Type 0
Counts n state = length state.symbols ≡ n

count-put : (n : ℕ) (state : State) (name : ℕ) (s : Symbol) → Counts n state → Counts n (put_at state name s)
count-put n state name s count = length-set state.symbols name s ∙ count

count-declare : (n : ℕ) (kind : DeclKind) (domain : List (Option ℕ)) (state : State) (name : ℕ) → Counts n state → Counts n (declare kind domain state name)
count-declare n kind domain state name count = count-put n state name (declared_again kind domain (symbol_at state name)) count

count-alias : (n : ℕ) (state : State) (first second : ℕ) → Counts n state → Counts n (declare_alias state first second)
count-alias n state first second count = by (can_join state first second) (can_join state second first)
  where
    by : (a b : Bool) → Counts n (if a then join_name state first second else (if b then join_name state second first else declare Set [] (declare Set [] state first) second))
    by true b = count-put n state second (alias_symbol (base_of state first)) count
    by false true = count-put n state first (alias_symbol (base_of state second)) count
    by false false = count-declare n Set [] (declare Set [] state first) second (count-declare n Set [] state first count)

count-models : (n : ℕ) (state : State) (models : List ModelDecl) → Counts n state → Counts n (declare_models state models)
count-models n state [] count = count
count-models n state (model ∷ models) count = count-models n (declare_model state model.named.name) models (by (is_undeclared (symbol_at state model.named.name).content))
  where
    by : (b : Bool) → Counts n (if b then put_at state model.named.name model_symbol else state)
    by true = count-put n state model.named.name model_symbol count
    by false = count

module _ {F : Type 0} where
  count-each : (n : ℕ) (kind : DeclKind) (state : State) (items : List (Decl F)) → Counts n state → Counts n (declare_each kind state items)
  count-each n kind state [] count = count
  count-each n kind state (item ∷ items) count =
      count-each n kind (declare kind (names_of item.domain) state item.named.name) items (count-declare n kind (names_of item.domain) state item.named.name count)

  count-act : (n : ℕ) (state : State) (act : Act F) → Counts n state → Counts n (declared_by state act)
  count-act n state (Declare kind items) count = count-each n kind state items count
  count-act n state (Alias first second) count = count-alias n state first.name second.name count
  count-act n state (Model models) count = count-models n state models count
  count-act n state act count = count

  count-acts : (n : ℕ) (state : State) (statements : List (Stmt F)) → Counts n state → Counts n (declared_by_all state statements)
  count-acts n state [] count = count
  count-acts n state (statement ∷ statements) count = count-acts n (declared_by state statement.act) statements (count-act n state statement.act count)

  -- a name past those of the program is not declared
  saved-past : (from : ℕ) (joint : Program F) (name : ℕ) → length joint.names ≤ name → symbol_at (saved_names from joint) name ≡ no_symbol
  saved-past from joint name past =
      let size : length (saved_names from joint).symbols ≡ length joint.names = count-acts (length joint.names) (blank_state (length joint.names)) (saved_statements from joint) (length-replicate (length joint.names) no_symbol) in
      read-at (saved_names from joint).symbols name ∙ get_or_past (saved_names from joint).symbols name no_symbol (subst (λ (n : ℕ). n ≤ name) (sym size) past)

-- ---- marks

or_false : (a : Bool) → a ≡ (a || false)
or_false true = refl
or_false false = refl

or_assoc : (a b c : Bool) → ((a || b) || c) ≡ (a || (b || c))
or_assoc true b c = refl
or_assoc false b c = refl

unmarked : (count n : ℕ) → marked (replicate count false) n ≡ false
unmarked zero n = refl
unmarked (suc count) zero = refl
unmarked (suc count) (suc n) = unmarked count n

-- names that are marked
marked-all : (names : List ℕ) (marks : List Bool) (n : ℕ) → n < length marks → marked (with_marks marks names) n ≡ (marked marks n || is_among names n)
marked-all [] marks n within = or_false (marked marks n)
marked-all (name ∷ names) marks n within =
    marked-all names (set marks name true) n (subst (λ (k : ℕ). n < k) (sym (length-set marks name true)) within)
    ∙ ap (λ b. b || is_among names n) (mark-one marks name n ∙ ap (λ t. marked marks n || (t && (name == n))) (lt-ltb n (length marks) within))
    ∙ or_assoc (marked marks n) (name == n) (is_among names n)

-- where none was marked before
marked-first : (names : List ℕ) (count n : ℕ) → n < count → marked (with_marks (replicate count false) names) n ≡ is_among names n
marked-first names count n within =
    marked-all names (replicate count false) n (subst (λ (k : ℕ). n < k) (sym (length-replicate count false)) within) ∙ ap (λ b. b || is_among names n) (unmarked count n)

marks-append : (marks : List Bool) (xs ys : List ℕ) → with_marks marks (xs ++ ys) ≡ with_marks (with_marks marks xs) ys
marks-append marks [] ys = refl
marks-append marks (x ∷ xs) ys = marks-append (set marks x true) xs ys

-- ---- the statements of the saved source, in sequence

module _ {F : Type 0} (line : ℕ) (xs : List (Stmt F)) (i : ℕ) (x : Stmt F) (within : i < length xs) (is : x ≡ get_or xs i x) where
  kept-by : (b : Bool) → is_saved line x ≡ b → filter (is_saved line) (take (i + 1) xs) ≡ filter (is_saved line) (take i xs) ++ cond b (x ∷ []) []
  kept-by b e =
      filter_more (is_saved line) xs i x within ∙ ap (λ (y : Stmt F). filter (is_saved line) (take i xs) ++ cond (is_saved line y) (y ∷ []) []) (sym is) ∙ ap (λ (b : Bool). filter (is_saved line) (take i xs) ++ cond b (x ∷ []) []) e

  -- a statement of the new file adds nothing
  pub kept-new : {X : Type 0} (of : List (Stmt F) → X) (old new : X) → false ≡ is_saved line x → old ≡ of (filter (is_saved line) (take i xs)) → new ≡ old → new ≡ of (filter (is_saved line) (take (i + 1) xs))
  kept-new of old new e so same =
      same ∙ so ∙ ap of (sym (kept-by false (sym e) ∙ append-nil (filter (is_saved line) (take i xs))))

  -- one of the saved source declares
  pub kept-declares : (first old new : State) → true ≡ is_saved line x → old ≡ declared_by_all first (filter (is_saved line) (take i xs)) → new ≡ declared_by old x.act → new ≡ declared_by_all first (filter (is_saved line) (take (i + 1) xs))
  kept-declares first old new e so step =
      step ∙ ap (λ (s : State). declared_by s x.act) so ∙ sym (ap (declared_by_all first) (kept-by true (sym e)) ∙ fold-append (λ (state : State) (statement : Stmt F). declared_by state statement.act) first (filter (is_saved line) (take i xs)) (x ∷ []))

  -- and assigns
  pub kept-marks : (base : ℕ → ℕ) (first old new : List Bool) → true ≡ is_saved line x → old ≡ with_marks first (map base (flat_map assigned_names (filter (is_saved line) (take i xs)))) → new ≡ with_marks old (map base (assigned_names x)) → new ≡ with_marks first (map base (flat_map assigned_names (filter (is_saved line) (take (i + 1) xs))))
  kept-marks base first old new e so step =
      let before = filter (is_saved line) (take i xs) in
      let all : flat_map assigned_names before ++ assigned_names x ≡ flat_map assigned_names (filter (is_saved line) (take (i + 1) xs)) = ap (λ names. flat_map assigned_names before ++ names) (sym (append-nil (assigned_names x))) ∙ sym (flat_map-append assigned_names before (x ∷ [])) ∙ ap (flat_map assigned_names) (sym (kept-by true (sym e))) in
      step ∙ ap (λ (ms : List Bool). with_marks ms (map base (assigned_names x))) so ∙ sym (marks-append first (map base (flat_map assigned_names before)) (map base (assigned_names x))) ∙ ap (with_marks first) (sym (map-append base (flat_map assigned_names before) (assigned_names x)) ∙ ap (map base) all)

-- ---- the check of a joint program

-- the sets of the saved source that are not marked are those that it does not assign
unassigned : {F : Type 0} (line : ℕ) (joint : Program F) (set : ℕ) → unmarked_in (saved_names line joint) (with_marks (replicate (length joint.names) false) (saved_assigned line joint)) set ≡ is_fixed_set line joint set
unassigned line joint set = by (nat_lt set (length joint.names)) refl
  where
    by : (b : Bool) → nat_lt set (length joint.names) ≡ b → unmarked_in (saved_names line joint) (with_marks (replicate (length joint.names) false) (saved_assigned line joint)) set ≡ is_fixed_set line joint set
    by true e =
        ap (λ (b : Bool). is_set (symbol_at (saved_names line joint) set).content && not b) (marked-first (saved_assigned line joint) (length joint.names) set (ltb-true set (length joint.names) e))
    by false e =
        let past : length joint.names ≤ set = grind (arith, nat_tests) in
        let none = saved-past line joint set past in
        ap (λ (s : Symbol). is_set s.content && not (marked (with_marks (replicate (length joint.names) false) (saved_assigned line joint)) set)) none ∙ sym (ap (λ (s : Symbol). is_set s.content && not (is_among (saved_assigned line joint) set)) none)

module _ (line : ℕ) (joint : Program Frac) (check : RestartCheck) (is : IsCheckOf line joint check) where
  fixed-same : (name : ℕ) → fixed_by check name ≡ names_fixed_set line joint name
  fixed-same name =
      ap (λ (d : State). unmarked_in check.saved check.assigned (base_of d name)) is.declared
      ∙ ap (λ (s : State). unmarked_in s check.assigned (base_of (declared_state joint) name)) is.saved
      ∙ ap (λ (ms : List Bool). unmarked_in (saved_names line joint) ms (base_of (declared_state joint) name)) is.assigned
      ∙ unassigned line joint (base_of (declared_state joint) name)

  -- what it finds of a statement is the statement's first Restart
  pub error-same : (s : Stmt Frac) → error_by check s ≡ restart_error line joint s
  error-same s =
      ap (λ (from : ℕ). if is_saved from s then None else first_error (restarts_at (variable_in check.saved) (typed_names s.act) ++ restarts_at (fixed_by check) (targets s))) is.begins
      ∙ ap (λ (state : State). if is_saved line s then None else first_error (restarts_at (variable_in state) (typed_names s.act) ++ restarts_at (fixed_by check) (targets s))) is.saved
      ∙ ap (λ (test : ℕ → Bool). if is_saved line s then None else first_error (restarts_at (is_saved_variable line joint) (typed_names s.act) ++ restarts_at test (targets s))) (fun_ext fixed-same)
