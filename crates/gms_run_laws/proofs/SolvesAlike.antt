-- The models that a saved program solves have the same definitions in an accepted program that
-- continues it.
use Rattle.std.proofs.Common.{◌≡◌, ℕ, ◌<◌, ◌≤◌, nat_lt, Bool, true, false, not, ◌||◌, ◌&&◌, ◌==◌, cond, List, [], ◌∷◌, ◌++◌, map, length, refl, sym, ap, ap₂, ◌∙◌, subst, append_assoc, arith}
use Rattle.std.specs.Prelude.{flat_map}
use Rattle.std.specs.List.{list_any}
use Rattle.std.proofs.lemmas.Bool.{both_ways, eqb-true, and_from, and_parts, not-false, or_left}
use Rattle.std.proofs.lemmas.List.Concat.{flat_map-append}
use Rattle.std.proofs.lemmas.List.Folds.{list_any-append}
use Rattle.gq_number.specs.Number.{Number}
use Rattle.gms_labels.specs.declared.place.Place.{Place}
use Rattle.gms_ast.specs.declared.program.Act.{Act, roll-Act, map-Act}
use Rattle.gms_ast.specs.declared.program.Act.TheFolds.{fold-Act, fold-roll-Act, fold-roll-Stmt, ind-Stmt}
use Rattle.gms_ast.specs.declared.program.Act.TheOpen.{Act-F, Stmt-F}
use Rattle.gms_ast.specs.declared.program.Act.TheVariants.{Define, rolls-Declare, rolls-Alias, rolls-Assign, rolls-Define, rolls-Model, rolls-Solve, rolls-Display, rolls-Loop, rolls-Options, rolls-Abort}
use Rattle.gms_ast.specs.declared.program.Program.{Program}
use Rattle.gms_ast.specs.declared.program.Stmt.{Stmt, roll-Stmt, map-Stmt}
use Rattle.gms_ast.specs.TreeView.{control_tree}
use Rattle.gms_store.specs.Declarations.{is_undeclared, kind_in}
use Rattle.gms_store.specs.State.{Content, undeclared, alias_of, set_of, parameter_of, variable_of, equation_of, model_with, symbol_at}
use Rattle.gms_scope.specs.Facts as facts
use Rattle.gms_scope.specs.Names.{is_model, declared_kind}
use Rattle.gms_check.specs.declared.error.ErrorKind.TheVariants.{WrongKind, NotDefined, DefinedTwice}
use Rattle.gms_check.specs.CompileErrors.{errors_after, known_after}
use Rattle.gms_check.specs.Loaded.{IsAccepted, sound}
use Rattle.gms_check.specs.Past.{Known, defines, is_defined, names_declared}
use Rattle.gms_check.specs.InnerStatements.{act_uses}
use Rattle.gms_check.specs.StatementUses.{UsesOfAct, UsesOfStatement, act_uses_step, statement_uses_step, statement_uses}
use Rattle.gms_check.specs.Uses.{solving, control_uses, sets_of_control}
use Rattle.gms_check.proofs.ActUses.{uses-act, uses-Define}
use Rattle.gms_check.proofs.Growing.{by_parts}
use Rattle.gms_check.proofs.NoErrors.{IsClean, AreClean, clean-left, clean-right}
use Rattle.gms_check.proofs.Soundness.{after-sound, statement-clean, neither-first, neither-second}
use Rattle.gms_rows.specs.ModelPoints.{definitions_of_model}
use Rattle.gms_rows.specs.Rows.{Definition, models_of, defined_at, definitions, definition_of, equations_of}
use Rattle.gms_exec.specs.Run.{World}
use Rattle.gms_run_laws.specs.Agreeing.{DefineAlike, SolveAlike}
use Rattle.gms_run_laws.specs.Names.{Each, solved_step, models_solved}
use Rattle.gms_run_laws.proofs.Changing.{within}
use Rattle.gms_run_laws.proofs.Equations.{IsEquation, padded-then, all-equations, model-equations}
use Rattle.gms_run_laws.proofs.Padding.{below-of, test-of}
use Rattle.gms_run_laws.proofs.Models.{has_model, declares_model, equations-prefix, model-declared}

-- a model is declared
model-there : (c : Content) → is_model (kind_in c) ≡ true → not (is_undeclared c) ≡ true
model-there undeclared e = absurd (cc)
model-there (alias_of base) e = absurd (cc)
model-there (set_of members) e = absurd (cc)
model-there (parameter_of entries) e = absurd (cc)
model-there (variable_of type entries) e = absurd (cc)
model-there (equation_of entries) e = absurd (cc)
model-there (model_with model solver) e = refl

-- of two tests of which the first holds and not both, the second fails
second-fails : (a b : Bool) → a ≡ true → (a && b) ≡ false → b ≡ false
second-fails true b e none = none
second-fails false b e none = absurd (cc)

second-of : (a b : Bool) → (a && b) ≡ true → b ≡ true
second-of true b e = e
second-of false b e = absurd (cc)

none-missing : (test : ℕ → Bool) (ns : List ℕ) → list_any (λ n. not (test n)) ns ≡ false → Each test ns
none-missing test [] none = tt
none-missing test (n ∷ ns) none =
    (not-false (test n) (neither-first (not (test n)) (list_any (λ n. not (test n)) ns) none), none-missing test ns (neither-second (not (test n)) (list_any (λ n. not (test n)) ns) none))

-- ---- definitions after others

module _ {F : Type 0} where
  -- whether an equation is defined among statements
  abbrev pub defined_in : List (Stmt F) → ℕ → Bool
  defined_in statements q = list_any (λ (s : Stmt F). defines q s.act) statements

  defined-sound : (statements : List (Stmt F)) (q : ℕ) → is_defined (sound statements) q ≡ defined_in statements q
  defined-sound [] q = refl
  defined-sound (s ∷ statements) q = ap (λ (b : Bool). defines q s.act || b) (defined-sound statements q)

  no-definition : (at : Place) (act : Act F) (q : ℕ) (es : List (Definition F)) → defines q act ≡ false → definition_of (defined_at at act ++ es) q ≡ definition_of es q
  no-definition at act q es = by_parts P by act
    where
      P : Act F → Type 0
      P a = defines q a ≡ false → definition_of (defined_at at a ++ es) q ≡ definition_of es q

      lagged : (b : Bool) (d : Definition F) → (d.equation == q) ≡ false → definition_of (cond b [] (d ∷ []) ++ es) q ≡ definition_of es q
      lagged true d other = refl
      lagged false d other = ap (λ (b : Bool). cond b (d ∷ []) (definition_of es q)) other

      by : (layer : Act-F F (Act F) (Stmt F)) → P (roll-Act F layer)
      by (Act-F.Declare k items) = subst P (sym (rolls-Declare k items)) (λ none. refl)
      by (Act-F.Alias one two) = subst P (sym (rolls-Alias one two)) (λ none. refl)
      by (Act-F.Assign target condition right_at right) = subst P (sym (rolls-Assign target condition right_at right)) (λ none. refl)
      by (Act-F.Define equation indices condition left_at left side right_at right) =
          subst P (sym (rolls-Define equation indices condition left_at left side right_at right)) (λ none. lagged _ _ none)
      by (Act-F.Model models) = subst P (sym (rolls-Model models)) (λ none. refl)
      by (Act-F.Solve model method objective maximize) = subst P (sym (rolls-Solve model method objective maximize)) (λ none. refl)
      by (Act-F.Display items) = subst P (sym (rolls-Display items)) (λ none. refl)
      by (Act-F.Loop control body) = subst P (sym (rolls-Loop control body)) (λ none. refl)
      by (Act-F.Options settings) = subst P (sym (rolls-Options settings)) (λ none. refl)
      by (Act-F.Abort condition items) = subst P (sym (rolls-Abort condition items)) (λ none. refl)

  none-defined : (statements : List (Stmt F)) (q : ℕ) → defined_in statements q ≡ false → definition_of (definitions statements) q ≡ []
  none-defined [] q none = refl
  none-defined (s ∷ statements) q none =
      no-definition s.at s.act q (definitions statements) (neither-first (defines q s.act) (defined_in statements q) none) ∙ none-defined statements q (neither-second (defines q s.act) (defined_in statements q) none)

  -- where no later one defines it, the definition of an equation is that of the first ones
  definition-prefix : (ds es : List (Definition F)) (q : ℕ) → definition_of es q ≡ [] → definition_of (ds ++ es) q ≡ definition_of ds q
  definition-prefix [] es q none = none
  definition-prefix (d ∷ ds) es q none =
      ap (λ (rest : List (Definition F)). cond (d.equation == q) (d ∷ []) rest) (definition-prefix ds es q none)

  all-prefix : (test : ℕ → Bool) (ds es : List (Definition F)) → ((q : ℕ) → test q ≡ true → definition_of es q ≡ []) → (qs : List ℕ) → Each test qs → flat_map (definition_of (ds ++ es)) qs ≡ flat_map (definition_of ds) qs
  all-prefix test ds es none [] all = refl
  all-prefix test ds es none (q ∷ qs) all =
      ap₂ (λ (one rest : List (Definition F)). one ++ rest) (definition-prefix ds es q (none q all.0)) (all-prefix test ds es none qs all.1)

-- ---- what the later statements of a joint program define

module _ {F : Type 0} (v : F → Number) (joint : Program F) (accepted : IsAccepted v joint) where
  abbrev known_there : List (Stmt F) → Known F
  known_there before = known_after v joint accepted.0 (sound before)

  -- an equation that statements define is not defined again
  not-again : (before : List (Stmt F)) (s : Stmt F) (rest : List (Stmt F)) → joint.statements.items ≡ before ++ s ∷ rest → (q : ℕ) → nat_lt q (length joint.names) ≡ true → defined_in before q ≡ true → defines q s.act ≡ false
  not-again before s rest is q below there = by_parts P by s.act refl
    where
      known : Known F
      known = known_there before

      P : Act F → Type 0
      P a = s.act ≡ a → defines q a ≡ false

      defined_now : known.defined q ≡ true
      defined_now = and_from (nat_lt q (length joint.names)) (is_defined (sound before) q) below (defined-sound before q ∙ there)

      clean : AreClean known (statement_uses s known.state [])
      clean = statement-clean known s (after-sound v joint accepted.0 before [] s rest (sym (ap (errors_after v joint accepted.0 []) is) ∙ accepted.1))

      by : (layer : Act-F F (Act F) (Stmt F)) → P (roll-Act F layer)
      by (Act-F.Declare k items) = subst P (sym (rolls-Declare k items)) (λ same. refl)
      by (Act-F.Alias one two) = subst P (sym (rolls-Alias one two)) (λ same. refl)
      by (Act-F.Assign target condition right_at right) = subst P (sym (rolls-Assign target condition right_at right)) (λ same. refl)
      by (Act-F.Define equation indices condition left_at left side right_at right) =
          subst P (sym (rolls-Define equation indices condition left_at left side right_at right)) (λ same. other same (equation.name == q) refl)
        where
          other : s.act ≡ Define equation indices condition left_at left side right_at right → (b : Bool) → (equation.name == q) ≡ b → b ≡ false
          other same true e =
              let whole = subst (AreClean known) (uses-act s known.state [] ∙ ap (λ (a : Act F). act_uses a known.state s.at []) same ∙ uses-Define known.state s.at [] equation indices condition left_at left side right_at right) clean in
              absurd (both_ways (known.defined q) (ap known.defined (sym (eqb-true equation.name q e)) ∙ whole.0 DefinedTwice) defined_now)
          other same false e = refl
      by (Act-F.Model models) = subst P (sym (rolls-Model models)) (λ same. refl)
      by (Act-F.Solve model method objective maximize) = subst P (sym (rolls-Solve model method objective maximize)) (λ same. refl)
      by (Act-F.Display items) = subst P (sym (rolls-Display items)) (λ same. refl)
      by (Act-F.Loop control body) = subst P (sym (rolls-Loop control body)) (λ same. refl)
      by (Act-F.Options settings) = subst P (sym (rolls-Options settings)) (λ same. refl)
      by (Act-F.Abort condition items) = subst P (sym (rolls-Abort condition items)) (λ same. refl)

  not-following : (before rest : List (Stmt F)) → joint.statements.items ≡ before ++ rest → (q : ℕ) → nat_lt q (length joint.names) ≡ true → defined_in before q ≡ true → defined_in rest q ≡ false
  not-following before [] is q below there = refl
  not-following before (s ∷ rest) is q below there =
      ap (λ (b : Bool). b || defined_in rest q) (not-again before s rest is q below there)
      ∙ not-following (before ++ s ∷ []) rest (is ∙ sym (append_assoc before (s ∷ []) rest)) q below (list_any-append (λ (s : Stmt F). defines q s.act) before (s ∷ []) ∙ or_left (defined_in before q) (defined_in (s ∷ []) q) there)

-- ---- models of the saved program

module _ {F : Type 0} (v : F → Number) (saved joint : World F) (others : List (Stmt F)) (accepted : IsAccepted v saved.program) (both : IsAccepted v joint.program) (few : length saved.program.names ≤ length joint.program.names) (own : Each (λ n. nat_lt n (length saved.program.names)) (flat_map (λ (s : Stmt F). names_declared s.act) saved.program.statements.items)) (firsts : List (Stmt F)) (statements : joint.program.statements.items ≡ firsts ++ others) (define_same : (m : ℕ) → definitions_of_model (firsts ++ others) m ≡ definitions_of_model (saved.program.statements.items ++ others) m) (defined_same : (q : ℕ) → defined_in firsts q ≡ defined_in saved.program.statements.items q) where
  abbrev prefix : List (Stmt F)
  prefix = saved.program.statements.items

  module _ (before : List (Stmt F)) (outer : Stmt F) (tail : List (Stmt F)) (occurs : prefix ≡ before ++ outer ∷ tail) where
    abbrev known : Known F
    known = known_after v saved.program accepted.0 (sound before)

    -- a model that is solved without an error
    model-alike : (m : ℕ) → IsClean known (solving m) → definitions_of_model joint.program.statements.items m ≡ definitions_of_model prefix m
    model-alike m clean =
        ap (λ (ss : List (Stmt F)). definitions_of_model ss m) statements
        ∙ define_same m
        ∙ ap (λ (ds : List (Definition F)). flat_map (definition_of ds) (equations_of (prefix ++ others) m)) (flat_map-append (λ (s : Stmt F). defined_at s.at s.act) prefix others)
        ∙ ap (flat_map (definition_of (definitions prefix ++ definitions others))) (equations-prefix m [] prefix others declared)
        ∙ all-prefix known.defined (definitions prefix) (definitions others) (λ q is. none-defined others q (following q is)) (equations_of prefix m) oks
      where
        is_there : is_model (declared_kind known.state m) ≡ true
        is_there = not-false (is_model (declared_kind known.state m)) (clean WrongKind)

        declared_before : declares_model m before ≡ true
        declared_before = model-declared m v (length saved.program.names) before is_there

        declared : declares_model m prefix ≡ true
        declared =
            ap (declares_model m) occurs ∙ list_any-append (λ (s : Stmt F). has_model m (models_of s.act)) before (outer ∷ tail) ∙ or_left (declares_model m before) (declares_model m (outer ∷ tail)) declared_before

        below : nat_lt m (length saved.program.names) ≡ true
        below =
            let many = (padded-then v saved.program accepted own before (outer ∷ tail) occurs).size in
            let b = within known.state m (model-there (symbol_at known.state m).content is_there) in
            test-of m (length saved.program.names) (subst (λ n. m < n) many b)

        oks : Each known.defined (equations_of prefix m)
        oks =
            subst (λ (ss : List (Stmt F)). Each known.defined (equations_of ss m)) (sym occurs)
            (model-equations (length saved.program.names) (IsEquation known.state) known.defined m below [] before (outer ∷ tail) declared_before tt (all-equations v saved.program accepted own before outer tail occurs [] before refl)
            (none-missing known.defined (facts.declared_equations known.models m) (second-fails (is_model (declared_kind known.state m)) (list_any (λ equation. not (known.defined equation)) (facts.declared_equations known.models m)) is_there (clean NotDefined))))

        further : (q : ℕ) → q < length saved.program.names → q < length joint.program.names
        further q low = omega (arith, low, few)

        following : (q : ℕ) → known.defined q ≡ true → defined_in others q ≡ false
        following q is =
            let low = (and_parts (nat_lt q (length saved.program.names)) (is_defined (sound before) q) is).0 in
            let there = sym (defined-sound before q) ∙ second-of (nat_lt q (length saved.program.names)) (is_defined (sound before) q) is in
            not-following v joint.program both firsts others statements q (test-of q (length joint.program.names) (further q (below-of q (length saved.program.names) low))) (defined_same q ∙ ap (λ (ss : List (Stmt F)). defined_in ss q) occurs ∙ list_any-append (λ (s : Stmt F). defines q s.act) before (outer ∷ tail) ∙ or_left (defined_in before q) (defined_in (outer ∷ tail) q) there)

    -- ---- statements

    abbrev Alike : List ℕ → Type 0
    Alike = DefineAlike prefix joint.program.statements.items

    abbrev uses_of : Act F → UsesOfAct F
    uses_of = fold-Act F (UsesOfAct F) (UsesOfStatement F) act_uses_step statement_uses_step

    abbrev solved_in : Act F → List ℕ
    solved_in = fold-Act F (List ℕ) (List ℕ) solved_step (λ statement. statement.act)

    abbrev QAct : Act F → Type 0
    QAct act = (at : Place) (around : List ℕ) → AreClean known (uses_of act known.state at around) → Alike (solved_in act)

    abbrev Q : Stmt F → Type 0
    Q s = (around : List ℕ) → AreClean known (statement_uses s known.state around) → Alike (models_solved s)

    alike-both : (ms ns : List ℕ) → Alike ms → Alike ns → Alike (ms ++ ns)
    alike-both [] ns all more = more
    alike-both (m ∷ ms) ns all more = (all.0, alike-both ms ns all.1 more)

    body-alike : (around : List ℕ) (body : List ((s : Stmt F) × Q s)) → AreClean known (flat_map (λ (statement : UsesOfStatement F). statement known.state around) (map statement_uses (map (λ e. e.0) body))) → Alike (flat_map (λ (models : List ℕ). models) (map models_solved (map (λ e. e.0) body)))
    body-alike around [] clean = tt
    body-alike around (e ∷ body) clean =
        let rest = flat_map (λ (statement : UsesOfStatement F). statement known.state around) (map statement_uses (map (λ e. e.0) body)) in
        alike-both (models_solved e.0) (flat_map (λ (models : List ℕ). models) (map models_solved (map (λ e. e.0) body))) (e.1 around (clean-left known (statement_uses e.0 known.state around) rest clean)) (body-alike around body (clean-right known (statement_uses e.0 known.state around) rest clean))

    module _ (x : Act-F F (Act F) (Stmt F)) where
      solved-is : solved_in (roll-Act F x) ≡ solved_step (map-Act F (Act F) (Stmt F) (List ℕ) (List ℕ) solved_in models_solved x)
      solved-is = fold-roll-Act F (List ℕ) (List ℕ) solved_step (λ statement. statement.act) x

      uses-is : uses_of (roll-Act F x) ≡ act_uses_step (map-Act F (Act F) (Stmt F) (UsesOfAct F) (UsesOfStatement F) uses_of statement_uses x)
      uses-is = fold-roll-Act F (UsesOfAct F) (UsesOfStatement F) act_uses_step statement_uses_step x

      rolled : (f : UsesOfAct F) (ms : List ℕ) → uses_of (roll-Act F x) ≡ f → solved_in (roll-Act F x) ≡ ms → ((at : Place) (around : List ℕ) → AreClean known (f known.state at around) → Alike ms) → QAct (roll-Act F x)
      rolled f ms used solved each at around clean =
          subst Alike (sym solved) (each at around (subst (λ (g : UsesOfAct F). AreClean known (g known.state at around)) used clean))

    by_layer : (y : Act-F F ((a : Act F) × QAct a) ((s : Stmt F) × Q s)) → QAct (roll-Act F (map-Act F ((a : Act F) × QAct a) ((s : Stmt F) × Q s) (Act F) (Stmt F) (λ e. e.0) (λ e. e.0) y))
    by_layer (Act-F.Declare kind items) = let x = Act-F.Declare kind items in rolled x _ _ (uses-is x) (solved-is x) (λ at around clean. tt)
    by_layer (Act-F.Alias one two) = let x = Act-F.Alias one two in rolled x _ _ (uses-is x) (solved-is x) (λ at around clean. tt)
    by_layer (Act-F.Model models) = let x = Act-F.Model models in rolled x _ _ (uses-is x) (solved-is x) (λ at around clean. tt)
    by_layer (Act-F.Define equation indices condition left_at left side right_at right) =
        let x = Act-F.Define equation indices condition left_at left side right_at right in
        rolled x _ _ (uses-is x) (solved-is x) (λ at around clean. tt)
    by_layer (Act-F.Display items) = let x = Act-F.Display items in rolled x _ _ (uses-is x) (solved-is x) (λ at around clean. tt)
    by_layer (Act-F.Options settings) = let x = Act-F.Options settings in rolled x _ _ (uses-is x) (solved-is x) (λ at around clean. tt)
    by_layer (Act-F.Abort condition items) = let x = Act-F.Abort condition items in rolled x _ _ (uses-is x) (solved-is x) (λ at around clean. tt)
    by_layer (Act-F.Assign target condition right_at right) =
        let x = Act-F.Assign target condition right_at right in
        rolled x _ _ (uses-is x) (solved-is x) (λ at around clean. tt)
    by_layer (Act-F.Solve model word objective maximize) =
        let x = Act-F.Solve model word objective maximize in
        rolled x _ _ (uses-is x) (solved-is x) (λ at around clean. (model-alike model.name clean.0, tt))
    by_layer (Act-F.Loop control body) =
        let x = map-Act F ((a : Act F) × QAct a) ((s : Stmt F) × Q s) (Act F) (Stmt F) (λ e. e.0) (λ e. e.0) (Act-F.Loop control body) in
        let c = control_tree control in
        rolled x _ _ (uses-is x) (solved-is x) (λ at around clean. body-alike (around ++ sets_of_control c) body.items (clean-right known (control_uses at around c) (flat_map (λ (statement : UsesOfStatement F). statement known.state (around ++ sets_of_control c)) (map statement_uses (map (λ e. e.0) body.items))) clean))

    by_statement : (y : Stmt-F F ((a : Act F) × QAct a) ((s : Stmt F) × Q s)) → Q (roll-Stmt F (map-Stmt F ((a : Act F) × QAct a) ((s : Stmt F) × Q s) (Act F) (Stmt F) (λ e. e.0) (λ e. e.0) y))
    by_statement y around clean =
        let z = map-Stmt F ((a : Act F) × QAct a) ((s : Stmt F) × Q s) (Act F) (Stmt F) (λ e. e.0) (λ e. e.0) y in
        subst Alike (sym (fold-roll-Stmt F (List ℕ) (List ℕ) solved_step (λ statement. statement.act) z))
        (y.act.1 y.at around (subst (λ (f : UsesOfStatement F). AreClean known (f known.state around)) (fold-roll-Stmt F (UsesOfAct F) (UsesOfStatement F) act_uses_step statement_uses_step z) clean))

    statement-alike : (s : Stmt F) → Q s
    statement-alike =
        ind-Stmt F QAct Q
        (λ x y is. subst (λ z. QAct (roll-Act F z)) is (by_layer y))
        (λ x y is. subst (λ z. Q (roll-Stmt F z)) is (by_statement y))

    outer-alike : Alike (models_solved outer)
    outer-alike =
        statement-alike outer [] (statement-clean known outer (after-sound v saved.program accepted.0 before [] outer tail (sym (ap (errors_after v saved.program accepted.0 []) occurs) ∙ accepted.1)))

  alike-from : (before rest : List (Stmt F)) → prefix ≡ before ++ rest → DefineAlike prefix joint.program.statements.items (flat_map models_solved rest)
  alike-from before [] is = tt
  alike-from before (outer ∷ tail) is =
      alike-both before outer tail is (models_solved outer) (flat_map models_solved tail) (outer-alike before outer tail is) (alike-from (before ++ outer ∷ []) tail (is ∙ sym (append_assoc before (outer ∷ []) tail)))

  -- The saved program's models mean the same in the joint one.
  pub solves-alike : joint.solvers ≡ saved.solvers → SolveAlike saved joint prefix
  solves-alike solvers = record { solvers = solvers; models = alike-from [] prefix refl }
