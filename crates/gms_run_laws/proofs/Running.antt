-- Statements that name only what a state declares do the same in each state that has all of it.
use Rattle.std.proofs.Common.{◌≡◌, ℕ, ◌+◌, Bool, true, false, List, [], ◌∷◌, ◌++◌, length, map, suc, Option, Some, None, option_map, Ok, Err, refl, sym, ap, ◌∙◌, subst, arith}
use Rattle.std.specs.Prelude.{flat_map, if◌then◌else◌}
use Rattle.gq_number.specs.Number.{Number}
use Rattle.gms_labels.specs.declared.place.Place.{Place}
use Rattle.gms_ast.specs.declared.expression.Expr.{Expr}
use Rattle.gms_ast.specs.declared.program.Act.{Act, roll-Act, map-Act}
use Rattle.gms_ast.specs.declared.program.Act.TheFolds.{fold-Act, fold-roll-Act, fold-roll-Stmt, ind-Stmt}
use Rattle.gms_ast.specs.declared.program.Act.TheOpen.{Act-F, Stmt-F}
use Rattle.gms_ast.specs.declared.program.Right.TheVariants.{Value}
use Rattle.gms_ast.specs.declared.program.Setting.{Setting}
use Rattle.gms_ast.specs.declared.program.Show.{Show}
use Rattle.gms_ast.specs.declared.program.Stmt.{Stmt, roll-Stmt, map-Stmt}
use Rattle.gms_ast.specs.declared.program.Target.{Target}
use Rattle.gms_ast.specs.declared.word.Word.{Word}
use Rattle.gms_ast.specs.Trees as tree
use Rattle.gms_ast.specs.TreeView.{tree_of, control_tree}
use Rattle.gms_store.specs.declared.settings.Settings.{Settings}
use Rattle.gms_store.specs.State.{State, with_settings}
use Rattle.gms_eval.specs.Bindings.{Pairs, controlled}
use Rattle.gms_eval.specs.Faults.{Answer as Evaluated, nothing, faulted, ◌and_then◌}
use Rattle.gms_eval.specs.Holds.{holds}
use Rattle.gms_eval.specs.Value.{domain, sets_of}
use Rattle.gms_eval.specs.declared.stop.StopKind.TheVariants.{NoSolver, Aborted}
use Rattle.gms_event.specs.Events.{Shown, aborts}
use Rattle.lp_core.specs.declared.answer.Answer.{Answer}
use Rattle.lp_core.specs.declared.program.Lp.{Lp}
use Rattle.gms_rows.specs.ModelPoints.{definitions_of_model}
use Rattle.gms_rows.specs.ProgramLp.{program_lp}
use Rattle.gms_rows.specs.Rows.{equations_of}
use Rattle.gms_exec.specs.Assignment.{given_by, target_of}
use Rattle.gms_exec.specs.Given.{AllGiven, after_given}
use Rattle.gms_exec.specs.Options.{after_options}
use Rattle.gms_exec.specs.Run.{Course, Halt, stopped, waiting, stopped_by, with_event, World, OfAct, OfStatement, in_state, while_it_runs, with_evaluated, in_sequence, for_each, display, abort, abort_where, over_elements, answered, solve, act_step, statement_step, of_statement, run_from, labels_in}
use Rattle.gms_exec.specs.Showing.{all_shown}
use Rattle.gms_run_laws.specs.Agreeing.{declares, IsClosed, HasAll, DefineAlike, SolveAlike, NameDeclared, EndsAlike}
use Rattle.gms_run_laws.specs.Names.{Each, names_in_tree, index_names, condition_names, definition_names, control_names, names_step, statement_names, solved_step, models_solved}
use Rattle.gms_run_laws.proofs.Assigning.{given-same}
use Rattle.gms_run_laws.proofs.Changing.{Over, over-agree, over-given, over-end, over-settings, over-first, over-is}
use Rattle.gms_run_laws.proofs.Eaches.{each-left, each-right}
use Rattle.gms_run_laws.proofs.FormKeys.{OkHas, of_name}
use Rattle.gms_run_laws.proofs.ModelRows.{program-over, program-same}
use Rattle.gms_run_laws.proofs.RowElements.{IsOver}
use Rattle.gms_run_laws.proofs.Values.{domain-same}

module _ (first base : State) (following : List (Answer Number)) (count : ℕ) where
  -- ---- runs that are alike so far

  -- Two runs are alike so far: the state of the second has all of that of the first; it has the
  -- remaining answers of the first, followed by others; and the first has had `count` answers in
  -- all.
  pub record Alike (a b : Course) : Type 0 where
    pub over : Over first base a.state b.state
    pub left : b.left ≡ a.left ++ following
    pub taken : b.taken ≡ a.taken
    pub total : a.taken + length a.left ≡ count

  -- they have, where nothing has halted either
  abbrev pub Comes : Course → Course → Type 0
  Comes a b = a.halted ≡ None → b.halted ≡ None → Alike a b

  -- two statements, or two acts, take runs that are alike to such runs
  abbrev pub Do : OfStatement → OfStatement → Type 0
  Do s t = (binding : Pairs) (a b : Course) → a.halted ≡ None → b.halted ≡ None → Alike a b → Comes (s binding a) (t binding b)

  abbrev pub DoAct : OfAct → OfAct → Type 0
  DoAct f g = (at : Place) (binding : Pairs) (a b : Course) → a.halted ≡ None → b.halted ≡ None → Alike a b → Comes (f at binding a) (g at binding b)

  -- each of some statements and the one at its place in others
  abbrev pub EachDo : List OfStatement → List OfStatement → Type 0
  EachDo [] [] = Unit {0}
  EachDo (s ∷ ss) (t ∷ ts) = Do s t × EachDo ss ts
  EachDo ss ts = ⊥

  -- what has halted and has not
  halted-not : {X : Type 0} (h : Halt) (o : Option Halt) → o ≡ Some h → o ≡ None → X
  halted-not h o is none = absurd (let e : Some h ≡ None = sym is ∙ none in let z : ⊥ = cc in z)

  go-on : (next after : Course → Course) (a b : Course) → (a.halted ≡ None → b.halted ≡ None → Alike a b → Comes (next a) (after b)) → Comes a b → Comes (while_it_runs next a) (while_it_runs after b)
  go-on next after a b do_so comes = by a.halted refl b.halted refl
    where
      by : (h : Option Halt) → a.halted ≡ h → (k : Option Halt) → b.halted ≡ k → Comes (elim h as (λ _. Course) [ None ↦ next a | Some halt ↦ a ]) (elim k as (λ _. Course) [ None ↦ after b | Some halt ↦ b ])
      by None e None f = do_so e f (comes e f)
      by None e (Some halt) f = λ one other. halted-not halt b.halted f other
      by (Some halt) e k f = λ one other. halted-not halt a.halted e one

  pub all-do : (ss ts : List OfStatement) → EachDo ss ts → (binding : Pairs) (a b : Course) → Comes a b → Comes (in_sequence ss binding a) (in_sequence ts binding b)
  all-do [] [] each binding a b comes = comes
  all-do [] (t ∷ ts) each binding a b comes = absurd each
  all-do (s ∷ ss) [] each binding a b comes = absurd each
  all-do (s ∷ ss) (t ∷ ts) each binding a b comes =
      all-do ss ts each.1 binding (while_it_runs (s binding) a) (while_it_runs (t binding) b) (go-on (s binding) (t binding) a b (each.0 binding a b) comes)

  each-do : (sets : List ℕ) (ss ts : List OfStatement) → EachDo ss ts → (elements : List (List ℕ)) (binding : Pairs) (a b : Course) → Comes a b → Comes (for_each sets ss elements binding a) (for_each sets ts elements binding b)
  each-do sets ss ts each [] binding a b comes = comes
  each-do sets ss ts each (element ∷ elements) binding a b comes =
      each-do sets ss ts each elements binding (in_sequence ss (controlled binding sets element) a) (in_sequence ts (controlled binding sets element) b) (all-do ss ts each (controlled binding sets element) a b comes)

  -- a step with the same value in both runs, or a stop by the same fault
  taken-both : {A : Type 0} (r : Evaluated A) (next after : A → Course) (a b : Course) → ((x : A) → r ≡ Ok x → Comes (next x) (after x)) → Comes (with_evaluated r next a) (with_evaluated r after b)
  taken-both (Ok x) next after a b each = each x refl
  taken-both (Err fault) next after a b each = λ one other. halted-not (stopped fault) (Some (stopped fault)) refl one

  -- a step with any two values
  taken-either : {A B : Type 0} (r : Evaluated A) (q : Evaluated B) (next : A → Course) (after : B → Course) (a b : Course) → ((x : A) (y : B) → Comes (next x) (after y)) → Comes (with_evaluated r next a) (with_evaluated q after b)
  taken-either (Ok x) (Ok y) next after a b each = each x y
  taken-either (Ok x) (Err fault) next after a b each = λ one other. halted-not (stopped fault) (Some (stopped fault)) refl other
  taken-either (Err fault) q next after a b each = λ one other. halted-not (stopped fault) (Some (stopped fault)) refl one

  module _ (closed : IsClosed first) {F : Type 0} (v : F → Number) (limit : ℕ) (world other : World F) where
    abbrev test : ℕ → Bool
    test = declares first

    -- the definitions of models are the same in both
    abbrev Defined : List ℕ → Type 0
    Defined = DefineAlike world.program.statements.items other.program.statements.items

    defined-left : (ms ns : List ℕ) → Defined (ms ++ ns) → Defined ms
    defined-left [] ns all = tt
    defined-left (m ∷ ms) ns all = (all.0, defined-left ms ns all.1)

    defined-right : (ms ns : List ℕ) → Defined (ms ++ ns) → Defined ns
    defined-right [] ns all = all
    defined-right (m ∷ ms) ns all = defined-right ms ns all.1

    -- ---- acts

    do-assign : (target : Target F) (condition : Option (Expr F)) (right_at : Place) (right : Expr F) → Each test (target.name ∷ (index_names (target_of target).indices ++ (condition_names (option_map tree_of condition) ++ names_in_tree (tree_of right)))) → (at : Place) (binding : Pairs) (a b : Course) → Alike a b →
        Comes (with_evaluated (given_by v limit a.state at binding (target_of target) (option_map tree_of condition) right_at (tree_of right) and_then λ given. Ok (after_given target.suffix target.name given a.state)) (in_state a) a)
        (with_evaluated (given_by v limit b.state at binding (target_of target) (option_map tree_of condition) right_at (tree_of right) and_then λ given. Ok (after_given target.suffix target.name given b.state)) (in_state b) b)
    do-assign target condition right_at right all at binding a b alike =
        let rest = each-right test (index_names (target_of target).indices) (condition_names (option_map tree_of condition) ++ names_in_tree (tree_of right)) all.1 in
        let same = given-same test a.state b.state (over-agree first base closed a.state b.state alike.over) v limit (target_of target) right_at (tree_of right) all.0 (each-left test (index_names (target_of target).indices) (condition_names (option_map tree_of condition) ++ names_in_tree (tree_of right)) all.1) (each-right test (condition_names (option_map tree_of condition)) (names_in_tree (tree_of right)) rest) at binding (option_map tree_of condition) (each-left test (condition_names (option_map tree_of condition)) (names_in_tree (tree_of right)) rest) in
        subst (λ (r : Evaluated AllGiven). Comes (with_evaluated (given_by v limit a.state at binding (target_of target) (option_map tree_of condition) right_at (tree_of right) and_then λ given. Ok (after_given target.suffix target.name given a.state)) (in_state a) a) (with_evaluated (r and_then λ given. Ok (after_given target.suffix target.name given b.state)) (in_state b) b)) (sym same)
        (by (given_by v limit a.state at binding (target_of target) (option_map tree_of condition) right_at (tree_of right)))
      where
        by : (r : Evaluated AllGiven) → Comes (with_evaluated (r and_then λ given. Ok (after_given target.suffix target.name given a.state)) (in_state a) a) (with_evaluated (r and_then λ given. Ok (after_given target.suffix target.name given b.state)) (in_state b) b)
        by (Ok given) = λ one two. record {
          over = over-given first base closed a.state b.state target.suffix target.name given all.0 alike.over;
          left = alike.left;
          taken = alike.taken;
          total = alike.total;
        }
        by (Err fault) = λ one two. halted-not (stopped fault) (Some (stopped fault)) refl one

    do-display : (labels others : ℕ) (items : List Show) → DoAct (display v limit labels items) (display v limit others items)
    do-display labels others items at binding a b one two alike =
        taken-either (all_shown labels a.state binding items) (all_shown others b.state binding items) _ _ a b (λ x y. λ one two. record { over = alike.over; left = alike.left; taken = alike.taken; total = alike.total })

    -- an abort that acts stops the run
    abort-stops : {X : Type 0} (labels : ℕ) (items : List Show) (at : Place) (binding : Pairs) (c : Course) → (abort v limit labels items at binding c).halted ≡ None → X
    abort-stops labels items at binding c none = by (all_shown labels c.state binding items) none
      where
        by : {X : Type 0} (r : Evaluated (List Shown)) → (with_evaluated r (λ shown. stopped_by (with_event c (aborts at.line shown)) (faulted Aborted at binding nothing nothing)) c).halted ≡ None → X
        by (Ok shown) none = halted-not (stopped (faulted Aborted at binding nothing nothing)) (Some (stopped (faulted Aborted at binding nothing nothing))) refl none
        by (Err fault) none = halted-not (stopped fault) (Some (stopped fault)) refl none

    -- one that does not stop it does nothing
    abort-still : (labels : ℕ) (condition : Option (tree.Tree F)) (items : List Show) (at : Place) (binding : Pairs) (c : Course) → (abort_where v limit labels condition items at binding c).halted ≡ None → abort_where v limit labels condition items at binding c ≡ c
    abort-still labels None items at binding c none = abort-stops labels items at binding c none
    abort-still labels (Some condition) items at binding c none = by (holds v limit c.state binding condition) none
      where
        by : (r : Evaluated Bool) → (with_evaluated r (λ so. if so then abort v limit labels items at binding c else c) c).halted ≡ None → with_evaluated r (λ so. if so then abort v limit labels items at binding c else c) c ≡ c
        by (Ok true) none = abort-stops labels items at binding c none
        by (Ok false) none = refl
        by (Err fault) none = halted-not (stopped fault) (Some (stopped fault)) refl none

    do-abort : (labels others : ℕ) (condition : Option (tree.Tree F)) (items : List Show) → DoAct (abort_where v limit labels condition items) (abort_where v limit others condition items)
    do-abort labels others condition items at binding a b one two alike none never =
        subst (λ (c : Course). Alike c (abort_where v limit others condition items at binding b)) (sym (abort-still labels condition items at binding a none))
        (subst (Alike a) (sym (abort-still others condition items at binding b never)) alike)

    do-options : (settings : List (Word × Setting F)) → other.solvers ≡ world.solvers → DoAct (λ at binding c. in_state c (with_settings c.state (after_options v world.solvers c.state.settings settings))) (λ at binding c. in_state c (with_settings c.state (after_options v other.solvers c.state.settings settings)))
    do-options settings solvers at binding a b one two alike none never =
        let same : after_options v other.solvers b.state.settings settings ≡ after_options v world.solvers a.state.settings settings = ap (λ (ss : List (List ℕ)). after_options v ss b.state.settings settings) solvers ∙ ap (λ (s : Settings). after_options v world.solvers s settings) alike.over.settings in
        record {
          over = subst (λ (s : Settings). Over first base (with_settings a.state (after_options v world.solvers a.state.settings settings)) (with_settings b.state s)) (sym same) (over-settings first base closed a.state b.state (after_options v world.solvers a.state.settings settings) alike.over);
          left = alike.left;
          taken = alike.taken;
          total = alike.total;
        }

    do-loop : (control : tree.Control F) (ss ts : List OfStatement) → Each test (control_names control) → EachDo ss ts → DoAct (over_elements v limit control ss) (over_elements v limit control ts)
    do-loop control ss ts all each at binding a b one two alike =
        let same = domain-same test a.state b.state (over-agree first base closed a.state b.state alike.over) v limit control all binding at in
        subst (λ (r : Evaluated (List (List ℕ))). Comes (over_elements v limit control ss at binding a) (with_evaluated r (λ elements. for_each (sets_of control) ts elements binding b) b)) (sym same)
        (taken-both (domain v limit a.state binding at control) (λ elements. for_each (sets_of control) ss elements binding a) (λ elements. for_each (sets_of control) ts elements binding b) a b
        (λ elements is. each-do (sets_of control) ss ts each elements binding a b (λ one two. alike)))

    one_more : (taken : ℕ) (left : List (Answer Number)) → taken + suc (length left) ≡ count → (taken + 1) + length left ≡ count
    one_more taken left total = omega (arith, total)

    do-answered : (solvers : List (List ℕ)) (model objective : ℕ) (equations others : List ℕ) (at : Place) (lp : Lp Number) → test model ≡ true → IsOver (of_name test) lp → (a b : Course) → Alike a b → (left : List (Answer Number)) → a.taken + length left ≡ count →
        Comes (answered v limit solvers model equations objective at (record a { left = left }) lp) (answered v limit solvers model others objective at (record b { left = left ++ following }) lp)
    do-answered solvers model objective equations others at lp is keys a b alike [] total = λ one two. halted-not waiting (Some waiting) refl one
    do-answered solvers model objective equations others at lp is keys a b alike (answer ∷ left) total = λ one two. record {
      over = over-end first base closed a.state b.state model lp answer.end is keys alike.over;
      left = refl;
      taken = ap (λ (n : ℕ). n + 1) alike.taken;
      total = one_more a.taken left total;
    }

    do-solve : (solvers : List (List ℕ)) (model objective : ℕ) (maximize : Bool) → definitions_of_model other.program.statements.items model ≡ definitions_of_model world.program.statements.items model → Each test (model ∷ (objective ∷ flat_map definition_names (definitions_of_model world.program.statements.items model))) →
        DoAct (solve v limit solvers world.program.statements.items model objective maximize) (solve v limit solvers other.program.statements.items model objective maximize)
    do-solve [] model objective maximize same all at binding a b one two alike = λ none never. halted-not (stopped (faulted NoSolver at binding nothing nothing)) (Some (stopped (faulted NoSolver at binding nothing nothing))) refl none
    do-solve (solver ∷ solvers) model objective maximize same all at binding a b one two alike =
        let statements = world.program.statements.items in
        let others = other.program.statements.items in
        let lp = program_lp v limit a.state statements model objective maximize at in
        subst (λ (r : Evaluated (Lp Number)). Comes (with_evaluated lp (answered v limit (solver ∷ solvers) model (equations_of statements model) objective at a) a) (with_evaluated r (answered v limit (solver ∷ solvers) model (equations_of others model) objective at b) b))
        (sym (program-same test v limit a.state b.state (over-agree first base closed a.state b.state alike.over) statements others model objective maximize at same all.1.1 all.1.0))
        (by lp (program-over test v limit a.state statements model objective maximize at all.1.1 all.1.0))
      where
        by : (r : Evaluated (Lp Number)) → OkHas (IsOver (of_name test)) r → Comes (with_evaluated r (answered v limit (solver ∷ solvers) model (equations_of world.program.statements.items model) objective at a) a) (with_evaluated r (answered v limit (solver ∷ solvers) model (equations_of other.program.statements.items model) objective at b) b)
        by (Ok lp) keys =
            subst (λ (left : List (Answer Number)). Comes (answered v limit (solver ∷ solvers) model (equations_of world.program.statements.items model) objective at a lp) (answered v limit (solver ∷ solvers) model (equations_of other.program.statements.items model) objective at (record b { left = left }) lp)) (sym alike.left)
            (do-answered (solver ∷ solvers) model objective (equations_of world.program.statements.items model) (equations_of other.program.statements.items model) at lp all.0 keys a b alike a.left alike.total)
        by (Err fault) keys = λ none never. halted-not (stopped fault) (Some (stopped fault)) refl none

    do-nothing : DoAct (λ at binding c. c) (λ at binding c. c)
    do-nothing at binding a b one two alike = λ none never. alike

    -- ---- statements

    module _ (solvers : other.solvers ≡ world.solvers) where
      abbrev of_act : World F → Act F → OfAct
      of_act w = fold-Act F OfAct OfStatement (act_step v limit w) (statement_step v limit)

      abbrev names_in : Act F → List ℕ
      names_in = fold-Act F (List ℕ) (List ℕ) (names_step world) (λ statement. statement.act)

      abbrev solved_in : Act F → List ℕ
      solved_in = fold-Act F (List ℕ) (List ℕ) solved_step (λ statement. statement.act)

      abbrev QAct : Act F → Type 0
      QAct act = Each test (names_in act) → Defined (solved_in act) → DoAct (of_act world act) (of_act other act)

      abbrev Q : Stmt F → Type 0
      Q s = Each test (statement_names world s) → Defined (models_solved s) → Do (of_statement v limit world s) (of_statement v limit other s)

      body_do : (body : List ((s : Stmt F) × Q s)) → Each test (flat_map (λ (names : List ℕ). names) (map (statement_names world) (map (λ e. e.0) body))) → Defined (flat_map (λ (models : List ℕ). models) (map models_solved (map (λ e. e.0) body))) →
          EachDo (map (of_statement v limit world) (map (λ e. e.0) body)) (map (of_statement v limit other) (map (λ e. e.0) body))
      body_do [] all defined = tt
      body_do (e ∷ body) all defined =
          let rest = flat_map (λ (names : List ℕ). names) (map (statement_names world) (map (λ e. e.0) body)) in
          let models = flat_map (λ (models : List ℕ). models) (map models_solved (map (λ e. e.0) body)) in
          (e.1 (each-left test (statement_names world e.0) rest all) (defined-left (models_solved e.0) models defined), body_do body (each-right test (statement_names world e.0) rest all) (defined-right (models_solved e.0) models defined))

      module _ (x : Act-F F (Act F) (Stmt F)) where
        names-is : names_in (roll-Act F x) ≡ names_step world (map-Act F (Act F) (Stmt F) (List ℕ) (List ℕ) names_in (statement_names world) x)
        names-is = fold-roll-Act F (List ℕ) (List ℕ) (names_step world) (λ statement. statement.act) x

        solved-is : solved_in (roll-Act F x) ≡ solved_step (map-Act F (Act F) (Stmt F) (List ℕ) (List ℕ) solved_in models_solved x)
        solved-is = fold-roll-Act F (List ℕ) (List ℕ) solved_step (λ statement. statement.act) x

        does-is : (w : World F) → of_act w (roll-Act F x) ≡ act_step v limit w (map-Act F (Act F) (Stmt F) OfAct OfStatement (of_act w) (of_statement v limit w) x)
        does-is w = fold-roll-Act F OfAct OfStatement (act_step v limit w) (statement_step v limit) x

        -- the claim for an act, from that for its unrolled form
        rolled : (f g : OfAct) (ns ms : List ℕ) → of_act world (roll-Act F x) ≡ f → of_act other (roll-Act F x) ≡ g → names_in (roll-Act F x) ≡ ns → solved_in (roll-Act F x) ≡ ms → (Each test ns → Defined ms → DoAct f g) → QAct (roll-Act F x)
        rolled f g ns ms one two named solved do_so all defined =
            subst (λ (h : OfAct). DoAct h (of_act other (roll-Act F x))) (sym one) (subst (DoAct f) (sym two) (do_so (subst (Each test) named all) (subst Defined solved defined)))

      -- an act does, if the statements of its loop do
      by_layer : (y : Act-F F ((a : Act F) × QAct a) ((s : Stmt F) × Q s)) → QAct (roll-Act F (map-Act F ((a : Act F) × QAct a) ((s : Stmt F) × Q s) (Act F) (Stmt F) (λ e. e.0) (λ e. e.0) y))
      by_layer (Act-F.Declare kind items) =
          let x = Act-F.Declare kind items in
          rolled x _ _ _ _ (does-is x world) (does-is x other) (names-is x) (solved-is x) (λ all defined. do-nothing)
      by_layer (Act-F.Alias one two) =
          let x = Act-F.Alias one two in
          rolled x _ _ _ _ (does-is x world) (does-is x other) (names-is x) (solved-is x) (λ all defined. do-nothing)
      by_layer (Act-F.Model models) =
          let x = Act-F.Model models in
          rolled x _ _ _ _ (does-is x world) (does-is x other) (names-is x) (solved-is x) (λ all defined. do-nothing)
      by_layer (Act-F.Define equation indices condition left_at left side right_at right) =
          let x = Act-F.Define equation indices condition left_at left side right_at right in
          rolled x _ _ _ _ (does-is x world) (does-is x other) (names-is x) (solved-is x) (λ all defined. do-nothing)
      by_layer (Act-F.Assign target condition right_at (Value right)) =
          let x = Act-F.Assign target condition right_at (Value right) in
          rolled x _ _ _ _ (does-is x world) (does-is x other) (names-is x) (solved-is x) (λ all defined at binding a b one two alike. do-assign target condition right_at right all at binding a b alike)
      by_layer (Act-F.Display items) =
          let x = Act-F.Display items in
          rolled x _ _ _ _ (does-is x world) (does-is x other) (names-is x) (solved-is x) (λ all defined. do-display (labels_in world) (labels_in other) items)
      by_layer (Act-F.Options settings) =
          let x = Act-F.Options settings in
          rolled x _ _ _ _ (does-is x world) (does-is x other) (names-is x) (solved-is x) (λ all defined. do-options settings solvers)
      by_layer (Act-F.Abort condition items) =
          let x = Act-F.Abort condition items in
          rolled x _ _ _ _ (does-is x world) (does-is x other) (names-is x) (solved-is x) (λ all defined. do-abort (labels_in world) (labels_in other) (option_map tree_of condition) items)
      by_layer (Act-F.Solve model word objective maximize) =
          let x = Act-F.Solve model word objective maximize in
          rolled x _ _ _ _ (does-is x world) (does-is x other) (names-is x) (solved-is x)
          (λ all defined. subst (λ (ss : List (List ℕ)). DoAct (solve v limit world.solvers world.program.statements.items model.name objective.name maximize) (solve v limit ss other.program.statements.items model.name objective.name maximize)) (sym solvers) (do-solve world.solvers model.name objective.name maximize defined.0 all))
      by_layer (Act-F.Loop control body) =
          let x = map-Act F ((a : Act F) × QAct a) ((s : Stmt F) × Q s) (Act F) (Stmt F) (λ e. e.0) (λ e. e.0) (Act-F.Loop control body) in
          let inner = flat_map (λ (names : List ℕ). names) (map (statement_names world) (map (λ e. e.0) body.items)) in
          rolled x _ _ _ _ (does-is x world) (does-is x other) (names-is x) (solved-is x)
          (λ all defined. do-loop (control_tree control) _ _ (each-left test (control_names (control_tree control)) inner all) (body_do body.items (each-right test (control_names (control_tree control)) inner all) defined))

      -- a statement whose act does
      by_statement : (y : Stmt-F F ((a : Act F) × QAct a) ((s : Stmt F) × Q s)) → Q (roll-Stmt F (map-Stmt F ((a : Act F) × QAct a) ((s : Stmt F) × Q s) (Act F) (Stmt F) (λ e. e.0) (λ e. e.0) y))
      by_statement y all defined =
          let z = map-Stmt F ((a : Act F) × QAct a) ((s : Stmt F) × Q s) (Act F) (Stmt F) (λ e. e.0) (λ e. e.0) y in
          let named = fold-roll-Stmt F (List ℕ) (List ℕ) (names_step world) (λ statement. statement.act) z in
          let solved = fold-roll-Stmt F (List ℕ) (List ℕ) solved_step (λ statement. statement.act) z in
          let does : (w : World F) → of_statement v limit w (roll-Stmt F z) ≡ statement_step v limit (map-Stmt F (Act F) (Stmt F) OfAct OfStatement (of_act w) (of_statement v limit w) z) = λ w. fold-roll-Stmt F OfAct OfStatement (act_step v limit w) (statement_step v limit) z in
          subst (λ (s : OfStatement). Do s (of_statement v limit other (roll-Stmt F z))) (sym (does world))
          (subst (Do (statement_step v limit (map-Stmt F (Act F) (Stmt F) OfAct OfStatement (of_act world) (of_statement v limit world) z))) (sym (does other))
          (λ binding a b one two alike. y.act.1 (subst (Each test) named all) (subst Defined solved defined) y.at binding a b one two alike))

      -- Each statement takes runs that are alike to such runs.
      pub do-statement : (s : Stmt F) → Q s
      do-statement =
          ind-Stmt F QAct Q
          (λ x y is. subst (λ z. QAct (roll-Act F z)) is (by_layer y))
          (λ x y is. subst (λ z. Q (roll-Stmt F z)) is (by_statement y))

      do-each : (statements : List (Stmt F)) → Each test (flat_map (statement_names world) statements) → Defined (flat_map models_solved statements) → EachDo (map (of_statement v limit world) statements) (map (of_statement v limit other) statements)
      do-each [] all defined = tt
      do-each (s ∷ statements) all defined =
          (do-statement s (each-left test (statement_names world s) (flat_map (statement_names world) statements) all) (defined-left (models_solved s) (flat_map models_solved statements) defined), do-each statements (each-right test (statement_names world s) (flat_map (statement_names world) statements) all) (defined-right (models_solved s) (flat_map models_solved statements) defined))

none-taken : (n : ℕ) → 0 + n ≡ n
none-taken n = omega arith

-- Where neither run halts they end alike.
pub ends-alike : {F : Type 0} (v : F → Number) (limit : ℕ) (world other : World F) (first base : State) (answers following : List (Answer Number)) (statements : List (Stmt F)) → SolveAlike world other statements → NameDeclared world first statements → IsClosed first → HasAll base first →
    (run_from v limit world first answers statements).halted ≡ None → (run_from v limit other base (answers ++ following) statements).halted ≡ None →
    EndsAlike base following (length answers) (run_from v limit world first answers statements) (run_from v limit other base (answers ++ following) statements)
ends-alike v limit world other first base answers following statements solve_alike named closed has one two =
    let a = run_from v limit world first answers statements in
    let b = run_from v limit other base (answers ++ following) statements in
    let each = do-each first base following (length answers) closed v limit world other solve_alike.solvers statements named solve_alike.models in
    let alike = all-do first base following (length answers) (map (of_statement v limit world) statements) (map (of_statement v limit other) statements) each [] (record { state = first; events = []; left = answers; taken = 0; halted = None }) (record { state = base; events = []; left = answers ++ following; taken = 0; halted = None }) (λ none never. record { over = over-first first base has; left = refl; taken = refl; total = none-taken (length answers) }) one two in
    record { ends = over-is first base has a.state b.state alike.over; left = alike.left; taken = alike.taken; total = alike.total }
