-- Each solve that a run shows is one of a statement of the program. Its state is the one in which
-- the run with only the earlier answers waits.
use Rattle.std.proofs.Common.{◌≡◌, ℕ, zero, suc, ◌+◌, Bool, true, false, List, [], ◌∷◌, ◌++◌, length, map, Vec, Option, Some, None, option_map, Ok, Err, refl, sym, ap, ◌∙◌, subst, append_assoc, append-nil, length-append, arith}
use Rattle.std.specs.Prelude.{if◌then◌else◌, slice_index_or}
use Rattle.std.specs.declared.alloc.Global.{Global}
use Rattle.gq_number.specs.Number.{Number}
use Rattle.gms_labels.specs.declared.place.Place.{Place}
use Rattle.gms_ast.specs.declared.expression.Control.{Control}
use Rattle.gms_ast.specs.declared.expression.Expr.{Expr}
use Rattle.gms_ast.specs.declared.program.Act.{Act, roll-Act, map-Act}
use Rattle.gms_ast.specs.declared.program.Act.TheFolds.{fold-Act, fold-roll-Act, fold-roll-Stmt, ind-Stmt}
use Rattle.gms_ast.specs.declared.program.Act.TheOpen.{Act-F, Stmt-F}
use Rattle.gms_ast.specs.declared.program.Act.TheVariants.{Solve, rolls-Solve, rolls-Loop}
use Rattle.gms_ast.specs.declared.program.Right.TheVariants.{Value}
use Rattle.gms_ast.specs.declared.program.Show.{Show}
use Rattle.gms_ast.specs.declared.program.Stmt.{Stmt, roll-Stmt, map-Stmt}
use Rattle.gms_ast.specs.declared.program.Target.{Target}
use Rattle.gms_ast.specs.declared.word.Named.{Named}
use Rattle.gms_ast.specs.declared.word.Word.{Word}
use Rattle.gms_ast.specs.Trees as tree
use Rattle.gms_ast.specs.TreeView.{tree_of, control_tree}
use Rattle.gms_store.specs.State.{State, attributes_of, with_settings}
use Rattle.gms_check.specs.LeftSides.{IsIn, IsNestedIn}
use Rattle.gms_eval.specs.Bindings.{Pairs, controlled}
use Rattle.gms_eval.specs.Faults.{Answer as Evaluated, Fault, faulted, nothing}
use Rattle.gms_eval.specs.declared.stop.StopKind.TheVariants.{NoSolver, Aborted}
use Rattle.gms_eval.specs.Holds.{holds}
use Rattle.gms_eval.specs.Value.{domain, sets_of}
use Rattle.gms_event.specs.Events.{Event, Solved, displays, solves, aborts, stops}
use Rattle.gms_rows.specs.ProgramLp.{program_lp}
use Rattle.gms_rows.specs.Rows.{equations_of}
use Rattle.gms_exec.specs.Assignment.{target_of, after_assignment}
use Rattle.gms_exec.specs.Options.{after_options}
use Rattle.gms_exec.specs.Showing.{all_shown}
use Rattle.gms_exec.specs.Solved.{after_end}
use Rattle.gms_exec.specs.Run.{Course, Halt, waiting, World, OfAct, OfStatement, in_state, with_event, stopped_by, while_it_runs, with_evaluated, in_sequence, for_each, display, abort, abort_where, over_elements, answered, solve, act_step, statement_step, of_statement, labels_in}
use Rattle.gms_run_laws.specs.Reached.{IsStatementOf}
use Rattle.lp_core.specs.declared.answer.Answer.{Answer}
use Rattle.lp_core.specs.declared.program.Lp.{Lp}

-- each of a list
abbrev pub EachOf : {A : Type 0} → (A → Type 0) → List A → Type 0
EachOf P [] = Unit {0}
EachOf P (x ∷ xs) = P x × EachOf P xs

each-more : {A : Type 0} (P Q : A → Type 0) → ((x : A) → P x → Q x) → (xs : List A) → EachOf P xs → EachOf Q xs
each-more P Q more [] all = tt
each-more P Q more (x ∷ xs) all = (more x all.0, each-more P Q more xs all.1)

each-both : {A : Type 0} (P : A → Type 0) (xs ys : List A) → EachOf P xs → EachOf P ys → EachOf P (xs ++ ys)
each-both P [] ys one other = other
each-both P (x ∷ xs) ys one other = (one.0, each-both P xs ys one.1 other)

-- the run with other answers left
abbrev pub with_left : Course → List (Answer Number) → Course
with_left c left = record { state = c.state; events = c.events; left = left; taken = c.taken; halted = c.halted }

-- ---- statements deeper in loops

module _ {F : Type 0} where
  deeper : (depth : ℕ) (inner outer next : Stmt F) → IsNestedIn depth inner outer → IsIn (λ (s : Stmt F). s ≡ next) inner → IsNestedIn (suc depth) next outer
  deeper zero inner outer next same inside = subst (λ (s : Stmt F). IsIn (λ (t : Stmt F). t ≡ next) s) (sym same) inside
  deeper (suc depth) inner outer next occurs inside = record {
    control = occurs.control;
    body = occurs.body;
    loop = occurs.loop;
    before = occurs.before;
    next = occurs.next;
    rest = occurs.rest;
    occurs = occurs.occurs;
    holds = deeper depth inner occurs.next next occurs.holds inside;
  }

module _ {F : Type 0} (v : F → Number) (limit : ℕ) (world : World F) where
  -- ---- which solves are shown

  -- A solve is that of a statement of the program in a state.
  pub record Asks (solved : Solved) (state : State) : Type 0 where
    pub statement : Stmt F
    pub of_program : IsStatementOf world.program statement
    pub model : Named
    pub method : Word
    pub objective : Named
    pub maximize : Bool
    pub act : statement.act ≡ Solve model method objective maximize
    pub line : solved.line ≡ statement.at.line
    pub of_model : solved.model ≡ model.name
    pub program : program_lp v limit state world.program.statements.items model.name objective.name maximize statement.at ≡ Ok solved.lp

  -- A solve that is shown from a point of a run on: with only the earlier answers, the run waits in
  -- the state of the solve.
  pub record Waits (f : Course → Course) (c : Course) (solved : Solved) : Type 0 where
    pub before : List (Answer Number)
    pub rest : List (Answer Number)
    pub parts : c.left ≡ before ++ rest
    pub place : solved.answer ≡ c.taken + length before
    pub waits : (f (with_left c before)).halted ≡ Some waiting
    pub asks : Asks solved (f (with_left c before)).state

  abbrev pub WaitsAt : (Course → Course) → Course → Event → Type 0
  WaitsAt f c (solves solved) = Waits f c solved
  WaitsAt f c event = Unit {0}

  -- What is done from a point of a run on shows some events, each solve with its moment, and takes
  -- some answers. If it does not halt, it does the same whichever answers follow those.
  pub record Does (f : Course → Course) (c : Course) : Type 0 where
    pub shown : List Event
    pub events : (f c).events ≡ c.events ++ shown
    pub asked : EachOf (WaitsAt f c) shown
    pub used : List (Answer Number)
    pub left : c.left ≡ used ++ (f c).left
    pub taken : (f c).taken ≡ c.taken + length used
    pub frame : (f c).halted ≡ None → (l : List (Answer Number)) → f (with_left c (used ++ l)) ≡ with_left (f c) l

  -- it does the same, whichever answers remain
  does-as : (f g : Course → Course) (c : Course) → ((l : List (Answer Number)) → g (with_left c l) ≡ f (with_left c l)) → Does f c → Does g c
  does-as f g c same does =
      let here : g c ≡ f c = same c.left in
      record {
        shown = does.shown;
        events = ap (λ (d : Course). d.events) here ∙ does.events;
        asked = each-more (WaitsAt f c) (WaitsAt g c) at does.shown does.asked;
        used = does.used;
        left = does.left ∙ ap (λ (d : Course). does.used ++ d.left) (sym here);
        taken = ap (λ (d : Course). d.taken) here ∙ does.taken;
        frame = λ none l. same (does.used ++ l) ∙ does.frame (ap (λ (d : Course). d.halted) (sym here) ∙ none) l ∙ ap (λ (d : Course). with_left d l) (sym here);
      }
    where
      of : (solved : Solved) → Waits f c solved → Waits g c solved
      of solved waits = record {
        before = waits.before;
        rest = waits.rest;
        parts = waits.parts;
        place = waits.place;
        waits = ap (λ (d : Course). d.halted) (same waits.before) ∙ waits.waits;
        asks = subst (λ (d : Course). Asks solved d.state) (sym (same waits.before)) waits.asks;
      }

      at : (event : Event) → WaitsAt f c event → WaitsAt g c event
      at (solves solved) waits = of solved waits
      at (displays line items) waits = tt
      at (aborts line items) waits = tt
      at (stops fault) waits = tt

  -- no event is a solve
  abbrev AreNoSolves : List Event → Type 0
  AreNoSolves [] = Unit {0}
  AreNoSolves (solves solved ∷ events) = ⊥
  AreNoSolves (event ∷ events) = AreNoSolves events

  none-asked : (f : Course → Course) (c : Course) (events : List Event) → AreNoSolves events → EachOf (WaitsAt f c) events
  none-asked f c [] none = tt
  none-asked f c (solves solved ∷ events) none = absurd none
  none-asked f c (displays line items ∷ events) none = (tt, none-asked f c events none)
  none-asked f c (aborts line items ∷ events) none = (tt, none-asked f c events none)
  none-asked f c (stops fault ∷ events) none = (tt, none-asked f c events none)

  -- what takes no answer
  takes-none : (f : Course → Course) (c : Course) (shown : List Event) → AreNoSolves shown → (f c).events ≡ c.events ++ shown → (f c).left ≡ c.left → (f c).taken ≡ c.taken → ((l : List (Answer Number)) → f (with_left c l) ≡ with_left (f c) l) → Does f c
  takes-none f c shown none events left taken same = record {
    shown = shown;
    events = events;
    asked = none-asked f c shown none;
    used = [];
    left = sym left;
    taken = taken ∙ (let e : c.taken ≡ c.taken + 0 = omega arith in e);
    frame = λ running l. same l;
  }

  does-nothing : (c : Course) → Does (λ (d : Course). d) c
  does-nothing c = takes-none (λ (d : Course). d) c [] tt (sym (append-nil c.events)) refl refl (λ l. refl)

  does-stop : (fault : Fault) (c : Course) → Does (λ (d : Course). stopped_by d fault) c
  does-stop fault c = takes-none (λ (d : Course). stopped_by d fault) c [] tt (sym (append-nil c.events)) refl refl (λ l. refl)

  -- ---- in sequence

  -- what a halted course stays as
  abbrev Rests : (Course → Course) → Type 0
  Rests g = (d : Course) (halt : Halt) → d.halted ≡ Some halt → g d ≡ d

  module _ (f g : Course → Course) (rests : Rests g) (c : Course) (one : Does f c) (two : Does g (f c)) where
    abbrev both : Course → Course
    both d = g (f d)

    -- a solve of the first is one of both
    first-waits : (solved : Solved) → Waits f c solved → Waits both c solved
    first-waits solved waits =
        let there : both (with_left c waits.before) ≡ f (with_left c waits.before) = rests (f (with_left c waits.before)) waiting waits.waits in
        record {
          before = waits.before;
          rest = waits.rest;
          parts = waits.parts;
          place = waits.place;
          waits = ap (λ (d : Course). d.halted) there ∙ waits.waits;
          asks = subst (λ (d : Course). Asks solved d.state) (sym there) waits.asks;
        }

    first-at : (event : Event) → WaitsAt f c event → WaitsAt both c event
    first-at (solves solved) waits = first-waits solved waits
    first-at (displays line items) waits = tt
    first-at (aborts line items) waits = tt
    first-at (stops fault) waits = tt

    module _ (running : (f c).halted ≡ None) where
      -- a solve of the second is one of both
      second-waits : (solved : Solved) → Waits g (f c) solved → Waits both c solved
      second-waits solved waits =
          let there : both (with_left c (one.used ++ waits.before)) ≡ g (with_left (f c) waits.before) = ap g (one.frame running waits.before) in
          let size = length-append one.used waits.before in
          let first = one.taken in
          let second = waits.place in
          record {
            before = one.used ++ waits.before;
            rest = waits.rest;
            parts = one.left ∙ ap (λ (ls : List (Answer Number)). one.used ++ ls) waits.parts ∙ sym (append_assoc one.used waits.before waits.rest);
            place = omega (arith, size, first, second);
            waits = ap (λ (d : Course). d.halted) there ∙ waits.waits;
            asks = subst (λ (d : Course). Asks solved d.state) (sym there) waits.asks;
          }

      second-at : (event : Event) → WaitsAt g (f c) event → WaitsAt both c event
      second-at (solves solved) waits = second-waits solved waits
      second-at (displays line items) waits = tt
      second-at (aborts line items) waits = tt
      second-at (stops fault) waits = tt

      goes-on : Does both c
      goes-on =
          let size = length-append one.used two.used in
          let first = one.taken in
          let second = two.taken in
          record {
            shown = one.shown ++ two.shown;
            events = two.events ∙ ap (λ (es : List Event). es ++ two.shown) one.events ∙ append_assoc c.events one.shown two.shown;
            asked = each-both (WaitsAt both c) one.shown two.shown (each-more (WaitsAt f c) (WaitsAt both c) first-at one.shown one.asked) (each-more (WaitsAt g (f c)) (WaitsAt both c) second-at two.shown two.asked);
            used = one.used ++ two.used;
            left = one.left ∙ ap (λ (ls : List (Answer Number)). one.used ++ ls) two.left ∙ sym (append_assoc one.used two.used (both c).left);
            taken = omega (arith, size, first, second);
            frame = λ none l. ap (λ (ls : List (Answer Number)). both (with_left c ls)) (append_assoc one.used two.used l) ∙ ap g (one.frame running (two.used ++ l)) ∙ two.frame none l;
          }

    ends-there : (halt : Halt) → (f c).halted ≡ Some halt → Does both c
    ends-there halt halted =
        let there : both c ≡ f c = rests (f c) halt halted in
        record {
          shown = one.shown;
          events = ap (λ (d : Course). d.events) there ∙ one.events;
          asked = each-more (WaitsAt f c) (WaitsAt both c) first-at one.shown one.asked;
          used = one.used;
          left = one.left ∙ ap (λ (d : Course). one.used ++ d.left) (sym there);
          taken = ap (λ (d : Course). d.taken) there ∙ one.taken;
          frame = λ none l. absurd (let e : ◌≡◌ {A = Option Halt} (Some halt) None = sym halted ∙ sym (ap (λ (d : Course). d.halted) there) ∙ none in cc);
        }

    -- both, the second where the first does not halt
    does-both : Does both c
    does-both = by (f c).halted refl
      where
        by : (h : Option Halt) → (f c).halted ≡ h → Does both c
        by None e = goes-on e
        by (Some halt) e = ends-there halt e

  -- a step that is taken only where nothing halts the run
  while-rests : (next : Course → Course) → Rests (while_it_runs next)
  while-rests next d halt e = ap (λ (h : Option Halt). elim h as (λ _. Course) [ None ↦ next d | Some halt ↦ d ]) e

  while-runs : (next : Course → Course) (d : Course) → d.halted ≡ None → while_it_runs next d ≡ next d
  while-runs next d e = ap (λ (h : Option Halt). elim h as (λ _. Course) [ None ↦ next d | Some halt ↦ d ]) e

  while-does : (next : Course → Course) (c : Course) → Does next c → Does (while_it_runs next) c
  while-does next c does = by c.halted refl
    where
      by : (h : Option Halt) → c.halted ≡ h → Does (while_it_runs next) c
      by None e = does-as next (while_it_runs next) c (λ l. while-runs next (with_left c l) e) does
      by (Some halt) e = does-as (λ (d : Course). d) (while_it_runs next) c (λ l. while-rests next (with_left c l) halt e) (does-nothing c)

  -- a statement does so, under any labels of sets and from any point
  abbrev pub DoesSo : OfStatement → Type 0
  DoesSo s = (binding : Pairs) (c : Course) → Does (s binding) c

  all-rest : (ss : List OfStatement) (binding : Pairs) → Rests (in_sequence ss binding)
  all-rest [] binding d halt e = refl
  all-rest (s ∷ ss) binding d halt e =
      ap (in_sequence ss binding) (while-rests (s binding) d halt e) ∙ all-rest ss binding d halt e

  pub all-do : (ss : List OfStatement) → EachOf DoesSo ss → DoesSo (in_sequence ss)
  all-do [] each binding c = does-nothing c
  all-do (s ∷ ss) each binding c =
      does-both (while_it_runs (s binding)) (in_sequence ss binding) (all-rest ss binding) c (while-does (s binding) c (each.0 binding c))
      (all-do ss each.1 binding (while_it_runs (s binding) c))

  loop-rests : (sets : List ℕ) (body : List OfStatement) (elements : List (List ℕ)) (binding : Pairs) → Rests (for_each sets body elements binding)
  loop-rests sets body [] binding d halt e = refl
  loop-rests sets body (element ∷ elements) binding d halt e =
      ap (for_each sets body elements binding) (all-rest body (controlled binding sets element) d halt e) ∙ loop-rests sets body elements binding d halt e

  each-do : (sets : List ℕ) (body : List OfStatement) (elements : List (List ℕ)) → EachOf DoesSo body → DoesSo (for_each sets body elements)
  each-do sets body [] each binding c = does-nothing c
  each-do sets body (element ∷ elements) each binding c =
      does-both (in_sequence body (controlled binding sets element)) (for_each sets body elements binding) (loop-rests sets body elements binding) c (all-do body each (controlled binding sets element) c)
      (each-do sets body elements each binding (in_sequence body (controlled binding sets element) c))

  -- ---- acts

  -- a step with a value of the state, or a stop by a fault
  value-does : {A : Type 0} (r : State → Evaluated A) (next : A → Course → Course) (c : Course) → ((x : A) → Does (next x) c) → Does (λ (d : Course). with_evaluated (r d.state) (λ x. next x d) d) c
  value-does {A} r next c each = by (r c.state) refl
    where
      by : (a : Evaluated A) → r c.state ≡ a → Does (λ (d : Course). with_evaluated (r d.state) (λ x. next x d) d) c
      by (Ok x) e = does-as (next x) _ c (λ l. ap (λ (a : Evaluated A). with_evaluated a (λ x. next x (with_left c l)) (with_left c l)) e) (each x)
      by (Err fault) e = does-as (λ (d : Course). stopped_by d fault) _ c (λ l. ap (λ (a : Evaluated A). with_evaluated a (λ x. next x (with_left c l)) (with_left c l)) e) (does-stop fault c)

  does-display : (labels : ℕ) (items : List Show) (at : Place) (binding : Pairs) (c : Course) → Does (display v limit labels items at binding) c
  does-display labels items at binding c =
      value-does (λ (state : State). all_shown labels state binding items) (λ shown d. with_event d (displays at.line shown)) c (λ shown. takes-none (λ (d : Course). with_event d (displays at.line shown)) c (displays at.line shown ∷ []) tt refl refl refl (λ l. refl))

  does-abort : (labels : ℕ) (items : List Show) (at : Place) (binding : Pairs) (c : Course) → Does (abort v limit labels items at binding) c
  does-abort labels items at binding c =
      value-does (λ (state : State). all_shown labels state binding items) (λ shown d. stopped_by (with_event d (aborts at.line shown)) (faulted Aborted at binding nothing nothing)) c
      (λ shown. takes-none (λ (d : Course). stopped_by (with_event d (aborts at.line shown)) (faulted Aborted at binding nothing nothing)) c (aborts at.line shown ∷ []) tt refl refl refl (λ l. refl))

  does-abort_where : (labels : ℕ) (condition : Option (tree.Tree F)) (items : List Show) (at : Place) (binding : Pairs) (c : Course) → Does (abort_where v limit labels condition items at binding) c
  does-abort_where labels None items at binding c = does-abort labels items at binding c
  does-abort_where labels (Some condition) items at binding c =
      value-does (λ (state : State). holds v limit state binding condition) (λ so d. if so then abort v limit labels items at binding d else d) c by
    where
      by : (so : Bool) → Does (λ (d : Course). if so then abort v limit labels items at binding d else d) c
      by true = does-abort labels items at binding c
      by false = does-nothing c

  does-loop : (control : tree.Control F) (body : List OfStatement) → EachOf DoesSo body → (at : Place) (binding : Pairs) (c : Course) → Does (over_elements v limit control body at binding) c
  does-loop control body each at binding c =
      value-does (λ (state : State). domain v limit state binding at control) (λ elements d. for_each (sets_of control) body elements binding d) c (λ elements. each-do (sets_of control) body elements each binding c)

  -- a solve whose linear program is this takes an answer, or waits for one
  module _ (solvers : List (List ℕ)) (model : ℕ) (equations : List ℕ) (objective : ℕ) (at : Place) (c : Course) (lp : Lp Number) where
    abbrev Asked : Type 0
    Asked = (answer : ℕ) (solver : List ℕ) (level : Number) → Asks (record { line = at.line; model = model; equations = equations; lp = lp; answer = answer; solver = solver; settings = c.state.settings; objective_level = level }) c.state

    does-answer : Asked → (left : List (Answer Number)) → Does (λ (d : Course). answered v limit solvers model equations objective at d lp) (with_left c left)
    does-answer asked [] = record {
      shown = [];
      events = sym (append-nil c.events);
      asked = tt;
      used = [];
      left = refl;
      taken = let e : c.taken ≡ c.taken + 0 = omega arith in e;
      frame = λ none l. absurd (let e : ◌≡◌ {A = Option Halt} (Some waiting) None = none in cc);
    }
    does-answer asked (answer ∷ left) =
        let state = after_end c.state model lp answer.end in
        record {
          shown = solves (record { line = at.line; model = model; equations = equations; lp = lp; answer = c.taken; solver = slice_index_or solvers c.state.settings.solver []; settings = c.state.settings; objective_level = (attributes_of state objective []).level }) ∷ [];
          events = refl;
          asked = (
            record {
              before = [];
              rest = answer ∷ left;
              parts = refl;
              place = let e : c.taken ≡ c.taken + 0 = omega arith in e;
              waits = refl;
              asks = asked c.taken (slice_index_or solvers c.state.settings.solver []) (attributes_of state objective []).level;
            },
            tt,
          );
          used = answer ∷ [];
          left = refl;
          taken = refl;
          frame = λ none l. refl;
        }

    does-answered : Asked → Does (λ (d : Course). answered v limit solvers model equations objective at d lp) c
    does-answered asked = does-answer asked c.left

  does-solve : (solvers : List (List ℕ)) (model : Named) (method : Word) (objective : Named) (maximize : Bool) (s : Stmt F) → IsStatementOf world.program s → s.act ≡ Solve model method objective maximize → (binding : Pairs) (c : Course) → Does (solve v limit solvers world.program.statements.items model.name objective.name maximize s.at binding) c
  does-solve [] model method objective maximize s of_program act binding c = does-stop (faulted NoSolver s.at binding nothing nothing) c
  does-solve (solver ∷ solvers) model method objective maximize s of_program act binding c = by (r c.state) refl
    where
      r : State → Evaluated (Lp Number)
      r state = program_lp v limit state world.program.statements.items model.name objective.name maximize s.at

      next : Lp Number → Course → Course
      next lp d = answered v limit (solver ∷ solvers) model.name (equations_of world.program.statements.items model.name) objective.name s.at d lp

      by : (a : Evaluated (Lp Number)) → r c.state ≡ a → Does (λ (d : Course). with_evaluated (r d.state) (λ lp. next lp d) d) c
      by (Ok lp) e =
          does-as (next lp) _ c (λ l. ap (λ (a : Evaluated (Lp Number)). with_evaluated a (λ lp. next lp (with_left c l)) (with_left c l)) e)
          (does-answered (solver ∷ solvers) model.name (equations_of world.program.statements.items model.name) objective.name s.at c lp
          (λ answer solver level. record {
            statement = s;
            of_program = of_program;
            model = model;
            method = method;
            objective = objective;
            maximize = maximize;
            act = act;
            line = refl;
            of_model = refl;
            program = e;
          }))
      by (Err fault) e = does-as (λ (d : Course). stopped_by d fault) _ c (λ l. ap (λ (a : Evaluated (Lp Number)). with_evaluated a (λ lp. next lp (with_left c l)) (with_left c l)) e) (does-stop fault c)

  -- ---- statements of the program

  abbrev of_act : Act F → OfAct
  of_act = fold-Act F OfAct OfStatement (act_step v limit world) (statement_step v limit)

  abbrev statement_at : Place → Act F → Stmt F
  statement_at at act = record { at = at; act = act }

  abbrev QAct : Act F → Type 0
  QAct act = (at : Place) → IsStatementOf world.program (statement_at at act) → (binding : Pairs) (c : Course) → Does (of_act act at binding) c

  abbrev Q : Stmt F → Type 0
  Q s = IsStatementOf world.program s → DoesSo (of_statement v limit world s)

  -- the claim for an act, from that for its unrolled form
  rolled : (x : Act-F F (Act F) (Stmt F)) (f : OfAct) → of_act (roll-Act F x) ≡ f → ((at : Place) → IsStatementOf world.program (statement_at at (roll-Act F x)) → (binding : Pairs) (c : Course) → Does (f at binding) c) → QAct (roll-Act F x)
  rolled x f e each at of_program binding c = subst (λ (g : OfAct). Does (g at binding) c) (sym e) (each at of_program binding c)

  does-is : (x : Act-F F (Act F) (Stmt F)) → of_act (roll-Act F x) ≡ act_step v limit world (map-Act F (Act F) (Stmt F) OfAct OfStatement of_act (of_statement v limit world) x)
  does-is x = fold-roll-Act F OfAct OfStatement (act_step v limit world) (statement_step v limit) x

  does-assign : (target : Target F) (condition : Option (Expr F)) (right_at : Place) (right : Expr F) (at : Place) (binding : Pairs) (c : Course) → Does (λ (d : Course). with_evaluated (after_assignment v limit d.state at binding (target_of target) (option_map tree_of condition) right_at (tree_of right)) (in_state d) d) c
  does-assign target condition right_at right at binding c =
      value-does (λ (state : State). after_assignment v limit state at binding (target_of target) (option_map tree_of condition) right_at (tree_of right)) (λ state d. in_state d state) c
      (λ state. takes-none (λ (d : Course). in_state d state) c [] tt (sym (append-nil c.events)) refl refl (λ l. refl))

  -- statements in a body are in the program where the loop is
  body-of : (control : Control F) (body : Vec (Stmt F) Global) (at : Place) → IsStatementOf world.program (statement_at at (roll-Act F (Act-F.Loop control body))) → (before rest : List (Stmt F)) (next : Stmt F) → body.items ≡ before ++ next ∷ rest → IsStatementOf world.program next
  body-of control body at of_program before rest next parts = record {
    before = of_program.before;
    outer = of_program.outer;
    occurs = of_program.occurs;
    depth = suc of_program.depth;
    inside = deeper of_program.depth (statement_at at (roll-Act F (Act-F.Loop control body))) of_program.outer next of_program.inside (record {
      control = control;
      body = body;
      loop = rolls-Loop control body;
      before = before;
      next = next;
      rest = rest;
      occurs = parts;
      holds = refl;
    });
  }

  -- the statements of a list after others, where those of the list are in the program
  statements-do : (all before statements : List (Stmt F)) → all ≡ before ++ statements → ((first rest : List (Stmt F)) (s : Stmt F) → all ≡ first ++ s ∷ rest → IsStatementOf world.program s) → EachOf Q statements → EachOf DoesSo (map (of_statement v limit world) statements)
  statements-do all before [] parts occur each = tt
  statements-do all before (s ∷ statements) parts occur each =
      (each.0 (occur before statements s parts), statements-do all (before ++ s ∷ []) statements (parts ∙ sym (append_assoc before (s ∷ []) statements)) occur each.1)

  by_loop : (control : Control F) (body : Vec (Stmt F) Global) → EachOf Q body.items → QAct (roll-Act F (Act-F.Loop control body))
  by_loop control body each =
      rolled (Act-F.Loop control body) (over_elements v limit (control_tree control) (map (of_statement v limit world) body.items)) (does-is (Act-F.Loop control body))
      (λ at of_program. does-loop (control_tree control) (map (of_statement v limit world) body.items) (statements-do body.items [] body.items refl (λ first rest s parts. body-of control body at of_program first rest s parts) each) at)

  body_does : (body : List ((s : Stmt F) × Q s)) → EachOf Q (map (λ e. e.0) body)
  body_does [] = tt
  body_does (e ∷ body) = (e.1, body_does body)

  -- an act does so, if the statements of its loop do
  by_layer : (y : Act-F F ((a : Act F) × QAct a) ((s : Stmt F) × Q s)) → QAct (roll-Act F (map-Act F ((a : Act F) × QAct a) ((s : Stmt F) × Q s) (Act F) (Stmt F) (λ e. e.0) (λ e. e.0) y))
  by_layer (Act-F.Declare kind items) = rolled (Act-F.Declare kind items) _ (does-is (Act-F.Declare kind items)) (λ at of_program binding c. does-nothing c)
  by_layer (Act-F.Alias first second) = rolled (Act-F.Alias first second) _ (does-is (Act-F.Alias first second)) (λ at of_program binding c. does-nothing c)
  by_layer (Act-F.Model models) = rolled (Act-F.Model models) _ (does-is (Act-F.Model models)) (λ at of_program binding c. does-nothing c)
  by_layer (Act-F.Define equation indices condition left_at left side right_at right) =
      rolled (Act-F.Define equation indices condition left_at left side right_at right) _ (does-is (Act-F.Define equation indices condition left_at left side right_at right)) (λ at of_program binding c. does-nothing c)
  by_layer (Act-F.Assign target condition right_at (Value right)) =
      rolled (Act-F.Assign target condition right_at (Value right)) _ (does-is (Act-F.Assign target condition right_at (Value right))) (λ at of_program. does-assign target condition right_at right at)
  by_layer (Act-F.Display items) = rolled (Act-F.Display items) _ (does-is (Act-F.Display items)) (λ at of_program. does-display (labels_in world) items at)
  by_layer (Act-F.Options settings) =
      rolled (Act-F.Options settings) _ (does-is (Act-F.Options settings)) (λ at of_program binding c. takes-none (λ (d : Course). in_state d (with_settings d.state (after_options v world.solvers d.state.settings settings))) c [] tt (sym (append-nil c.events)) refl refl (λ l. refl))
  by_layer (Act-F.Abort condition items) =
      rolled (Act-F.Abort condition items) _ (does-is (Act-F.Abort condition items)) (λ at of_program. does-abort_where (labels_in world) (option_map tree_of condition) items at)
  by_layer (Act-F.Solve model word objective maximize) =
      rolled (Act-F.Solve model word objective maximize) _ (does-is (Act-F.Solve model word objective maximize))
      (λ at of_program. does-solve world.solvers model word objective maximize (statement_at at (roll-Act F (Act-F.Solve model word objective maximize))) of_program (rolls-Solve model word objective maximize))
  by_layer (Act-F.Loop control body) = by_loop control _ (body_does body.items)

  -- a statement whose act does
  by_statement : (y : Stmt-F F ((a : Act F) × QAct a) ((s : Stmt F) × Q s)) → Q (roll-Stmt F (map-Stmt F ((a : Act F) × QAct a) ((s : Stmt F) × Q s) (Act F) (Stmt F) (λ e. e.0) (λ e. e.0) y))
  by_statement y of_program binding c =
      let z = map-Stmt F ((a : Act F) × QAct a) ((s : Stmt F) × Q s) (Act F) (Stmt F) (λ e. e.0) (λ e. e.0) y in
      subst (λ (f : OfStatement). Does (f binding) c) (sym (fold-roll-Stmt F OfAct OfStatement (act_step v limit world) (statement_step v limit) z)) (y.act.1 y.at of_program binding c)

  -- Each statement of the program does so.
  pub statement-does : (s : Stmt F) → Q s
  statement-does =
      ind-Stmt F QAct Q
      (λ x y is. subst (λ z. QAct (roll-Act F z)) is (by_layer y))
      (λ x y is. subst (λ z. Q (roll-Stmt F z)) is (by_statement y))

  each-statement : (statements : List (Stmt F)) → EachOf Q statements
  each-statement [] = tt
  each-statement (s ∷ statements) = (statement-does s, each-statement statements)

  -- The last statements of a program, in sequence.
  pub last-do : (before statements : List (Stmt F)) → world.program.statements.items ≡ before ++ statements → DoesSo (in_sequence (map (of_statement v limit world) statements))
  last-do before statements parts =
      all-do (map (of_statement v limit world) statements) (statements-do world.program.statements.items before statements parts (λ first rest s is. record { before = first; outer = s; occurs = (rest, is); depth = 0; inside = refl }) (each-statement statements))
