-- The views of statements determine what they do to a run: programs with equal views run alike.
use Rattle.std.proofs.Common.{◌≡◌, ℕ, Bool, List, [], ◌∷◌, map, Option, None, option_map, Ok, refl, sym, ap, ap₂, ◌∙◌}
use Rattle.std.specs.Prelude.{flat_map}
use Rattle.std.proofs.Math.Path.{fun_ext}
use Rattle.gq_number.specs.Number.{Number}
use Rattle.gq_frac.specs.declared.frac.Frac.{Frac}
use Rattle.gq_frac.specs.Frac.{frac_value}
use Rattle.gms_labels.specs.declared.place.Place.{Place}
use Rattle.gms_ast.specs.declared.expression.Suffix.{Suffix}
use Rattle.gms_ast.specs.declared.program.Act.{Act as ActNode, roll-Act, map-Act}
use Rattle.gms_ast.specs.declared.program.Act.TheFolds.{fold-Act, fold-roll-Act, fold_out-Stmt}
use Rattle.gms_ast.specs.declared.program.Act.TheOpen.{Act-F}
use Rattle.gms_ast.specs.declared.program.Right.TheVariants.{Value}
use Rattle.gms_ast.specs.declared.program.Setting.{Setting}
use Rattle.gms_ast.specs.declared.program.Stmt.{Stmt}
use Rattle.gms_ast.specs.declared.word.Word.{Word}
use Rattle.gms_ast.specs.Numbers.{in_numbers, indices_in_numbers, control_in_numbers}
use Rattle.gms_ast.specs.StatementTrees.{Act, declares, aliases, assigns, defines, declares_models, solves, displays, loops, sets_options, aborts, Statements, no_statement, statement}
use Rattle.gms_ast.specs.StatementView.{statements_in_order, shown_tree, statement_view}
use Rattle.gms_ast.specs.TreeView.{control_tree, tree_of}
use Rattle.gms_ast.specs.Trees.{Tree, Indices, Control}
use Rattle.gms_parse.proofs.Looped.{view-Stmt}
use Rattle.gms_store.specs.State.{State, with_settings}
use Rattle.gms_check.specs.StatementUses.{index_list}
use Rattle.gms_eval.specs.Bindings.{Pairs}
use Rattle.gms_eval.specs.Faults.{Answer as Evaluated, ◌and_then◌}
use Rattle.gms_eval.specs.Nodes.{in_order as in_order_answers}
use Rattle.lp_core.specs.declared.answer.Answer.{Answer}
use Rattle.lp_core.specs.declared.program.Lp.{Lp}
use Rattle.lp_form.specs.declared.key.Key.{Key}
use Rattle.gms_rows.specs.ModelPoints.{definitions_of_model}
use Rattle.gms_rows.specs.ProgramLp.{program_of, sized_program}
use Rattle.gms_rows.specs.Rows.{Definition, FormRow, equations_of, rows_of_definition}
use Rattle.gms_exec.specs.Assignment.{after_assignment}
use Rattle.gms_exec.specs.Options.{after_options}
use Rattle.gms_exec.specs.Run.{Course, World, OfAct, OfStatement, answered, in_state, with_evaluated, in_sequence, display, abort_where, over_elements, solve, act_step, statement_step, of_statement, run_from, labels_in}
use Rattle.gms_save.proofs.FromNumbers.{condition_back, control_back, indices_back, option_in, options_back, tree_back, value_of}
use Rattle.gms_save.proofs.SeenActs.{AllSuch, Layer, LayerSuch, each-act, shown, shown_layer, shows}
use Rattle.gms_save.proofs.SeenPrograms.{Seen, seen}
use Rattle.gms_restart.proofs.SeenRows.{same-definitions, same-equations}

module _ (limit labels : ℕ) (solvers : List (List ℕ)) (statements : List (Stmt Frac)) where
  -- an assignment, by its parts
  abbrev assigning : Place → ℕ → Suffix → Place → Indices Frac → Option (Tree Frac) → Tree Frac → OfAct
  assigning target_at name suffix right_at indices condition right at binding course =
      with_evaluated (after_assignment frac_value limit course.state at binding (record { at = target_at; name = name; suffix = suffix; indices = indices }) condition right_at right) (in_state course) course

  -- options, by what they are set to
  abbrev setting : List (Word × Setting Frac) → OfAct
  setting options at binding course =
      in_state course (with_settings course.state (after_options frac_value solvers course.state.settings options))

  abbrev mutual
    -- what an act does to a run, by its view
    runs_of : Act Number → OfAct
    runs_of (assigns target condition right_at right) at binding course =
        assigning target.at target.name target.suffix right_at (indices_in_numbers value_of target.indices) (option_map (in_numbers value_of) condition) (in_numbers value_of right) at binding course
    runs_of (displays items) at binding course = display frac_value limit labels items at binding course
    runs_of (loops control body) at binding course = over_elements frac_value limit (control_in_numbers value_of control) (all_runs body) at binding course
    runs_of (sets_options options) at binding course = setting (map (option_in value_of) options) at binding course
    runs_of (aborts condition items) at binding course =
        abort_where frac_value limit labels (option_map (in_numbers value_of) condition) items at binding course
    runs_of (solves model method objective maximize) at binding course =
        solve frac_value limit solvers statements model.name objective.name maximize at binding course
    runs_of act at binding course = course

    -- what statements do
    all_runs : Statements Number → List OfStatement
    all_runs no_statement = []
    all_runs (statement at act rest) = (λ binding course. runs_of act at binding course) ∷ all_runs rest

  -- what a statement with this view does
  abbrev run_seen : Seen → OfStatement
  run_seen v binding course = runs_of v.1 v.0 binding course

-- ---- statements with equal views, as those of the program

module _ (limit labels : ℕ) (solvers : List (List ℕ)) (xs ys : List (Stmt Frac)) (alike : map seen xs ≡ map seen ys) where
  solve-alike : (those : List (List ℕ)) (model objective : ℕ) (maximize : Bool) (at : Place) (binding : Pairs) (course : Course) → solve frac_value limit those xs model objective maximize at binding course ≡ solve frac_value limit those ys model objective maximize at binding course
  solve-alike [] model objective maximize at binding course = refl
  solve-alike (solver ∷ those) model objective maximize at binding course =
      let key : Key = record { symbol = objective; tuple = [] } in
      let rows : List (Definition Frac) → Evaluated (Lp Number) = λ ds. (in_order_answers (map (rows_of_definition frac_value limit course.state) ds) and_then λ rows. Ok (flat_map (λ (some : List FormRow). some) rows)) and_then λ rows. sized_program at (program_of course.state rows key maximize) in
      ap (λ (ds : List (Definition Frac)). with_evaluated (rows ds) (answered frac_value limit (solver ∷ those) model (equations_of xs model) objective at course) course) (same-definitions xs ys alike model)
      ∙ ap (λ (es : List ℕ). with_evaluated (rows (definitions_of_model ys model)) (answered frac_value limit (solver ∷ those) model es objective at course) course) (same-equations xs ys alike model)

  mutual
    act-alike : (v : Act Number) (at : Place) (binding : Pairs) (course : Course) → runs_of limit labels solvers xs v at binding course ≡ runs_of limit labels solvers ys v at binding course
    act-alike (declares kind items) at binding course = refl
    act-alike (aliases first second) at binding course = refl
    act-alike (assigns target condition right_at right) at binding course = refl
    act-alike (defines equation indices condition sides) at binding course = refl
    act-alike (declares_models models) at binding course = refl
    act-alike (solves model method objective maximize) at binding course = solve-alike solvers model.name objective.name maximize at binding course
    act-alike (displays items) at binding course = refl
    act-alike (loops control body) at binding course =
        ap (λ (fs : List OfStatement). over_elements frac_value limit (control_in_numbers value_of control) fs at binding course) (all-alike body)
    act-alike (sets_options options) at binding course = refl
    act-alike (aborts condition items) at binding course = refl

    all-alike : (vs : Statements Number) → all_runs limit labels solvers xs vs ≡ all_runs limit labels solvers ys vs
    all-alike no_statement = refl
    all-alike (statement at act rest) =
        ap₂ (λ (f : OfStatement) (fs : List OfStatement). f ∷ fs) (fun_ext (λ binding. fun_ext (λ course. act-alike act at binding course))) (all-alike rest)

  each-alike : (vs : List Seen) → map (run_seen limit labels solvers xs) vs ≡ map (run_seen limit labels solvers ys) vs
  each-alike [] = refl
  each-alike (v ∷ vs) =
      ap₂ (λ (f : OfStatement) (fs : List OfStatement). f ∷ fs) (fun_ext (λ binding. fun_ext (λ course. act-alike v.1 v.0 binding course))) (each-alike vs)

-- ---- what statements do to a run

module _ (limit : ℕ) (world : World Frac) where
  abbrev runs : Act Number → OfAct
  runs = runs_of limit (labels_in world) world.solvers world.program.statements.items

  abbrev of_act : ActNode Frac → OfAct
  of_act = fold-Act Frac OfAct OfStatement (act_step frac_value limit world) (statement_step frac_value limit)

  abbrev SameRuns : ActNode Frac → Type 0
  SameRuns act = (at : Place) (binding : Pairs) (course : Course) → runs (shown act) at binding course ≡ of_act act at binding course

  abbrev run_layer : Layer → OfAct
  run_layer x = act_step frac_value limit world (map-Act Frac (ActNode Frac) (Stmt Frac) OfAct OfStatement of_act (of_statement frac_value limit world) x)

  does : (x : Layer) → of_act (roll-Act Frac x) ≡ run_layer x
  does = fold-roll-Act Frac OfAct OfStatement (act_step frac_value limit world) (statement_step frac_value limit)

  statement-does : (s : Stmt Frac) (binding : Pairs) (course : Course) → of_act s.act s.at binding course ≡ of_statement frac_value limit world s binding course
  statement-does s binding course =
      ap (λ (f : OfStatement). f binding course) (sym (fold_out-Stmt Frac OfAct OfStatement (act_step frac_value limit world) (statement_step frac_value limit) s))

  body-runs : (ss : List (Stmt Frac)) → AllSuch SameRuns ss → all_runs limit (labels_in world) world.solvers world.program.statements.items (statements_in_order frac_value (map {B = Statements Number → Statements Number} (statement_view frac_value) ss)) ≡ map (of_statement frac_value limit world) ss
  body-runs [] all = refl
  body-runs (s ∷ ss) all =
      ap (all_runs limit (labels_in world) world.solvers world.program.statements.items) (view-Stmt frac_value s (statements_in_order frac_value (map {B = Statements Number → Statements Number} (statement_view frac_value) ss)))
      ∙ ap₂ (λ (f : OfStatement) (fs : List OfStatement). f ∷ fs) (fun_ext (λ binding. fun_ext (λ course. all.0 s.at binding course ∙ statement-does s binding course))) (body-runs ss all.1)

  layer-runs : (x : Layer) → LayerSuch SameRuns x → (at : Place) (binding : Pairs) (course : Course) → runs (shown_layer x) at binding course ≡ run_layer x at binding course
  layer-runs (Act-F.Declare kind items) all at binding course = refl
  layer-runs (Act-F.Alias first second) all at binding course = refl
  layer-runs (Act-F.Assign target condition right_at (Value right)) all at binding course =
      let of : Indices Frac → Option (Tree Frac) → Tree Frac → Course = λ is c t. assigning limit (labels_in world) world.solvers world.program.statements.items target.at target.name target.suffix right_at is c t at binding course in
      ap (λ (is : Indices Frac). of is (option_map (in_numbers value_of) (option_map (shown_tree frac_value) condition)) (in_numbers value_of (in_numbers frac_value (tree_of right)))) (indices_back (index_list target.indices))
      ∙ ap₂ (λ (c : Option (Tree Frac)) (t : Tree Frac). of (index_list target.indices) c t) (condition_back condition) (tree_back (tree_of right))
  layer-runs (Act-F.Define equation indices condition left_at left side right_at right) all at binding course = refl
  layer-runs (Act-F.Model models) all at binding course = refl
  layer-runs (Act-F.Solve model word objective maximize) all at binding course = refl
  layer-runs (Act-F.Display items) all at binding course = refl
  layer-runs (Act-F.Loop control body) all at binding course =
      ap₂ (λ (c : Control Frac) (fs : List OfStatement). over_elements frac_value limit c fs at binding course) (control_back (control_tree control)) (body-runs body.items all)
  layer-runs (Act-F.Options options) all at binding course = ap (λ (os : List (Word × Setting Frac)). setting limit (labels_in world) world.solvers world.program.statements.items os at binding course) (options_back options)
  layer-runs (Act-F.Abort condition items) all at binding course =
      ap (λ (c : Option (Tree Frac)). abort_where frac_value limit (labels_in world) c items at binding course) (condition_back condition)

  -- the view of an act determines what its statement does to a run
  same-runs : (s : Stmt Frac) (binding : Pairs) (course : Course) → runs (shown s.act) s.at binding course ≡ of_statement frac_value limit world s binding course
  same-runs s binding course = each-act SameRuns layers s s.at binding course ∙ statement-does s binding course
    where
      layers : (x : Layer) → LayerSuch SameRuns x → SameRuns (roll-Act Frac x)
      layers x all at binding course =
          ap (λ (v : Act Number). runs v at binding course) (shows x) ∙ layer-runs x all at binding course ∙ sym (ap (λ (f : OfAct). f at binding course) (does x))

  runs-are : (xs : List (Stmt Frac)) → map (of_statement frac_value limit world) xs ≡ map (run_seen limit (labels_in world) world.solvers world.program.statements.items) (map seen xs)
  runs-are [] = refl
  runs-are (x ∷ xs) = ap₂ (λ (f : OfStatement) (fs : List OfStatement). f ∷ fs) (fun_ext (λ binding. fun_ext (λ course. sym (same-runs x binding course)))) (runs-are xs)

-- In one world statements with equal views run alike.
pub seen-runs : (limit : ℕ) (world : World Frac) (state : State) (answers : List (Answer Number)) (xs ys : List (Stmt Frac)) → map seen xs ≡ map seen ys → run_from frac_value limit world state answers xs ≡ run_from frac_value limit world state answers ys
seen-runs limit world state answers xs ys alike =
    let run : List OfStatement → Course = λ fs. in_sequence fs [] (record { state = state; events = []; left = answers; taken = 0; halted = None }) in
    ap run (runs-are limit world xs ∙ ap (map (run_seen limit (labels_in world) world.solvers world.program.statements.items)) alike ∙ sym (runs-are limit world ys))

-- Statements with equal views run alike in the worlds of two programs with equal views, with the
-- same solvers.
pub seen-alike : (limit : ℕ) (one other : World Frac) (state : State) (answers : List (Answer Number)) (xs ys : List (Stmt Frac)) → labels_in one ≡ labels_in other → one.solvers ≡ other.solvers → map seen one.program.statements.items ≡ map seen other.program.statements.items → map seen xs ≡ map seen ys →
    run_from frac_value limit one state answers xs ≡ run_from frac_value limit other state answers ys
seen-alike limit one other state answers xs ys labels solvers programs alike =
    let run : List OfStatement → Course = λ fs. in_sequence fs [] (record { state = state; events = []; left = answers; taken = 0; halted = None }) in
    let first = one.program.statements.items in
    let second = other.program.statements.items in
    ap run (
    runs-are limit one xs
    ∙ ap₂ (λ (n : ℕ) (ss : List (List ℕ)). map (run_seen limit n ss first) (map seen xs)) labels solvers
    ∙ each-alike limit (labels_in other) other.solvers first second programs (map seen xs)
    ∙ ap (map (run_seen limit (labels_in other) other.solvers second)) alike
    ∙ sym (runs-are limit other ys)
    )
