-- What each act does to a run, by its parts.
use Rattle.std.proofs.Common.{◌≡◌, ℕ, Bool, List, map, Option, option_map, Vec, sym, ap, ◌∙◌}
use Rattle.std.specs.declared.alloc.Global.{Global}
use Rattle.gms_labels.specs.declared.place.Place.{Place}
use Rattle.gq_number.specs.Number.{Number}
use Rattle.gms_ast.specs.declared.word.Named.{Named}
use Rattle.gms_ast.specs.declared.word.Word.{Word}
use Rattle.gms_ast.specs.declared.expression.Expr.{Expr}
use Rattle.gms_ast.specs.declared.expression.Index.{Index}
use Rattle.gms_ast.specs.declared.expression.Control.{Control}
use Rattle.gms_ast.specs.declared.declaration.Decl.{Decl}
use Rattle.gms_ast.specs.declared.declaration.DeclKind.{DeclKind}
use Rattle.gms_ast.specs.declared.declaration.ModelDecl.{ModelDecl}
use Rattle.gms_ast.specs.declared.program.Act.{Act, Loop}
use Rattle.gms_ast.specs.declared.program.Act.TheFolds.{fold-Act, fold-roll-Act, fold_out-Stmt}
use Rattle.gms_ast.specs.declared.program.Act.TheOpen.{Act-F}
use Rattle.gms_ast.specs.declared.program.Act.TheVariants.{Declare, Alias, Assign, Define, Model, Solve, Display, Options, Abort, rolls-Declare, rolls-Alias, rolls-Assign, rolls-Define, rolls-Model, rolls-Solve, rolls-Display, rolls-Loop, rolls-Options, rolls-Abort}
use Rattle.gms_ast.specs.declared.program.Right.TheVariants.{Value}
use Rattle.gms_ast.specs.declared.program.Setting.{Setting}
use Rattle.gms_ast.specs.declared.program.Show.{Show}
use Rattle.gms_ast.specs.declared.program.Side.{Side}
use Rattle.gms_ast.specs.declared.program.Stmt.{Stmt}
use Rattle.gms_ast.specs.declared.program.Target.{Target}
use Rattle.gms_ast.specs.TreeView.{control_tree, tree_of}
use Rattle.gms_store.specs.State.{with_settings}
use Rattle.gms_eval.specs.Bindings.{Pairs}
use Rattle.gms_exec.specs.Assignment.{target_of, after_assignment}
use Rattle.gms_exec.specs.Options.{after_options}
use Rattle.gms_exec.specs.Run.{Course, World, OfStatement, OfAct, labels_in, in_state, with_evaluated, display, abort_where, over_elements, solve, act_step, statement_step, of_statement}

module _ {F : Type 0} (value : F → Number) (limit : ℕ) (world : World F) where
  -- what an act does to a run
  abbrev of_act : Act F → OfAct
  of_act = fold-Act F OfAct OfStatement (act_step value limit world) (statement_step value limit)

  module _ (s : Stmt F) (binding : Pairs) (course : Course) where
    -- what a statement does to a run is what its act does
    by-act : (act : Act F) → s.act ≡ act → of_statement value limit world s binding course ≡ of_act act s.at binding course
    by-act act e =
        ap (λ (f : OfStatement). f binding course) (fold_out-Stmt F OfAct OfStatement (act_step value limit world) (statement_step value limit) s) ∙ ap (λ (act : Act F). of_act act s.at binding course) e

    pub on-Assign : (target : Target F) (condition : Option (Expr F)) (right_at : Place) (right : Expr F) → s.act ≡ Assign target condition right_at (Value right) → of_statement value limit world s binding course ≡ with_evaluated (after_assignment value limit course.state s.at binding (target_of target) (option_map tree_of condition) right_at (tree_of right)) (in_state course) course
    on-Assign target condition right_at right e =
        by-act (Assign target condition right_at (Value right)) e ∙ ap (λ (act : Act F). of_act act s.at binding course) (sym (rolls-Assign target condition right_at (Value right))) ∙ ap (λ (f : OfAct). f s.at binding course) (fold-roll-Act F OfAct OfStatement (act_step value limit world) (statement_step value limit) (Act-F.Assign target condition right_at (Value right)))

    pub on-Display : (items : List Show) → s.act ≡ Display items → of_statement value limit world s binding course ≡ display value limit (labels_in world) items s.at binding course
    on-Display items e =
        by-act (Display items) e ∙ ap (λ (act : Act F). of_act act s.at binding course) (sym (rolls-Display items)) ∙ ap (λ (f : OfAct). f s.at binding course) (fold-roll-Act F OfAct OfStatement (act_step value limit world) (statement_step value limit) (Act-F.Display items))

    pub on-Options : (settings : List (Word × Setting F)) → s.act ≡ Options settings → of_statement value limit world s binding course ≡ in_state course (with_settings course.state (after_options value world.solvers course.state.settings settings))
    on-Options settings e =
        by-act (Options settings) e ∙ ap (λ (act : Act F). of_act act s.at binding course) (sym (rolls-Options settings)) ∙ ap (λ (f : OfAct). f s.at binding course) (fold-roll-Act F OfAct OfStatement (act_step value limit world) (statement_step value limit) (Act-F.Options settings))

    pub on-Abort : (condition : Option (Expr F)) (items : List Show) → s.act ≡ Abort condition items → of_statement value limit world s binding course ≡ abort_where value limit (labels_in world) (option_map tree_of condition) items s.at binding course
    on-Abort condition items e =
        by-act (Abort condition items) e ∙ ap (λ (act : Act F). of_act act s.at binding course) (sym (rolls-Abort condition items)) ∙ ap (λ (f : OfAct). f s.at binding course) (fold-roll-Act F OfAct OfStatement (act_step value limit world) (statement_step value limit) (Act-F.Abort condition items))

    pub on-Solve : (model : Named) (word : Word) (objective : Named) (maximize : Bool) → s.act ≡ Solve model word objective maximize → of_statement value limit world s binding course ≡ solve value limit world.solvers world.program.statements.items model.name objective.name maximize s.at binding course
    on-Solve model word objective maximize e =
        by-act (Solve model word objective maximize) e ∙ ap (λ (act : Act F). of_act act s.at binding course) (sym (rolls-Solve model word objective maximize)) ∙ ap (λ (f : OfAct). f s.at binding course) (fold-roll-Act F OfAct OfStatement (act_step value limit world) (statement_step value limit) (Act-F.Solve model word objective maximize))

    pub on-Declare : (kind : DeclKind) (items : List (Decl F)) → s.act ≡ Declare kind items → of_statement value limit world s binding course ≡ course
    on-Declare kind items e =
        by-act (Declare kind items) e ∙ ap (λ (act : Act F). of_act act s.at binding course) (sym (rolls-Declare kind items)) ∙ ap (λ (f : OfAct). f s.at binding course) (fold-roll-Act F OfAct OfStatement (act_step value limit world) (statement_step value limit) (Act-F.Declare kind items))

    pub on-Alias : (first second : Named) → s.act ≡ Alias first second → of_statement value limit world s binding course ≡ course
    on-Alias first second e =
        by-act (Alias first second) e ∙ ap (λ (act : Act F). of_act act s.at binding course) (sym (rolls-Alias first second)) ∙ ap (λ (f : OfAct). f s.at binding course) (fold-roll-Act F OfAct OfStatement (act_step value limit world) (statement_step value limit) (Act-F.Alias first second))

    pub on-Define : (equation : Named) (indices : List (Index F)) (condition : Option (Expr F)) (left_at : Place) (left : Expr F) (side : Side) (right_at : Place) (right : Expr F) → s.act ≡ Define equation indices condition left_at left side right_at right → of_statement value limit world s binding course ≡ course
    on-Define equation indices condition left_at left side right_at right e =
        by-act (Define equation indices condition left_at left side right_at right) e ∙ ap (λ (act : Act F). of_act act s.at binding course) (sym (rolls-Define equation indices condition left_at left side right_at right)) ∙ ap (λ (f : OfAct). f s.at binding course) (fold-roll-Act F OfAct OfStatement (act_step value limit world) (statement_step value limit) (Act-F.Define equation indices condition left_at left side right_at right))

    pub on-Model : (models : List ModelDecl) → s.act ≡ Model models → of_statement value limit world s binding course ≡ course
    on-Model models e =
        by-act (Model models) e ∙ ap (λ (act : Act F). of_act act s.at binding course) (sym (rolls-Model models)) ∙ ap (λ (f : OfAct). f s.at binding course) (fold-roll-Act F OfAct OfStatement (act_step value limit world) (statement_step value limit) (Act-F.Model models))

    pub on-Loop : (control : Control F) (body : Vec (Stmt F) Global) → s.act ≡ Loop control body → of_statement value limit world s binding course ≡ over_elements value limit (control_tree control) (map (of_statement value limit world) body.items) s.at binding course
    on-Loop control body e =
        by-act (Loop control body) e ∙ ap (λ (act : Act F). of_act act s.at binding course) (sym (rolls-Loop control body)) ∙ ap (λ (f : OfAct). f s.at binding course) (fold-roll-Act F OfAct OfStatement (act_step value limit world) (statement_step value limit) (Act-F.Loop control body))
