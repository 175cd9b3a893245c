-- What acts use, by their parts.
use Rattle.std.proofs.Common.{◌≡◌, ℕ, Bool, List, [], ◌∷◌, ◌++◌, map, Option, option_map, Vec, refl, sym, ap, ◌∙◌}
use Rattle.std.specs.Prelude.{flat_map}
use Rattle.std.specs.declared.alloc.Global.{Global}
use Rattle.gms_labels.specs.declared.place.Place.{Place}
use Rattle.gms_ast.specs.declared.word.Named.{Named}
use Rattle.gms_ast.specs.declared.word.Word.{Word}
use Rattle.gms_ast.specs.declared.expression.Expr.{Expr}
use Rattle.gms_ast.specs.declared.expression.Index.{Index}
use Rattle.gms_ast.specs.declared.expression.Control.{Control}
use Rattle.gms_ast.specs.declared.declaration.Decl.{Decl}
use Rattle.gms_ast.specs.declared.declaration.DeclKind.{DeclKind}
use Rattle.gms_ast.specs.declared.declaration.ModelDecl.{ModelDecl}
use Rattle.gms_ast.specs.declared.program.Act.{Act, Loop}
use Rattle.gms_ast.specs.declared.program.Act.TheFolds.{fold-roll-Act, fold_out-Stmt}
use Rattle.gms_ast.specs.declared.program.Act.TheOpen.{Act-F}
use Rattle.gms_ast.specs.declared.program.Act.TheVariants.{Declare, Alias, Assign, Define, Model, Solve, Display, Options, Abort, rolls-Declare, rolls-Alias, rolls-Assign, rolls-Define, rolls-Model, rolls-Solve, rolls-Display, rolls-Loop, rolls-Options, rolls-Abort}
use Rattle.gms_ast.specs.declared.program.Right.TheVariants.{Value}
use Rattle.gms_ast.specs.declared.program.Setting.{Setting}
use Rattle.gms_ast.specs.declared.program.Show.{Show}
use Rattle.gms_ast.specs.declared.program.Side.{Side}
use Rattle.gms_ast.specs.declared.program.Stmt.{Stmt}
use Rattle.gms_ast.specs.declared.program.Target.{Target}
use Rattle.gms_ast.specs.TreeView.{control_tree, tree_of}
use Rattle.gms_store.specs.State.{State}
use Rattle.gms_check.specs.Contexts.{as_side}
use Rattle.gms_check.specs.InnerStatements.{act_uses}
use Rattle.gms_check.specs.StatementUses.{UsesOfAct, UsesOfStatement, act_uses_step, index_list, left_uses, option_uses, right_context, show_uses, statement_uses_step, statement_uses, with_left}
use Rattle.gms_check.specs.Uses.{Uses, assigning, condition_uses, control_uses, defining, first_alias, method, optimizing, second_alias, sets_of_control, solving, uses}

module _ {F : Type 0} where
  -- what a statement uses is what its act does
  pub uses-act : (statement : Stmt F) (state : State) (controlled : List ℕ) → statement_uses statement state controlled ≡ act_uses statement.act state statement.at controlled
  uses-act statement state controlled =
      ap (λ (f : UsesOfStatement F). f state controlled) (fold_out-Stmt F (UsesOfAct F) (UsesOfStatement F) act_uses_step statement_uses_step statement)

module _ {F : Type 0} (state : State) (at : Place) (controlled : List ℕ) where
  pub uses-Declare : (kind : DeclKind) (items : List (Decl F)) → act_uses (Declare kind items) state at controlled ≡ []
  uses-Declare kind items =
      ap (λ (act : Act F). act_uses act state at controlled) (sym (rolls-Declare kind items)) ∙ ap (λ (f : UsesOfAct F). f state at controlled) (fold-roll-Act F (UsesOfAct F) (UsesOfStatement F) act_uses_step statement_uses_step (Act-F.Declare kind items))

  pub uses-Model : (models : List ModelDecl) → act_uses {F = F} (Model models) state at controlled ≡ []
  uses-Model models =
      ap (λ (act : Act F). act_uses act state at controlled) (sym (rolls-Model models)) ∙ ap (λ (f : UsesOfAct F). f state at controlled) (fold-roll-Act F (UsesOfAct F) (UsesOfStatement F) act_uses_step statement_uses_step (Act-F.Model models))

  pub uses-Alias : (first second : Named) → act_uses {F = F} (Alias first second) state at controlled ≡ (first.at, first_alias first.name second.name) ∷ (second.at, second_alias first.name second.name) ∷ []
  uses-Alias first second =
      ap (λ (act : Act F). act_uses act state at controlled) (sym (rolls-Alias first second)) ∙ ap (λ (f : UsesOfAct F). f state at controlled) (fold-roll-Act F (UsesOfAct F) (UsesOfStatement F) act_uses_step statement_uses_step (Act-F.Alias first second))

  pub uses-Assign : (target : Target F) (condition : Option (Expr F)) (right_at : Place) (right : Expr F) → act_uses (Assign target condition right_at (Value right)) state at controlled ≡ (target.at, assigning target.name target.suffix (index_list target.indices)) ∷ (left_uses at (with_left controlled target.indices) target.indices condition ++ uses (right_context state target.name) right_at (with_left controlled target.indices) (tree_of right))
  uses-Assign target condition right_at right =
      ap (λ (act : Act F). act_uses act state at controlled) (sym (rolls-Assign target condition right_at (Value right))) ∙ ap (λ (f : UsesOfAct F). f state at controlled) (fold-roll-Act F (UsesOfAct F) (UsesOfStatement F) act_uses_step statement_uses_step (Act-F.Assign target condition right_at (Value right)))

  pub uses-Define : (equation : Named) (indices : List (Index F)) (condition : Option (Expr F)) (left_at : Place) (left : Expr F) (side : Side) (right_at : Place) (right : Expr F) → act_uses (Define equation indices condition left_at left side right_at right) state at controlled ≡ (equation.at, defining equation.name (index_list indices)) ∷ (left_uses at (with_left controlled indices) indices condition ++ (uses as_side left_at (with_left controlled indices) (tree_of left) ++ uses as_side right_at (with_left controlled indices) (tree_of right)))
  uses-Define equation indices condition left_at left side right_at right =
      ap (λ (act : Act F). act_uses act state at controlled) (sym (rolls-Define equation indices condition left_at left side right_at right)) ∙ ap (λ (f : UsesOfAct F). f state at controlled) (fold-roll-Act F (UsesOfAct F) (UsesOfStatement F) act_uses_step statement_uses_step (Act-F.Define equation indices condition left_at left side right_at right))

  pub uses-Solve : (model : Named) (word : Word) (objective : Named) (maximize : Bool) → act_uses {F = F} (Solve model word objective maximize) state at controlled ≡ (model.at, solving model.name) ∷ (word.at, method word.text) ∷ (objective.at, optimizing objective.name) ∷ []
  uses-Solve model word objective maximize =
      ap (λ (act : Act F). act_uses act state at controlled) (sym (rolls-Solve model word objective maximize)) ∙ ap (λ (f : UsesOfAct F). f state at controlled) (fold-roll-Act F (UsesOfAct F) (UsesOfStatement F) act_uses_step statement_uses_step (Act-F.Solve model word objective maximize))

  pub uses-Display : (items : List Show) → act_uses {F = F} (Display items) state at controlled ≡ flat_map show_uses items
  uses-Display items =
      ap (λ (act : Act F). act_uses act state at controlled) (sym (rolls-Display items)) ∙ ap (λ (f : UsesOfAct F). f state at controlled) (fold-roll-Act F (UsesOfAct F) (UsesOfStatement F) act_uses_step statement_uses_step (Act-F.Display items))

  pub uses-Options : (settings : List (Word × Setting F)) → act_uses (Options settings) state at controlled ≡ flat_map option_uses settings
  uses-Options settings =
      ap (λ (act : Act F). act_uses act state at controlled) (sym (rolls-Options settings)) ∙ ap (λ (f : UsesOfAct F). f state at controlled) (fold-roll-Act F (UsesOfAct F) (UsesOfStatement F) act_uses_step statement_uses_step (Act-F.Options settings))

  pub uses-Abort : (condition : Option (Expr F)) (items : List Show) → act_uses (Abort condition items) state at controlled ≡ condition_uses at controlled (option_map tree_of condition) ++ flat_map show_uses items
  uses-Abort condition items =
      ap (λ (act : Act F). act_uses act state at controlled) (sym (rolls-Abort condition items)) ∙ ap (λ (f : UsesOfAct F). f state at controlled) (fold-roll-Act F (UsesOfAct F) (UsesOfStatement F) act_uses_step statement_uses_step (Act-F.Abort condition items))

  in-body : (sets : List ℕ) (body : List (Stmt F)) → flat_map (λ (statement : UsesOfStatement F). statement state sets) (map statement_uses body) ≡ flat_map (λ (statement : Stmt F). statement_uses statement state sets) body
  in-body sets [] = refl
  in-body sets (statement ∷ body) = ap (λ (us : Uses F). statement_uses statement state sets ++ us) (in-body sets body)

  pub uses-Loop : (control : Control F) (body : Vec (Stmt F) Global) → act_uses (Loop control body) state at controlled ≡ control_uses at controlled (control_tree control) ++ flat_map (λ (statement : Stmt F). statement_uses statement state (controlled ++ sets_of_control (control_tree control))) body.items
  uses-Loop control body =
      ap (λ (act : Act F). act_uses act state at controlled) (sym (rolls-Loop control body)) ∙ ap (λ (f : UsesOfAct F). f state at controlled) (fold-roll-Act F (UsesOfAct F) (UsesOfStatement F) act_uses_step statement_uses_step (Act-F.Loop control body)) ∙ ap (λ (us : Uses F). control_uses at controlled (control_tree control) ++ us) (in-body (controlled ++ sets_of_control (control_tree control)) body.items)
