-- What statements show.
use Rattle.std.proofs.Common.{◌≡◌, List, Option as Maybe, map, option_map, sym, ap, ◌∙◌}
use Rattle.gq_number.specs.Number.{Number}
use Rattle.gms_labels.specs.declared.place.Place.{Place}
use Rattle.gms_ast.specs.declared.word.Named.{Named}
use Rattle.gms_ast.specs.declared.expression.Expr.{Expr}
use Rattle.gms_ast.specs.declared.expression.Index.{Index}
use Rattle.gms_ast.specs.declared.declaration.Decl.{Decl}
use Rattle.gms_ast.specs.declared.declaration.DeclKind.{DeclKind}
use Rattle.gms_ast.specs.declared.program.Side.{Side}
use Rattle.gms_ast.specs.declared.program.Right.{Right}
use Rattle.gms_ast.specs.declared.program.Target.{Target as TargetNode}
use Rattle.gms_ast.specs.declared.program.Act.TheVariants.{Declare, Assign, Define, rolls-Declare, rolls-Assign, rolls-Define}
use Rattle.gms_ast.specs.declared.program.Act.TheOpen.{Act-F}
use Rattle.gms_ast.specs.declared.program.Act.TheFolds.{fold-roll-Act}
use Rattle.gms_ast.specs.StatementTrees.{Act, declares, assigns, defines, Statements}
use Rattle.gms_ast.specs.StatementView.{declared_in, shown_tree, shown_indices, shown_target, shown_right, act_view_step, statement_view_step}
use Rattle.gms_parse.specs.InnerMeanings.{act_view}

module _ {F : Type 0} (value : F → Number) where
  pub view-Declare : (kind : DeclKind) (items : List (Decl F)) → act_view value (Declare kind items) ≡ declares kind (map (declared_in value) items)
  view-Declare kind items = ap (act_view value) (sym (rolls-Declare kind items)) ∙ fold-roll-Act F (Act Number) (Statements Number → Statements Number) (act_view_step value) (statement_view_step value) (Act-F.Declare kind items)

  pub view-Assign : (target : TargetNode F) (condition : Maybe (Expr F)) (right_at : Place) (right_side : Right F) → act_view value (Assign target condition right_at right_side) ≡ assigns (shown_target value target) (option_map (shown_tree value) condition) right_at (shown_right value right_side)
  view-Assign target condition right_at right_side = ap (act_view value) (sym (rolls-Assign target condition right_at right_side)) ∙ fold-roll-Act F (Act Number) (Statements Number → Statements Number) (act_view_step value) (statement_view_step value) (Act-F.Assign target condition right_at right_side)

  pub view-Define : (equation : Named) (indices : List (Index F)) (condition : Maybe (Expr F)) (left_at : Place) (left_side : Expr F) (side : Side) (right_at : Place) (right_side : Expr F) →
      act_view value (Define equation indices condition left_at left_side side right_at right_side) ≡ defines equation (shown_indices value indices) (option_map (shown_tree value) condition) (record { left_at = left_at; left = shown_tree value left_side; side = side; right_at = right_at; right = shown_tree value right_side })
  view-Define equation indices condition left_at left_side side right_at right_side =
      ap (act_view value) (sym (rolls-Define equation indices condition left_at left_side side right_at right_side)) ∙ fold-roll-Act F (Act Number) (Statements Number → Statements Number) (act_view_step value) (statement_view_step value) (Act-F.Define equation indices condition left_at left_side side right_at right_side)
