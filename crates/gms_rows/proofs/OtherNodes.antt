-- Nodes that have no variables, whatever their parts are.
use Rattle.std.proofs.Common.{◌≡◌, ℕ, Bool, Vec, Box, refl, sym, ap, ◌∙◌}
use Rattle.std.specs.declared.alloc.Global.{Global}
use Rattle.gms_labels.specs.declared.place.Place.{Place}
use Rattle.gq_number.specs.Number.{Number}
use Rattle.gms_ast.specs.declared.expression.Suffix.{Suffix}
use Rattle.gms_ast.specs.declared.expression.FoldOp.{FoldOp}
use Rattle.gms_ast.specs.declared.expression.Index.{Index}
use Rattle.gms_ast.specs.declared.expression.Control.{Control as ControlNode}
use Rattle.gms_ast.specs.declared.expression.Expr.{Expr, Ref, Fold, Neg, Plus, Times, Guard, out-Expr, roll-Expr, roll-out-Expr}
use Rattle.gms_ast.specs.declared.expression.Expr.TheOpen.{Expr-F}
use Rattle.gms_ast.specs.declared.expression.Expr.TheFolds.{fold-roll-Expr}
use Rattle.gms_ast.specs.declared.expression.Expr.TheVariants.{rolls-Ref, rolls-Fold, rolls-Neg, rolls-Plus, rolls-Times, rolls-Guard}
use Rattle.gms_ast.specs.Trees as tree
use Rattle.gms_ast.specs.TreeView.{tree_step, index_step, control_step, tree_of}
use Rattle.gms_store.specs.State.{State}
use Rattle.gms_eval.specs.Bindings.{Pairs}
use Rattle.gms_rows.specs.Affine.{form_of_constant, affine}

module _ {F : Type 0} (v : F → Number) (limit : ℕ) (state : State) (at : Place) (b : Pairs) where
  -- such a node has the form of its value
  pub form-other : (e : Expr F) → ((place : Place) (name : ℕ) (suffix : Suffix) (indices : Vec (Index F) Global) → e ≡ Ref place name suffix indices → ⊥) → ((place : Place) (op : FoldOp) (control : ControlNode F) (body : Box (Expr F) Global) → e ≡ Fold place op control body → ⊥) → ((x : Box (Expr F) Global) → e ≡ Neg x → ⊥) → ((x : Vec (Place × Bool × Expr F) Global) → e ≡ Plus x → ⊥) → ((x : Vec (Place × Bool × Expr F) Global) → e ≡ Times x → ⊥) → ((x : Box (Expr F) Global) (y : Vec (Expr F) Global) → e ≡ Guard x y → ⊥) → affine v limit state at b (tree_of e) ≡ form_of_constant v limit state at b (tree_of e)
  form-other e no_ref no_fold no_neg no_plus no_times no_guard = by (out-Expr F e) (roll-out-Expr F e)
    where
      same : (t : tree.Tree F) → tree_of e ≡ t → affine v limit state at b t ≡ form_of_constant v limit state at b t → affine v limit state at b (tree_of e) ≡ form_of_constant v limit state at b (tree_of e)
      same t q p = ap (affine v limit state at b) q ∙ p ∙ sym (ap (form_of_constant v limit state at b) q)

      seen : (x : Expr-F F (Expr F) (Index F) (ControlNode F)) → roll-Expr F x ≡ e → tree_of e ≡ tree_of (roll-Expr F x)
      seen x is = ap tree_of (sym is)

      by : (x : Expr-F F (Expr F) (Index F) (ControlNode F)) → roll-Expr F x ≡ e → affine v limit state at b (tree_of e) ≡ form_of_constant v limit state at b (tree_of e)
      by (Expr-F.Ref place name suffix indices) is = absurd (no_ref place name suffix indices (sym is ∙ rolls-Ref place name suffix indices))
      by (Expr-F.Fold place op control body) is = absurd (no_fold place op control body (sym is ∙ rolls-Fold place op control body))
      by (Expr-F.Neg x) is = absurd (no_neg x (sym is ∙ rolls-Neg x))
      by (Expr-F.Plus x) is = absurd (no_plus x (sym is ∙ rolls-Plus x))
      by (Expr-F.Times x) is = absurd (no_times x (sym is ∙ rolls-Times x))
      by (Expr-F.Guard x y) is = absurd (no_guard x y (sym is ∙ rolls-Guard x y))
      by (Expr-F.Number n) is = same _ (seen (Expr-F.Number n) is ∙ fold-roll-Expr F (tree.Tree F) (tree.Indices F → tree.Indices F) (tree.Control F) tree_step index_step control_step (Expr-F.Number n)) refl
      by Expr-F.PlusInf is = same _ (seen Expr-F.PlusInf is ∙ fold-roll-Expr F (tree.Tree F) (tree.Indices F → tree.Indices F) (tree.Control F) tree_step index_step control_step Expr-F.PlusInf) refl
      by Expr-F.Na is = same _ (seen Expr-F.Na is ∙ fold-roll-Expr F (tree.Tree F) (tree.Indices F → tree.Indices F) (tree.Control F) tree_step index_step control_step Expr-F.Na) refl
      by Expr-F.Yes is = same _ (seen Expr-F.Yes is ∙ fold-roll-Expr F (tree.Tree F) (tree.Indices F → tree.Indices F) (tree.Control F) tree_step index_step control_step Expr-F.Yes) refl
      by Expr-F.No is = same _ (seen Expr-F.No is ∙ fold-roll-Expr F (tree.Tree F) (tree.Indices F → tree.Indices F) (tree.Control F) tree_step index_step control_step Expr-F.No) refl
      by (Expr-F.Ord place name) is = same _ (seen (Expr-F.Ord place name) is ∙ fold-roll-Expr F (tree.Tree F) (tree.Indices F → tree.Indices F) (tree.Control F) tree_step index_step control_step (Expr-F.Ord place name)) refl
      by (Expr-F.Card place name) is = same _ (seen (Expr-F.Card place name) is ∙ fold-roll-Expr F (tree.Tree F) (tree.Indices F → tree.Indices F) (tree.Control F) tree_step index_step control_step (Expr-F.Card place name)) refl
      by (Expr-F.Call place function args) is = same _ (seen (Expr-F.Call place function args) is ∙ fold-roll-Expr F (tree.Tree F) (tree.Indices F → tree.Indices F) (tree.Control F) tree_step index_step control_step (Expr-F.Call place function args)) refl
      by (Expr-F.Power parts) is = same _ (seen (Expr-F.Power parts) is ∙ fold-roll-Expr F (tree.Tree F) (tree.Indices F → tree.Indices F) (tree.Control F) tree_step index_step control_step (Expr-F.Power parts)) refl
      by (Expr-F.Relate parts) is = same _ (seen (Expr-F.Relate parts) is ∙ fold-roll-Expr F (tree.Tree F) (tree.Indices F → tree.Indices F) (tree.Control F) tree_step index_step control_step (Expr-F.Relate parts)) refl
      by (Expr-F.Not x) is = same _ (seen (Expr-F.Not x) is ∙ fold-roll-Expr F (tree.Tree F) (tree.Indices F → tree.Indices F) (tree.Control F) tree_step index_step control_step (Expr-F.Not x)) refl
      by (Expr-F.And parts) is = same _ (seen (Expr-F.And parts) is ∙ fold-roll-Expr F (tree.Tree F) (tree.Indices F → tree.Indices F) (tree.Control F) tree_step index_step control_step (Expr-F.And parts)) refl
      by (Expr-F.Or parts) is = same _ (seen (Expr-F.Or parts) is ∙ fold-roll-Expr F (tree.Tree F) (tree.Indices F → tree.Indices F) (tree.Control F) tree_step index_step control_step (Expr-F.Or parts)) refl
