-- Right sides that are a reference, or of which no set is made.
use Rattle.std.proofs.Common.{◌≡◌, ℕ, Bool, Vec, Box, refl, sym, ap, ◌∙◌}
use Rattle.std.specs.declared.alloc.Global.{Global}
use Rattle.gms_labels.specs.declared.place.Place.{Place}
use Rattle.gq_number.specs.Number.{Number}
use Rattle.gms_ast.specs.declared.expression.Index.{Index}
use Rattle.gms_ast.specs.declared.expression.Control.{Control as ControlNode}
use Rattle.gms_ast.specs.declared.expression.Expr.{Expr, Yes, No, Neg, Plus, Times, Not, Guard, out-Expr, roll-Expr, roll-out-Expr}
use Rattle.gms_ast.specs.declared.expression.Expr.TheOpen.{Expr-F}
use Rattle.gms_ast.specs.declared.expression.Expr.TheFolds.{fold-roll-Expr}
use Rattle.gms_ast.specs.declared.expression.Expr.TheVariants.{rolls-Yes, rolls-No, rolls-Neg, rolls-Plus, rolls-Times, rolls-Not, rolls-Guard}
use Rattle.gms_ast.specs.Trees as tree
use Rattle.gms_ast.specs.TreeView.{tree_step, index_step, control_step, tree_of}
use Rattle.gms_store.specs.State.{State}
use Rattle.gms_eval.specs.Bindings.{Pairs}
use Rattle.gms_eval.specs.Holds.{holds}
use Rattle.gms_exec.specs.Membership.{membership}

module _ {F : Type 0} (v : F → Number) (limit : ℕ) (state : State) (b : Pairs) where
  -- such a right side is in the set where it holds
  pub member-other : (e : Expr F) → (e ≡ Yes → ⊥) → (e ≡ No → ⊥) → ((x : Box (Expr F) Global) → e ≡ Neg x → ⊥) → ((x : Vec (Place × Bool × Expr F) Global) → e ≡ Plus x → ⊥) → ((x : Vec (Place × Bool × Expr F) Global) → e ≡ Times x → ⊥) → ((x : Box (Expr F) Global) → e ≡ Not x → ⊥) → ((x : Box (Expr F) Global) (y : Vec (Expr F) Global) → e ≡ Guard x y → ⊥) → membership v limit state b (tree_of e) ≡ holds v limit state b (tree_of e)
  member-other e no_yes no_no no_neg no_plus no_times no_not no_guard = by (out-Expr F e) (roll-out-Expr F e)
    where
      same : (t : tree.Tree F) → tree_of e ≡ t → membership v limit state b t ≡ holds v limit state b t → membership v limit state b (tree_of e) ≡ holds v limit state b (tree_of e)
      same t q p = ap (membership v limit state b) q ∙ p ∙ sym (ap (holds v limit state b) q)

      seen : (x : Expr-F F (Expr F) (Index F) (ControlNode F)) → roll-Expr F x ≡ e → tree_of e ≡ tree_of (roll-Expr F x)
      seen x is = ap tree_of (sym is)

      by : (x : Expr-F F (Expr F) (Index F) (ControlNode F)) → roll-Expr F x ≡ e → membership v limit state b (tree_of e) ≡ holds v limit state b (tree_of e)
      by Expr-F.Yes is = absurd (no_yes (sym is ∙ rolls-Yes))
      by Expr-F.No is = absurd (no_no (sym is ∙ rolls-No))
      by (Expr-F.Neg x) is = absurd (no_neg x (sym is ∙ rolls-Neg x))
      by (Expr-F.Plus x) is = absurd (no_plus x (sym is ∙ rolls-Plus x))
      by (Expr-F.Times x) is = absurd (no_times x (sym is ∙ rolls-Times x))
      by (Expr-F.Not x) is = absurd (no_not x (sym is ∙ rolls-Not x))
      by (Expr-F.Guard x y) is = absurd (no_guard x y (sym is ∙ rolls-Guard x y))
      by (Expr-F.Number n) is = same _ (seen (Expr-F.Number n) is ∙ fold-roll-Expr F (tree.Tree F) (tree.Indices F → tree.Indices F) (tree.Control F) tree_step index_step control_step (Expr-F.Number n)) refl
      by Expr-F.PlusInf is = same _ (seen Expr-F.PlusInf is ∙ fold-roll-Expr F (tree.Tree F) (tree.Indices F → tree.Indices F) (tree.Control F) tree_step index_step control_step Expr-F.PlusInf) refl
      by Expr-F.Na is = same _ (seen Expr-F.Na is ∙ fold-roll-Expr F (tree.Tree F) (tree.Indices F → tree.Indices F) (tree.Control F) tree_step index_step control_step Expr-F.Na) refl
      by (Expr-F.Ref at name suffix indices) is = same _ (seen (Expr-F.Ref at name suffix indices) is ∙ fold-roll-Expr F (tree.Tree F) (tree.Indices F → tree.Indices F) (tree.Control F) tree_step index_step control_step (Expr-F.Ref at name suffix indices)) refl
      by (Expr-F.Ord at name) is = same _ (seen (Expr-F.Ord at name) is ∙ fold-roll-Expr F (tree.Tree F) (tree.Indices F → tree.Indices F) (tree.Control F) tree_step index_step control_step (Expr-F.Ord at name)) refl
      by (Expr-F.Card at name) is = same _ (seen (Expr-F.Card at name) is ∙ fold-roll-Expr F (tree.Tree F) (tree.Indices F → tree.Indices F) (tree.Control F) tree_step index_step control_step (Expr-F.Card at name)) refl
      by (Expr-F.Call at function args) is = same _ (seen (Expr-F.Call at function args) is ∙ fold-roll-Expr F (tree.Tree F) (tree.Indices F → tree.Indices F) (tree.Control F) tree_step index_step control_step (Expr-F.Call at function args)) refl
      by (Expr-F.Fold at op control body) is = same _ (seen (Expr-F.Fold at op control body) is ∙ fold-roll-Expr F (tree.Tree F) (tree.Indices F → tree.Indices F) (tree.Control F) tree_step index_step control_step (Expr-F.Fold at op control body)) refl
      by (Expr-F.Power parts) is = same _ (seen (Expr-F.Power parts) is ∙ fold-roll-Expr F (tree.Tree F) (tree.Indices F → tree.Indices F) (tree.Control F) tree_step index_step control_step (Expr-F.Power parts)) refl
      by (Expr-F.Relate parts) is = same _ (seen (Expr-F.Relate parts) is ∙ fold-roll-Expr F (tree.Tree F) (tree.Indices F → tree.Indices F) (tree.Control F) tree_step index_step control_step (Expr-F.Relate parts)) refl
      by (Expr-F.And parts) is = same _ (seen (Expr-F.And parts) is ∙ fold-roll-Expr F (tree.Tree F) (tree.Indices F → tree.Indices F) (tree.Control F) tree_step index_step control_step (Expr-F.And parts)) refl
      by (Expr-F.Or parts) is = same _ (seen (Expr-F.Or parts) is ∙ fold-roll-Expr F (tree.Tree F) (tree.Indices F → tree.Indices F) (tree.Control F) tree_step index_step control_step (Expr-F.Or parts)) refl
