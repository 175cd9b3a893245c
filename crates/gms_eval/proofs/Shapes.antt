-- The values of leaves, the labels of indices and the domains of controls, by their parts.
use Rattle.std.proofs.Common.{◌≡◌, ℕ, true, false, List, map, Option, Some, None, Ok, Box, length, refl, sym, ap, subst, ◌∙◌}
use Rattle.std.specs.declared.alloc.Global.{Global}
use Rattle.gms_labels.specs.declared.place.Place.{Place}
use Rattle.gq_number.specs.Number.{Number}
use Rattle.gq_extended.specs.Extended.{number, plus_infinity, na}
use Rattle.gms_ast.specs.declared.expression.LagOp.{LagOp}
use Rattle.gms_ast.specs.declared.expression.FoldOp.{FoldOp}
use Rattle.gms_ast.specs.declared.expression.Expr.{Expr, Number as NumberNode, PlusInf, Na, Yes, No, Ord, Card, Fold}
use Rattle.gms_ast.specs.declared.expression.Expr.TheOpen.{Expr-F, Index-F}
use Rattle.gms_ast.specs.declared.expression.Expr.TheFolds.{fold-roll-Expr, fold-roll-Index, fold_out-Control}
use Rattle.gms_ast.specs.declared.expression.Expr.TheVariants.{rolls-Number, rolls-PlusInf, rolls-Na, rolls-Yes, rolls-No, rolls-Ord, rolls-Card}
use Rattle.gms_ast.specs.declared.expression.Index.{Label, Set}
use Rattle.gms_ast.specs.declared.expression.Index.TheVariants.{rolls-Label, rolls-Set}
use Rattle.gms_ast.specs.declared.expression.Control.{Control as ControlNode, out-Control}
use Rattle.gms_ast.specs.Trees as tree
use Rattle.gms_ast.specs.TreeView.{control_of, tree_step, index_step, control_step, tree_of, index_tree, control_tree}
use Rattle.gms_store.specs.State.{State, members_of}
use Rattle.gms_eval.specs.declared.elements.Elements.{Elements}
use Rattle.gms_eval.specs.declared.stop.ExecStopOrMemory.{ExecStopOrMemory}
use Rattle.gms_eval.specs.Nodes.{count_value, folded, truth}
use Rattle.gms_eval.specs.Bindings.{Pairs, label_of, controlled}
use Rattle.gms_eval.specs.Domain.{elements, sized, those_where}
use Rattle.gms_eval.specs.Faults.{◌and_then◌}
use Rattle.gms_eval.specs.Gives.{ShowsStop}
use Rattle.gms_eval.specs.Holds.{holds}
use Rattle.gms_eval.specs.References.{place_in_set, reached_label}
use Rattle.gms_eval.specs.Value.{value, domain, sets_of, first_label, label_answer}
use Rattle.gms_eval.specs.InnerContracts.{those_of, IsCounted}
use Rattle.gms_eval.proofs.Answering.{stops-then, then-value}
use Rattle.gms_eval.proofs.NodeValues.{of_expr, value-Fold}

-- ---- controls

sets-control_of : {F : Type 0} (sets : List ℕ) (condition : Option (Box (tree.Tree F) Global)) → sets_of (control_of sets condition) ≡ sets
sets-control_of sets None = refl
sets-control_of sets (Some condition) = refl

module _ {F : Type 0} (control : ControlNode F) where
  -- the sets of the tree of a control
  pub tree-sets : sets_of (control_tree control) ≡ (out-Control F control).sets
  tree-sets =
      rw (fold_out-Control F (tree.Tree F) (tree.Indices F → tree.Indices F) (tree.Control F) tree_step index_step control_step control) (sets-control_of _ _)

  -- a control without a condition
  tree-alone : (out-Control F control).condition ≡ None → control_tree control ≡ tree.over (out-Control F control).sets
  tree-alone e =
      rw (fold_out-Control F (tree.Tree F) (tree.Indices F → tree.Indices F) (tree.Control F) tree_step index_step control_step control, e)

  -- and one with a condition
  tree-where : (condition : Box (Expr F) Global) → (out-Control F control).condition ≡ Some condition → control_tree control ≡ tree.over_where (out-Control F control).sets (tree_of condition.value)
  tree-where condition e =
      rw (fold_out-Control F (tree.Tree F) (tree.Indices F → tree.Indices F) (tree.Control F) tree_step index_step control_step control, e)

module _ {F : Type 0} (v : F → Number) (limit : ℕ) (state : State) (b : Pairs) where
  -- ---- leaves

  pub value-Number : (n : F) → of_expr v limit state b (NumberNode n) ≡ Ok (number (v n))
  value-Number n =
      ap (of_expr v limit state b) (sym (rolls-Number n)) ∙ ap (value v limit state b) (fold-roll-Expr F (tree.Tree F) (tree.Indices F → tree.Indices F) (tree.Control F) tree_step index_step control_step (Expr-F.Number n))

  pub value-PlusInf : of_expr v limit state b PlusInf ≡ Ok plus_infinity
  value-PlusInf =
      ap (of_expr v limit state b) (sym rolls-PlusInf) ∙ ap (value v limit state b) (fold-roll-Expr F (tree.Tree F) (tree.Indices F → tree.Indices F) (tree.Control F) tree_step index_step control_step Expr-F.PlusInf)

  pub value-Na : of_expr v limit state b Na ≡ Ok na
  value-Na =
      ap (of_expr v limit state b) (sym rolls-Na) ∙ ap (value v limit state b) (fold-roll-Expr F (tree.Tree F) (tree.Indices F → tree.Indices F) (tree.Control F) tree_step index_step control_step Expr-F.Na)

  pub value-Yes : of_expr v limit state b Yes ≡ Ok (truth true)
  value-Yes =
      ap (of_expr v limit state b) (sym rolls-Yes) ∙ ap (value v limit state b) (fold-roll-Expr F (tree.Tree F) (tree.Indices F → tree.Indices F) (tree.Control F) tree_step index_step control_step Expr-F.Yes)

  pub value-No : of_expr v limit state b No ≡ Ok (truth false)
  value-No =
      ap (of_expr v limit state b) (sym rolls-No) ∙ ap (value v limit state b) (fold-roll-Expr F (tree.Tree F) (tree.Indices F → tree.Indices F) (tree.Control F) tree_step index_step control_step Expr-F.No)

  pub value-Ord : (at : Place) (set : ℕ) → of_expr v limit state b (Ord at set) ≡ count_value limit b at (place_in_set state b set)
  value-Ord at set =
      ap (of_expr v limit state b) (sym (rolls-Ord at set)) ∙ ap (value v limit state b) (fold-roll-Expr F (tree.Tree F) (tree.Indices F → tree.Indices F) (tree.Control F) tree_step index_step control_step (Expr-F.Ord at set))

  pub value-Card : (at : Place) (set : ℕ) → of_expr v limit state b (Card at set) ≡ count_value limit b at (length (members_of state set))
  value-Card at set =
      ap (of_expr v limit state b) (sym (rolls-Card at set)) ∙ ap (value v limit state b) (fold-roll-Expr F (tree.Tree F) (tree.Indices F → tree.Indices F) (tree.Control F) tree_step index_step control_step (Expr-F.Card at set))

  -- ---- indices

  pub label-Label : (n : ℕ) → label_answer v limit state b (Label n) ≡ Ok (Some n)
  label-Label n =
      ap (λ i. first_label v limit state b (index_tree {F = F} i tree.no_index)) (sym (rolls-Label n)) ∙ ap (λ f. first_label v limit state b (f tree.no_index)) (fold-roll-Index F (tree.Tree F) (tree.Indices F → tree.Indices F) (tree.Control F) tree_step index_step control_step (Index-F.Label n))

  pub label-alone : (n : ℕ) → label_answer v limit state b (Set n None) ≡ Ok (label_of b n)
  label-alone n =
      ap (λ i. first_label v limit state b (index_tree {F = F} i tree.no_index)) (sym (rolls-Set n None)) ∙ ap (λ f. first_label v limit state b (f tree.no_index)) (fold-roll-Index F (tree.Tree F) (tree.Indices F → tree.Indices F) (tree.Control F) tree_step index_step control_step (Index-F.Set n None))

  pub label-lagged : (n : ℕ) (lag : LagOp × Place × Box (Expr F) Global) → label_answer v limit state b (Set n (Some lag)) ≡ (of_expr v limit state b lag.2.value and_then λ x. reached_label state b n lag.0 lag.1 x)
  label-lagged n lag =
      ap (λ i. first_label v limit state b (index_tree {F = F} i tree.no_index)) (sym (rolls-Set n (Some lag))) ∙ ap (λ f. first_label v limit state b (f tree.no_index)) (fold-roll-Index F (tree.Tree F) (tree.Indices F → tree.Indices F) (tree.Control F) tree_step index_step control_step (Index-F.Set n (Some lag)))

  -- ---- domains

  stops-control_of : (stop : ExecStopOrMemory F) (at : Place) (sets : List ℕ) (condition : Option (Box (tree.Tree F) Global)) → ShowsStop v stop (sized at b (elements state sets)) → ShowsStop v stop (domain v limit state b at (control_of sets condition))
  stops-control_of stop at sets None s = s
  stops-control_of stop at sets (Some condition) s =
      stops-then v stop (sized at b (elements state sets)) (λ all. those_where (λ element. holds v limit state (controlled b sets element) condition.value) all) s

  module _ (at : Place) (control : ControlNode F) (sets : List ℕ) (is : sets ≡ (out-Control F control).sets) where
    -- the product of the sets is too large
    pub size-stops : (stop : ExecStopOrMemory F) → ShowsStop v stop (sized at b (elements state sets)) → ShowsStop v stop (domain v limit state b at (control_tree control))
    size-stops stop s =
        rw (fold_out-Control F (tree.Tree F) (tree.Indices F → tree.Indices F) (tree.Control F) tree_step index_step control_step control) (stops-control_of stop at (out-Control F control).sets _ (subst (λ sets. ShowsStop v stop (sized at b (elements state sets))) is s))

    -- the elements are those of the sets' product
    pub domain-alone : (out-Control F control).condition ≡ None → sized at b (elements state sets) ≡ Ok (elements state sets) → domain v limit state b at (control_tree control) ≡ Ok (elements state (out-Control F control).sets)
    domain-alone none s =
        ap (domain v limit state b at) (tree-alone control none)
        ∙ ap (λ sets. sized at b (elements state sets)) (sym is)
        ∙ s
        ∙ ap (λ sets. Ok (elements state sets)) is

    -- they are those of them for which the condition holds
    pub domain-where : (condition : Box (Expr F) Global) (e : Expr F) → (out-Control F control).condition ≡ Some condition → e ≡ condition.value → sized at b (elements state sets) ≡ Ok (elements state sets) → domain v limit state b at (control_tree control) ≡ those_where (λ element. holds v limit state (controlled b sets element) (tree_of e)) (elements state sets)
    domain-where condition e some at_e s =
        ap (domain v limit state b at) (tree-where control condition some)
        ∙ ap (λ sets. sized at b (elements state sets) and_then λ all. those_where (λ element. holds v limit state (controlled b sets element) (tree_of condition.value)) all) (sym is)
        ∙ ap (λ e. sized at b (elements state sets) and_then λ all. those_where (λ element. holds v limit state (controlled b sets element) (tree_of e)) all) (sym at_e)
        ∙ then-value (sized at b (elements state sets)) (elements state sets) (those_where (λ element. holds v limit state (controlled b sets element) (tree_of e))) s

    -- how many they are, and a fold over them
    pub counted-sets : (those : Elements) → IsCounted state (out-Control F control).sets those → IsCounted state sets those
    counted-sets those c = subst (λ sets. IsCounted state sets those) (sym is) c

    pub fold-over : (op : FoldOp) (body : Box (Expr F) Global) (e : Expr F) (those : Elements) → e ≡ body.value → domain v limit state b at (control_tree control) ≡ Ok (those_of state (out-Control F control).sets those) → of_expr v limit state b (Fold at op control body) ≡ folded limit b op at (map (λ element. (tree.plain, value v limit state (controlled b sets element) (tree_of e))) (those_of state sets those))
    fold-over op body e those at_e d =
        value-Fold v limit state b at op control body
        ∙ then-value (domain v limit state b at (control_tree control)) (those_of state (out-Control F control).sets those) (λ those. folded limit b op at (map (λ element. (tree.plain, value v limit state (controlled b (sets_of (control_tree control)) element) (tree_of body.value))) those)) d
        ∙ ap (λ sets. folded limit b op at (map (λ element. (tree.plain, value v limit state (controlled b sets element) (tree_of body.value))) (those_of state (out-Control F control).sets those))) (tree-sets control)
        ∙ ap (λ sets. folded limit b op at (map (λ element. (tree.plain, value v limit state (controlled b sets element) (tree_of body.value))) (those_of state sets those))) (sym is)
        ∙ ap (λ e. folded limit b op at (map (λ element. (tree.plain, value v limit state (controlled b sets element) (tree_of e))) (those_of state sets those))) (sym at_e)
