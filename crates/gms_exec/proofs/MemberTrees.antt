-- Whether each kind of node of a right side is in the set, by whether its parts are.
use Rattle.std.proofs.Common.{◌≡◌, ℕ, ◌+◌, ◌<◌, ◌≤◌, Bool, true, false, not, List, [], ◌∷◌, map, drop, get_or, length, Vec, Box, Ok, Err, if◌then◌else◌, refl, sym, ap, ◌∙◌}
use Rattle.std.proofs.lemmas.List.{at_drop_more, at_drop_all}
use Rattle.std.specs.declared.alloc.Global.{Global}
use Rattle.gms_labels.specs.declared.place.Place.{Place}
use Rattle.gq_number.specs.Number.{Number}
use Rattle.gms_ast.specs.declared.expression.Expr.{Expr, Yes, No, Neg, Plus, Times, Not, Guard}
use Rattle.gms_ast.specs.declared.expression.Expr.TheOpen.{Expr-F}
use Rattle.gms_ast.specs.declared.expression.Expr.TheFolds.{fold-roll-Expr}
use Rattle.gms_ast.specs.declared.expression.Expr.TheVariants.{rolls-Yes, rolls-No}
use Rattle.gms_ast.specs.Trees as tree
use Rattle.gms_ast.specs.TreeView.{parts_of, tree_step, index_step, control_step, tree_of}
use Rattle.gms_ast.proofs.TreeEquations.{tree_of-Neg, tree_of-Plus, tree_of-Times, tree_of-Not, tree_of-Guard}
use Rattle.gms_store.specs.State.{State}
use Rattle.gms_eval.specs.declared.stop.ExecStopOrMemory.{ExecStopOrMemory}
use Rattle.gms_eval.specs.declared.stop.ExecStopOrMemory.TheVariants.{Memory, Fault as Stop}
use Rattle.gms_eval.specs.Nodes.{each_holds}
use Rattle.gms_eval.specs.Bindings.{Pairs}
use Rattle.gms_eval.specs.Faults.{Answer, Fault, ◌and_then◌}
use Rattle.gms_eval.specs.Gives.{fault_of, ShowsStop}
use Rattle.gms_eval.proofs.NodeValues.{of_expr}
use Rattle.gms_eval.proofs.TreeValues.{unmarked-parts_of}
use Rattle.gms_exec.specs.Membership.{MembershipJoin, membership, memberships, joined_membership, in_sum, in_product}

module _ {F : Type 0} (v : F → Number) (limit : ℕ) (state : State) (b : Pairs) where
  -- whether an expression is in the set
  abbrev pub member_expr : Expr F → Answer Bool
  member_expr e = membership v limit state b (tree_of e)

  -- whether a part is
  abbrev pub member_part : Place × Bool × Expr F → Answer Bool
  member_part p = member_expr p.2

  memberships-parts_of : {X : Type 0} (mark : X → tree.Mark) (part_tree : X → tree.Tree F) (xs : List X) → memberships v limit state b (parts_of (map (λ x. (mark x, part_tree x)) xs)) ≡ map (λ x. (mark x, membership v limit state b (part_tree x))) xs
  memberships-parts_of mark part_tree [] = refl
  memberships-parts_of mark part_tree (x ∷ xs) =
      ap (λ parts. (mark x, membership v limit state b (part_tree x)) ∷ parts) (memberships-parts_of mark part_tree xs)

  pub member-Yes : member_expr Yes ≡ Ok true
  member-Yes =
      ap member_expr (sym rolls-Yes) ∙ ap (membership v limit state b) (fold-roll-Expr F (tree.Tree F) (tree.Indices F → tree.Indices F) (tree.Control F) tree_step index_step control_step Expr-F.Yes)

  pub member-No : member_expr No ≡ Ok false
  member-No =
      ap member_expr (sym rolls-No) ∙ ap (membership v limit state b) (fold-roll-Expr F (tree.Tree F) (tree.Indices F → tree.Indices F) (tree.Control F) tree_step index_step control_step Expr-F.No)

  pub member-Neg : (operand : Box (Expr F) Global) → member_expr (Neg operand) ≡ member_expr operand.value
  member-Neg operand = ap (membership v limit state b) (tree_of-Neg operand)

  pub member-Not : (operand : Box (Expr F) Global) → member_expr (Not operand) ≡ (member_expr operand.value and_then λ x. Ok (not x))
  member-Not operand = ap (membership v limit state b) (tree_of-Not operand)

  pub member-Plus : (parts : Vec (Place × Bool × Expr F) Global) → member_expr (Plus parts) ≡ joined_membership in_sum false (map (λ p. (tree.signed p.0 p.1, member_expr p.2)) parts.items)
  member-Plus parts =
      ap (membership v limit state b) (tree_of-Plus parts)
      ∙ ap (joined_membership in_sum false) (memberships-parts_of (λ (p : Place × Bool × Expr F). tree.signed p.0 p.1) (λ p. tree_of p.2) parts.items)

  pub member-Times : (parts : Vec (Place × Bool × Expr F) Global) → member_expr (Times parts) ≡ joined_membership in_product true (map (λ p. (tree.signed p.0 p.1, member_expr p.2)) parts.items)
  member-Times parts =
      ap (membership v limit state b) (tree_of-Times parts)
      ∙ ap (joined_membership in_product true) (memberships-parts_of (λ (p : Place × Bool × Expr F). tree.signed p.0 p.1) (λ p. tree_of p.2) parts.items)

  pub member-Guard : (operand : Box (Expr F) Global) (guards : Vec (Expr F) Global) → member_expr (Guard operand guards) ≡ (each_holds (map (of_expr v limit state b) guards.items) and_then λ hold. if hold then member_expr operand.value else Ok false)
  member-Guard operand guards =
      ap (membership v limit state b) (tree_of-Guard operand guards)
      ∙ ap (λ answers. each_holds answers and_then λ hold. if hold then member_expr operand.value else Ok false) (unmarked-parts_of v limit state b (λ _. tree.plain) tree_of guards.items)

-- ---- parts joined in sequence

-- an operand whose guards hold is evaluated
pub guarded-so : (a : Answer Bool) (hold : Bool) (x : Answer Bool) → a ≡ Ok hold → hold ≡ true → (a and_then λ h. if h then x else Ok false) ≡ x
guarded-so a hold x e so =
    ap (λ b. b and_then λ h. if h then x else Ok false) e ∙ ap (λ h. if h then x else Ok false) so

-- another is not
pub guarded-not : (a : Answer Bool) (hold : Bool) (x : Answer Bool) → a ≡ Ok hold → hold ≡ false → (a and_then λ h. if h then x else Ok false) ≡ Ok false
guarded-not a hold x e so =
    ap (λ b. b and_then λ h. if h then x else Ok false) e ∙ ap (λ h. if h then x else Ok false) so

module _ {X : Type 0} (join : MembershipJoin) (mark : X → tree.Mark) (answer : X → Answer Bool) where
  -- the parts from here on, joined to the result so far
  abbrev pub joined_on : Bool → List X → Answer Bool
  joined_on so_far xs = joined_membership join so_far (map (λ x. (mark x, answer x)) xs)

  next_part : (so_far : Bool) (xs : List X) (i : ℕ) (x : X) → i < length xs → x ≡ get_or xs i x → joined_on so_far (drop i xs) ≡ joined_on so_far (x ∷ drop (i + 1) xs)
  next_part so_far xs i x l at =
      at_drop_more (joined_on so_far) xs i x l ∙ ap (λ z. joined_on so_far (z ∷ drop (i + 1) xs)) (sym at)

  -- one more part is joined
  pub joined_on-more : (so_far : Bool) (xs : List X) (i : ℕ) (x : X) (y z : Bool) → i < length xs → x ≡ get_or xs i x → answer x ≡ Ok y → z ≡ join (mark x) so_far y → joined_on so_far (drop i xs) ≡ joined_on z (drop (i + 1) xs)
  joined_on-more so_far xs i x y z l at e is =
      next_part so_far xs i x l at
      ∙ ap (λ a. a and_then λ x'. joined_on (join (mark x) so_far x') (drop (i + 1) xs)) e
      ∙ ap (λ s. joined_on s (drop (i + 1) xs)) (sym is)

  -- one more part is a fault
  joined_on-fault : (so_far : Bool) (xs : List X) (i : ℕ) (x : X) (fault : Fault) → i < length xs → x ≡ get_or xs i x → answer x ≡ Err fault → joined_on so_far (drop i xs) ≡ Err fault
  joined_on-fault so_far xs i x fault l at e =
      next_part so_far xs i x l at ∙ ap (λ a. a and_then λ x'. joined_on (join (mark x) so_far x') (drop (i + 1) xs)) e

  -- no part is left
  pub joined_on-end : (whole : Answer Bool) (so_far : Bool) (xs : List X) (i : ℕ) → whole ≡ joined_on so_far (drop i xs) → length xs ≤ i → whole ≡ Ok so_far
  joined_on-end whole so_far xs i so all = so ∙ at_drop_all (joined_on so_far) xs i all

  -- the stop of a part
  pub joined_on-stops : {F : Type 0} (v : F → Number) (stop : ExecStopOrMemory F) (whole : Answer Bool) (so_far : Bool) (xs : List X) (i : ℕ) (x : X) → whole ≡ joined_on so_far (drop i xs) → i < length xs → x ≡ get_or xs i x → ShowsStop v stop (answer x) → ShowsStop v stop whole
  joined_on-stops v Memory whole so_far xs i x so l at s = tt
  joined_on-stops v (Stop stop) whole so_far xs i x so l at s = so ∙ joined_on-fault so_far xs i x (fault_of v stop) l at s
