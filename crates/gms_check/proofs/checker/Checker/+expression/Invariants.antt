use Rattle.std.proofs.Common.{◌≡◌, ◌++◌, [], ◌∷◌, not, Bool, take}
use Rattle.std.specs.Prelude.{flat_map}
use Rattle.std.specs.List.{list_any}
use Rattle.gms_labels.specs.declared.place.Place.{Place}
use Rattle.gms_ast.specs.declared.expression.Expr.{Expr}
use Rattle.gms_ast.specs.declared.expression.RelOp.{RelOp}
use Rattle.gms_ast.specs.TreeView.{tree_of}
use Rattle.gms_check.specs.InnerChecking.{faulted, known_of, noted, seen}
use Rattle.gms_check.specs.declared.error.ErrorKind.TheVariants.{WrongKind}
use Rattle.gms_check.specs.Linearity.{has_variable}
use Rattle.gms_check.specs.InnerPartLists.{in_no_place, placed_list, signed_list}
use Rattle.gms_check.specs.Contexts.{as_condition, as_number, as_part}
use Rattle.gms_check.specs.StatementUses.{index_list}
use Rattle.gms_check.specs.Uses.{amount_uses, steps, uses}
use Rattle.gms_check.proofs.checker.Checker.+expression.Given as goal

abbrev pub invariant-expressions-loop-part : goal.invariant-expressions-loop-part
invariant-expressions-loop-part g l = record {
  noted : seen l.self ≡ noted g.F.ExactField.value (seen l.fn.self) (flat_map (λ (part : Expr _). uses l.context l.around (seen l.fn.self).controlled (tree_of part)) (take l.part-index l.parts));
  variable : l.variable ≡ list_any (λ (part : Expr _). has_variable (known_of g.F.ExactField.value (seen l.fn.self)) (tree_of part)) (take l.part-index l.parts);
}

abbrev pub invariant-amounts-loop-index : goal.invariant-amounts-loop-index
invariant-amounts-loop-index g l =
    seen l.self ≡ noted g.F.ExactField.value (seen l.fn.self) (amount_uses (seen l.fn.self).controlled (index_list (take l.index-index l.indices)))

abbrev pub invariant-sum-loop-at : goal.invariant-sum-loop-at
invariant-sum-loop-at g l = record {
  noted : seen l.self ≡ noted g.F.ExactField.value (seen l.fn.self) (flat_map (λ (part : Place × Bool × Expr _). uses (as_part l.context) part.0 (seen l.fn.self).controlled (tree_of part.2)) (take l.at-index l.parts));
  variable : l.variable ≡ list_any (λ (part : Place × Bool × Expr _). has_variable (known_of g.F.ExactField.value (seen l.fn.self)) (tree_of part.2)) (take l.at-index l.parts);
}

abbrev pub invariant-product-loop-i : goal.invariant-product-loop-i
invariant-product-loop-i g l = record {
  noted : seen l.self ≡ noted g.F.ExactField.value (seen l.fn.self) (flat_map (λ (part : Place × Bool × Expr _). uses (as_part l.context) part.0 (seen l.fn.self).controlled (tree_of part.2)) (take l.i l.parts) ++ steps l.context in_no_place (signed_list (take l.i l.parts)));
  variable : l.earlier ≡ list_any (λ (part : Place × Bool × Expr _). has_variable (known_of g.F.ExactField.value (seen l.fn.self)) (tree_of part.2)) (take l.i l.parts);
}

abbrev pub invariant-power-loop-i : goal.invariant-power-loop-i
invariant-power-loop-i g l = record {
  noted : seen l.self ≡ noted g.F.ExactField.value (seen l.fn.self) (flat_map (λ (part : Place × Expr _). uses (as_part l.context) part.0 (seen l.fn.self).controlled (tree_of part.1)) (take l.i l.parts) ++ steps l.context in_no_place (placed_list (take l.i l.parts)));
  variable : l.earlier ≡ list_any (λ (part : Place × Expr _). has_variable (known_of g.F.ExactField.value (seen l.fn.self)) (tree_of part.1)) (take l.i l.parts);
}

abbrev pub invariant-relations-loop-part : goal.invariant-relations-loop-part
invariant-relations-loop-part g l =
    seen l.self ≡ noted g.F.ExactField.value (faulted (seen l.fn.self) l.around ((not l.fn.context.numbers, WrongKind) ∷ [])) (flat_map (λ (part : RelOp × Expr _). uses as_number l.around (seen l.fn.self).controlled (tree_of part.1)) (take l.part-index l.parts))

abbrev pub invariant-choice-loop-part : goal.invariant-choice-loop-part
invariant-choice-loop-part g l =
    seen l.self ≡ noted g.F.ExactField.value (faulted (seen l.fn.self) l.around ((not l.fn.context.numbers, WrongKind) ∷ [])) (flat_map (λ (part : Bool × Expr _). uses as_condition l.around (seen l.fn.self).controlled (tree_of part.1)) (take l.part-index l.parts))
