use Rattle.std.proofs.Common.{◌≡◌, ◌∙◌, ◌||◌, ◌++◌, ◌∷◌, [], ◌&&◌, not, ap, sym, refl, Bool, List, ℕ, length, map, take, if◌then◌else◌, subst, rules}
use Rattle.std.specs.Prelude.{flat_map, IfOk, OnOk}
use Rattle.std.specs.List.{list_any}
use Rattle.std.proofs.lemmas.List.{take_all}
use denote.Param.Weighed.{most}
use Rattle.gms_labels.specs.declared.place.Place.{Place}
use Rattle.gms_ast.specs.declared.expression.Expr.{Expr, Ref, size-Expr}
use Rattle.gms_ast.specs.declared.expression.Control.{out-Control}
use Rattle.gms_ast.specs.declared.expression.RelOp.{RelOp}
use Rattle.gms_ast.specs.Trees.{Control, fold_over, reference, plain, placed, signed, related, chosen}
use Rattle.gms_ast.specs.declared.expression.Index.{Index, Set, size-Index}
use Rattle.gms_ast.specs.Trees.{Tree}
use Rattle.gms_ast.specs.TreeView.{tree_of, control_tree}
use Rattle.gms_check.specs.StatementUses.{index_list}
use Rattle.gms_ast.proofs.TreeEquations.{tree_of-Ref, tree_of-Call, tree_of-Fold, tree_of-Guard, tree_of-And, tree_of-Plus, tree_of-Times, tree_of-Power, tree_of-Relate, tree_of-Or}
use Rattle.gms_check.specs.InnerChecking.{Checking, faulted, known_of, noted, seen, with_controlled, with_sets}
use Rattle.gms_check.specs.Linearity.{has_variable, have_variable, is_sum}
use Rattle.gms_check.specs.InnerPartLists.{chosen_list, in_no_place, placed_list, plain_list, related_list, signed_list}
use Rattle.gms_check.specs.declared.contexts.Context.{Context}
use Rattle.gms_check.specs.declared.expression.Operation.TheVariants.{Multiplies, Divides}
use Rattle.gms_check.specs.declared.error.ErrorKind.{ErrorKind}
use Rattle.gms_check.specs.declared.error.ErrorKind.TheVariants.{WrongKind, Nonlinear, Function}
use Rattle.gms_check.specs.Kinds.{part_count, takes_arguments}
use Rattle.gms_check.specs.Past.{Known}
use Rattle.gms_check.specs.Contexts.{as_condition, as_guarded, as_inner, as_number, as_part}
use Rattle.gms_check.specs.Uses.{Uses, amount_uses, calling, control_uses, controlling, folding, logic, part_uses, reading, sets_of_control, steps, uses}
use Rattle.gms_check.proofs.ControlTrees.{tree-where}
use Rattle.gms_check.proofs.Depths.{indices-fall, indices-less_deep}
use Rattle.gms_check.proofs.FoldSteps.{noted-body, noted-fold}
use Rattle.gms_check.proofs.LagAmounts.{amounts-alone, amounts-label, amounts-lagged}
use Rattle.gms_check.proofs.Noting.{and-false, and-true, chain-2, noted-around, noted-by, noted-more, noted-none, noted-then, not-not, turned}
use Rattle.gms_check.proofs.PartUses.{any-more, any-parts, all-anywhere, count-parts, uses-anywhere, uses-parts}
use Rattle.gms_check.proofs.ProductSteps.{before-mapped, step-raised, step-signed, turn-first, turn-more}
use Rattle.gms_check.proofs.checker.Checker.+expression.Goals as goal
use Rattle.gms_check.proofs.checker.Checker.+expression.Goals.{amounts-in-Set+in-Some+in_ok-_variable, amounts-in_default, amounts-in_default-via-in-Label-1, amounts-in_default-via-in-Set+in-None-1, call-then-context, call-else-context, power-then-i-gt0, power-else-i-gt0, product-then-i-gt0, product-then-divides, product-else-divides, product-else-i-gt0}

pub expressions-loop-part-preserved : goal.expressions-loop-part-preserved
expressions-loop-part-preserved g t c =
    let value = g.F.ExactField.value in
    let s = seen c.args.self.now in
    let now = seen c.loop-part.self in
    let part = c.part-item.result in
    let invariant = c.loop-part.invariant in
    let controlled : now.controlled ≡ s.controlled = ap (λ (u : Checking). u.controlled) invariant.noted in
    let known : known_of value now ≡ known_of value s = ap (λ (u : Checking). known_of value u) invariant.noted in
    record {
      noted = noted-more value (λ (part : Expr _). uses c.args.context c.args.around s.controlled (tree_of part)) c.args.parts.now c.loop-part.part-index part s now _ c.loop-part-test.true c.part-item.is invariant.noted (c.in_ok-variable.ensures.noted ∙ ap (λ (sets : List ℕ). noted value now (uses c.args.context c.args.around sets (tree_of part))) controlled);
      variable = ap (λ b. b || c.in_ok-variable.field-0) invariant.variable ∙ ap (λ b. list_any (λ (part : Expr _). has_variable (known_of value s) (tree_of part)) (take c.loop-part.part-index c.args.parts.now) || b) (c.in_ok-variable.ensures.variable ∙ ap (λ (k : Known _). has_variable k (tree_of part)) known) ∙ sym (any-more (λ (part : Expr _). has_variable (known_of value s) (tree_of part)) c.args.parts.now c.loop-part.part-index part c.loop-part-test.true c.part-item.is);
    }

pub sum-loop-at-preserved : goal.sum-loop-at-preserved
sum-loop-at-preserved g t c =
    let value = g.F.ExactField.value in
    let s = seen c.args.self.now in
    let now = seen c.loop-at.self in
    let part = c.loop-at-item.result in
    let invariant = c.loop-at.invariant in
    let controlled : now.controlled ≡ s.controlled = ap (λ (u : Checking). u.controlled) invariant.noted in
    let known : known_of value now ≡ known_of value s = ap (λ (u : Checking). known_of value u) invariant.noted in
    record {
      noted = noted-more value (λ (part : Place × Bool × Expr _). uses (as_part c.args.context) part.0 s.controlled (tree_of part.2)) c.args.parts.now c.loop-at.at-index part s now _ c.loop-at-test.true c.loop-at-item.is invariant.noted (c.in_ok-variable.ensures.noted ∙ ap (λ (context : Context). noted value now (uses context part.0 now.controlled (tree_of part.2))) c.part.ensures ∙ ap (λ (sets : List ℕ). noted value now (uses (as_part c.args.context) part.0 sets (tree_of part.2))) controlled);
      variable = ap (λ b. b || c.in_ok-variable.field-0) invariant.variable ∙ ap (λ b. list_any (λ (part : Place × Bool × Expr _). has_variable (known_of value s) (tree_of part.2)) (take c.loop-at.at-index c.args.parts.now) || b) (c.in_ok-variable.ensures.variable ∙ ap (λ (k : Known _). has_variable k (tree_of part.2)) known) ∙ sym (any-more (λ (part : Place × Bool × Expr _). has_variable (known_of value s) (tree_of part.2)) c.args.parts.now c.loop-at.at-index part c.loop-at-test.true c.loop-at-item.is);
    }

pub relations-loop-part-init : goal.relations-loop-part-init
relations-loop-part-init g t c =
    c.require.ensures ∙ noted-none g.F.ExactField.value (faulted (seen c.args.self.now) c.args.around ((not c.args.context.numbers, WrongKind) ∷ []))

pub relations-loop-part-preserved : goal.relations-loop-part-preserved
relations-loop-part-preserved g t c =
    let value = g.F.ExactField.value in
    let s = faulted (seen c.args.self.now) c.args.around ((not c.args.context.numbers, WrongKind) ∷ []) in
    let now = seen c.loop-part.self in
    let part = c.loop-part-item.result in
    let invariant = c.loop-part.invariant in
    let controlled : now.controlled ≡ s.controlled = ap (λ (u : Checking). u.controlled) invariant in
    noted-more value (λ (part : RelOp × Expr _). uses as_number c.args.around s.controlled (tree_of part.1)) c.args.parts.now c.loop-part.part-index part s now _ c.loop-part-test.true c.loop-part-item.is invariant (c.in_ok-_variable.ensures.noted ∙ ap (λ (sets : List ℕ). noted value now (uses as_number c.args.around sets (tree_of part.1))) controlled)

pub choice-loop-part-init : goal.choice-loop-part-init
choice-loop-part-init g t c =
    c.require.ensures ∙ noted-none g.F.ExactField.value (faulted (seen c.args.self.now) c.args.around ((not c.args.context.numbers, WrongKind) ∷ []))

pub choice-loop-part-preserved : goal.choice-loop-part-preserved
choice-loop-part-preserved g t c =
    let value = g.F.ExactField.value in
    let s = faulted (seen c.args.self.now) c.args.around ((not c.args.context.numbers, WrongKind) ∷ []) in
    let now = seen c.loop-part.self in
    let part = c.loop-part-item.result in
    let invariant = c.loop-part.invariant in
    let controlled : now.controlled ≡ s.controlled = ap (λ (u : Checking). u.controlled) invariant in
    noted-more value (λ (part : Bool × Expr _). uses as_condition c.args.around s.controlled (tree_of part.1)) c.args.parts.now c.loop-part.part-index part s now _ c.loop-part-test.true c.loop-part-item.is invariant (c.in_ok-_variable.ensures.noted ∙ ap (λ (sets : List ℕ). noted value now (uses as_condition c.args.around sets (tree_of part.1))) controlled)

pub expressions-returns-clause-noted : goal.expressions-returns-clause-noted
expressions-returns-clause-noted g t c =
    let value = g.F.ExactField.value in
    let s = seen c.args.self.now in
    c.loop-part.invariant.noted ∙ ap (λ (parts : List (Expr _)). noted value s (flat_map (λ (part : Expr _). uses c.args.context c.args.around s.controlled (tree_of part)) parts)) (take_all c.loop-part.part-index c.args.parts.now c.loop-part-test.false) ∙ ap (noted value s) (sym (uses-parts (λ (part : Expr _). plain) (λ (part : Expr _). tree_of part) c.args.context c.args.around s.controlled c.args.parts.now))

pub expressions-returns-clause-variable : goal.expressions-returns-clause-variable
expressions-returns-clause-variable g t c =
    let value = g.F.ExactField.value in
    let s = seen c.args.self.now in
    c.loop-part.invariant.variable ∙ ap (list_any (λ (part : Expr _). has_variable (known_of value s) (tree_of part))) (take_all c.loop-part.part-index c.args.parts.now c.loop-part-test.false) ∙ sym (any-parts (λ (part : Expr _). plain) (λ (part : Expr _). tree_of part) (known_of value s) c.args.parts.now)

pub sum-returns-clause-noted : goal.sum-returns-clause-noted
sum-returns-clause-noted g t c =
    let value = g.F.ExactField.value in
    let s = seen c.args.self.now in
    c.loop-at.invariant.noted ∙ ap (λ (parts : List (Place × Bool × Expr _)). noted value s (flat_map (λ (part : Place × Bool × Expr _). uses (as_part c.args.context) part.0 s.controlled (tree_of part.2)) parts)) (take_all c.loop-at.at-index c.args.parts.now c.loop-at-test.false) ∙ ap (noted value s) (sym (uses-parts (λ (part : Place × Bool × Expr _). signed part.0 part.1) (λ (part : Place × Bool × Expr _). tree_of part.2) (as_part c.args.context) in_no_place s.controlled c.args.parts.now))

pub sum-returns-clause-variable : goal.sum-returns-clause-variable
sum-returns-clause-variable g t c =
    let value = g.F.ExactField.value in
    let s = seen c.args.self.now in
    c.loop-at.invariant.variable ∙ ap (list_any (λ (part : Place × Bool × Expr _). has_variable (known_of value s) (tree_of part.2))) (take_all c.loop-at.at-index c.args.parts.now c.loop-at-test.false) ∙ sym (any-parts (λ (part : Place × Bool × Expr _). signed part.0 part.1) (λ (part : Place × Bool × Expr _). tree_of part.2) (known_of value s) c.args.parts.now)

pub relations-returns-clause-noted : goal.relations-returns-clause-noted
relations-returns-clause-noted g t c =
    let value = g.F.ExactField.value in
    let s = seen c.args.self.now in
    let around = c.args.around in
    let context = c.args.context in
    let begun = faulted s around ((not context.numbers, WrongKind) ∷ []) in
    noted-then value s begun _ ((around, logic context) ∷ []) (part_uses as_number around s.controlled (related_list c.args.parts.now)) (noted-by value s begun around (logic context) ((not context.numbers, WrongKind) ∷ []) refl refl)
    (c.loop-part.invariant ∙ ap (λ (parts : List (RelOp × Expr _)). noted value begun (flat_map (λ (part : RelOp × Expr _). uses as_number around s.controlled (tree_of part.1)) parts)) (take_all c.loop-part.part-index c.args.parts.now c.loop-part-test.false) ∙ ap (noted value begun) (sym (uses-parts (λ (part : RelOp × Expr _). related part.0) (λ (part : RelOp × Expr _). tree_of part.1) as_number around s.controlled c.args.parts.now)))

pub choice-returns-clause-noted : goal.choice-returns-clause-noted
choice-returns-clause-noted g t c =
    let value = g.F.ExactField.value in
    let s = seen c.args.self.now in
    let around = c.args.around in
    let context = c.args.context in
    let begun = faulted s around ((not context.numbers, WrongKind) ∷ []) in
    noted-then value s begun _ ((around, logic context) ∷ []) (part_uses as_condition around s.controlled (chosen_list c.args.parts.now)) (noted-by value s begun around (logic context) ((not context.numbers, WrongKind) ∷ []) refl refl)
    (c.loop-part.invariant ∙ ap (λ (parts : List (Bool × Expr _)). noted value begun (flat_map (λ (part : Bool × Expr _). uses as_condition around s.controlled (tree_of part.1)) parts)) (take_all c.loop-part.part-index c.args.parts.now c.loop-part-test.false) ∙ ap (noted value begun) (sym (uses-parts (λ (part : Bool × Expr _). chosen part.0) (λ (part : Bool × Expr _). tree_of part.1) as_condition around s.controlled c.args.parts.now)))

pub product-returns-clause-noted : goal.product-returns-clause-noted
product-returns-clause-noted g t c =
    let value = g.F.ExactField.value in
    let s = seen c.args.self.now in
    c.loop-i.invariant.noted ∙ ap (λ (parts : List (Place × Bool × Expr _)). noted value s (flat_map (λ (part : Place × Bool × Expr _). uses (as_part c.args.context) part.0 s.controlled (tree_of part.2)) parts ++ steps c.args.context in_no_place (signed_list parts))) (take_all c.loop-i.i c.args.parts.now c.loop-i-test.false) ∙ ap (λ (parts : Uses _). noted value s (parts ++ steps c.args.context in_no_place (signed_list c.args.parts.now))) (sym (uses-parts (λ (part : Place × Bool × Expr _). signed part.0 part.1) (λ (part : Place × Bool × Expr _). tree_of part.2) (as_part c.args.context) in_no_place s.controlled c.args.parts.now))

pub product-returns-clause-variable : goal.product-returns-clause-variable
product-returns-clause-variable g t c =
    let value = g.F.ExactField.value in
    let s = seen c.args.self.now in
    c.loop-i.invariant.variable ∙ ap (list_any (λ (part : Place × Bool × Expr _). has_variable (known_of value s) (tree_of part.2))) (take_all c.loop-i.i c.args.parts.now c.loop-i-test.false) ∙ sym (any-parts (λ (part : Place × Bool × Expr _). signed part.0 part.1) (λ (part : Place × Bool × Expr _). tree_of part.2) (known_of value s) c.args.parts.now)

pub power-returns-clause-noted : goal.power-returns-clause-noted
power-returns-clause-noted g t c =
    let value = g.F.ExactField.value in
    let s = seen c.args.self.now in
    c.loop-i.invariant.noted ∙ ap (λ (parts : List (Place × Expr _)). noted value s (flat_map (λ (part : Place × Expr _). uses (as_part c.args.context) part.0 s.controlled (tree_of part.1)) parts ++ steps c.args.context in_no_place (placed_list parts))) (take_all c.loop-i.i c.args.parts.now c.loop-i-test.false) ∙ ap (λ (parts : Uses _). noted value s (parts ++ steps c.args.context in_no_place (placed_list c.args.parts.now))) (sym (uses-parts (λ (part : Place × Expr _). placed part.0) (λ (part : Place × Expr _). tree_of part.1) (as_part c.args.context) in_no_place s.controlled c.args.parts.now))

pub power-returns-clause-variable : goal.power-returns-clause-variable
power-returns-clause-variable g t c =
    let value = g.F.ExactField.value in
    let s = seen c.args.self.now in
    c.loop-i.invariant.variable ∙ ap (list_any (λ (part : Place × Expr _). has_variable (known_of value s) (tree_of part.1))) (take_all c.loop-i.i c.args.parts.now c.loop-i-test.false) ∙ sym (any-parts (λ (part : Place × Expr _). placed part.0) (λ (part : Place × Expr _). tree_of part.1) (known_of value s) c.args.parts.now)

pub expression-returns-in-Plus-clause-noted : goal.expression-returns-in-Plus-clause-noted
expression-returns-in-Plus-clause-noted g t c =
    rw (c.in-Plus.is, tree_of-Plus c.in-Plus.parts, uses-anywhere (λ (part : Place × Bool × Expr _). signed part.0 part.1) (λ (part : Place × Bool × Expr _). tree_of part.2) c.args.around in_no_place (λ part. refl) (as_part c.args.context) (seen c.args.self.now).controlled c.in-Plus.parts.items, ← c.deref-in-Plus.ensures.value) c.sum.ensures.noted

pub expression-returns-in-Plus-clause-variable : goal.expression-returns-in-Plus-clause-variable
expression-returns-in-Plus-clause-variable g t c =
    rw (c.in-Plus.is, tree_of-Plus c.in-Plus.parts, ← c.deref-in-Plus.ensures.value) c.sum.ensures.variable

pub expression-returns-in-Times-clause-noted : goal.expression-returns-in-Times-clause-noted
expression-returns-in-Times-clause-noted g t c =
    rw (c.in-Times.is, tree_of-Times c.in-Times.parts, all-anywhere (λ (part : Place × Bool × Expr _). signed part.0 part.1) (λ (part : Place × Bool × Expr _). tree_of part.2) c.args.around in_no_place (λ part. refl) c.args.context (seen c.args.self.now).controlled c.in-Times.parts.items, ← c.deref-in-Times.ensures.value) c.product.ensures.noted

pub expression-returns-in-Times-clause-variable : goal.expression-returns-in-Times-clause-variable
expression-returns-in-Times-clause-variable g t c =
    rw (c.in-Times.is, tree_of-Times c.in-Times.parts, ← c.deref-in-Times.ensures.value) c.product.ensures.variable

pub expression-returns-in-Power-clause-noted : goal.expression-returns-in-Power-clause-noted
expression-returns-in-Power-clause-noted g t c =
    rw (c.in-Power.is, tree_of-Power c.in-Power.parts, all-anywhere (λ (part : Place × Expr _). placed part.0) (λ (part : Place × Expr _). tree_of part.1) c.args.around in_no_place (λ part. refl) c.args.context (seen c.args.self.now).controlled c.in-Power.parts.items, ← c.deref-in-Power.ensures.value) c.power.ensures.noted

pub expression-returns-in-Power-clause-variable : goal.expression-returns-in-Power-clause-variable
expression-returns-in-Power-clause-variable g t c =
    rw (c.in-Power.is, tree_of-Power c.in-Power.parts, ← c.deref-in-Power.ensures.value) c.power.ensures.variable

pub expression-returns-in-Call-clause-noted : goal.expression-returns-in-Call-clause-noted
expression-returns-in-Call-clause-noted g t c =
    rw (c.in-Call.is, tree_of-Call c.in-Call.at c.in-Call.function c.in-Call.args, ← c.deref-in-Call.ensures.value) c.call.ensures.noted

pub expression-returns-in-Call-clause-variable : goal.expression-returns-in-Call-clause-variable
expression-returns-in-Call-clause-variable g t c =
    rw (c.in-Call.is, tree_of-Call c.in-Call.at c.in-Call.function c.in-Call.args, ← c.deref-in-Call.ensures.value) c.call.ensures.variable

pub expression-returns-in-Relate-clause-noted : goal.expression-returns-in-Relate-clause-noted
expression-returns-in-Relate-clause-noted g t c =
    rw (c.in-Relate.is, tree_of-Relate c.in-Relate.parts, ← c.deref-in-Relate.ensures.value) c.relations.ensures.noted

pub expression-returns-in-Relate-clause-variable : goal.expression-returns-in-Relate-clause-variable
expression-returns-in-Relate-clause-variable g t c = rw (c.in-Relate.is, tree_of-Relate c.in-Relate.parts) c.relations.ensures.variable

pub expression-returns-in-And-clause-noted : goal.expression-returns-in-And-clause-noted
expression-returns-in-And-clause-noted g t c =
    rw (c.in-And.is, tree_of-And c.in-And.parts, ← c.deref-in-And.ensures.value) c.all_of.ensures.noted

pub expression-returns-in-And-clause-variable : goal.expression-returns-in-And-clause-variable
expression-returns-in-And-clause-variable g t c = rw (c.in-And.is, tree_of-And c.in-And.parts) c.all_of.ensures.variable

pub expression-returns-in-Or-clause-noted : goal.expression-returns-in-Or-clause-noted
expression-returns-in-Or-clause-noted g t c =
    rw (c.in-Or.is, tree_of-Or c.in-Or.parts, ← c.deref-in-Or.ensures.value) c.choice.ensures.noted

pub expression-returns-in-Or-clause-variable : goal.expression-returns-in-Or-clause-variable
expression-returns-in-Or-clause-variable g t c = rw (c.in-Or.is, tree_of-Or c.in-Or.parts) c.choice.ensures.variable

pub expression-returns-in_ok-_guards-in-Guard-clause-noted : goal.expression-returns-in_ok-_guards-in-Guard-clause-noted
expression-returns-in_ok-_guards-in-Guard-clause-noted g t c =
    let value = g.F.ExactField.value in
    let s = seen c.args.self.now in
    let around = c.args.around in
    let context = c.args.context in
    let after = seen c.expression-in-Guard.new.self in
    let operand = c.in-Guard.operand.value in
    let first : seen c.expression-in-Guard.new.self ≡ noted value s (uses (as_guarded context) around s.controlled (tree_of operand)) = c.in_ok-variable-in-Guard.ensures.noted ∙ ap (λ (st : Context). noted value s (uses st around s.controlled (tree_of c.deref-in-Guard.result.now))) c.guarded.ensures ∙ ap (λ (e : Expr _). noted value s (uses (as_guarded context) around s.controlled (tree_of e))) c.deref-in-Guard.ensures in
    let controlled : after.controlled ≡ s.controlled = ap (λ (u : Checking). u.controlled) first in
    noted-then value s after _ (uses (as_guarded context) around s.controlled (tree_of operand)) (part_uses as_condition around s.controlled (plain_list c.in-Guard.guards.items)) first
    (c.in_ok-_guards-in-Guard.ensures.noted ∙ ap (λ (sets : List ℕ). noted value after (part_uses as_condition around sets (plain_list c.deref-in-Guard-2.result.now))) controlled ∙ ap (λ (parts : List (Expr _)). noted value after (part_uses as_condition around s.controlled (plain_list parts))) c.deref-in-Guard-2.ensures.value)
    ∙ ap (λ (tree : Tree _). noted value s (uses context around s.controlled tree)) (sym (ap tree_of c.in-Guard.is ∙ tree_of-Guard c.in-Guard.operand c.in-Guard.guards))

pub expression-returns-in-Ref-clause-noted : goal.expression-returns-in-Ref-clause-noted
expression-returns-in-Ref-clause-noted g t c =
    let value = g.F.ExactField.value in
    let s = seen c.args.self.now in
    let context = c.args.context in
    let around = c.args.around in
    let r = c.in-Ref in
    let xs = index_list c.deref.result.now in
    let whole : noted value s ((r.at, reading context s.controlled r.name r.suffix xs) ∷ amount_uses s.controlled xs) ≡ noted value s (uses context around s.controlled (tree_of c.args.e.now)) =
    ap (λ (indices : List (Index _)). noted value s (uses context around s.controlled (reference r.at r.name r.suffix (index_list indices)))) c.deref.ensures.value
    ∙ ap (λ (tree : Tree _). noted value s (uses context around s.controlled tree)) (sym (ap tree_of r.is ∙ tree_of-Ref r.at r.name r.suffix r.indices)) in
    subst (λ (after : Checking). OnOk c.referred.result (seen c.referred.new.self ≡ after)) whole c.referred.ensures.noted

pub expression-returns-in-Ref-clause-variable : goal.expression-returns-in-Ref-clause-variable
expression-returns-in-Ref-clause-variable g t c =
    rw (c.in-Ref.is, tree_of-Ref c.in-Ref.at c.in-Ref.name c.in-Ref.suffix c.in-Ref.indices) c.referred.ensures.variable

pub referred-returns-clause-noted : goal.referred-returns-clause-noted
referred-returns-clause-noted g t c =
    let value = g.F.ExactField.value in
    let s = seen c.args.self.now in
    let after = seen c.reference.new.self in
    let xs = index_list c.args.indices.now in
    let read = (c.args.at, reading c.args.context s.controlled c.args.name c.args.suffix xs) ∷ [] in
    let controlled : after.controlled ≡ s.controlled = ap (λ (u : Checking). u.controlled) c.in_ok-variable.ensures.noted in
    noted-then value s after _ read (amount_uses s.controlled xs) c.in_ok-variable.ensures.noted (c.in_ok-amounts.ensures ∙ ap (λ (sets : List ℕ). noted value after (amount_uses sets xs)) controlled)

pub all_of-returns-clause-noted : goal.all_of-returns-clause-noted
all_of-returns-clause-noted g t c =
    let value = g.F.ExactField.value in
    let s = seen c.args.self.now in
    let around = c.args.around in
    let context = c.args.context in
    let after = seen c.require.new.self in
    let first : seen c.require.new.self ≡ noted value s ((around, logic context) ∷ []) = noted-by value s after around (logic context) ((not context.numbers, WrongKind) ∷ []) refl c.require.ensures in
    let controlled : after.controlled ≡ s.controlled = ap (λ (u : Checking). u.controlled) first in
    noted-then value s after _ ((around, logic context) ∷ []) (part_uses as_condition around s.controlled (plain_list c.args.parts.now)) first (c.in_ok-_parts.ensures.noted ∙ ap (λ (sets : List ℕ). noted value after (part_uses as_condition around sets (plain_list c.args.parts.now))) controlled)

pub call-returns-clause-noted : goal.call-returns-clause-noted
call-returns-clause-noted g t c =
    let value = g.F.ExactField.value in
    let s = seen c.args.self.now in
    let at = c.args.at in
    let context = c.args.context in
    let parts = plain_list c.args.args.now in
    let before = seen c.require-2.new.self in
    let many = not (takes_arguments c.args.function (part_count parts)) in
    let curved = context.variables && have_variable (known_of value s) parts in
    let faults : List (Bool × ErrorKind) = (not context.numbers, WrongKind) ∷ (many, Function) ∷ [] in
    let first : seen c.require-2.new.self ≡ faulted s at faults = chain-2 at s _ _ _ _ c.require.ensures (c.require-2.ensures ∙ ap (λ (b : Bool). faulted (seen c.require.new.self) at ((not b, Function) ∷ [])) (c.takes.ensures ∙ ap (takes_arguments c.args.function) (sym (count-parts (λ (part : Expr _). plain) tree_of c.args.args.now)))) in
    let controlled : before.controlled ≡ s.controlled = ap (λ (u : Checking). u.controlled) first in
    let known : known_of value before ≡ known_of value s = ap (λ (u : Checking). known_of value u) first in
    let variable : c.in_ok-variable.variable ≡ have_variable (known_of value s) parts = c.in_ok-variable.ensures.variable ∙ ap (λ (k : Known _). have_variable k parts) known in
    let joined : c.if-context.require ≡ curved = elim c.if-context.branch [
      | call-then-context w ↦ and-true _ _ _ _ w.require-is variable w.if-context.true
      | call-else-context w ↦ and-false _ _ _ w.require-is w.if-context.false
    ] in
    let late : not (not c.if-context.require) ≡ curved = not-not c.if-context.require ∙ joined in
    noted-around value s before (seen c.expressions.new.self) _ at (calling context c.args.function parts) faults ((curved, Nonlinear) ∷ []) (part_uses (as_inner context) at s.controlled parts)
    (turned at ((not context.numbers, WrongKind) ∷ []) (many, Function) (curved, Nonlinear) []) first
    (c.in_ok-variable.ensures.noted ∙ ap (λ (st : Context). noted value before (part_uses st at before.controlled parts)) c.inner.ensures ∙ ap (λ (sets : List ℕ). noted value before (part_uses (as_inner context) at sets parts)) controlled)
    (c.require-3.ensures ∙ ap (λ (b : Bool). faulted (seen c.expressions.new.self) at ((b, Nonlinear) ∷ [])) late)

pub amounts-returns : goal.amounts-returns
amounts-returns g t c =
    let value = g.F.ExactField.value in
    let s = seen c.args.self.now in
    c.loop-index.invariant ∙ ap (λ (indices : List (Index _)). noted value s (amount_uses s.controlled (index_list indices))) (take_all c.loop-index.index-index c.args.indices.now c.loop-index-test.false)

pub control-returns-in_ok-_variable : goal.control-returns-in_ok-_variable
control-returns-in_ok-_variable g t c =
    let value = g.F.ExactField.value in
    let s = seen c.args.self.now in
    let at = c.args.at in
    let sets = (out-Control _ c.args.control.now).sets in
    let condition = c.in-Some.condition in
    let one = (at, controlling s.controlled sets) ∷ [] in
    let first : seen c.control_sets.new.self ≡ with_controlled (noted value s one) sets = c.in_ok-control_sets.ensures ∙ ap (λ (names : List ℕ). with_controlled (noted value s ((at, controlling s.controlled names) ∷ [])) names) c.as_slice.ensures in
    c.in_ok-_variable.ensures.noted ∙ ap (λ (u : Checking). noted value u (uses as_condition at u.controlled (tree_of c.deref.result.now))) first
    ∙ ap (λ (e : Expr _). with_controlled (noted value (noted value s one) (uses as_condition at (s.controlled ++ sets) (tree_of e))) sets) c.deref.ensures
    ∙ ap (λ (u : Checking). with_controlled u sets) (noted-then value s (noted value s one) _ one (uses as_condition at (s.controlled ++ sets) (tree_of condition.value)) refl refl)
    ∙ ap (λ (control : Control _). with_controlled (noted value s (control_uses at s.controlled control)) (sets_of_control control)) (sym (tree-where c.args.control.now condition c.in-Some.is))

pub amounts-loop-index-preserved : goal.amounts-loop-index-preserved
amounts-loop-index-preserved g t c =
    let value = g.F.ExactField.value in
    let s = seen c.args.self.now in
    let now = seen c.loop-index.self in
    let xs = c.args.indices.now in
    let i = c.loop-index.index-index in
    let x = c.index-item.result in
    let controlled : now.controlled ≡ s.controlled = ap (λ (u : Checking). u.controlled) c.loop-index.invariant in
    elim c.match-index.branch [
      | amounts-in-Set+in-Some+in_ok-_variable w ↦ amounts-lagged s.controlled value xs i x s now _ c.loop-index-test.true c.index-item.is w.in-Set.name (w.in-Some._op, w.in-Some.at, w.in-Some.amount) c.loop-index.invariant (w.in-Set.is ∙ ap (Set w.in-Set.name) w.in-Some.is) (ap seen w.self-is ∙ w.in_ok-_variable.ensures.noted ∙ ap (λ (e : Expr _). noted value now (uses as_number w.in-Some.at now.controlled (tree_of e))) w.deref.ensures ∙ ap (λ (sets : List ℕ). noted value now (uses as_number w.in-Some.at sets (tree_of w.in-Some.amount.value))) controlled)
      | amounts-in_default w ↦ elim w.in_default.branch [
        | amounts-in_default-via-in-Label-1 v ↦ search (rules, amounts-label s.controlled value xs i x s now (seen c.match-index.self) c.loop-index-test.true c.index-item.is)
        | amounts-in_default-via-in-Set+in-None-1 v ↦ search (rules, amounts-alone s.controlled value xs i x s now (seen c.match-index.self) c.loop-index-test.true c.index-item.is v.in-Set.name v.in-Set.lag c.loop-index.invariant v.in-Set.is)
      ]
    ]

pub expression-referred-requires : goal.expression-referred-requires
expression-referred-requires g t c κs within =
    (indices-fall (size-Expr g.row.F.Denot c.args.e.now) (size-Expr g.row.F.Denot (Ref c.in-Ref.at c.in-Ref.name c.in-Ref.suffix c.in-Ref.indices)) (most (size-Index g.row.F.Denot) c.in-Ref.indices.items) (most (size-Index g.row.F.Denot) c.deref.result.now) t (indices-less_deep c.in-Ref.at c.in-Ref.name c.in-Ref.suffix c.in-Ref.indices) (ap (size-Expr g.row.F.Denot) c.in-Ref.is) (ap (most (size-Index g.row.F.Denot)) c.deref.ensures.value) c.decreases, within)

pub power-loop-i-preserved : goal.power-loop-i-preserved
power-loop-i-preserved g t c =
    let value = g.F.ExactField.value in
    let s = seen c.args.self.now in
    let context = c.args.context in
    let now = seen c.loop-i.self in
    let after = seen c.expression.new.self in
    let next = seen c.if-i-gt0.self in
    let parts = c.args.parts.now in
    let i = c.loop-i.i in
    let part = c.index-parts-i.result in
    let invariant = c.loop-i.invariant in
    let controlled : now.controlled ≡ s.controlled = ap (λ (u : Checking). u.controlled) invariant.noted in
    let known : known_of value now ≡ known_of value s = ap (λ (u : Checking). known_of value u) invariant.noted in
    let mark = λ (part : Place × Expr _). placed part.0 in
    let tree = λ (part : Place × Expr _). tree_of part.1 in
    let here : after ≡ noted value now (uses (as_part context) part.0 s.controlled (tree_of part.1)) = c.in_ok-right.ensures.noted ∙ ap (λ (st : Context). noted value now (uses st part.0 now.controlled (tree_of part.1))) c.part.ensures ∙ ap (λ (sets : List ℕ). noted value now (uses (as_part context) part.0 sets (tree_of part.1))) controlled in
    let right : c.in_ok-right.right ≡ has_variable (known_of value s) (tree_of part.1) = c.in_ok-right.ensures.variable ∙ ap (λ (k : Known _). has_variable k (tree_of part.1)) known in
    let known_after : known_of value after ≡ known_of value s = ap (λ (u : Checking). known_of value u) here ∙ known in
    let right_after : c.in_ok-right.right ≡ has_variable (known_of value after) (tree_of part.1) = right ∙ sym (ap (λ (k : Known _). has_variable k (tree_of part.1)) known_after) in
    let before : c.loop-i.earlier ≡ list_any (has_variable (known_of value after)) (map tree (take i parts)) = before-mapped value mark tree context s.controlled parts i part s now after next c.loop-i-test.true c.index-parts-i.is invariant.noted here known c.loop-i.earlier invariant.variable in
    record {
      noted = elim c.if-i-gt0.branch [
        | power-then-i-gt0 w ↦ turn-more value mark tree context s.controlled parts i part s now after next c.loop-i-test.true c.index-parts-i.is invariant.noted here w.if-i-gt0.true (step-raised value after next part.0 context (map tree (take i parts)) (tree_of part.1) c.loop-i.earlier c.in_ok-right.right before right_after (ap seen w.self-is ∙ w.step.ensures))
        | power-else-i-gt0 w ↦ turn-first value mark tree context s.controlled parts i part s now after next c.loop-i-test.true c.index-parts-i.is invariant.noted here w.if-i-gt0.false (ap seen w.self-is ∙ noted-none value after)
      ];
      variable = ap (λ b. b || c.in_ok-right.right) invariant.variable ∙ ap (λ b. list_any (λ (part : Place × Expr _). has_variable (known_of value s) (tree_of part.1)) (take i parts) || b) right ∙ sym (any-more (λ (part : Place × Expr _). has_variable (known_of value s) (tree_of part.1)) parts i part c.loop-i-test.true c.index-parts-i.is);
    }

pub product-loop-i-preserved : goal.product-loop-i-preserved
product-loop-i-preserved g t c =
    let value = g.F.ExactField.value in
    let s = seen c.args.self.now in
    let context = c.args.context in
    let now = seen c.loop-i.self in
    let after = seen c.expression.new.self in
    let next = seen c.if-i-gt0.self in
    let parts = c.args.parts.now in
    let i = c.loop-i.i in
    let part = c.index-parts-i.result in
    let invariant = c.loop-i.invariant in
    let controlled : now.controlled ≡ s.controlled = ap (λ (u : Checking). u.controlled) invariant.noted in
    let known : known_of value now ≡ known_of value s = ap (λ (u : Checking). known_of value u) invariant.noted in
    let mark = λ (part : Place × Bool × Expr _). signed part.0 part.1 in
    let tree = λ (part : Place × Bool × Expr _). tree_of part.2 in
    let here : after ≡ noted value now (uses (as_part context) part.0 s.controlled (tree_of part.2)) = c.in_ok-right.ensures.noted ∙ ap (λ (st : Context). noted value now (uses st part.0 now.controlled (tree_of part.2))) c.part.ensures ∙ ap (λ (sets : List ℕ). noted value now (uses (as_part context) part.0 sets (tree_of part.2))) controlled in
    let right : c.in_ok-right.right ≡ has_variable (known_of value s) (tree_of part.2) = c.in_ok-right.ensures.variable ∙ ap (λ (k : Known _). has_variable k (tree_of part.2)) known in
    let known_after : known_of value after ≡ known_of value s = ap (λ (u : Checking). known_of value u) here ∙ known in
    let right_after : c.in_ok-right.right ≡ has_variable (known_of value after) (tree_of part.2) = right ∙ sym (ap (λ (k : Known _). has_variable k (tree_of part.2)) known_after) in
    let before : c.loop-i.earlier ≡ list_any (has_variable (known_of value after)) (map tree (take i parts)) = before-mapped value mark tree context s.controlled parts i part s now after next c.loop-i-test.true c.index-parts-i.is invariant.noted here known c.loop-i.earlier invariant.variable in
    record {
      noted = elim c.if-i-gt0.branch [
        | product-then-i-gt0 w ↦ (
            let operation : w.if-divides.operation ≡ (if part.1 then Divides else Multiplies) = elim w.if-divides.branch [
              | product-then-divides v ↦ v.operation-is ∙ sym (ap (λ (b : Bool). if b then Divides else Multiplies) v.if-divides.true)
              | product-else-divides v ↦ v.operation-is ∙ sym (ap (λ (b : Bool). if b then Divides else Multiplies) v.if-divides.false)
            ] in
            turn-more value mark tree context s.controlled parts i part s now after next c.loop-i-test.true c.index-parts-i.is invariant.noted here w.if-i-gt0.true (step-signed value after next part.0 context (map tree (take i parts)) (tree_of part.2) part.0 part.1 w.if-divides.operation c.loop-i.earlier c.in_ok-right.right operation before right_after (ap seen w.self-is ∙ w.step.ensures)))
        | product-else-i-gt0 w ↦ turn-first value mark tree context s.controlled parts i part s now after next c.loop-i-test.true c.index-parts-i.is invariant.noted here w.if-i-gt0.false (ap seen w.self-is ∙ noted-none value after)
      ];
      variable = ap (λ b. b || c.in_ok-right.right) invariant.variable ∙ ap (λ b. list_any (λ (part : Place × Bool × Expr _). has_variable (known_of value s) (tree_of part.2)) (take i parts) || b) right ∙ sym (any-more (λ (part : Place × Bool × Expr _). has_variable (known_of value s) (tree_of part.2)) parts i part c.loop-i-test.true c.index-parts-i.is);
    }

pub folded-returns-clause-noted : goal.folded-returns-clause-noted
folded-returns-clause-noted g t c =
    let value = g.F.ExactField.value in
    let s = seen c.args.self.now in
    let at = c.args.at in
    let context = c.args.context in
    let body = tree_of c.args.body.now in
    let r = seen c.require.new.self in
    let inside = seen c.expression.new.self in
    let outside : Checking = record inside { controlled = c.truncate.new.self } in
    let own : r.controlled ≡ s.controlled = ap (λ (u : Checking). u.controlled) c.require.ensures in
    let variable : c.in_ok-variable.variable ≡ has_variable (known_of value s) body = c.in_ok-variable.ensures.variable ∙ ap (λ (u : Checking). has_variable (known_of value u) body) c.require.ensures in
    let curved = context.variables && (not (is_sum c.args.op) && has_variable (known_of value s) body) in
    noted-body value s r inside outside (seen c.fold_step.new.self) at (folding context c.args.op body) ((not context.numbers, WrongKind) ∷ []) ((curved, Nonlinear) ∷ []) (uses (as_inner context) at s.controlled body) c.args.outer refl c.require.ensures
    (c.in_ok-variable.ensures.noted ∙ ap (λ (st : Context). noted value r (uses st at r.controlled body)) c.inner.ensures ∙ ap (λ (controlled : List ℕ). noted value r (uses (as_inner context) at controlled body)) own)
    (ap (λ (controlled : List ℕ). record inside { controlled = controlled }) c.truncate.ensures)
    (c.fold_step.ensures ∙ ap (λ (b : Bool). faulted outside at ((context.variables && (not (is_sum c.args.op) && b), Nonlinear) ∷ [])) variable)

pub folded-returns-clause-variable : goal.folded-returns-clause-variable
folded-returns-clause-variable g t c =
    c.in_ok-variable.ensures.variable ∙ ap (λ (u : Checking). has_variable (known_of g.F.ExactField.value u) (tree_of c.args.body.now)) c.require.ensures

pub expression-returns-in_ok-control-in-Fold-clause-noted : goal.expression-returns-in_ok-control-in-Fold-clause-noted
expression-returns-in_ok-control-in-Fold-clause-noted g t c =
    let value = g.F.ExactField.value in
    let s = seen c.args.self.now in
    let at = c.in-Fold.at in
    let op = c.in-Fold.op in
    let context = c.args.context in
    let control = control_tree c.in-Fold.control in
    let sets = sets_of_control control in
    let body = tree_of c.deref-in-Fold.result.now in
    let under = seen c.control.new.self in
    let all : under.controlled ≡ s.controlled ++ sets = ap (λ (u : Checking). u.controlled) c.in_ok-control-in-Fold.ensures in
    let count : c.len-outer.result ≡ length s.controlled = c.len-outer.ensures in
    let whole : with_sets (noted value under ((at, folding context op body) ∷ uses (as_inner context) at under.controlled body)) (take c.len-outer.result under.controlled) ≡ noted value s (uses context c.args.around s.controlled (tree_of c.args.e.now)) =
    ap (λ (controlled : List ℕ). with_sets (noted value under ((at, folding context op body) ∷ uses (as_inner context) at controlled body)) (take c.len-outer.result under.controlled)) all
    ∙ noted-fold value s under (at, folding context op body) (control_uses at s.controlled control) (uses (as_inner context) at (s.controlled ++ sets) body) sets c.len-outer.result count c.in_ok-control-in-Fold.ensures
    ∙ ap (λ (e : Expr _). noted value s (uses context c.args.around s.controlled (fold_over at op control (tree_of e)))) c.deref-in-Fold.ensures
    ∙ ap (λ (tree : Tree _). noted value s (uses context c.args.around s.controlled tree)) (sym (ap tree_of c.in-Fold.is ∙ tree_of-Fold at op c.in-Fold.control c.in-Fold.body)) in
    subst (λ (after : Checking). OnOk c.folded.result (seen c.folded.new.self ≡ after)) whole c.folded.ensures.noted

pub expression-returns-in_ok-control-in-Fold-clause-variable : goal.expression-returns-in_ok-control-in-Fold-clause-variable
expression-returns-in_ok-control-in-Fold-clause-variable g t c =
    let value = g.F.ExactField.value in
    let s = seen c.args.self.now in
    let at = c.in-Fold.at in
    let op = c.in-Fold.op in
    let control = control_tree c.in-Fold.control in
    let body = tree_of c.deref-in-Fold.result.now in
    let same : has_variable (known_of value (seen c.control.new.self)) body ≡ has_variable (known_of value s) (tree_of c.args.e.now) =
    ap (λ (u : Checking). has_variable (known_of value u) body) c.in_ok-control-in-Fold.ensures
    ∙ ap (λ (e : Expr _). has_variable (known_of value s) (fold_over at op control (tree_of e))) c.deref-in-Fold.ensures
    ∙ ap (λ (tree : Tree _). has_variable (known_of value s) tree) (sym (ap tree_of c.in-Fold.is ∙ tree_of-Fold at op c.in-Fold.control c.in-Fold.body)) in
    subst (λ (b : Bool). IfOk c.folded.result (λ variable. variable ≡ b)) same c.folded.ensures.variable
