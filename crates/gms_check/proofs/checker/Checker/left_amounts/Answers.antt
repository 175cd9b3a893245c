use Rattle.std.proofs.Common.{◌≡◌, ◌∙◌, ◌∷◌, ap, List, ℕ, rules}
use Rattle.std.proofs.lemmas.List.{take_all}
use Rattle.gms_ast.specs.declared.expression.Expr.{Expr}
use Rattle.gms_ast.specs.declared.expression.Index.{Index, Set}
use Rattle.gms_ast.specs.TreeView.{tree_of}
use Rattle.gms_check.specs.InnerChecking.{Checking, noted, seen}
use Rattle.gms_check.specs.Contexts.{as_number}
use Rattle.gms_check.specs.StatementUses.{index_list}
use Rattle.gms_check.specs.Uses.{shift_uses, shifting, uses}
use Rattle.gms_check.proofs.LagAmounts.{shifts-alone, shifts-label, shifts-lagged}
use Rattle.gms_check.proofs.checker.Checker.left_amounts.Goals as goal
use Rattle.gms_check.proofs.checker.Checker.left_amounts.Goals.{in-Set+in-Some+in_ok-left_amount, in_default, in_default-via-in-Label-1, in_default-via-in-Set+in-None-1}

pub loop-index-preserved : goal.loop-index-preserved
loop-index-preserved g c =
    let value = g.F.ExactField.value in
    let s = seen c.args.self.now in
    let now = seen c.loop-index.self in
    let xs = c.args.indices.now in
    let i = c.loop-index.index-index in
    let x = c.index-item.result in
    let controlled : now.controlled ≡ s.controlled = ap (λ (u : Checking). u.controlled) c.loop-index.invariant in
    elim c.match-index.branch [
      | in-Set+in-Some+in_ok-left_amount w ↦ shifts-lagged s.controlled value xs i x s now _ c.loop-index-test.true c.index-item.is w.in-Set.name (w.in-Some._op, w.in-Some.at, w.in-Some.amount) c.loop-index.invariant (w.in-Set.is ∙ ap (Set w.in-Set.name) w.in-Some.is) (ap seen w.self-is ∙ w.in_ok-left_amount.ensures ∙ ap (λ (e : Expr _). noted value now ((w.in-Some.at, shifting (tree_of e)) ∷ uses as_number w.in-Some.at now.controlled (tree_of e))) w.deref.ensures ∙ ap (λ (sets : List ℕ). noted value now ((w.in-Some.at, shifting (tree_of w.in-Some.amount.value)) ∷ uses as_number w.in-Some.at sets (tree_of w.in-Some.amount.value))) controlled)
      | in_default w ↦ elim w.in_default.branch [
        | in_default-via-in-Label-1 v ↦ search (rules, shifts-label s.controlled value xs i x s now (seen c.match-index.self) c.loop-index-test.true c.index-item.is)
        | in_default-via-in-Set+in-None-1 v ↦ search (rules, shifts-alone s.controlled value xs i x s now (seen c.match-index.self) c.loop-index-test.true c.index-item.is v.in-Set.name v.in-Set.lag c.loop-index.invariant v.in-Set.is)
      ]
    ]

pub returns : goal.returns
returns g c =
    let value = g.F.ExactField.value in
    let s = seen c.args.self.now in
    c.loop-index.invariant ∙ ap (λ (indices : List (Index _)). noted value s (shift_uses s.controlled (index_list indices))) (take_all c.loop-index.index-index c.args.indices.now c.loop-index-test.false)
