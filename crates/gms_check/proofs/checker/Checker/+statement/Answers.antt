use Rattle.std.proofs.Common.{◌≡◌, ◌∷◌, ◌++◌, ◌∙◌, ap, refl, take, List, ℕ, option_map}
use Rattle.std.proofs.lemmas.List.{take_all}
use Rattle.std.proofs.lemmas.Result.{on_ok_weaker}
use Rattle.std.specs.Prelude.{flat_map}
use Rattle.gms_ast.specs.declared.program.Stmt.{Stmt}
use Rattle.gms_ast.specs.declared.expression.Index.{Index}
use Rattle.gms_ast.specs.TreeView.{control_tree, tree_of}
use Rattle.gms_check.specs.InnerChecking.{noted, seen, with_controlled, with_sets}
use Rattle.gms_check.specs.Contexts.{as_side}
use Rattle.gms_check.specs.StatementUses.{index_list, left_uses, option_uses, show_uses, statement_uses, with_left}
use Rattle.gms_check.specs.Uses.{condition_uses, control_uses, defining, index_sets, sets_of_control, uses, Uses}
use Rattle.gms_check.proofs.ActUses.{uses-Abort, uses-Assign, uses-Define, uses-Loop, uses-Options}
use Rattle.gms_check.proofs.FoldSteps.{controlled-counted}
use Rattle.gms_check.proofs.Noting.{noted-then}
use denote.Param.Weighed.{most}
use Rattle.gms_ast.specs.declared.program.Act.{Loop, size-Act}
use Rattle.gms_ast.specs.declared.program.Act.TheVariants.{Assign}
use Rattle.gms_ast.specs.declared.program.Right.TheVariants.{Value}
use Rattle.gms_ast.specs.declared.program.Stmt.{size-Stmt}
use Rattle.gms_check.proofs.ActDepths.{body-less_deep, body-falls}
use Rattle.gms_check.proofs.StatementParts.{acted, body-more, definition-done, under-done}
use Rattle.gms_check.proofs.checker.Checker.+statement.Goals as goal

pub act-returns-in-Loop : goal.act-returns-in-Loop
act-returns-in-Loop g t c =
    let value = g.F.ExactField.value in
    let s = seen c.args.self.now in
    on_ok_weaker c.repetition.result
    (λ e. acted value s (seen c.repetition.new.self) c.args.act.now _ c.args.at _ c.in-Loop.is (uses-Loop s.facts.state c.args.at s.controlled c.in-Loop.control c.in-Loop.body) (e ∙ ap (λ body. noted value s (control_uses c.args.at s.controlled (control_tree c.in-Loop.control) ++ flat_map (λ (statement : Stmt _). statement_uses statement s.facts.state (s.controlled ++ sets_of_control (control_tree c.in-Loop.control))) body)) c.deref.ensures.value))
    c.repetition.ensures

pub act-returns-in-Options : goal.act-returns-in-Options
act-returns-in-Options g t c =
    let value = g.F.ExactField.value in
    let s = seen c.args.self.now in
    acted value s (seen c.options.new.self) c.args.act.now _ c.args.at _ c.in-Options.is (uses-Options s.facts.state c.args.at s.controlled c.in-Options.settings)
    (c.options.ensures ∙ ap (λ settings. noted value s (flat_map option_uses settings)) c.as_slice-in-Options.ensures)

pub act-returns-in_ok-condition-in-Abort : goal.act-returns-in_ok-condition-in-Abort
act-returns-in_ok-condition-in-Abort g t c =
    let value = g.F.ExactField.value in
    let s = seen c.args.self.now in
    let asked : seen c.condition.new.self ≡ noted value s (condition_uses c.args.at s.controlled (option_map tree_of c.in-Abort.condition)) = c.in_ok-condition-in-Abort.ensures in
    acted value s (seen c.shows-in-Abort.new.self) c.args.act.now _ c.args.at _ c.in-Abort.is (uses-Abort s.facts.state c.args.at s.controlled c.in-Abort.condition c.in-Abort.items)
    (noted-then value s (seen c.condition.new.self) (seen c.shows-in-Abort.new.self) (condition_uses c.args.at s.controlled (option_map tree_of c.in-Abort.condition)) (flat_map show_uses c.in-Abort.items) asked (c.shows-in-Abort.ensures ∙ ap (λ items. noted value (seen c.condition.new.self) (flat_map show_uses items)) c.as_slice-in-Abort.ensures))

pub act-returns-in-Assign : goal.act-returns-in-Assign
act-returns-in-Assign g t c =
    let value = g.F.ExactField.value in
    let s = seen c.args.self.now in
    let a = c.in-Assign in
    let x = c.value_of.result.now in
    on_ok_weaker c.assignment.result
    (λ e. acted value s (seen c.assignment.new.self) c.args.act.now (Assign a.target a.condition a.right_at (Value x)) c.args.at _ (a.is ∙ ap (λ right. Assign a.target a.condition a.right_at right) c.value_of.ensures) (uses-Assign s.facts.state c.args.at s.controlled a.target a.condition a.right_at x) e)
    c.assignment.ensures

pub repetition-loop-statement-preserved : goal.repetition-loop-statement-preserved
repetition-loop-statement-preserved g t c =
    let s = seen c.args.self.now in
    body-more g.F.ExactField.value c.args.body.now c.loop-statement.statement-index c.statement-item.result s (seen c.loop-statement.self) (seen c.act.new.self) (control_uses c.args.at s.controlled (control_tree c.args.control.now)) (sets_of_control (control_tree c.args.control.now)) c.loop-statement-test.true c.statement-item.is c.loop-statement.invariant c.in_ok-act.ensures

pub repetition-returns : goal.repetition-returns
repetition-returns g t c =
    let value = g.F.ExactField.value in
    let s = seen c.args.self.now in
    let u = seen c.loop-statement.self in
    let control = control_tree c.args.control.now in
    let parts : List (Stmt g.row.F.Denot) → Uses g.row.F.Denot = λ body. control_uses c.args.at s.controlled control ++ flat_map (λ (statement : Stmt _). statement_uses statement s.facts.state (s.controlled ++ sets_of_control control)) body in
    under-done value s u _ (parts c.args.body.now) (sets_of_control control)
    (c.loop-statement.invariant ∙ ap (λ body. with_controlled (noted value s (parts body)) (sets_of_control control)) (take_all c.loop-statement.statement-index c.args.body.now c.loop-statement-test.false))
    (ap (with_sets u) (c.truncate.ensures ∙ ap (λ n. take n u.controlled) (controlled-counted c.len-outer.result c.args.self.now.controlled s c.len-outer.ensures refl)))

pub act-repetition-requires : goal.act-repetition-requires
act-repetition-requires g t c κs within =
    (body-falls (size-Act g.row.F.Denot c.args.act.now) (size-Act g.row.F.Denot (Loop c.in-Loop.control c.in-Loop.body)) (most (size-Stmt g.row.F.Denot) c.in-Loop.body.items) (most (size-Stmt g.row.F.Denot) c.deref.result.now) t (body-less_deep c.in-Loop.control c.in-Loop.body) (ap (size-Act g.row.F.Denot) c.in-Loop.is) (ap (most (size-Stmt g.row.F.Denot)) c.deref.ensures.value) c.decreases, within)

pub act-returns-in_ok-left_of_definition-in-Define : goal.act-returns-in_ok-left_of_definition-in-Define
act-returns-in_ok-left_of_definition-in-Define g t c =
    let value = g.F.ExactField.value in
    let s = seen c.args.self.now in
    let u = seen c.left_of_definition.new.self in
    let d = c.in-Define in
    let parts : List (Index g.row.F.Denot) → Uses g.row.F.Denot = λ indices. (d.equation.at, defining d.equation.name (index_list indices)) ∷ left_uses c.args.at (with_left s.controlled indices) indices d.condition in
    let sides : List ℕ → Uses g.row.F.Denot = λ controlled. uses as_side d.left_at controlled (tree_of d.left) ++ uses as_side d.right_at controlled (tree_of d.right) in
    let left : u ≡ with_controlled (noted value s (parts d.indices)) (index_sets (index_list d.indices)) = c.in_ok-left_of_definition-in-Define.ensures ∙ ap (λ indices. with_controlled (noted value s (parts indices)) (index_sets (index_list indices))) c.as_slice.ensures in
    on_ok_weaker c.sides.result
    (λ e. acted value s (seen c.sides.new.self) c.args.act.now _ c.args.at _ d.is (uses-Define s.facts.state c.args.at s.controlled d.equation d.indices d.condition d.left_at d.left d.side d.right_at d.right)
    (definition-done value s u (seen c.sides.new.self) (parts d.indices) (index_sets (index_list d.indices)) sides left (e ∙ ap (λ n. noted value (with_sets u (take n u.controlled)) (sides u.controlled)) (controlled-counted c.len-outer.result c.args.self.now.controlled s c.len-outer.ensures refl))))
    c.sides.ensures
