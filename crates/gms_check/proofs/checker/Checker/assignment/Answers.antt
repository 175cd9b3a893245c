use Rattle.std.proofs.Common.{◌≡◌, ◌∙◌, ap, List, ℕ, ◌∷◌, ◌++◌, take, length}
use Rattle.gms_ast.specs.TreeView.{tree_of}
use Rattle.gms_store.specs.State.{State}
use Rattle.gms_check.specs.declared.contexts.Context.{Context}
use Rattle.gms_check.specs.InnerChecking.{Checking, noted, seen, with_sets}
use Rattle.gms_check.specs.StatementUses.{index_list, left_uses, right_context, with_left}
use Rattle.gms_check.specs.Uses.{assigning, index_sets, uses}
use Rattle.gms_check.proofs.StatementParts.{under-done, under-more}
use Rattle.gms_check.proofs.checker.Checker.assignment.Goals as goal

pub returns : goal.returns
returns g c =
    let value = g.F.ExactField.value in
    let s = seen c.args.self.now in
    let target = c.args.target.now in
    let indices = index_list target.indices in
    let left = seen c.left_of_assignment.new.self in
    let parts = (target.at, assigning target.name target.suffix indices) ∷ left_uses c.args.at (with_left s.controlled target.indices) target.indices c.args.condition.now in
    let more = λ (sets : List ℕ). uses (right_context s.facts.state target.name) c.args.right_at sets (tree_of c.args.right.now) in
    let state : left.facts.state ≡ s.facts.state = ap (λ (u : Checking). u.facts.state) c.in_ok-left_of_assignment.ensures in
    let context : c.right_context-context.result ≡ right_context s.facts.state target.name = c.right_context-context.ensures ∙ ap (λ (state : State). right_context state target.name) state in
    let outer : c.len-outer.result ≡ length s.controlled = c.len-outer.ensures in
    under-done value s (seen c.expression.new.self) _ (parts ++ more (s.controlled ++ index_sets indices)) (index_sets indices) (under-more value s left (seen c.expression.new.self) parts (index_sets indices) more c.in_ok-left_of_assignment.ensures (c.in_ok-_variable.ensures.noted ∙ ap (λ (st : Context). noted value left (uses st c.args.right_at left.controlled (tree_of c.args.right.now))) context)) (ap (λ (sets : List ℕ). with_sets (seen c.expression.new.self) sets) (c.truncate.ensures ∙ ap (λ (n : ℕ). take n (seen c.expression.new.self).controlled) outer))
