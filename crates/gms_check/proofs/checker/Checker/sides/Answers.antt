use Rattle.std.proofs.Common.{ap, List, ℕ}
use Rattle.gms_ast.specs.TreeView.{tree_of}
use Rattle.gms_check.specs.InnerChecking.{seen, with_sets}
use Rattle.gms_check.specs.Contexts.{as_side}
use Rattle.gms_check.specs.Uses.{uses}
use Rattle.gms_check.proofs.StatementParts.{sides-done}
use Rattle.gms_check.proofs.checker.Checker.sides.Goals as goal

pub returns : goal.returns
returns g c =
    let value = g.F.ExactField.value in
    sides-done value (seen c.args.self.now) (seen c.expression.new.self) (seen c.expression-2.new.self) _ c.args.outer (λ sets. uses as_side c.args.left_at sets (tree_of c.args.left.now)) (λ sets. uses as_side c.args.right_at sets (tree_of c.args.right.now)) c.in_ok-_left.ensures.noted c.in_ok-_right.ensures.noted (ap (λ (sets : List ℕ). with_sets (seen c.expression-2.new.self) sets) c.truncate.ensures)
