use Rattle.std.proofs.Common.{◌∙◌, ap, sym, Option}
use Rattle.std.specs.Prelude.{option_map}
use Rattle.gms_ast.specs.declared.expression.Expr.{Expr}
use Rattle.gms_ast.specs.TreeView.{tree_of}
use Rattle.gms_check.specs.InnerChecking.{noted, seen}
use Rattle.gms_check.specs.Uses.{condition_uses}
use Rattle.gms_check.proofs.checker.Checker.condition.Goals as goal

pub returns-in_ok-_variable : goal.returns-in_ok-_variable
returns-in_ok-_variable g c =
    let value = g.F.ExactField.value in
    let s = seen c.args.self.now in
    c.in_ok-_variable.ensures.noted ∙ ap (λ (o : Option (Expr _)). noted value s (condition_uses c.args.at s.controlled (option_map tree_of o))) (sym c.in-Some.is)
