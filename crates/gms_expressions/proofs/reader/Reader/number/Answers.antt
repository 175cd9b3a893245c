use Rattle.std.proofs.Common.{refl, ap}
use Rattle.gms_ast.specs.declared.expression.Expr.{Number}
use Rattle.gms_ast.specs.Numbers.{in_numbers}
use Rattle.gms_expressions.proofs.Leaves.{tree_of-Number}
use Rattle.gms_expressions.proofs.Signs.{handed_on}
use Rattle.gms_expressions.proofs.Nexts.{exact, refuses_lacking}
use Rattle.gms_expressions.proofs.Entering.{number_got, number_refused}
use Rattle.gms_expressions.proofs.reader.Reader.number.Goals as goal

pub returns-in_err-token : goal.returns-in_err-token
returns-in_err-token g c tables = handed_on _ _ c.from_residual.result _ c.from_residual.ensures.1 (refuses_lacking c.in_err-token.ensures)

pub returns-in_err-value : goal.returns-in_err-value
returns-in_err-value g c tables = handed_on _ _ c.from_residual-in_err-value.result _ c.from_residual-in_err-value.ensures.1 (number_refused c.args.self.now c.args.at c.in_ok-token.following tables (exact c.in_ok-token.ensures) refl c.in_err-value.ensures)

pub returns : goal.returns
returns g c tables = number_got {value = g.F.ExactField.value} c.args.self.now c.args.at c.in_ok-token.following tables c.in_ok-value.value c.in_ok-token.ensures c.in_ok-value.ensures (Number c.in_ok-value.value) (ap (in_numbers g.F.ExactField.value) (tree_of-Number c.in_ok-value.value))
