use Rattle.std.proofs.Common.{refl}
use Rattle.gms_grammar.specs.GamsGrammar.{Expression}
use Rattle.gms_expressions.proofs.Signs.{handed_on}
use Rattle.gms_parse.specs.InnerMeanings.{IsExpression}
use Rattle.gms_parse.proofs.Formulas.{formula_got, formula_refused}
use Rattle.gms_parse.proofs.reader.Reader.expression.Goals as goal

pub returns-in_err-expression : goal.returns-in_err-expression
returns-in_err-expression g c read_state s other = handed_on _ _ c.from_residual.result _ c.from_residual.ensures.1 (formula_refused Expression refl s other c.args.at _ c.in_err-expression.ensures.read)

pub returns : goal.returns
returns g c read_state s other = formula_got Expression refl s other c.args.at c.requires.within c.in_ok-expression.ensures.read (IsExpression g.F.ExactField.value c.args.self.now.source.now) (λ sense tree k h. h)
