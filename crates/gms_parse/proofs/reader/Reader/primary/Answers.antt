use Rattle.std.proofs.Common.{refl}
use Rattle.gms_grammar.specs.GamsGrammar.{Primary}
use Rattle.gms_expressions.proofs.Signs.{handed_on}
use Rattle.gms_parse.specs.InnerMeanings.{IsOperand}
use Rattle.gms_parse.proofs.Formulas.{formula_got, formula_refused}
use Rattle.gms_parse.proofs.reader.Reader.primary.Goals as goal

pub returns-in_err-primary : goal.returns-in_err-primary
returns-in_err-primary g c read_state s other = handed_on _ _ c.from_residual.result _ c.from_residual.ensures.1 (formula_refused Primary refl s other c.args.at _ c.in_err-primary.ensures.read)

pub returns : goal.returns
returns g c read_state s other = formula_got Primary refl s other c.args.at c.requires.within c.in_ok-primary.ensures.read (IsOperand g.F.ExactField.value c.args.self.now.source.now) (λ sense tree k h. h)
