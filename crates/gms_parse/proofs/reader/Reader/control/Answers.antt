use Rattle.std.proofs.Common.{refl}
use Rattle.gms_grammar.specs.GamsGrammar.{Control}
use Rattle.gms_expressions.proofs.Signs.{handed_on}
use Rattle.gms_parse.specs.InnerMeanings.{IsControl}
use Rattle.gms_parse.proofs.Formulas.{formula_got, formula_refused}
use Rattle.gms_parse.proofs.reader.Reader.control.Goals as goal

pub returns-in_err-control : goal.returns-in_err-control
returns-in_err-control g c read_state s other = handed_on _ _ c.from_residual.result _ c.from_residual.ensures.1 (formula_refused Control refl s other c.args.at _ c.in_err-control.ensures.read)

pub returns : goal.returns
returns g c read_state s other = formula_got Control refl s other c.args.at c.requires.within c.in_ok-control.ensures.read (IsControl g.F.ExactField.value c.args.self.now.source.now) (λ sense tree k h. h)
