use Rattle.std.proofs.Common.{refl}
use Rattle.gms_ast.specs.StatementView.{shown_target}
use Rattle.gms_grammar.specs.GamsGrammar.{Target}
use Rattle.gms_expressions.proofs.Signs.{handed_on}
use Rattle.gms_parse.specs.InnerMeanings.{IsTarget}
use Rattle.gms_parse.proofs.Formulas.{formula_got, formula_refused}
use Rattle.gms_parse.proofs.Targets.{target_is}
use Rattle.gms_parse.proofs.reader.Reader.target.Goals as goal

pub returns-in_err-target : goal.returns-in_err-target
returns-in_err-target g c read_state s other = handed_on _ _ c.from_residual.result _ c.from_residual.ensures.1 (formula_refused Target refl s other c.args.at _ c.in_err-target.ensures.read)

pub returns : goal.returns
returns g c read_state s other = formula_got Target refl s other c.args.at c.requires.within c.in_ok-target.ensures.read (IsTarget g.F.ExactField.value c.args.self.now.source.now)
    (λ sense tree k h. target_is c.args.self.now.source.now sense.names sense.labels (shown_target g.F.ExactField.value c.in_ok-target.field-0.0) tree k h)
