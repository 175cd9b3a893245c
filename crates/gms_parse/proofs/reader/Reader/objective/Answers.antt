use Rattle.gms_expressions.proofs.Signs.{handed_on}
use Rattle.std.proofs.Common.{◌∙◌, ap, refl}
use Rattle.gms_grammar.specs.declared.terminal.Terminal.TheVariants.{Direction}
use Rattle.gms_parse.specs.Statements.{is_maximizing}
use Rattle.gms_parse.proofs.Steps.{refuses_first, refuses_second}
use Rattle.gms_parse.proofs.Nexts.{refuses_lacking, gives_exact, plain_starts}
use Rattle.gms_parse.proofs.Acts.{objective_got}
use Rattle.gms_parse.proofs.reader.Reader.objective.Goals as goal

pub returns-in_err-direction : goal.returns-in_err-direction
returns-in_err-direction c limit read_state h o = handed_on _ _ c.from_residual.result _ c.from_residual.ensures.1 (refuses_first (refuses_lacking c.in_err-direction.ensures))

pub returns-in_err-objective : goal.returns-in_err-objective
returns-in_err-objective c limit read_state h o =
    let n = c.in_ok-direction.ensures in
    handed_on _ _ c.from_residual-in_err-objective.result _ c.from_residual-in_err-objective.ensures.1
    (refuses_second (gives_exact n refl) (c.in_err-objective.ensures limit _ (plain_starts c.args.self.now read_state Direction c.in_ok-direction.direction c.in_ok-direction.next refl refl h o)))

pub returns : goal.returns
returns c limit read_state h o =
    objective_got c.in_ok-direction.ensures h (c.is_maximizing.ensures ∙ ap is_maximizing c.text.ensures) (c.in_ok-objective.ensures limit _ (plain_starts c.args.self.now read_state Direction c.in_ok-direction.direction c.in_ok-direction.next refl refl h o))
