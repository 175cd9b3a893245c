use Rattle.gms_expressions.proofs.Signs.{handed_on}
use Rattle.std.proofs.Common.{refl}
use Rattle.gms_grammar.specs.GamsGrammar.{DisplayStatement}
use Rattle.gms_grammar.specs.declared.terminal.Terminal.TheVariants.{Display}
use Rattle.gms_parse.proofs.Steps.{refuses_the, refuses_first, refuses_second}
use Rattle.gms_parse.proofs.Nexts.{refuses_lacking, gives_exact, begun_starts}
use Rattle.gms_parse.proofs.Acts.{display_got}
use Rattle.gms_parse.proofs.reader.Reader.display.Goals as goal

pub returns-in_err-next : goal.returns-in_err-next
returns-in_err-next g c read_state h = handed_on _ _ c.from_residual.result _ c.from_residual.ensures.1 (refuses_the DisplayStatement (refuses_first (refuses_lacking c.in_err-next.ensures)))

pub returns-in_err-items : goal.returns-in_err-items
returns-in_err-items g c read_state h =
    let n = c.in_ok-next.ensures.next in
    handed_on _ _ c.from_residual-in_err-items.result _ c.from_residual-in_err-items.ensures.1
    (refuses_the DisplayStatement (refuses_second (gives_exact n refl) (c.in_err-items.ensures g.F.ExactField.limit _ (begun_starts c.args.self.now read_state Display c.in_ok-next.ensures.token c.in_ok-next.next refl refl refl refl h) refl refl)))

pub returns : goal.returns
returns g c read_state h =
    display_got g.F.ExactField.value c.in_ok-next.ensures.next (c.in_ok-items.ensures g.F.ExactField.limit _ (begun_starts c.args.self.now read_state Display c.in_ok-next.ensures.token c.in_ok-next.next refl refl refl refl h) refl refl)
