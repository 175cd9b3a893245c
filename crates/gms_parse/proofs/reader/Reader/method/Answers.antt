use Rattle.gms_expressions.proofs.Signs.{handed_on, answered}
use Rattle.std.proofs.Common.{refl}
use Rattle.gms_grammar.specs.declared.terminal.Terminal.TheVariants.{Using}
use Rattle.gms_parse.proofs.Steps.{refuses_first, refuses_second}
use Rattle.gms_parse.proofs.Nexts.{refuses_lacking, gives_exact, plain_stays}
use Rattle.gms_parse.proofs.Acts.{method_got}
use Rattle.gms_parse.proofs.reader.Reader.method.Goals as goal

pub returns-in_err-next : goal.returns-in_err-next
returns-in_err-next c limit tables read_state h = handed_on _ _ c.from_residual.result _ c.from_residual.ensures.1 (refuses_first (refuses_lacking c.in_err-next.ensures))

pub returns : goal.returns
returns c limit tables read_state h =
    let n = c.in_ok-next.ensures.next in
    let s = plain_stays c.args.self.now read_state Using c.in_ok-next.ensures.token c.in_ok-next.next refl h in
    answered c.word.result (c.word.ensures limit tables _ s.has refl) (λ r got. method_got n h got) (λ e r. refuses_second (gives_exact n refl) r)
