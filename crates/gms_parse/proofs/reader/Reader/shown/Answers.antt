use Rattle.gms_expressions.proofs.Signs.{handed_on}
use Rattle.std.proofs.Common.{◌∙◌, ap}
use Rattle.gms_lex.specs.TokenTexts.{unquoted}
use Rattle.gms_parse.proofs.Steps.{refuses_memory}
use Rattle.gms_parse.proofs.Acts.{text_got, symbol_got, symbol_unnamed, symbol_refused}
use Rattle.gms_parse.proofs.reader.Reader.shown.Goals as goal

pub returns-in_err-text : goal.returns-in_err-text
returns-in_err-text c limit read_state s k l = handed_on _ _ c.from_residual.result _ c.from_residual.ensures.1 (refuses_memory c.in_err-text.ensures)

pub returns-in-Some : goal.returns-in-Some
returns-in-Some c limit read_state s k l = text_got c.in-Some.ensures (k, l) s.has c.in_ok-text.text (c.in_ok-text.ensures ∙ ap (λ bytes. record { at = c.in-Some.token.at; text = bytes }) (c.unquoted.ensures ∙ ap unquoted c.text.ensures))

pub returns-in_err-named : goal.returns-in_err-named
returns-in_err-named c limit read_state s k l = handed_on _ _ c.from_residual-in_err-named.result _ c.from_residual-in_err-named.ensures.1 (symbol_unnamed c.in_default.ensures (c.in_err-named.ensures limit read_state s))

pub returns-in_err-suffix : goal.returns-in_err-suffix
returns-in_err-suffix c limit read_state s k l =
    let n = c.in_ok-named.ensures limit read_state s in
    handed_on _ _ c.from_residual-in_err-suffix.result _ c.from_residual-in_err-suffix.ensures.1 (symbol_refused c.in_default.ensures n.gives (c.in_err-suffix.ensures limit _ n.following n.leaves.has))

pub returns : goal.returns
returns c limit read_state s k l =
    let n = c.in_ok-named.ensures limit read_state s in
    symbol_got c.in_default.ensures n (c.in_ok-suffix.ensures limit _ n.following n.leaves.has)
