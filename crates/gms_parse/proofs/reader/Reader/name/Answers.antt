use Rattle.std.proofs.Common.{refl, sym, ◌∙◌, subst}
use Rattle.std.specs.Str.{IsAscii}
use Rattle.gms_expressions.proofs.Signs.{handed_on}
use Rattle.gms_parse.proofs.Nexts.{refuses_lacking}
use Rattle.gms_parse.proofs.Spelled.{name_spelled}
use Rattle.gms_parse.proofs.Entering.{name_got, name_refused}
use Rattle.gms_parse.proofs.reader.Reader.name.Goals as goal

pub returns-in_err-token : goal.returns-in_err-token
returns-in_err-token c limit read_state s = handed_on _ _ c.from_residual.result _ c.from_residual.ensures.1 (refuses_lacking c.in_err-token.ensures)

pub ascii-requires : goal.ascii-requires
ascii-requires c = subst IsAscii (sym c.text.ensures) (name_spelled c.in_ok-token.ensures).0

pub returns-in_err-text : goal.returns-in_err-text
returns-in_err-text c limit read_state s = absurd c.in_err-text.ensures

pub entered-requires : goal.entered-requires
entered-requires c = rw (c.in_ok-text.ensures ∙ c.text.ensures) ((name_spelled c.in_ok-token.ensures).1)

pub returns-in_err-name : goal.returns-in_err-name
returns-in_err-name c limit read_state s = handed_on _ _ c.from_residual-in_err-name.result _ c.from_residual-in_err-name.ensures.1 (name_refused c.in_ok-token.ensures s c.in_ok-text.text.now (c.in_ok-text.ensures ∙ c.text.ensures) c.in_err-name.ensures)

pub returns : goal.returns
returns c limit read_state s = name_got c.in_ok-token.ensures s c.in_ok-name.name c.in_ok-text.text.now (c.in_ok-text.ensures ∙ c.text.ensures) _ c.in_ok-name.ensures _ refl refl
