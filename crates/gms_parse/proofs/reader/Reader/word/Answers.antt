use Rattle.gms_expressions.proofs.Signs.{handed_on}
use Rattle.gms_parse.proofs.Steps.{refuses_memory}
use Rattle.gms_parse.proofs.Nexts.{refuses_lacking}
use Rattle.gms_parse.proofs.Acts.{word_got}
use Rattle.gms_parse.proofs.reader.Reader.word.Goals as goal

pub returns-in_err-token : goal.returns-in_err-token
returns-in_err-token c limit tables read_state h u = handed_on _ _ c.from_residual.result _ c.from_residual.ensures.1 (refuses_lacking c.in_err-token.ensures)

pub returns-in_err-copied : goal.returns-in_err-copied
returns-in_err-copied c limit tables read_state h u = handed_on _ _ c.from_residual-in_err-copied.result _ c.from_residual-in_err-copied.ensures.1 (refuses_memory c.in_err-copied.ensures)

pub returns : goal.returns
returns c limit tables read_state h u = word_got c.in_ok-token.ensures h u c.in_ok-copied.field-0 (rw c.text.ensures at c.in_ok-copied.ensures)
