use Rattle.gms_expressions.proofs.Signs.{handed_on}
use Rattle.std.proofs.Common.{◌∙◌, ap}
use Rattle.gms_expressions.specs.ExpressionTrees.{suffix_of}
use Rattle.gms_parse.proofs.Acts.{suffix_none, suffix_got, suffix_refused}
use Rattle.gms_parse.proofs.reader.Reader.suffix.Goals as goal

pub returns-in_default : goal.returns-in_default
returns-in_default c limit tables read_state h = suffix_none h c.in_default.ensures

pub returns-in_err-word : goal.returns-in_err-word
returns-in_err-word c limit tables read_state h = handed_on _ _ c.from_residual.result _ c.from_residual.ensures.1 (suffix_refused c.in-Some.ensures c.in_err-word.ensures)

pub returns : goal.returns
returns c limit tables read_state h = suffix_got c.in-Some.ensures c.in_ok-word.ensures h _ (c.suffix_of.ensures ∙ ap suffix_of c.text.ensures)
