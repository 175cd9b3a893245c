-- The first line ends with the first line feed.
use Rattle.gms_grammar.proofs.LineLemmas.{first_line, length_some}
use Rattle.std.proofs.Common.{◌∙◌, sym}
use Rattle.gms_grammar.proofs.line.split_line.Goals as goal

pub returns-clause-first : goal.returns-clause-first
returns-clause-first c =
    rw (c.split_at.ensures.front, c.split_at.ensures.back) (first_line c.args.text.now c.line_length-length.result (length_some c.args.text.now (sym c.is_empty.ensures ∙ c.if-is_empty.false)) c.line_length-length.ensures.value)
