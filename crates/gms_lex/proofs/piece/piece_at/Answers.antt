-- The first piece is within the text.
use Rattle.gms_lex.proofs.PieceLemmas.{table_within, plain_within}
use Rattle.gms_lex.proofs.piece.piece_at.Goals as goal

pub returns-in-TableLines-clause-within : goal.returns-in-TableLines-clause-within
returns-in-TableLines-clause-within c = rw c.table_piece.ensures (table_within c.args.text.now)

pub returns-in_default-clause-within : goal.returns-in_default-clause-within
returns-in_default-clause-within c = rw c.plain_piece.ensures (plain_within c.args.mode c.args.text.now)
