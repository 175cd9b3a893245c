-- A piece opens one parenthesis at most.
use Rattle.gms_lex.proofs.DepthLemmas.{token_depth}
use Rattle.gms_lex.proofs.mode_change.mode_after.Goals as goal

pub returns-in-Token-clause-depth : goal.returns-in-Token-clause-depth
returns-in-Token-clause-depth c = rw c.after_token.ensures (token_depth c.args.mode c.in-Token.kind c.args.text.now)
