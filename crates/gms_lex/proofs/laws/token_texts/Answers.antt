-- Each token takes bytes of its source, and is spelled as its kind.
use Rattle.gms_lex.proofs.PlacedLemmas.{tokens_placed}
use Rattle.gms_lex.proofs.laws.token_texts.Goals as goal

pub returns : goal.returns
returns c = tokens_placed
