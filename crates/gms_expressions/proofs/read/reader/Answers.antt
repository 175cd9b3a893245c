use Rattle.gms_lex.proofs.PlacedLemmas.{tokens_placed}
use Rattle.gms_expressions.proofs.Opening.{ends_at}
use Rattle.gms_expressions.proofs.read.reader.Goals as goal

pub returns-clause-ready : goal.returns-clause-ready
returns-clause-ready c = record {
  placed = tokens_placed c.args.source.now c.args.tokens.now c.requires.tokens;
  end = ends_at c.args.source.now c.args.tokens.now _ c.requires.tokens;
  few = c.requires.few;
}
