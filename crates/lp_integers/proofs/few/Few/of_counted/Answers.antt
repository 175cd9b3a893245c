use Rattle.std.proofs.Common.{length, refl, sym}
use Rattle.lp_integers.proofs.Words.{spread_same}
use Rattle.lp_integers.proofs.few.Few.of_counted.Goals as goal

pub returns : goal.returns
returns c = sym (spread_same (length c.args.numbers.now) c.in_ok-words.words.items c.args.numbers.now refl (λ k less. c.in_ok-words.ensures.numbers k))
