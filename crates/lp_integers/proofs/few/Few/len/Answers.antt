use Rattle.std.proofs.Common.{length, sym, ap, ◌∙◌}
use Rattle.lp_integers.proofs.Words.{spread_length}
use Rattle.lp_integers.proofs.few.Few.len.Goals as goal

pub returns : goal.returns
returns c = sym (spread_length c.self.inside.len c.self.inside.words.items) ∙ ap length c.self.view_is
