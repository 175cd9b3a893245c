use Rattle.std.proofs.Common.{◌-◌, ◌^◌, subst}
use Rattle.lp_integers.specs.Lines.{AreWithin}
use Rattle.lp_integers.proofs.Words.{spread_within}
use Rattle.lp_integers.proofs.few.Few.keeps.Goals as goal

pub returns : goal.returns
returns c = subst (λ list. AreWithin list (2 ^ 63 - 1)) c.self.view_is (spread_within c.self.inside.len c.self.inside.words.items (2 ^ 63 - 1) c.self.invariant)
