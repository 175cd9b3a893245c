-- The magnitude of a number goes by its sign.
use Rattle.std.proofs.Common.{◌∙◌}
use Rattle.gq_extended.proofs.Signs.{abs_if_below, abs_if_not_below}
use Rattle.gq_extended.proofs.roundings.number_abs.Goals as goal

pub returns-then-sign-lt0 : goal.returns-then-sign-lt0
returns-then-sign-lt0 g c = c.neg.ensures ∙ abs_if_below _ _ c.sign.ensures c.if-sign-lt0.true

pub returns-else-sign-lt0 : goal.returns-else-sign-lt0
returns-else-sign-lt0 g c = abs_if_not_below _ _ c.sign.ensures c.if-sign-lt0.false
