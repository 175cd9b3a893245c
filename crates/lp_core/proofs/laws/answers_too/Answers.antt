use Rattle.lp_core.proofs.Rules.{bland_is_legal}
use Rattle.lp_core.proofs.Optimum.{optimum_within}
use Rattle.lp_core.proofs.laws.answers_too.Goals as goal

pub returns-clause-legal : goal.returns-clause-legal
returns-clause-legal g c lp iterlim answer is = bland_is_legal g.F.ExactField.value g.F.ExactField.limit lp iterlim answer is

pub returns-clause-within : goal.returns-clause-within
returns-clause-within g c lp iterlim other rule answer levels row_levels duals reduced is few answers =
    optimum_within g.F.ExactField.value g.F.ExactField.limit lp iterlim rule answer levels row_levels duals reduced other is few answers
