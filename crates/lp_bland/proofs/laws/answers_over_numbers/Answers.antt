use Rattle.lp_bland.proofs.Answered.{over_numbers}
use Rattle.lp_bland.proofs.laws.answers_over_numbers.Goals as goal

pub returns : goal.returns
returns g c lp iterlim rule answer formed is =
    over_numbers g.F.ExactField.value g.F.ExactField.limit lp iterlim rule formed answer is
