use Rattle.gms_exec.proofs.Once.{given-once}
use Rattle.gms_exec.proofs.laws.once_laws.Goals as goal

pub returns : goal.returns
returns g c state at binding target condition right_at right given left is =
    given-once g.F.ExactField.value g.F.ExactField.limit state binding target right_at right left at condition given is
