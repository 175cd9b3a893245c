use Rattle.gms_rows.proofs.ReadAt.{affine-at}
use Rattle.gms_rows.proofs.RowsAtPoints.{lp-feasible}
use Rattle.gms_rows.proofs.laws.point_laws.Goals as goal

pub returns-clause-value : goal.returns-clause-value
returns-clause-value g c state point at b e form so is =
    affine-at g.F.ExactField.value g.F.ExactField.limit state point at b e form so is

pub returns-clause-feasible : goal.returns-clause-feasible
returns-clause-feasible g c state statements model objective maximize at lp point linear is =
    lp-feasible g.F.ExactField.value g.F.ExactField.limit state statements model objective maximize at lp point linear is
