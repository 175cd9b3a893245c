use Rattle.gms_rows.proofs.RowLaws.{row-sources, row-one, row-differ}
use Rattle.gms_rows.proofs.laws.row_laws.Goals as goal

pub returns-clause-sources : goal.returns-clause-sources
returns-clause-sources g c = λ state d rows sets e. row-sources g.F.ExactField.value g.F.ExactField.limit state d rows sets e

pub returns-clause-one : goal.returns-clause-one
returns-clause-one g c =
    λ state d rows element tuple holds sets e there so at. row-one g.F.ExactField.value g.F.ExactField.limit state d rows sets e element tuple holds there so at

pub returns-clause-differ : goal.returns-clause-differ
returns-clause-differ g c = λ state d rows sets e. row-differ g.F.ExactField.value g.F.ExactField.limit state d rows sets e
