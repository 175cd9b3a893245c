use Rattle.gms_rows.proofs.PointSums.{sum_of-at, product_of-at, quotient_of-at}
use Rattle.gms_rows.proofs.laws.form_laws.Goals as goal

pub returns-clause-sum : goal.returns-clause-sum
returns-clause-sum g c point at b subtracts left right form is =
    sum_of-at point left right g.F.ExactField.limit at b subtracts form is

pub returns-clause-product : goal.returns-clause-product
returns-clause-product g c point at b left right form one is =
    product_of-at point g.F.ExactField.limit at b left right form one is

pub returns-clause-quotient : goal.returns-clause-quotient
returns-clause-quotient g c point at b left form x is =
    quotient_of-at point g.F.ExactField.limit at b left form x is
