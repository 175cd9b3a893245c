use Rattle.lp_std.proofs.Stops.{below_test}
use Rattle.lp_std.proofs.bounds.crosses.Goals as goal

pub returns-in-Some-Some : goal.returns-in-Some-Some
returns-in-Some-Some g c =
    rw (c.in-Some-Some.is-0, c.in-Some-Some.is-1) (below_test c.is_lt.result c.cmp_value.result (g.F.ExactField.value c.in-Some-Some.upper) (g.F.ExactField.value c.in-Some-Some.lower) c.is_lt.ensures c.cmp_value.ensures)
