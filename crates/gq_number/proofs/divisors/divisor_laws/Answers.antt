-- The laws of the greatest common divisor.
use Rattle.gq_number.proofs.Gcd.{gcd-dvd_left, gcd-dvd_right, dvd-gcd, gcd_greatest}
use Rattle.gq_number.proofs.divisors.divisor_laws.Goals as goal

pub returns-clause-divides_first : goal.returns-clause-divides_first
returns-clause-divides_first c = gcd-dvd_left

pub returns-clause-divides_second : goal.returns-clause-divides_second
returns-clause-divides_second c = gcd-dvd_right

pub returns-clause-common_divides : goal.returns-clause-common_divides
returns-clause-common_divides c = dvd-gcd

pub returns-clause-greatest : goal.returns-clause-greatest
returns-clause-greatest c = gcd_greatest
