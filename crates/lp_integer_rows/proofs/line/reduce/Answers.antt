use Rattle.std.proofs.Common.{ℕ, ◌/◌, ◌≤◌, refl, subst, arith}
use Rattle.std.proofs.lemmas.Nat.Gcd.{le_of_dvd}
use Rattle.std.proofs.Math.Nat.{eq-one_of_dvd-one}
use Rattle.std.specs.Int.{◌∣◌}
use Rattle.lp_integer_rows.specs.declared.line.Line.{Line}
use Rattle.lp_integer_rows.proofs.Updating.{same_line, divided_reduced}
use Rattle.lp_integer_rows.proofs.line.reduce.Goals as goal

pub divide-requires-clause-small : goal.divide-requires-clause-small
divide-requires-clause-small c =
    let most : c.divisor_of-divisor.result ≤ c.args.line.now.denominator = le_of_dvd c.requires.positive c.divisor_of-divisor.ensures.denominator in
    let low = c.requires.denominator_within in
    let high = c.requires.small in
    omega arith

pub returns-clause-same : goal.returns-clause-same
returns-clause-same c =
    let g : ℕ = c.divisor_of-divisor.result in
    let after : Line = record { numbers = c.divide.new.self; denominator = c.args.line.now.denominator / g; most = c.args.line.now.most / g; marks = c.args.line.now.marks; leading = c.of-line.result } in
    same_line c.args.line.now after g c.requires c.divisor_of-divisor.ensures.positive c.divisor_of-divisor.ensures.denominator c.in_ok-divide.ensures.sized c.in_ok-divide.ensures.numbers refl refl refl c.of-line.ensures

pub returns-clause-reduced : goal.returns-clause-reduced
returns-clause-reduced c =
    let g : ℕ = c.divisor_of-divisor.result in
    let after : Line = record { numbers = c.divide.new.self; denominator = c.args.line.now.denominator / g; most = c.args.line.now.most / g; marks = c.args.line.now.marks; leading = c.of-line.result } in
    divided_reduced c.args.line.now after g c.divisor_of-divisor.ensures.positive c.divisor_of-divisor.ensures.denominator c.divisor_of-divisor.ensures.greatest c.in_ok-divide.ensures.numbers refl

pub returns-then-divisor-eq1-clause-reduced : goal.returns-then-divisor-eq1-clause-reduced
returns-then-divisor-eq1-clause-reduced c = λ d of_denominator of_all. eq-one_of_dvd-one (subst (λ g. d ∣ g) c.if-divisor-eq1.true (c.divisor_of-divisor.ensures.greatest d of_denominator of_all))
