use Rattle.std.proofs.Common.{◌≤◌, arith}
use Rattle.lp_core.proofs.Rules.{bland_choice, bland_answer}
use Rattle.lp_simplex.proofs.Existing.{some_answer}
use Rattle.lp_bland.proofs.Few.{least_chosen}
use Rattle.lp_bland.proofs.laws.an_answer.Goals as goal

pub returns : goal.returns
returns g c lp iterlim formed =
    let value = g.F.ExactField.value in
    let limit = g.F.ExactField.limit in
    let range = g.met.F.ExactField.limit_range in
    let least = range.0 in
    let some : 1 ≤ limit = omega arith in
    let made = some_answer value limit some range.1 g.met.F.ExactField.within g.met.F.ExactField.each_number lp formed iterlim bland_choice (λ first pivots d q chosen. chosen.0) least_chosen in
    (made.0, bland_answer value limit lp iterlim made.0 made.1)
