use Rattle.std.proofs.Common.{◌≤◌, arith}
use Rattle.lp_simplex.proofs.Existing.{some_answer}
use Rattle.lp_simplex.proofs.existence.an_answer.Goals as goal

pub returns : goal.returns
returns g c lp iterlim formed =
    let range = g.met.F.ExactField.limit_range in
    let least = range.0 in
    let some : 1 ≤ g.F.ExactField.limit = omega arith in
    some_answer g.F.ExactField.value g.F.ExactField.limit some range.1 g.met.F.ExactField.within g.met.F.ExactField.each_number lp formed iterlim g.C.Finding.chooses g.C.Finding.improving g.C.Finding.always
