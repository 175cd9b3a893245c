use Rattle.std.proofs.Common.{length, ap, eq-eqb}
use Rattle.gq_text.proofs.ReadingBack.{digits_back, digits_alone}
use Rattle.gq_text.proofs.exact.digits_in.Goals as goal

pub returns-then-is_empty : goal.returns-then-is_empty
returns-then-is_empty c n small is =
    digits_back c.args.text.now c.split_digits.result.0.now c.split_digits.result.1.now c.spelled.result n small is c.split_digits.ensures c.spelled.ensures

pub returns-else-is_empty : goal.returns-else-is_empty
returns-else-is_empty c n small is =
    let none = digits_alone c.args.text.now c.split_digits.result.0.now c.split_digits.result.1.now n small is c.split_digits.ensures in
    let empty = eq-eqb (length c.split_digits.result.1.now) 0 (ap length none) in cc
