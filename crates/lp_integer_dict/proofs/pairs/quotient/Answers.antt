use Rattle.lp_integer_rows.proofs.Updating.{divided_by}
use Rattle.lp_integer_dict.proofs.pairs.quotient.Goals as goal

pub returns : goal.returns
returns c = (divided_by c.args.n c.args.divisor c.ranges.n c.requires.positive c.requires.small c.requires.divides).value

pub nonzero_div-result : goal.nonzero_div-result
nonzero_div-result c = (c.requires.positive, (divided_by c.args.n c.args.divisor c.ranges.n c.requires.positive c.requires.small c.requires.divides).fits)
