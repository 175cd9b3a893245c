-- The laws of a line in an exchange.
use Rattle.lp_integer_rows.proofs.Lessening.{divided_line, lessened, compare_most, compare_below}
use Rattle.lp_integer_dict.proofs.laws.line_laws.Goals as goal

pub returns-clause-divided : goal.returns-clause-divided
returns-clause-divided c = divided_line

pub returns-clause-lessened : goal.returns-clause-lessened
returns-clause-lessened c = lessened

pub returns-clause-compare_most : goal.returns-clause-compare_most
returns-clause-compare_most c = compare_most

pub returns-clause-compare_below : goal.returns-clause-compare_below
returns-clause-compare_below c = compare_below
