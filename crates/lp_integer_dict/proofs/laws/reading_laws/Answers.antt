-- How a dictionary with variable 0 deferred is read.
use Rattle.lp_integer_dict.proofs.Above.{read_own, read_other}
use Rattle.lp_integer_dict.proofs.laws.reading_laws.Goals as goal

pub returns-clause-own : goal.returns-clause-own
returns-clause-own c = λ n d z k u v pivot above positive. read_own n d z k u pivot above positive v

pub returns-clause-other : goal.returns-clause-other
returns-clause-other c = λ n d z k u i v pivot above positive other. read_other n d z k u pivot above positive i v other
