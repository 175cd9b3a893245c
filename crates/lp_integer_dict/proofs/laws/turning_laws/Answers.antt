-- The laws of the exchange with variable 0 deferred.
use Rattle.lp_integer_rows.proofs.Turning.{own, other, turned_negated, above, leaves}
use Rattle.lp_integer_dict.proofs.laws.turning_laws.Goals as goal

pub returns-clause-own : goal.returns-clause-own
returns-clause-own c = own

pub returns-clause-other : goal.returns-clause-other
returns-clause-other c = λ n z q k l i v apart some_z some_q some_entry. other n z q k l apart some_z some_q some_entry i v

pub returns-clause-negated : goal.returns-clause-negated
returns-clause-negated c = turned_negated

pub returns-clause-above : goal.returns-clause-above
returns-clause-above c = λ d kept q k l apart stays enters leaves a. above d kept q k a enters l apart stays leaves

pub returns-clause-leaves : goal.returns-clause-leaves
returns-clause-leaves c = λ d kept q k i v is enters a. leaves d kept q k a enters i v is
