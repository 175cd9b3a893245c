use Rattle.std.proofs.Common.{subst}
use Rattle.lp_integer_dict.specs.Whole.{IsWhole}
use Rattle.lp_integer_dict.proofs.Wholes.{number_past, number_outside}
use Rattle.lp_integer_dict.proofs.whole.Whole.keeps.Goals as goal

pub returns-clause-proper : goal.returns-clause-proper
returns-clause-proper c = (subst IsWhole c.self.view_is c.self.invariant).proper

pub returns-clause-sized : goal.returns-clause-sized
returns-clause-sized c = (subst IsWhole c.self.view_is c.self.invariant).sized

pub returns-clause-bound : goal.returns-clause-bound
returns-clause-bound c = (subst IsWhole c.self.view_is c.self.invariant).are_whole.small

pub returns-clause-past : goal.returns-clause-past
returns-clause-past c = λ k v past. number_past c.args.self.now k v past

pub returns-clause-outside : goal.returns-clause-outside
returns-clause-outside c = λ k v past. number_outside c.args.self.now (subst IsWhole c.self.view_is c.self.invariant) k v past
