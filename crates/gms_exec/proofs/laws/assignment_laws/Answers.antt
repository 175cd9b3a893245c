use Rattle.std.proofs.Common.{refl}
use Rattle.gms_exec.proofs.Assigned.{values-after, members-after, attributes-after, symbol-not_given}
use Rattle.gms_exec.proofs.laws.assignment_laws.Goals as goal

pub returns-clause-values : goal.returns-clause-values
returns-clause-values c = values-after

pub returns-clause-members : goal.returns-clause-members
returns-clause-members c = λ state name kind all members t within is fit. members-after state name kind all within fit members t is

pub returns-clause-attributes : goal.returns-clause-attributes
returns-clause-attributes c = λ state name kind all t within has fit. attributes-after state name kind all within fit t has

pub returns-clause-others : goal.returns-clause-others
returns-clause-others c = λ state name other kind all apart. symbol-not_given state name kind all other apart

pub returns-clause-settings : goal.returns-clause-settings
returns-clause-settings c = λ state name kind all. refl
