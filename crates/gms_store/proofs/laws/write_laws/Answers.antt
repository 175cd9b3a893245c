use Rattle.gms_store.proofs.Writes.{value_after, value_elsewhere, attributes_after, attributes_elsewhere, membership_after, membership_elsewhere}
use Rattle.gms_store.proofs.laws.write_laws.Goals as goal

pub returns-clause-value : goal.returns-clause-value
returns-clause-value c = value_after

pub returns-clause-other_values : goal.returns-clause-other_values
returns-clause-other_values c = value_elsewhere

pub returns-clause-attributes : goal.returns-clause-attributes
returns-clause-attributes c = attributes_after

pub returns-clause-other_attributes : goal.returns-clause-other_attributes
returns-clause-other_attributes c = attributes_elsewhere

pub returns-clause-membership : goal.returns-clause-membership
returns-clause-membership c = membership_after

pub returns-clause-other_members : goal.returns-clause-other_members
returns-clause-other_members c = membership_elsewhere
