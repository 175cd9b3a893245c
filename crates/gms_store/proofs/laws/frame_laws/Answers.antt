use Rattle.gms_store.proofs.Frames.{attributes_keep, attributes_leave-members, attributes_leave-statuses, attributes_leave-values, membership_keeps, membership_leave-attributes, membership_leave-statuses, membership_leave-values, statuses_keep, statuses_leave-attributes, statuses_leave-members, statuses_leave-values, value_keeps, value_leave-attributes, value_leave-members, value_leave-statuses}
use Rattle.gms_store.proofs.laws.frame_laws.Goals as goal

pub returns-clause-value : goal.returns-clause-value
returns-clause-value c = value_keeps

pub returns-clause-value_leaves_members : goal.returns-clause-value_leaves_members
returns-clause-value_leaves_members c = value_leave-members

pub returns-clause-value_leaves_attributes : goal.returns-clause-value_leaves_attributes
returns-clause-value_leaves_attributes c = value_leave-attributes

pub returns-clause-value_leaves_statuses : goal.returns-clause-value_leaves_statuses
returns-clause-value_leaves_statuses c = value_leave-statuses

pub returns-clause-membership : goal.returns-clause-membership
returns-clause-membership c = membership_keeps

pub returns-clause-membership_leaves_values : goal.returns-clause-membership_leaves_values
returns-clause-membership_leaves_values c = membership_leave-values

pub returns-clause-membership_leaves_attributes : goal.returns-clause-membership_leaves_attributes
returns-clause-membership_leaves_attributes c = membership_leave-attributes

pub returns-clause-membership_leaves_statuses : goal.returns-clause-membership_leaves_statuses
returns-clause-membership_leaves_statuses c = membership_leave-statuses

pub returns-clause-attributes : goal.returns-clause-attributes
returns-clause-attributes c = attributes_keep

pub returns-clause-attributes_leave_values : goal.returns-clause-attributes_leave_values
returns-clause-attributes_leave_values c = attributes_leave-values

pub returns-clause-attributes_leave_members : goal.returns-clause-attributes_leave_members
returns-clause-attributes_leave_members c = attributes_leave-members

pub returns-clause-attributes_leave_statuses : goal.returns-clause-attributes_leave_statuses
returns-clause-attributes_leave_statuses c = attributes_leave-statuses

pub returns-clause-statuses : goal.returns-clause-statuses
returns-clause-statuses c = statuses_keep

pub returns-clause-statuses_leave_values : goal.returns-clause-statuses_leave_values
returns-clause-statuses_leave_values c = statuses_leave-values

pub returns-clause-statuses_leave_members : goal.returns-clause-statuses_leave_members
returns-clause-statuses_leave_members c = statuses_leave-members

pub returns-clause-statuses_leave_attributes : goal.returns-clause-statuses_leave_attributes
returns-clause-statuses_leave_attributes c = statuses_leave-attributes
