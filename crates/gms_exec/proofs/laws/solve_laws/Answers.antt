use Rattle.gms_exec.proofs.AfterSolve.{optimal-column, optimal-row, feasible-column, feasible-row, no-point, other-element, other-name, statuses-after, settings-after}
use Rattle.gms_exec.proofs.laws.solve_laws.Goals as goal

pub returns-clause-optimal_column : goal.returns-clause-optimal_column
returns-clause-optimal_column c = optimal-column

pub returns-clause-optimal_row : goal.returns-clause-optimal_row
returns-clause-optimal_row c = optimal-row

pub returns-clause-feasible_column : goal.returns-clause-feasible_column
returns-clause-feasible_column c = feasible-column

pub returns-clause-feasible_row : goal.returns-clause-feasible_row
returns-clause-feasible_row c = feasible-row

pub returns-clause-no_point : goal.returns-clause-no_point
returns-clause-no_point c = no-point

pub returns-clause-other_elements : goal.returns-clause-other_elements
returns-clause-other_elements c = other-element

pub returns-clause-other_names : goal.returns-clause-other_names
returns-clause-other_names c = other-name

pub returns-clause-statuses : goal.returns-clause-statuses
returns-clause-statuses c = statuses-after

pub returns-clause-settings : goal.returns-clause-settings
returns-clause-settings c = settings-after
