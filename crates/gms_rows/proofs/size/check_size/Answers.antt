use Rattle.std.proofs.Common.{◌+◌, arith}
use Rattle.std.specs.Prelude.{sum_by}
use Rattle.lp_core.specs.WellFormed.{rows_of_sense, rows_of_bounds, variables_of_bounds}
use Rattle.lp_core.specs.declared.program.Column.{Column}
use Rattle.gms_rows.specs.declared.form_row.FormRow.{FormRow}
use Rattle.gms_rows.proofs.Sizing.{sized-rows, sized-columns, sized-few}
use Rattle.gms_rows.proofs.size.check_size.Goals as goal

pub returns-then-count-gt-MOST_ROWS-clause-stop : goal.returns-then-count-gt-MOST_ROWS-clause-stop
returns-then-count-gt-MOST_ROWS-clause-stop g c lp rows-are columns-are =
    sized-rows g.F.ExactField.value c.args.at lp (sum_by (λ (row : FormRow _). rows_of_sense row.sense) c.args.rows.now + sum_by (λ (column : Column _). rows_of_bounds column.lower column.upper) c.args.columns.now) (sum_by (λ (column : Column _). variables_of_bounds column.lower column.upper) c.args.columns.now) rows-are columns-are c.standard_rows-count.result c.too_many.result c.standard_rows-count.ensures c.if-count-gt-MOST_ROWS.true c.too_many.ensures

pub returns-then-count-gt-MOST_COLUMNS-clause-stop : goal.returns-then-count-gt-MOST_COLUMNS-clause-stop
returns-then-count-gt-MOST_COLUMNS-clause-stop g c lp rows-are columns-are =
    sized-columns g.F.ExactField.value c.args.at lp (sum_by (λ (row : FormRow _). rows_of_sense row.sense) c.args.rows.now + sum_by (λ (column : Column _). rows_of_bounds column.lower column.upper) c.args.columns.now) (sum_by (λ (column : Column _). variables_of_bounds column.lower column.upper) c.args.columns.now) rows-are columns-are (omega (arith, c.standard_rows-count.ensures, c.if-count-gt-MOST_ROWS.false)) c.count_variables-count.result c.too_many-then-count-gt-MOST_COLUMNS.result c.count_variables-count.ensures c.if-count-gt-MOST_COLUMNS.true c.too_many-then-count-gt-MOST_COLUMNS.ensures

pub returns-clause-stop : goal.returns-clause-stop
returns-clause-stop g c lp rows-are columns-are =
    sized-few g.F.ExactField.value c.args.at lp (sum_by (λ (row : FormRow _). rows_of_sense row.sense) c.args.rows.now + sum_by (λ (column : Column _). rows_of_bounds column.lower column.upper) c.args.columns.now) (sum_by (λ (column : Column _). variables_of_bounds column.lower column.upper) c.args.columns.now) rows-are columns-are (omega (arith, c.standard_rows-count.ensures, c.if-count-gt-MOST_ROWS.false)) (omega (arith, c.count_variables-count.ensures, c.if-count-gt-MOST_COLUMNS.false))

pub returns-clause-rows : goal.returns-clause-rows
returns-clause-rows g c = (omega (arith, c.standard_rows-count.ensures, c.if-count-gt-MOST_ROWS.false))

pub returns-clause-columns : goal.returns-clause-columns
returns-clause-columns g c = omega (arith, c.count_variables-count.ensures, c.if-count-gt-MOST_COLUMNS.false)
