use Rattle.std.proofs.Common.{◌≢◌, length, ap, subst, sym, arith}
use Rattle.std.specs.Prelude.{sum_by}
use Rattle.std.specs.List.{AllPairs}
use Rattle.std.proofs.lemmas.Bool.{both_ways}
use Rattle.lp_core.specs.declared.program.Column.{Column}
use Rattle.lp_core.specs.declared.program.Row.{Row}
use Rattle.lp_core.specs.WellFormed.{rows_of_sense, rows_of_bounds, variables_of_bounds}
use Rattle.lp_core.proofs.shape.well_formed.Goals as goal

pub returns-then-lp-columns : goal.returns-then-lp-columns
returns-then-lp-columns g c = (λ e. absurd (cc), λ formed. absurd (omega (arith, formed.objective, ap length c.as_slice-columns.ensures)))

pub returns-then-standard_rows-gt-MOST_ROWS : goal.returns-then-standard_rows-gt-MOST_ROWS
returns-then-standard_rows-gt-MOST_ROWS g c = (
  λ e. absurd (cc),
  λ formed.
      let rows = ap (λ rows. sum_by (λ (row : Row _). rows_of_sense row.sense) rows) c.as_slice-rows.ensures in
      let bounds = ap (λ columns. sum_by (λ (column : Column _). rows_of_bounds column.lower column.upper) columns) c.as_slice-columns.ensures in
      absurd (omega (arith, formed.rows_few, rows, bounds, c.count_rows.ensures, c.count_bounds.ensures, c.saturating_add-standard_rows.ensures)),
)

pub returns-then-count_variables-gt-MOST_COLUMNS : goal.returns-then-count_variables-gt-MOST_COLUMNS
returns-then-count_variables-gt-MOST_COLUMNS g c = (
  λ e. absurd (cc),
  λ formed.
      let columns = ap (λ columns. sum_by (λ (column : Column _). variables_of_bounds column.lower column.upper) columns) c.as_slice-columns.ensures in
      absurd (omega (arith, formed.columns_few, columns, c.count_variables.ensures)),
)

pub returns-then-not-columns_differ : goal.returns-then-not-columns_differ
returns-then-not-columns_differ g c =
    (λ e. absurd (cc), λ formed. absurd (both_ways c.columns_differ.result c.if-not-columns_differ.true (c.columns_differ.ensures.1 (subst (AllPairs (λ (a b : Column _). a.key ≢ b.key)) (sym c.as_slice-columns.ensures) formed.columns_differ))))

pub returns-then-not-rows_differ : goal.returns-then-not-rows_differ
returns-then-not-rows_differ g c =
    (λ e. absurd (cc), λ formed. absurd (both_ways c.rows_differ.result c.if-not-rows_differ.true (c.rows_differ.ensures.1 (subst (AllPairs (λ (a b : Row _). a.key ≢ b.key)) (sym c.as_slice-rows.ensures) formed.rows_differ))))

pub returns : goal.returns
returns g c =
    let rows = ap (λ rows. sum_by (λ (row : Row _). rows_of_sense row.sense) rows) c.as_slice-rows.ensures in
    let bounds = ap (λ columns. sum_by (λ (column : Column _). rows_of_bounds column.lower column.upper) columns) c.as_slice-columns.ensures in
    let variables = ap (λ columns. sum_by (λ (column : Column _). variables_of_bounds column.lower column.upper) columns) c.as_slice-columns.ensures in
    let same = ap length c.as_slice-columns.ensures in (
      λ e. record {
        objective = omega (arith, same, c.if-lp-columns.false);
        columns_differ = subst (AllPairs (λ (a b : Column _). a.key ≢ b.key)) c.as_slice-columns.ensures (c.columns_differ.ensures.0 c.if-not-columns_differ.false);
        rows_differ = subst (AllPairs (λ (a b : Row _). a.key ≢ b.key)) c.as_slice-rows.ensures (c.rows_differ.ensures.0 c.if-not-rows_differ.false);
        entries = rw (← same, ← c.as_slice-rows.ensures) (c.have_entries.ensures.0 e);
        rows_few = omega (arith, rows, bounds, c.count_rows.ensures, c.count_bounds.ensures, c.saturating_add-standard_rows.ensures);
        columns_few = omega (arith, variables, c.count_variables.ensures);
      },
      λ formed. c.have_entries.ensures.1 (rw (same, c.as_slice-rows.ensures) formed.entries),
    )
