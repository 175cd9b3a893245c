-- The numbers and names of the errors of tables.
use Rattle.std.specs.Prelude.{ℕ, List, codes}
use Rattle.gms_table.specs.declared.fault.TableError.{TableError}
use Rattle.gms_table.specs.declared.fault.TableError.TheVariants.{NoColumn, TwoColumns, RepeatedEntry, BadRow, NoHeading, Labels}

-- the number of an error of a table
abbrev pub table_error_code : TableError → ℕ
table_error_code NoColumn = 21
table_error_code TwoColumns = 22
table_error_code RepeatedEntry = 23
table_error_code BadRow = 24
table_error_code NoHeading = 25
table_error_code Labels = 26

-- the name of an error of a table
abbrev pub table_error_name : TableError → List ℕ
table_error_name NoColumn = codes "NoColumn"
table_error_name TwoColumns = codes "TwoColumns"
table_error_name RepeatedEntry = codes "RepeatedEntry"
table_error_name BadRow = codes "BadRow"
table_error_name NoHeading = codes "NoHeading"
table_error_name Labels = codes "Labels"
