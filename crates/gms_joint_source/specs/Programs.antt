-- What the program of a joint source begins with (GAMS User's Guide, "Save and Restart").
use Rattle.std.specs.Prelude.{◌≡◌}
use Rattle.gq_number.specs.Number.{Number}
use Rattle.gms_ast.specs.StatementTrees.{Statements, followed_by}
use Rattle.gms_table.specs.WordLabels.{IsPrefix}
use Rattle.gms_parse.specs.Outcomes.{ProgramView}

-- The program `whole` begins with `first`: it has the names and labels of `first`, perhaps followed
-- by more, so that each has the same number in both; and it has the statements of `first`, perhaps
-- followed by others.
pub record IsProgramPrefix (first whole : ProgramView) : Type 0 where
  pub names : IsPrefix first.names whole.names
  pub labels : IsPrefix first.labels whole.labels
  pub statements : (others : Statements Number) × (whole.statements ≡ followed_by first.statements others)
