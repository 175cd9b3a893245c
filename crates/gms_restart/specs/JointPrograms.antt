-- The program of a saved source followed by a file, by the lines at which its statements begin
-- (GAMS User's Guide, "Save and Restart").
use Rattle.std.specs.Prelude.{◌≡◌, ℕ}
use Rattle.gq_number.specs.Number.{Number}
use Rattle.gms_ast.specs.StatementTrees.{Statements, followed_by}
use Rattle.gms_parse.specs.Outcomes.{ProgramView}
use Rattle.gms_restart.specs.StatementLines.{SeenNew, SeenSaved}

-- The program `whole` has the statements of `first`, each of which begins before the line `from`,
-- followed by others, each of which begins at that line or after it.
pub record Continues (from : ℕ) (first whole : ProgramView) : Type 0 where
  pub others : Statements Number
  pub statements : whole.statements ≡ followed_by first.statements others
  pub olds : SeenSaved from first.statements
  pub news : SeenNew from others
