-- When a source is accepted, and that each generated model is (GAMS User's Guide, "GAMS Programs";
-- the model is that of "A GAMS Tutorial by Richard E. Rosenthal").
use Rattle.std.specs.Prelude.{◌≡◌, ℕ, ◌≤◌, List, []}
use Rattle.gq_frac.specs.declared.frac.Frac.{Frac}
use Rattle.gq_frac.specs.Frac.{frac_value, frac_limit}
use Rattle.gms_ast.specs.declared.program.Program.{Program}
use Rattle.gms_parse.specs.Outcomes.{ProgramView, program_view, HasProgram}
use Rattle.gms_check.specs.CompileErrors.{compile_errors}
use Rattle.gms_gen.specs.Generator.{generated_model_text}

-- A source is accepted with solvers of these names: it has a program, under the limit `frac_limit`
-- of the size of numbers, and each stored form of that program has no compile error.
pub record IsAcceptedSource (solvers : List (List ℕ)) (source : List ℕ) : Type 0 where
  -- the view of the program
  pub view : ProgramView
  pub has_program : HasProgram frac_limit source view
  pub no_error : (program : Program Frac) → program_view frac_value program ≡ view → compile_errors frac_value program solvers ≡ []

-- Each model that `--generate N` writes, with N from 1 to 30 as its seed, its number of plants and
-- its number of markets, is accepted with solvers of any names.
abbrev pub GeneratedAreAccepted : Type 0
GeneratedAreAccepted = (size : ℕ) → 1 ≤ size → size ≤ 30 → (solvers : List (List ℕ)) → IsAcceptedSource solvers (generated_model_text size size size)
