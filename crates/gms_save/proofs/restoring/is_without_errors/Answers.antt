use Rattle.std.proofs.Common.{◌≡◌, ◌∙◌, ◌==◌, List, ℕ, Option, ap, arith, length}
use Rattle.std.specs.Prelude.{flat_map, option_to_list, vec_len}
use Rattle.gq_frac.specs.Frac.{frac_value}
use Rattle.gms_check.specs.declared.error.CompileError.{CompileError}
use Rattle.gms_check.specs.CompileErrors.{compile_errors, statement_errors}
use Rattle.gms_save.specs.Saves.{solvers_chosen}
use Rattle.gms_save.proofs.Restored.{none_there}
use Rattle.gms_save.proofs.restoring.is_without_errors.Goals as goal

pub returns : goal.returns
returns c =
    let program = c.args.program.now in
    let each = c.in_ok-each.ensures ∙ ap (λ (names : List (List ℕ)). statement_errors frac_value program names) (c.deref.ensures.value ∙ c.in_ok-solvers.ensures) in
    let found = c.in_ok-errors.ensures ∙ ap (λ (errors : List (Option CompileError)). flat_map option_to_list errors) (c.deref-2.ensures.value ∙ each) in
    let size : vec_len c.in_ok-errors.errors ≡ length c.in_ok-errors.errors.items = omega (arith, c.in_ok-errors.errors.ok.0) in
    none_there c.in_ok-errors.errors.items (compile_errors frac_value program (solvers_chosen program)) c.is_empty.result found (c.is_empty.ensures ∙ ap (λ (n : ℕ). n == 0) size)
