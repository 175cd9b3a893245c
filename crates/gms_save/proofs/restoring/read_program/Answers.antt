use Rattle.std.proofs.lemmas.Bool.{both_ways}
use Rattle.gms_save.proofs.Restored.{refused}
use Rattle.std.proofs.Common.{true, false, inr}
use Rattle.gms_save.proofs.restoring.read_program.Goals as goal

pub returns-in_err-program : goal.returns-in_err-program
returns-in_err-program c = refused _ _ c.args.source.now c.from_residual.ensures.1 c.in_err-program.ensures

pub returns-then-not-branch : goal.returns-then-not-branch
returns-then-not-branch c =
    inr (c.in_ok-program.program, c.in_ok-program.ensures, λ none. both_ways c.in_ok-is_without_errors.field-0 c.if-not-branch.true (c.in_ok-is_without_errors.ensures.1 none))

pub returns : goal.returns
returns c = record { is_program = c.in_ok-program.ensures; no_error = c.in_ok-is_without_errors.ensures.0 c.if-not-branch.false }
