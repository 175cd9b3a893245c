use Rattle.std.proofs.Common.{◌∙◌, ◌++◌, ap, sym, Bool, Option, None}
use Rattle.std.specs.Prelude.{if◌then◌else◌}
use Rattle.gms_check.specs.declared.error.CompileError.{CompileError}
use Rattle.gms_check.specs.Errors.{first_error, sooner}
use Rattle.gms_check.proofs.Sooner.{first_of-append}
use Rattle.gms_save.specs.JointErrors.{restarts_at, targets, typed_names}
use Rattle.gms_save.specs.InnerRestartChecks.{fixed_by, variable_in}
use Rattle.gms_save.proofs.restart.RestartCheck.error_of.Goals as goal

pub returns-then-is_saved : goal.returns-then-is_saved
returns-then-is_saved c =
    let check = c.args.self.now in
    let statement = c.args.statement.now in
    ap (λ (b : Bool). if b then None else first_error (restarts_at (variable_in check.saved) (typed_names statement.act) ++ restarts_at (fixed_by check) (targets statement))) c.if-is_saved.ensures

pub returns : goal.returns
returns c =
    let check = c.args.self.now in
    let statement = c.args.statement.now in
    let typed = restarts_at (variable_in check.saved) (typed_names statement.act) in
    let assigned = restarts_at (fixed_by check) (targets statement) in
    c.sooner.ensures
    ∙ ap (λ (error : Option CompileError). sooner error c.target_error.result) c.type_error.ensures
    ∙ ap (sooner (first_error typed)) c.target_error.ensures
    ∙ sym (first_of-append typed assigned)
    ∙ ap (λ (b : Bool). if b then None else first_error (typed ++ assigned)) c.if-is_saved.ensures
