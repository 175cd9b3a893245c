use Rattle.std.proofs.Common.{◌≡◌, ◌∙◌, ap, sym, subst, length, map, string_bytes, List, Option}
use Rattle.std.specs.Prelude.{flat_map, option_to_list, IfOk}
use Rattle.std.proofs.lemmas.List.{with_items_is}
use Rattle.gq_frac.specs.Frac.{frac_value}
use Rattle.gms_check.specs.declared.error.CompileError.{CompileError}
use Rattle.gms_check.specs.CompileErrors.{statement_errors}
use Rattle.gms_save.specs.JointErrors.{each_sooner, restart_error}
use Rattle.gms_save.specs.InnerRestartChecks.{error_by}
use Rattle.gms_save.proofs.Joints.{errors-length, each-length, each-same}
use Rattle.gms_save.proofs.Restarts.{error-same}
use Rattle.gms_save.proofs.joint.joint_errors.Goals as goal

pub add_errors-requires : goal.add_errors-requires
add_errors-requires c =
    let joint = c.args.joint.now in
    let each : c.as_mut_slice.result.now ≡ statement_errors frac_value joint c.deref.result.now = c.as_mut_slice.ensures.value ∙ c.in_ok-each.ensures in
    ap length each ∙ errors-length frac_value joint c.deref.result.now ∙ ap length (sym c.deref-2.ensures.value)

pub returns : goal.returns
returns c =
    let joint = c.args.joint.now in
    let from = c.args.from in
    let solvers = map string_bytes c.args.solvers.now in
    let check = c.in_ok-restart.restart in
    let names : c.deref.result.now ≡ solvers = c.deref.ensures.value ∙ c.in_ok-names.ensures in
    let each : c.as_mut_slice.result.now ≡ statement_errors frac_value joint solvers = c.as_mut_slice.ensures.value ∙ c.in_ok-each.ensures ∙ ap (statement_errors frac_value joint) names in
    let added : c.add_errors.new.each ≡ each_sooner (restart_error from joint) (statement_errors frac_value joint solvers) joint.statements.items =
    c.add_errors.ensures
    ∙ ap (λ (es : List (Option CompileError)). each_sooner (error_by check) es c.deref-2.result.now) each
    ∙ ap (each_sooner (error_by check) (statement_errors frac_value joint solvers)) c.deref-2.ensures.value
    ∙ each-same (error_by check) (restart_error from joint) (statement_errors frac_value joint solvers) joint.statements.items (error-same from joint check c.in_ok-restart.ensures) in
    let size : length c.add_errors.new.each ≡ length c.in_ok-each.each.items = ap length c.add_errors.ensures ∙ each-length (error_by check) c.as_mut_slice.result.now c.deref-2.result.now ∙ ap length c.as_mut_slice.ensures.value in
    let items = with_items_is c.in_ok-each.each c.add_errors.new.each (size ∙ sym c.in_ok-each.each.ok.0) in
    subst (λ (es : List (Option CompileError)). IfOk c.found_errors.result (λ errors. errors.items ≡ flat_map option_to_list es)) (c.deref-3.ensures.value ∙ items ∙ added) c.found_errors.ensures
