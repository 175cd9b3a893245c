use Rattle.std.proofs.Common.{◌∙◌, codes, map}
use Rattle.gms_list.proofs.AppendedPieces.{untouched, reshaped}
use Rattle.gms_list.proofs.Shapes.{word_line}
use Rattle.gms_list.proofs.BoundLines.{bound_shown, bound_not_shown}
use Rattle.gms_list.proofs.listing.Listing.push_dual_bound.Goals as goal

pub returns-in_err-line-in-Ok : goal.returns-in_err-line-in-Ok
returns-in_err-line-in-Ok g c = untouched _ _ c.from_residual.result c.from_residual.ensures.0

pub returns-in_ok-line-in-Ok : goal.returns-in_ok-line-in-Ok
returns-in_ok-line-in-Ok g c =
    reshaped _ _ c.as_str.result.now _ c.push.result (word_line _ (codes "  bound ") _ _ (c.as_str.ensures.value ∙ c.in_ok-line-in-Ok.ensures.ok) c.exact-number.ensures
    ∙ bound_shown g.F.ExactField.value g.F.ExactField.limit c.args.lp.now (map g.F.ExactField.value c.args.duals.now) c.args.with_objective (g.F.ExactField.value c.in-Ok.bound) c.in-Ok.ensures.value.0 c.in-Ok.ensures.value.1) c.push.ensures

pub returns-in_err-name-in-Err : goal.returns-in_err-name-in-Err
returns-in_err-name-in-Err g c = untouched _ _ c.from_residual-in_err-name-in-Err.result c.from_residual-in_err-name-in-Err.ensures.0

pub returns-in_err-line-in-Err : goal.returns-in_err-line-in-Err
returns-in_err-line-in-Err g c = untouched _ _ c.from_residual-in_err-line-in-Err.result c.from_residual-in_err-line-in-Err.ensures.0

pub returns-in_ok-line-in-Err : goal.returns-in_ok-line-in-Err
returns-in_ok-line-in-Err g c =
    reshaped _ _ c.as_str-in-Err.result.now _ c.push-in-Err.result (bound_not_shown g.F.ExactField.value g.F.ExactField.limit c.args.lp.now (map g.F.ExactField.value c.args.duals.now) c.args.with_objective c.in-Err.step c.as_str-in-Err.result.now _ c.in-Err.ensures.value (c.as_str-in-Err.ensures.value ∙ c.in_ok-line-in-Err.ensures.ok) c.in_ok-name-in-Err.ensures) c.push-in-Err.ensures
