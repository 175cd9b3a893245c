use Rattle.std.proofs.Common.{◌∙◌}
use Rattle.gms_list.proofs.AppendedPieces.{untouched, reshaped}
use Rattle.gms_list.proofs.Shapes.{solve_line}
use Rattle.gms_list.proofs.listing.Listing.push_solve_head.Goals as goal

pub returns-in_err-objective : goal.returns-in_err-objective
returns-in_err-objective g c = λ place. untouched _ _ c.from_residual.result c.from_residual.ensures.0

pub returns-in_err-head : goal.returns-in_err-head
returns-in_err-head g c = λ place. untouched _ _ c.from_residual-in_err-head.result c.from_residual-in_err-head.ensures.0

pub returns : goal.returns
returns g c = λ place.
    reshaped _ _ c.as_str.result.now _ c.push.result (solve_line _ _ _ _ _ _ _ c.args.s.now.line (c.as_str.ensures.value ∙ c.in_ok-head.ensures.ok) c.text_of-model.ensures c.direction-direction.ensures c.in_ok-objective.ensures) c.push.ensures
