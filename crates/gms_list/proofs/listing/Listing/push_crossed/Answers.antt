use Rattle.std.proofs.Common.{◌∙◌}
use Rattle.gms_list.proofs.AppendedPieces.{untouched, reshaped}
use Rattle.gms_list.proofs.Shapes.{crossed_line}
use Rattle.std.proofs.Common.{ap₂, ◌++◌, sym, List, ℕ}
use Rattle.std.specs.Prelude.{option_to_list}
use Rattle.std.proofs.lemmas.Grind.{flat_map-append}
use Rattle.lp_core.specs.Feasible.{bound_value}
use Rattle.gms_list.specs.SolveText.{crossed_text}
use Rattle.gms_list.proofs.listing.Listing.push_crossed.Goals as goal

pub returns-in_err-key : goal.returns-in_err-key
returns-in_err-key g c = untouched _ _ c.from_residual.result c.from_residual.ensures.0

pub returns-in_err-lower : goal.returns-in_err-lower
returns-in_err-lower g c = untouched _ _ c.from_residual-in_err-lower.result c.from_residual-in_err-lower.ensures.0

pub returns-in_err-upper : goal.returns-in_err-upper
returns-in_err-upper g c = untouched _ _ c.from_residual-in_err-upper.result c.from_residual-in_err-upper.ensures.0

pub returns-in_err-line : goal.returns-in_err-line
returns-in_err-line g c = untouched _ _ c.from_residual-in_err-line.result c.from_residual-in_err-line.ensures.0

pub returns : goal.returns
returns g c =
    reshaped _ _ c.as_str.result.now _ c.push.result (crossed_line _ _ _ _ _ _ (c.as_str.ensures.value ∙ c.in_ok-line.ensures.ok) c.in_ok-key.ensures (ap₂ (λ (a b : List ℕ). a ++ b) c.in_ok-lower.ensures c.in_ok-upper.ensures ∙ sym (flat_map-append crossed_text (option_to_list (bound_value g.F.ExactField.value c.args.column.now.lower)) (option_to_list (bound_value g.F.ExactField.value c.args.column.now.upper))))) c.push.ensures
