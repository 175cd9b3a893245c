use Rattle.std.proofs.Common.{subst}
use Rattle.lp_core.specs.Steps.{exchange_steps}
use Rattle.lp_fraction_dict.specs.Pivots.{StopsAtStep}
use Rattle.lp_dict.specs.Tableau.{dictionary}
use Rattle.lp_range.proofs.Loops.{fit_or_stop, leaves_row}
use Rattle.lp_range.proofs.replay.after.Goals as goal

pub unreachable-requires : goal.unreachable-requires
unreachable-requires g c =
    let d = dictionary g.F.ExactField.value c.args.dict in
    let steps = exchange_steps g.F.ExactField.limit c.args.dict.upcoming (dictionary g.F.ExactField.value c.args.dict) c.args.pivot.enter c.requires.0 in
    fit_or_stop steps c.in-Err-Limit.field-0-0 c.requires.2
    (subst (StopsAtStep steps) c.in-Err-Limit.field-0-is (c.in-Err-Limit.ensures.limit c.requires.0 (leaves_row d c.args.pivot c.requires.0 c.requires.1)))
