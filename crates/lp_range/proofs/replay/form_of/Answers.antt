use Rattle.std.proofs.Common.{subst}
use Rattle.lp_core.specs.Steps.{standard_steps}
use Rattle.lp_std.specs.Meaning.{HasNoForm}
use Rattle.lp_fraction_dict.proofs.Kept.{get_within, get_index}
use Rattle.lp_core.specs.declared.program.Column.{Column}
use Rattle.lp_core.specs.Proofs.{Crosses}
use Rattle.lp_range.proofs.Loops.{fit_or_stop}
use Rattle.lp_range.proofs.replay.form_of.Goals as goal

pub unreachable-requires : goal.unreachable-requires
unreachable-requires g c =
    fit_or_stop (standard_steps g.F.ExactField.value g.F.ExactField.limit c.args.lp.now) c.in-Err-Limit.field-0-0 c.requires.all_fit
    (subst (HasNoForm g.F.ExactField.value g.F.ExactField.limit c.args.lp.now) c.in-Err-Limit.field-0-is c.in-Err-Limit.ensures.stop).1

pub unreachable-requires-in-Err-Crossed : goal.unreachable-requires-in-Err-Crossed
unreachable-requires-in-Err-Crossed g c =
    let h = subst (HasNoForm g.F.ExactField.value g.F.ExactField.limit c.args.lp.now) c.in-Err-Crossed.field-0-is c.in-Err-Crossed.ensures.stop in
    let columns = c.args.lp.now.columns in
    let found = h.0 in
    subst (λ (k : Column _). ¬ (Crosses g.F.ExactField.value k.lower k.upper)) (get_index columns c.in-Err-Crossed.field-0-0 found.0 found.0 found.1) (c.requires.none_crosses c.in-Err-Crossed.field-0-0 found.0 (get_within columns c.in-Err-Crossed.field-0-0 found.0 found.1)) found.2
