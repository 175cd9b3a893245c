use Rattle.std.proofs.Common.{subst}
use Rattle.lp_core.specs.Dictionary.{Improves}
use Rattle.lp_core.specs.Steps.{ratio_steps}
use Rattle.lp_fraction_dict.specs.Pivots.{IsLimit}
use Rattle.lp_dict.specs.Tableau.{dictionary}
use Rattle.lp_simplex.proofs.PivotSteps.{opening_is_required, ratio_stops}
use Rattle.lp_simplex.proofs.Steps.{required_by}
use Rattle.lp_simplex.proofs.pivoting.next_at.Goals as goal

pub returns-in-Some-clause-legal : goal.returns-in-Some-clause-legal
returns-in-Some-clause-legal g c =
    opening_is_required (Improves (dictionary g.F.ExactField.value c.args.dict.now)) g.F.ExactField.limit c.args.dict.now.upcoming (dictionary g.F.ExactField.value c.args.dict.now) c.in-Some.pivot c.in-Some.ensures.0 c.in-Some.ensures.1

pub returns-in-Some-clause-chosen : goal.returns-in-Some-clause-chosen
returns-in-Some-clause-chosen g c first pivots known =
    opening_is_required (g.C.Choosing.chooses (g.C.Choosing.rule c.args.choice.now) first pivots (dictionary g.F.ExactField.value c.args.dict.now)) g.F.ExactField.limit c.args.dict.now.upcoming (dictionary g.F.ExactField.value c.args.dict.now) c.in-Some.pivot c.in-Some.ensures.0 c.in-Some.ensures.1

pub leaving-requires : goal.leaving-requires
leaving-requires g c = c.in-Some-entering.ensures.0

pub returns-in-Ok-clause-legal : goal.returns-in-Ok-clause-legal
returns-in-Ok-clause-legal g c =
    let improves = c.in-Some-entering.ensures.0 in
    required_by g.F.ExactField.limit (Improves (dictionary g.F.ExactField.value c.args.dict.now)) c.args.dict.now.upcoming (dictionary g.F.ExactField.value c.args.dict.now) c.in-Some-entering.enter c.in-Ok.leave c.next_with.result c.in_default.ensures improves improves c.in-Ok.ensures.choice c.in-Ok.ensures.fits c.next_with.ensures

pub returns-in-Ok-clause-chosen : goal.returns-in-Ok-clause-chosen
returns-in-Ok-clause-chosen g c first pivots known =
    required_by g.F.ExactField.limit (g.C.Choosing.chooses (g.C.Choosing.rule c.args.choice.now) first pivots (dictionary g.F.ExactField.value c.args.dict.now)) c.args.dict.now.upcoming (dictionary g.F.ExactField.value c.args.dict.now) c.in-Some-entering.enter c.in-Ok.leave c.next_with.result c.in_default.ensures c.in-Some-entering.ensures.0 (c.in-Some-entering.ensures.1 first pivots known) c.in-Ok.ensures.choice c.in-Ok.ensures.fits c.next_with.ensures

pub returns-in-Err-Limit-clause-legal : goal.returns-in-Err-Limit-clause-legal
returns-in-Err-Limit-clause-legal g c =
    ratio_stops (Improves (dictionary g.F.ExactField.value c.args.dict.now)) g.F.ExactField.limit c.args.dict.now.upcoming (dictionary g.F.ExactField.value c.args.dict.now) c.in-Some-entering.enter c.in-Err-Limit.step c.in_default.ensures c.in-Some-entering.ensures.0 (subst (IsLimit (ratio_steps g.F.ExactField.limit c.args.dict.now.upcoming (dictionary g.F.ExactField.value c.args.dict.now) c.in-Some-entering.enter)) c.in-Err-Limit.field-0-is c.in-Err-Limit.ensures.limit)

pub returns-in-Err-Limit-clause-chosen : goal.returns-in-Err-Limit-clause-chosen
returns-in-Err-Limit-clause-chosen g c first pivots known =
    ratio_stops (g.C.Choosing.chooses (g.C.Choosing.rule c.args.choice.now) first pivots (dictionary g.F.ExactField.value c.args.dict.now)) g.F.ExactField.limit c.args.dict.now.upcoming (dictionary g.F.ExactField.value c.args.dict.now) c.in-Some-entering.enter c.in-Err-Limit.step c.in_default.ensures (c.in-Some-entering.ensures.1 first pivots known) (subst (IsLimit (ratio_steps g.F.ExactField.limit c.args.dict.now.upcoming (dictionary g.F.ExactField.value c.args.dict.now) c.in-Some-entering.enter)) c.in-Err-Limit.field-0-is c.in-Err-Limit.ensures.limit)

pub unreachable-requires : goal.unreachable-requires
unreachable-requires g c = subst (IsLimit (ratio_steps g.F.ExactField.limit c.args.dict.now.upcoming (dictionary g.F.ExactField.value c.args.dict.now) c.in-Some-entering.enter)) c.in-Err-Crossed.field-0-is c.in-Err-Crossed.ensures.limit

pub unreachable-requires-in-Err-Memory : goal.unreachable-requires-in-Err-Memory
unreachable-requires-in-Err-Memory g c = subst (IsLimit (ratio_steps g.F.ExactField.limit c.args.dict.now.upcoming (dictionary g.F.ExactField.value c.args.dict.now) c.in-Some-entering.enter)) c.in-Err-Memory.field-0-is c.in-Err-Memory.ensures.limit
