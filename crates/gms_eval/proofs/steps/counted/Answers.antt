use Rattle.std.proofs.Common.{◌≡◌, ap, sym, ◌∙◌, pos, Err, to_z, arith}
use Rattle.std.proofs.lemmas.Int.{ints}
use mir.Syntax.{w128}
use Rattle.gq_extended.specs.Meaning.{extended}
use Rattle.gms_eval.specs.Nodes.{count_value}
use Rattle.gms_eval.specs.Faults.{nothing, faulted}
use Rattle.gms_eval.specs.declared.stop.StopKind.TheVariants.{Limit}
use Rattle.gms_eval.proofs.Counts.{counted-fits, counted-over}
use Rattle.gms_eval.proofs.Marks.{stops-shown}
use Rattle.gms_eval.proofs.steps.counted.Goals as goal

pub returns-in-Ok : goal.returns-in-Ok
returns-in-Ok g c =
    let z : to_z w128 c.args.count ≡ pos c.args.count = omega (arith, ints) in
    counted-fits g.F.ExactField.limit c.args.count c.args.b.now c.args.at _ z (g.F.ExactField.value c.in-Ok.number) c.in-Ok.ensures.0 c.in-Ok.ensures.1

pub returns-in-Err : goal.returns-in-Err
returns-in-Err g c =
    let z : to_z w128 c.args.count ≡ pos c.args.count = omega (arith, ints) in
    let shown = extended g.F.ExactField.value in
    stops-shown g.F.ExactField.value c.at_step.result _ (count_value g.F.ExactField.limit c.args.b.now c.args.at c.args.count) (counted-over g.F.ExactField.limit c.args.count c.args.b.now c.args.at _ z c.in-Err.ensures ∙ ap (λ x. Err (faulted Limit c.args.at c.args.b.now x nothing)) (sym c.zero.ensures) ∙ ap (λ x. Err (faulted Limit c.args.at c.args.b.now (shown c.zero.result) x)) (sym c.zero-in-Err.ensures)) c.at_step.ensures
