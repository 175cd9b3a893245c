use Rattle.std.proofs.Common.{ap}
use Rattle.gms_ast.specs.TreeView.{tree_of}
use Rattle.gms_eval.specs.Faults.{◌and_then◌}
use Rattle.gms_eval.specs.Value.{value}
use Rattle.gms_eval.proofs.Answering.{handed_on, stops-then, gives-same}
use Rattle.gms_rows.specs.Affine.{form_of}
use Rattle.gms_rows.specs.Forms.{form_in}
use Rattle.gms_rows.proofs.linear.constant.Goals as goal

pub returns-in_err-value : goal.returns-in_err-value
returns-in_err-value g c =
    let v = g.F.ExactField.value in
    let stop = c.in_err-value.field-0.0 in
    handed_on v (form_in v) c.from_residual.result stop _ c.from_residual.ensures.1 (stops-then v stop (value v g.F.ExactField.limit c.args.store.now c.args.b.now (tree_of c.args.e.now)) (form_of c.args.at c.args.b.now) c.in_err-value.ensures)

pub returns : goal.returns
returns g c =
    let v = g.F.ExactField.value in
    gives-same v (form_in v) c.number.result _ _ (ap (λ a. a and_then form_of c.args.at c.args.b.now) c.in_ok-value.ensures) c.number.ensures
