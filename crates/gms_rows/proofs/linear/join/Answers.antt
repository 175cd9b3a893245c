use Rattle.std.proofs.Common.{option_map, sym, ap, ◌∙◌}
use Rattle.gms_ast.specs.Trees.{signed}
use Rattle.gms_eval.proofs.Answering.{gives-same}
use Rattle.gms_rows.specs.Affine.{with_next}
use Rattle.gms_rows.specs.Forms.{form_in, quotient_of}
use Rattle.gms_rows.specs.InnerContracts.{signed_join}
use Rattle.gms_rows.proofs.Parts.{next-sum, next-over, next-times}
use Rattle.gms_rows.proofs.linear.join.Goals as goal

pub returns-in_default : goal.returns-in_default
returns-in_default g c =
    let v = g.F.ExactField.value in
    ap (λ o. with_next (signed_join g.F.ExactField.limit c.args.b.now c.args.kind) (signed c.args.at c.args.inverse) (option_map (form_in v) o) (form_in v c.args.form)) c.in_default.is

pub returns-in-Sum : goal.returns-in-Sum
returns-in-Sum g c =
    let v = g.F.ExactField.value in
    gives-same v (form_in v) c.add.result _ _ (next-sum v g.F.ExactField.limit c.args.b.now c.args.kind c.args.so_far c.in-Some.left (form_in v c.args.form) c.args.at c.args.inverse c.in-Some.is c.in-Sum.is) c.add.ensures

pub returns-then-inverse : goal.returns-then-inverse
returns-then-inverse g c =
    let v = g.F.ExactField.value in
    gives-same v (form_in v) c.divide.result _ _ (next-over v g.F.ExactField.limit c.args.b.now c.args.kind c.args.so_far c.in-Some.left (form_in v c.args.form) c.args.at c.args.inverse c.in-Some.is c.in-Product.is c.if-inverse.true ∙ ap (λ x. quotient_of g.F.ExactField.limit c.args.at c.args.b.now (form_in v c.in-Some.left) (v x)) (sym c.offset.ensures)) c.divide.ensures

pub returns : goal.returns
returns g c =
    let v = g.F.ExactField.value in
    gives-same v (form_in v) c.multiply.result _ _ (next-times v g.F.ExactField.limit c.args.b.now c.args.kind c.args.so_far c.in-Some.left (form_in v c.args.form) c.args.at c.args.inverse c.in-Some.is c.in-Product.is c.if-inverse.false) c.multiply.ensures
