use Rattle.std.proofs.Common.{Ok, ap, ◌∙◌}
use Rattle.gq_extended.specs.Meaning.{extended}
use Rattle.gms_rows.specs.Affine.{form_of}
use Rattle.gms_rows.proofs.Parts.{constant-shows}
use Rattle.gms_rows.proofs.linear.number.Goals as goal

pub returns-in-Number : goal.returns-in-Number
returns-in-Number g c =
    let v = g.F.ExactField.value in
    ap (λ x. form_of c.args.at c.args.b.now (extended v x)) c.in-Number.is
    ∙ ap Ok (constant-shows v c.constant.result (v c.in-Number.x) (ap v c.constant.ensures.constant) c.constant.ensures.keys)
