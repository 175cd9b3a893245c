use Rattle.std.proofs.Common.{◌∙◌, ap, sym, not}
use Rattle.gq_extended.specs.Meaning.{extended}
use Rattle.gms_eval.specs.Nodes.{is_so}
use Rattle.gms_eval.proofs.Zeros.{zero_told}
use Rattle.gms_eval.proofs.steps.is_so.Goals as goal

pub returns-in-Number : goal.returns-in-Number
returns-in-Number g c =
    ap not (sym (zero_told c.is_zero.result (g.F.ExactField.value c.in-Number.x) c.is_zero.ensures))
    ∙ ap (λ value. is_so (extended g.F.ExactField.value value)) (sym c.in-Number.is)
