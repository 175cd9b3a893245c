use Rattle.std.proofs.Common.{ℕ, map, ap, ◌∙◌}
use Rattle.gq_number.specs.Number.{Number, neg_ℚ}
use Rattle.lp_std.proofs.RowSteps.{negated_row_is}
use Rattle.lp_std.proofs.rows.negated_row.Goals as goal

pub returns : goal.returns
returns g c =
    rw c.new.ensures (negated_row_is g.F.ExactField.value c.args.row.now c.args.i c.neg.result c.in_ok-entries.entries.items c.neg.ensures (c.in_ok-entries.ensures ∙ ap (map {B = ℕ × Number} (λ (e : ℕ × _). (e.0, neg_ℚ (g.F.ExactField.value e.1)))) c.as_slice.ensures))
