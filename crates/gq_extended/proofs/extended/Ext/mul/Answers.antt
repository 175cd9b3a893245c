-- What the last arm takes has an infinity among its factors, and no NA.
use Rattle.std.proofs.Common.{sym, ◌∙◌}
use Rattle.gq_extended.proofs.Tables.{by_signs, times_infinity, infinity_times}
use Rattle.gq_extended.proofs.extended.Ext.mul.Goals as goal
use Rattle.gq_extended.proofs.extended.Ext.mul.Goals.{in_default-via-in-Number+in_default, in_default-via-in_default+in_default}

pub returns-in_default : goal.returns-in_default
returns-in_default g c =
    let signs = by_signs _ _ _ _ _ c.infinity.ensures c.direction.ensures c.direction-in_default.ensures in
    elim c.in_default.branch [
      | in_default-via-in-Number+in_default w ↦ signs ∙ sym (times_infinity _ _ c.args.self c.args.other (λ e. let f = w.in_default.is-0 in cc) w.in_default.not-Number-1 w.in_default.not-Na-1)
      | in_default-via-in_default+in_default w ↦ signs ∙ sym (infinity_times _ _ c.args.self c.args.other w.in_default.not-Number-0 w.in_default.not-Na-0 w.in_default.not-Na-1)
    ]
