use Rattle.std.proofs.Common.{sym, ◌∙◌}
use Rattle.lp_std.proofs.Stops.{taken_none}
use Rattle.lp_std.proofs.rows.taken_out.Goals as goal

pub returns-in_default-clause-ok : goal.returns-in_default-clause-ok
returns-in_default-clause-ok g c =
    taken_none g.F.ExactField.value g.F.ExactField.limit c.args.row c.args.column (g.F.ExactField.value c.args.coefficient) (g.F.ExactField.value c.args.right) c.args.shift (sym c.bound_of.ensures ∙ c.in_default.is)
