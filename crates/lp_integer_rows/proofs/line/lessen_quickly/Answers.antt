use Rattle.std.proofs.Common.{rules, FitsSigned, to_z, sym, ap, ◌∙◌}
use Rattle.std.specs.Int.{w128}
use Rattle.std.proofs.lemmas.Int.{to_z-of_z}
use Rattle.lp_integer_rows.proofs.line.lessen_quickly.Goals as goal

pub lessen_once-requires-clause-once : goal.lessen_once-requires-clause-once
lessen_once-requires-clause-once c =
    let fits : FitsSigned w128 c.args.factors.line = search rules in
    sym (to_z-of_z w128 c.args.factors.line fits) ∙ ap (to_z w128) c.if-factors-eq1.true
