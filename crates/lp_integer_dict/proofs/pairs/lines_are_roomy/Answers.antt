use Rattle.std.proofs.Common.{◌+◌, ◌*◌, ◌≤◌, subst}
use Rattle.std.specs.Prelude.{IsTrue}
use Rattle.lp_integer_dict.proofs.Pairing.{found_within, lines_roomy}
use Rattle.lp_integer_dict.proofs.pairs.lines_are_roomy.Goals as goal

pub returns : goal.returns
returns c = λ told.
    lines_roomy c.args.lines.now c.args.deferred c.requires.lines.0 c.requires.lines.1 c.args.bound c.top_of.result c.requires.lines.2 c.top_of.ensures
    (subst (λ t. t * t + t * t ≤ c.args.bound) c.in-Some.ensures
    (found_within c.sum_within.result (c.in-Some.top * c.in-Some.top + c.in-Some.top * c.in-Some.top) c.args.bound c.sum_within.ensures (subst IsTrue c.is_some.ensures told)))
