use Rattle.std.proofs.Common.{string_bytes}
use Rattle.std.proofs.lemmas.Result.{on_ok_weaker}
use Rattle.lp_range.proofs.Solved.{legal_by_optimum}
use Rattle.gms_command.proofs.Says.{says_nothing, says_optimum}
use Rattle.gms_command.proofs.solves.push_answer.Goals as goal

pub push_optimum-requires-clause-is_answer : goal.push_optimum-requires-clause-is_answer
push_optimum-requires-clause-is_answer g c =
    legal_by_optimum g.F.ExactField.value g.F.ExactField.limit c.args.lp.now c.args.answer.now c.requires.iterlim c.requires.rule (c.in-Optimal.levels, c.in-Optimal.row_levels, c.in-Optimal.duals, c.in-Optimal.reduced, c.in-Optimal.is) c.requires.is_answer

pub returns-in-Optimal : goal.returns-in-Optimal
returns-in-Optimal g c =
    on_ok_weaker c.push_optimum.result
    (says_optimum g.F.ExactField.value c.args.names.now c.args.labels.now g.F.ExactField.limit c.args.solve c.args.lp.now c.args.answer.now c.in-Optimal.levels c.in-Optimal.row_levels c.in-Optimal.duals c.in-Optimal.reduced (string_bytes c.args.text.now) (string_bytes c.push_optimum.new.text) c.in-Optimal.is)
    c.push_optimum.ensures

pub returns-in_default : goal.returns-in_default
returns-in_default g c =
    says_nothing g.F.ExactField.value c.args.names.now c.args.labels.now g.F.ExactField.limit c.args.solve c.args.lp.now c.args.answer.now (string_bytes c.args.text.now) c.in_default.not-Optimal
