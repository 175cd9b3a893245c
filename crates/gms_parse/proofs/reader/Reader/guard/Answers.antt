use Rattle.gms_expressions.proofs.Signs.{handed_on}
use Rattle.gms_parse.proofs.Steps.{refuses_second, refuses_memory}
use Rattle.gms_parse.proofs.Nexts.{tableless_on}
use Rattle.gms_parse.proofs.Conditions.{open_starts, guard_got}
use Rattle.gms_parse.proofs.reader.Reader.guard.Goals as goal

pub returns-in_err-operand : goal.returns-in_err-operand
returns-in_err-operand g c read_state s other =
    let n = c.not-is_negated.ensures.read g.F.ExactField.limit c.args.tables.now read_state s in
    handed_on _ _ c.from_residual.result _ c.from_residual.ensures.1 (refuses_second n.gives (c.in_err-operand.ensures n.following (open_starts s n.leaves) (tableless_on n.leaves.stays.keyword other)))

pub returns-in_err-negated : goal.returns-in_err-negated
returns-in_err-negated g c read_state s other = handed_on _ _ c.from_residual-in_err-negated.result _ c.from_residual-in_err-negated.ensures.1 (refuses_memory c.in_err-negated.ensures)

pub returns : goal.returns
returns g c read_state s other =
    let n = c.not-is_negated.ensures.read g.F.ExactField.limit c.args.tables.now read_state s in
    guard_got g.F.ExactField.value s n (c.in_ok-operand.ensures n.following (open_starts s n.leaves) (tableless_on n.leaves.stays.keyword other)) c.in_ok-negated.ensures
