use Rattle.gms_fmt.proofs.Appending.{failed, some_blanks}
use Rattle.std.proofs.Common.{◌∙◌, arith}
use Rattle.gms_fmt.proofs.columns.push_blanks.Goals as goal

pub returns-in_err-push : goal.returns-in_err-push
returns-in_err-push c =
    failed _ _ _ c.from_residual.result c.from_residual.ensures.0 (some_blanks c.loop.counter c.args.count _ _ (omega arith) (c.in_err-push.ensures.items ∙ c.loop.invariant))
