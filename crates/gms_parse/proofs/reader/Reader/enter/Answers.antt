use Rattle.gms_expressions.proofs.Signs.{handed_on}
use Rattle.gms_parse.proofs.Entering.{unopened_lacking, unopened_deep}
use Rattle.gms_parse.proofs.reader.Reader.enter.Goals as goal

pub returns-in_err-token : goal.returns-in_err-token
returns-in_err-token c = handed_on _ _ c.from_residual.result _ c.from_residual.ensures.1 (unopened_lacking c.in_err-token.ensures)

pub returns-then-self-ge-MOST_OPEN : goal.returns-then-self-ge-MOST_OPEN
returns-then-self-ge-MOST_OPEN c = unopened_deep c.in_ok-token.ensures c.if-self-ge-MOST_OPEN.true c.at.ensures
