use Rattle.gms_expressions.proofs.Singles.{sign_read, sign_none}
use Rattle.gms_expressions.proofs.reader.Reader.sign.Goals as goal

pub returns-in-Some : goal.returns-in-Some
returns-in-Some c = sign_read c.is_minus.result c.in-Some.ensures c.is_minus.ensures

pub returns-in-None : goal.returns-in-None
returns-in-None c = sign_none c.args.self.now c.args.at c.in-None.ensures
