use Rattle.gms_expressions.proofs.Singles.{not_read, not_none}
use Rattle.gms_expressions.proofs.reader.Reader.not.Goals as goal

pub returns-in-Some : goal.returns-in-Some
returns-in-Some c = not_read c.in-Some.ensures

pub returns-in-None : goal.returns-in-None
returns-in-None c = not_none c.args.self.now c.args.at c.in-None.ensures
