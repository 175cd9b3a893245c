use Rattle.gms_parse.proofs.Entering.{sign_got, sign_none}
use Rattle.gms_parse.proofs.reader.Reader.sign.Goals as goal

pub returns-in-Some : goal.returns-in-Some
returns-in-Some c limit tables read_state h = sign_got c.is_minus.result c.in-Some.ensures c.is_minus.ensures h

pub returns-in-None : goal.returns-in-None
returns-in-None c limit tables read_state h = sign_none c.in-None.ensures h
