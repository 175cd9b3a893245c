use Rattle.gms_expressions.proofs.Signs.{handed_on}
use Rattle.gms_parse.proofs.Domains.{star_got, position_got, position_refused}
use Rattle.gms_parse.proofs.reader.Reader.domain_position.Goals as goal

pub returns-in-Some : goal.returns-in-Some
returns-in-Some c limit read_state s = star_got s c.in-Some.ensures

pub returns-in_err-set : goal.returns-in_err-set
returns-in_err-set c limit read_state s = handed_on _ _ c.from_residual.result _ c.from_residual.ensures.1 (position_refused c.in_default.ensures (c.in_err-set.ensures limit read_state s))

pub returns : goal.returns
returns c limit read_state s = position_got c.in_default.ensures (c.in_ok-set.ensures limit read_state s)
