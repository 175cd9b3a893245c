use Rattle.std.proofs.lemmas.Bool.{both_ways}
use Rattle.std.proofs.Common.{true, false, sym}
use Rattle.gms_save.proofs.restoring.saved_place.Goals as goal

pub returns-then-not-branch : goal.returns-then-not-branch
returns-then-not-branch c = λ is. both_ways c.in_ok-is_text_of.field-0 c.if-not-branch.true (c.in_ok-is_text_of.ensures.1 is)

pub returns-in-Some : goal.returns-in-Some
returns-in-Some c = (c.in_ok-is_text_of.ensures.0 c.if-not-branch.false, sym c.in-Some.ensures)

pub returns-in-None : goal.returns-in-None
returns-in-None c = (c.in_ok-is_text_of.ensures.0 c.if-not-branch.false, sym c.in-None.ensures)
