use Rattle.std.proofs.Common.{inl, inr, sym, ◌∙◌}
use Rattle.gms_parse.proofs.reader.Reader.further_item.Goals as goal

pub returns-in-Some : goal.returns-in-Some
returns-in-Some c = inl (record { token = _; next = c.in-Some.ensures })

pub returns-then-is_any_next : goal.returns-then-is_any_next
returns-then-is_any_next c = inr (record { token = _; next = c.in_ok-following.ensures }, sym c.is_any_next.ensures ∙ c.if-is_any_next.true)

pub returns : goal.returns
returns c = (c.in_default.ensures, inr (c.in_ok-following.following, record { token = _; next = c.in_ok-following.ensures }, sym c.is_any_next.ensures ∙ c.if-is_any_next.false))
