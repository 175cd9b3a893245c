-- The digits of a tenth, and the last one after them.
use Rattle.std.proofs.Common.{◌<◌, sym, subst, arith}
use Rattle.gq_text.specs.InnerAppends.{AppendsDigits}
use Rattle.gq_text.proofs.Pushes.{tenth_small, digit_after}
use Rattle.gq_text.proofs.digits.Digits.+push_word.Goals as goal

pub push_word-requires : goal.push_word-requires
push_word-requires t c =
    let other = c.if-places-eq0.false in
    let some : 0 < c.args.places = omega (arith, other) in
    (omega (arith, c.decreases, some), (tenth_small c.args.n c.args.places some c.requires.small, omega (arith, c.requires.within_bound, some)))

pub returns : goal.returns
returns t c =
    let other = c.if-places-eq0.false in
    subst (λ now. AppendsDigits c.args.self.now now c.args.n c.args.places) (sym c.push.ensures) (digit_after c.args.self.now c.push_word.new.self c.args.n c.args.places (omega (arith, other)) c.push_word.ensures)
