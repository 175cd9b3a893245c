-- One step of Euclid's algorithm, and its ends.
use Rattle.std.proofs.Common.{◌∙◌, sym, ap, arith}
use native.Mathlib.Nat.{mod-lt, pos_of_ne-zero}
use Rattle.gq_number.specs.Gcd.{gcd}
use Rattle.gq_number.proofs.Gcd.{gcd-mod, gcd-zero}
use Rattle.lp_integers.proofs.common.gcd.Goals as goal

pub returns-then-y-eq0 : goal.returns-then-y-eq0
returns-then-y-eq0 c = sym (gcd-zero c.loop-x.x) ∙ ap (gcd c.loop-x.x) (sym c.if-y-eq0.true) ∙ c.loop-x.invariant

pub loop-x-preserved : goal.loop-x-preserved
loop-x-preserved c = sym (gcd-mod c.loop-x.x c.loop-x.y) ∙ c.loop-x.invariant

pub returns : goal.returns
returns c = c.gcd_of_words.ensures ∙ c.loop-x.invariant

pub overflow_cast-x : goal.overflow_cast-x
overflow_cast-x c = record { fits = omega arith }

pub overflow_cast-y : goal.overflow_cast-y
overflow_cast-y c = record { fits = omega arith }

pub overflow_cast-result : goal.overflow_cast-result
overflow_cast-result c = record { fits = omega arith }

pub nonzero_rem-rest : goal.nonzero_rem-rest
nonzero_rem-rest c = pos_of_ne-zero c.if-y-eq0.false

pub loop-x-smaller : goal.loop-x-smaller
loop-x-smaller c = mod-lt c.loop-x.x (pos_of_ne-zero c.if-y-eq0.false)
