use Rattle.std.proofs.Common.{true≢false, refl, sym, arith}
use Rattle.lp_integer_rows.proofs.Plans.{some_at}
use Rattle.lp_integer_dict.proofs.apart.exchanged_stay_within.Goals as goal

pub returns-then-not-all_within : goal.returns-then-not-all_within
returns-then-not-all_within c = (
  λ yes. absurd (true≢false (sym yes)),
  λ h.
      let great = c.all_within.ensures.great c.if-not-all_within.true in
      let low = h.bounded great.at great.line great.there in
      let high = great.great in
      absurd (omega arith),
)

pub returns-then-leaving-place : goal.returns-then-leaving-place
returns-then-leaving-place c = (
  λ yes. record { bounded = c.all_within.ensures.within c.if-not-all_within.false; others = λ p other. absurd (other c.if-leaving-place.true) },
  λ h. refl,
)

pub returns : goal.returns
returns c = (
  λ yes. record { bounded = c.all_within.ensures.within c.if-not-all_within.false; others = λ p other at. (c.deferred_stays_within.ensures p at).0 yes },
  λ h. let p = some_at c.args.lines.now c.args.leaving c.requires.within in (c.deferred_stays_within.ensures p.0 p.1).1 (h.others p.0 c.if-leaving-place.false p.1),
)
