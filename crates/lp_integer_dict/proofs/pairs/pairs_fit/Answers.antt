use Rattle.lp_integer_dict.proofs.Pairing.{fit_more, roomy_fits}
use Rattle.lp_integer_dict.proofs.pairs.pairs_fit.Goals as goal
use Rattle.lp_integer_dict.proofs.pairs.pairs_fit.Goals.{else-i-leaving-via-then-i-leaving+else-not-pair_fits, else-i-leaving-via-else-i-leaving}

pub loop-i-preserved : goal.loop-i-preserved
loop-i-preserved c =
    fit_more c.args.lines.now c.args.deferred c.args.leaving c.args.column c.args.bound c.loop-i.i c.loop-i.invariant
    (λ other. elim c.else-i-leaving.branch [
      | else-i-leaving-via-then-i-leaving+else-not-pair_fits w ↦ w.pair_fits.ensures.fits w.if-not-pair_fits.false
      | else-i-leaving-via-else-i-leaving w ↦ absurd (other w.if-i-leaving.false)
    ])

pub returns-then-is_roomy-clause-fits : goal.returns-then-is_roomy-clause-fits
returns-then-is_roomy-clause-fits c = λ told.
    roomy_fits c.args.lines.now c.args.deferred c.requires.lines.0 c.args.bound c.args.leaving c.args.column c.requires.lines.1 c.requires.within (c.is_roomy.ensures c.if-is_roomy.true)

pub returns-then-not-pair_fits-clause-none : goal.returns-then-not-pair_fits-clause-none
returns-then-not-pair_fits-clause-none c = λ _. c.pair_fits.ensures.none c.if-not-pair_fits.true
