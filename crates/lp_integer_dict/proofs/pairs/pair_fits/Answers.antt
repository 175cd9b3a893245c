use Rattle.lp_integer_dict.proofs.Pairing.{fit_of, lowest_fit, crowded_of}
use Rattle.lp_integer_dict.proofs.pairs.pair_fits.Goals as goal

pub returns-then-is_pair_within-clause-fits : goal.returns-then-is_pair_within-clause-fits
returns-then-is_pair_within-clause-fits c = λ told.
    fit_of c.args.lines.now c.args.deferred c.requires.lines.0 c.args.bound c.args.leaving c.args.column c.args.place c.measured-row.result c.args.of_leaving c.requires.lines.1 c.requires.within.0 c.requires.within.1 c.measured-row.ensures c.requires.measured (c.is_pair_within.ensures.fits c.if-is_pair_within.true)

pub returns-clause-fits : goal.returns-clause-fits
returns-clause-fits c = λ told.
    lowest_fit c.args.lines.now c.args.deferred c.args.leaving c.args.column c.args.bound c.args.place c.measured_lowest-lowest.result c.measured_lowest-lowest_leaving.result c.measured_lowest-lowest.ensures c.measured_lowest-lowest_leaving.ensures (c.is_pair_within-2.ensures.fits told)

pub returns-clause-none : goal.returns-clause-none
returns-clause-none c = λ told.
    crowded_of c.args.lines.now c.args.deferred c.args.leaving c.args.column c.args.bound c.args.place c.measured_lowest-lowest.result c.measured_lowest-lowest_leaving.result c.requires.within.0 c.requires.other c.measured_lowest-lowest.ensures c.measured_lowest-lowest_leaving.ensures (c.is_pair_within-2.ensures.none told)
