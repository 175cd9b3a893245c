use Rattle.gms25.proofs.run_process.Goals as goal

pub returns-clause-exits : goal.returns-clause-exits
returns-clause-exits g c = (c.run_given-ended.result, (c.exit_code.ensures, c.run_given-ended.ensures.ends))

pub returns-clause-steady : goal.returns-clause-steady
returns-clause-steady g c = c.run_given-ended.ensures.steady
