use Rattle.std.proofs.Common.{length}
use Rattle.lp_std.specs.Meaning.{standard_value}
use Rattle.lp_dict.specs.Tableau.{dictionary}
use Rattle.lp_simplex.proofs.Ending.{can_end}
use Rattle.lp_simplex.proofs.Answering.{answers_so, first_is_proper}
use Rattle.lp_simplex.proofs.answer.searched.Goals as goal

pub of-requires : goal.of-requires
of-requires g c = (c.args.lp.now, c.requires.well_formed, c.requires.form.1)

pub run_of_pivots-requires-clause-proper : goal.run_of_pivots-requires-clause-proper
run_of_pivots-requires-clause-proper g c =
    first_is_proper g.F.ExactField.value c.args.lp.now (standard_value g.F.ExactField.value c.args.s.now) (dictionary g.F.ExactField.value c.in_ok-first.first) c.requires.well_formed c.requires.form.1 c.in_ok-first.ensures.first

pub run_of_pivots-requires-clause-fresh : goal.run_of_pivots-requires-clause-fresh
run_of_pivots-requires-clause-fresh g c = c.requires.fresh (dictionary g.F.ExactField.value c.in_ok-first.first)

pub end_of-requires-clause-halted : goal.end_of-requires-clause-halted
end_of-requires-clause-halted g c =
    let pivot_run = c.in_ok-pivot_run.ensures in
    let first = dictionary g.F.ExactField.value c.in_ok-first.first in
    let pivots = c.in_ok-pivot_run.pivot_run.pivots.items in
    can_end g.F.ExactField.value g.F.ExactField.limit (g.C.Choosing.chooses (g.C.Choosing.rule c.args.choice.now) first pivots pivot_run.last) (standard_value g.F.ExactField.value c.args.s.now) c.args.iterlim (length pivots) pivot_run.last c.in_ok-pivot_run.pivot_run.halt (g.met.C.Choosing.improving (g.C.Choosing.rule c.args.choice.now) first pivots pivot_run.last) (pivot_run.of_form (standard_value g.F.ExactField.value c.args.s.now) c.in_ok-first.ensures.of_form) pivot_run.halts

pub returns : goal.returns
returns g c =
    answers_so g.F.ExactField.value g.F.ExactField.limit c.args.lp.now c.args.iterlim (g.C.Choosing.chooses (g.C.Choosing.rule c.args.choice.now)) (standard_value g.F.ExactField.value c.args.s.now) (dictionary g.F.ExactField.value c.in_ok-first.first) c.in_ok-pivot_run.pivot_run (record { pivots = c.new.result; end = c.in_ok-end.end }) (g.met.C.Choosing.improving (g.C.Choosing.rule c.args.choice.now)) c.requires.form.0 c.requires.all_fit c.requires.form.1 c.in_ok-first.ensures.first c.in_ok-pivot_run.ensures c.new.ensures c.in_ok-end.ensures
