use Rattle.std.proofs.Common.{subst, sym, [], ◌∷◌, ◌++◌}
use Rattle.lp_core.specs.Steps.{exchange_steps}
use Rattle.lp_fraction_dict.specs.Pivots.{StopsAtStep}
use Rattle.lp_dict.specs.Tableau.{dictionary}
use Rattle.lp_simplex.specs.InnerStates.{StopsBy}
use Rattle.lp_simplex.proofs.Steps.{pivot_legal, row_leaves, pivot_after, pivot_stops}
use Rattle.lp_simplex.proofs.pivoting.pivoted.Goals as goal

pub note-requires-clause-legal : goal.note-requires-clause-legal
note-requires-clause-legal g c = pivot_legal g.F.ExactField.value g.F.ExactField.limit c.args.dict c.args.pivot c.requires.legal

pub pivot-requires : goal.pivot-requires
pivot-requires g c = pivot_legal g.F.ExactField.value g.F.ExactField.limit c.args.dict c.args.pivot c.requires.legal

pub returns-in-Ok-clause-steps : goal.returns-in-Ok-clause-steps
returns-in-Ok-clause-steps g c first pivots known taken =
    let leaves = row_leaves g.F.ExactField.value g.F.ExactField.limit c.args.dict c.args.pivot c.requires.legal in
    pivot_after g.F.ExactField.value g.F.ExactField.limit c.args.dict c.args.pivot c.requires.legal (g.C.Choosing.chooses (g.C.Choosing.rule c.args.choice.now) first pivots (dictionary g.F.ExactField.value c.args.dict)) (g.C.Choosing.remembers c.note.new.self first (pivots ++ c.args.pivot ∷ [])) c.in-Ok.after taken (c.note.ensures.remembered first pivots c.requires.legal.0 leaves known) c.in-Ok.ensures.exchanged c.in-Ok.ensures.fits c.in-Ok.ensures.of_form c.in-Ok.ensures.upcoming

pub returns-in-Err-Limit-clause-steps : goal.returns-in-Err-Limit-clause-steps
returns-in-Err-Limit-clause-steps g c first pivots known taken =
    let Chosen = g.C.Choosing.chooses (g.C.Choosing.rule c.args.choice.now) first pivots (dictionary g.F.ExactField.value c.args.dict) in
    subst (StopsBy Chosen g.F.ExactField.limit c.args.dict.upcoming (dictionary g.F.ExactField.value c.args.dict)) (sym c.in-Err-Limit.step-is)
    (pivot_stops g.F.ExactField.value g.F.ExactField.limit c.args.dict c.args.pivot c.requires.legal Chosen c.in-Err-Limit.step taken
    (λ k leaves. subst (StopsAtStep (exchange_steps g.F.ExactField.limit c.args.dict.upcoming (dictionary g.F.ExactField.value c.args.dict) c.args.pivot.enter k)) c.in-Err-Limit.field-0-is (c.in-Err-Limit.ensures.limit k leaves)))

pub unreachable-requires : goal.unreachable-requires
unreachable-requires g c =
    let leaves = row_leaves g.F.ExactField.value g.F.ExactField.limit c.args.dict c.args.pivot c.requires.legal in
    subst (StopsAtStep (exchange_steps g.F.ExactField.limit c.args.dict.upcoming (dictionary g.F.ExactField.value c.args.dict) c.args.pivot.enter c.requires.legal.0)) c.in-Err-Crossed.field-0-is (c.in-Err-Crossed.ensures.limit c.requires.legal.0 leaves)
