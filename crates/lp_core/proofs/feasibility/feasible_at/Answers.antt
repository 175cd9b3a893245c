use Rattle.std.proofs.Common.{◌≡◌, true, false, cond, Ok, length, map, ap, ◌∙◌, subst, arith}
use Rattle.std.proofs.lemmas.List.{length-map}
use Rattle.lp_core.specs.Steps.{bounds_hold, checked_rows, steps_of_rows}
use Rattle.lp_core.proofs.Points.{checked_point-tells, entries_within, steps_few}
use Rattle.lp_core.proofs.feasibility.feasible_at.Goals as goal

pub returns-then-not-keep_bounds-clause-feasible : goal.returns-then-not-keep_bounds-clause-feasible
returns-then-not-keep_bounds-clause-feasible g c =
    let x = map g.F.ExactField.value c.args.x.now in
    let fails = subst (λ columns. false ≡ bounds_hold g.F.ExactField.value x 0 columns) c.as_slice.ensures c.if-not-keep_bounds.ensures in
    checked_point-tells g.F.ExactField.value g.F.ExactField.limit c.args.lp.now x (length-map c.args.x.now g.F.ExactField.value ∙ c.requires.sized) (Ok false) (ap (λ b. cond b (checked_rows g.F.ExactField.value g.F.ExactField.limit x 0 c.args.lp.now.rows) (Ok false)) fails)

pub keep_rows-requires-clause-there : goal.keep_rows-requires-clause-there
keep_rows-requires-clause-there g c =
    rw c.as_slice-2.ensures (entries_within g.F.ExactField.value c.args.lp.now (length c.args.x.now) c.requires.well_formed c.requires.sized)

pub keep_rows-requires-clause-within_bound : goal.keep_rows-requires-clause-within_bound
keep_rows-requires-clause-within_bound g c =
    let few = steps_few g.F.ExactField.value c.args.lp.now c.requires.well_formed in
    omega (arith, few, ap steps_of_rows c.as_slice-2.ensures)

pub returns-clause-feasible : goal.returns-clause-feasible
returns-clause-feasible g c =
    let x = map g.F.ExactField.value c.args.x.now in
    let holds = subst (λ columns. true ≡ bounds_hold g.F.ExactField.value x 0 columns) c.as_slice.ensures c.if-not-keep_bounds.ensures in
    let rows = subst (λ rows. c.keep_rows.result ≡ checked_rows g.F.ExactField.value g.F.ExactField.limit x 0 rows) c.as_slice-2.ensures c.keep_rows.ensures in
    checked_point-tells g.F.ExactField.value g.F.ExactField.limit c.args.lp.now x (length-map c.args.x.now g.F.ExactField.value ∙ c.requires.sized) c.keep_rows.result (rows ∙ ap (λ b. cond b (checked_rows g.F.ExactField.value g.F.ExactField.limit x 0 c.args.lp.now.rows) (Ok false)) holds)
