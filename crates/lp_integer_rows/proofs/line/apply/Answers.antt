use Rattle.std.proofs.Common.{rules, ◌≡◌, ℕ, ◌<◌, ◌^◌, ◌<ℤ◌, pos, FitsSigned, to_z, sym, ap, ◌∙◌}
use Rattle.std.specs.Int.{w128}
use Rattle.std.proofs.lemmas.Int.{to_z-of_z}
use Rattle.lp_integer_rows.proofs.Updating.{untouched_line, reduced_line}
use Rattle.lp_integers.specs.Lines.{whole_at}
use Rattle.lp_integer_rows.specs.Form.{wholes, IsPlanned, IsLessenedLine, IsSameLine}
use Rattle.lp_integer_rows.proofs.Results.{if_ok}
use Rattle.lp_integer_rows.proofs.line.apply.Goals as goal

pub returns-then-factors-eq0 : goal.returns-then-factors-eq0
returns-then-factors-eq0 c = λ bound column limited above planned.
    let fits : FitsSigned w128 c.args.factors.pivot = search rules in
    let none : c.args.factors.pivot ≡ pos 0 = sym (to_z-of_z w128 c.args.factors.pivot fits) ∙ ap (to_z w128) c.if-factors-eq0.true in
    untouched_line bound column c.args.line.now c.args.pivot.now c.args.factors c.requires.line none planned

pub reduce_if_useful-requires : goal.reduce_if_useful-requires
reduce_if_useful-requires c = (c.in_ok-lessen.ensures c.requires.planned.0 c.requires.planned.1 c.requires.planned.2 c.requires.planned.4 c.requires.planned.3).is_line

pub returns : goal.returns
returns c =
    if_ok (λ _. IsSameLine c.lessen.new.line c.reduce_if_useful.new.line)
    (λ _. (bound column : ℕ) → bound < 2 ^ 127 → pos 0 <ℤ whole_at (wholes c.args.pivot.now) column → IsPlanned bound column c.args.line.now c.args.pivot.now c.args.factors → IsLessenedLine column c.args.line.now c.args.pivot.now c.reduce_if_useful.new.line c.args.factors)
    c.reduce_if_useful.result
    (λ _ s. λ bound column limited above planned. reduced_line column c.args.line.now c.args.pivot.now _ _ c.args.factors (c.in_ok-lessen.ensures bound column limited above planned) s)
    c.reduce_if_useful.ensures
