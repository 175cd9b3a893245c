use Rattle.std.proofs.Common.{rules, ◌≡◌, pos, FitsSigned, to_z, sym, ap, ◌∙◌, subst}
use Rattle.std.specs.Int.{w128}
use Rattle.std.proofs.lemmas.Int.{to_z-of_z}
use Rattle.lp_integers.specs.Lines.{whole_at}
use Rattle.lp_integer_rows.specs.Form.{wholes, IsPlanned}
use Rattle.lp_integer_rows.proofs.Updating.{own_planned}
use Rattle.lp_integer_rows.proofs.line.plan.Goals as goal

pub returns-then-marked_number_at-eq0 : goal.returns-then-marked_number_at-eq0
returns-then-marked_number_at-eq0 c =
    let fits : FitsSigned w128 c.marked_number_at.result = search rules in
    let none : whole_at (wholes c.args.line.now) c.args.column ≡ pos 0 = sym c.marked_number_at.ensures ∙ sym (to_z-of_z w128 c.marked_number_at.result fits) ∙ ap (to_z w128) c.if-marked_number_at-eq0.true in
    subst (IsPlanned c.args.bound c.args.column c.args.line.now c.args.pivot.now) (sym c.of_own.ensures)
    (own_planned c.args.bound c.args.column c.args.line.now c.args.pivot.now none c.requires.above c.requires.bounded)
