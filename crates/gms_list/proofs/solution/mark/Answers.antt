use Rattle.std.proofs.Common.{◌≡◌, ◌∙◌, [], codes, true, false, ap, sym, map}
use Rattle.gms_list.specs.InnerSolves.{mark_in}
use Rattle.gms_list.specs.SolveText.{is_zero_amount, number_at_place}
use Rattle.gms_list.proofs.Signs.{zero_told}
use Rattle.gms_list.proofs.AppendedPieces.{chosen, other}
use Rattle.gms_list.proofs.solution.mark.Goals as goal

pub returns-then-is_zero : goal.returns-then-is_zero
returns-then-is_zero g c =
    let zero : is_zero_amount (number_at_place (map g.F.ExactField.value c.in-Ray.ray.now) c.args.j) ≡ true = ap is_zero_amount (sym c.number_at.ensures) ∙ zero_told c.is_zero.result _ c.is_zero.ensures ∙ c.if-is_zero.true in
    chosen (is_zero_amount (number_at_place (map g.F.ExactField.value c.in-Ray.ray.now) c.args.j)) [] (codes " UNBND") zero ∙ ap (λ m. mark_in g.F.ExactField.value m c.args.j) (sym c.in-Ray.is)

pub returns-else-is_zero : goal.returns-else-is_zero
returns-else-is_zero g c =
    let moved : is_zero_amount (number_at_place (map g.F.ExactField.value c.in-Ray.ray.now) c.args.j) ≡ false = ap is_zero_amount (sym c.number_at.ensures) ∙ zero_told c.is_zero.result _ c.is_zero.ensures ∙ c.if-is_zero.false in
    other (is_zero_amount (number_at_place (map g.F.ExactField.value c.in-Ray.ray.now) c.args.j)) [] (codes " UNBND") moved ∙ ap (λ m. mark_in g.F.ExactField.value m c.args.j) (sym c.in-Ray.is)
