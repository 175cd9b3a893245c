use Rattle.std.proofs.Common.{◌≡◌, ◌∙◌, sym, ap, subst, IfErr}
use Rattle.std.specs.Result.{result_map_both}
use Rattle.lp_form.specs.Forms.{of_two, sum_form_step, IsEntrywiseAnswer}
use Rattle.lp_form.specs.Shown.{shown}
use Rattle.lp_form.specs.Sums.{IsUnchangedByFault}
use Rattle.lp_form.proofs.Sums.{kept-err}
use Rattle.lp_form.proofs.sum.FormSum.add_assign.Goals.{in-List+else-is_cheap, in_default}
use Rattle.lp_form.proofs.sum.FormSum.add_assign.Goals as goal

pub returns-then-is_cheap-clause-value : goal.returns-then-is_cheap-clause-value
returns-then-is_cheap-clause-value g c =
    subst (λ a. IsEntrywiseAnswer g.F.ExactField.value (of_two (sum_form_step g.F.ExactField.limit) g.F.ExactField.value a c.args.o.now) (result_map_both (λ _. c.add_assign.new.self) (λ fault. fault) c.add_assign.result)) (ap shown (sym c.in-List.is) ∙ c.self.view_is) c.add_assign.ensures.value

pub returns-then-is_cheap-clause-unchanged : goal.returns-then-is_cheap-clause-unchanged
returns-then-is_cheap-clause-unchanged g c =
    subst (λ a. IfErr c.add_assign.result (IsUnchangedByFault a c.add_assign.new.self)) (ap shown (sym c.in-List.is) ∙ c.self.view_is) (kept-err c.in-List.form c.add_assign.new.self c.add_assign.result c.add_assign.ensures.unchanged)

pub returns-clause-value : goal.returns-clause-value
returns-clause-value g c =
    let same : c.match-self.self-inside.kept ≡ c.self.inside.kept = elim c.match-self.branch [ in-List+else-is_cheap w ↦ ap (λ s. s.kept) w.self-inside-is ∙ sym w.in-List.is | in_default w ↦ ap (λ s. s.kept) w.self-inside-is ] in
    subst (λ a. IsEntrywiseAnswer g.F.ExactField.value (of_two (sum_form_step g.F.ExactField.limit) g.F.ExactField.value a c.args.o.now) (result_map_both (λ _. c.add_among.new.self) (λ fault. fault) c.add_among.result)) (ap shown same ∙ c.self.view_is) c.add_among.ensures.value

pub returns-clause-unchanged : goal.returns-clause-unchanged
returns-clause-unchanged g c =
    let same : c.match-self.self-inside.kept ≡ c.self.inside.kept = elim c.match-self.branch [ in-List+else-is_cheap w ↦ ap (λ s. s.kept) w.self-inside-is ∙ sym w.in-List.is | in_default w ↦ ap (λ s. s.kept) w.self-inside-is ] in
    subst (λ a. IfErr c.add_among.result (IsUnchangedByFault a c.add_among.new.self)) (ap shown same ∙ c.self.view_is) c.add_among.ensures.unchanged
