use Rattle.std.proofs.Common.{sym, ap, ◌∙◌, ◌+◌}
use Rattle.gq_number.specs.Number.{neg_ℚ}
use Rattle.lp_std.proofs.Picks.{picked, pick_one, pick_first, pick_second}
use Rattle.lp_std.proofs.form.coefficient_at.Goals as goal

pub returns-in-Lower : goal.returns-in-Lower
returns-in-Lower g c =
    rw c.in-Lower.is (c.kept_if.ensures ∙ sym (pick_one c.args.variable (c.args.first, g.F.ExactField.value c.args.factor)))

pub returns-in-Upper : goal.returns-in-Upper
returns-in-Upper g c =
    rw c.in-Upper.is (c.kept_if-in-Upper.ensures ∙ ap (λ n. picked c.args.variable (c.args.first, n)) c.neg.ensures ∙ sym (pick_one c.args.variable (c.args.first, neg_ℚ (g.F.ExactField.value c.args.factor))))

pub returns-then-first-variable : goal.returns-then-first-variable
returns-then-first-variable g c =
    rw c.in-Free.is (sym (pick_first c.args.variable c.args.first (g.F.ExactField.value c.args.factor) (neg_ℚ (g.F.ExactField.value c.args.factor)) c.if-first-variable.true))

pub returns-else-first-variable : goal.returns-else-first-variable
returns-else-first-variable g c =
    rw c.in-Free.is (c.kept_if-in-Free.ensures ∙ ap (λ n. picked c.args.variable (c.args.first + 1, n)) c.neg-in-Free.ensures ∙ sym (pick_second c.args.variable c.args.first (g.F.ExactField.value c.args.factor) (neg_ℚ (g.F.ExactField.value c.args.factor)) c.if-first-variable.false))
