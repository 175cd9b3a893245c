use Rattle.std.proofs.Common.{sym, subst}
use Rattle.lp_fraction_dict.specs.InnerChoice.{IsLesser}
use Rattle.lp_fraction_dict.proofs.Choices.{lesser_by_less, lesser_by_equal, best_by_equal, best_by_greater}
use Rattle.lp_fraction_dict.proofs.choice.lesser.Goals as goal

pub returns-in-Less : goal.returns-in-Less
returns-in-Less g c =
    subst (λ b. IsLesser g.F.ExactField.value b c.args.other c.args.other) (sym c.in-Some.is) (lesser_by_less g.F.ExactField.value c.in-Some.best c.args.other c.cmp_value.result c.cmp_value.ensures c.in-Less.is)

pub returns-in-Greater : goal.returns-in-Greater
returns-in-Greater g c =
    subst (λ b. IsLesser g.F.ExactField.value b c.args.other c.in-Some.best) (sym c.in-Some.is) (best_by_greater g.F.ExactField.value c.in-Some.best c.args.other c.cmp_value.result c.cmp_value.ensures c.in-Greater.is)

pub returns-then-other-best : goal.returns-then-other-best
returns-then-other-best g c =
    subst (λ b. IsLesser g.F.ExactField.value b c.args.other c.args.other) (sym c.in-Some.is) (lesser_by_equal g.F.ExactField.value c.in-Some.best c.args.other c.cmp_value.result c.cmp_value.ensures c.in-Equal.is c.if-other-best.true)

pub returns-else-other-best : goal.returns-else-other-best
returns-else-other-best g c =
    subst (λ b. IsLesser g.F.ExactField.value b c.args.other c.in-Some.best) (sym c.in-Some.is) (best_by_equal g.F.ExactField.value c.in-Some.best c.args.other c.cmp_value.result c.cmp_value.ensures c.in-Equal.is c.if-other-best.false)
