use Rattle.std.proofs.Common.{sym, subst}
use Rattle.lp_integer_dict.specs.InnerChoice.{IsLesser}
use Rattle.lp_integer_dict.proofs.Choices.{lesser_by_less, lesser_by_equal, best_by_equal, best_by_greater}
use Rattle.lp_integer_dict.proofs.choice.lesser.Goals as goal

pub returns-in-Less : goal.returns-in-Less
returns-in-Less c =
    subst (λ b. IsLesser b c.args.other c.args.other) (sym c.in-Some.is) (lesser_by_less c.in-Some.best c.args.other c.compare.result c.compare.ensures c.in-Less.is)

pub returns-in-Greater : goal.returns-in-Greater
returns-in-Greater c =
    subst (λ b. IsLesser b c.args.other c.in-Some.best) (sym c.in-Some.is) (best_by_greater c.in-Some.best c.args.other c.compare.result c.compare.ensures c.in-Greater.is)

pub returns-then-other-best : goal.returns-then-other-best
returns-then-other-best c =
    subst (λ b. IsLesser b c.args.other c.args.other) (sym c.in-Some.is) (lesser_by_equal c.in-Some.best c.args.other c.compare.result c.compare.ensures c.in-Equal.is c.if-other-best.true)

pub returns-else-other-best : goal.returns-else-other-best
returns-else-other-best c =
    subst (λ b. IsLesser b c.args.other c.in-Some.best) (sym c.in-Some.is) (best_by_equal c.in-Some.best c.args.other c.compare.result c.compare.ensures c.in-Equal.is c.if-other-best.false)
