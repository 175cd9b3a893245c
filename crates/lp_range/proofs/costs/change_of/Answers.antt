use Rattle.std.proofs.Common.{sym, ap, ◌∙◌, subst}
use Rattle.gq_number.specs.Number.{neg_ℚ}
use Rattle.lp_fraction_dict.specs.Tableau.{IsPlace}
use Rattle.lp_dict.specs.Tableau.{dictionary}
use Rattle.lp_range.proofs.Loops.{change_some, change_same, change_other}
use Rattle.lp_range.proofs.costs.change_of.Goals as goal

pub returns-in-Some : goal.returns-in-Some
returns-in-Some g c =
    c.neg.ensures ∙ ap neg_ℚ c.number.ensures
    ∙ sym (change_some g.F.ExactField.limit (dictionary g.F.ExactField.value c.args.dict.now) c.keeps.ensures.proper c.args.other c.args.placed.variable c.in-Some.row (subst (IsPlace c.args.dict.now.basic c.args.placed.variable) c.in-Some.is c.requires.placed))

pub returns-then-placed-other : goal.returns-then-placed-other
returns-then-placed-other g c =
    c.one.ensures
    ∙ sym (change_same g.F.ExactField.limit (dictionary g.F.ExactField.value c.args.dict.now) c.keeps.ensures.proper c.args.other c.args.placed.variable (subst (IsPlace c.args.dict.now.basic c.args.placed.variable) c.in-None.is c.requires.placed) c.if-placed-other.true)

pub returns-else-placed-other : goal.returns-else-placed-other
returns-else-placed-other g c =
    c.zero.ensures
    ∙ sym (change_other g.F.ExactField.limit (dictionary g.F.ExactField.value c.args.dict.now) c.keeps.ensures.proper c.args.other c.args.placed.variable (subst (IsPlace c.args.dict.now.basic c.args.placed.variable) c.in-None.is c.requires.placed) c.if-placed-other.false)
