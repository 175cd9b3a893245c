use Rattle.std.proofs.Common.{◌≡◌, suc, ◌-◌, refl, sym, ap, subst, arith}
use Rattle.lp_any.specs.declared.members.Member.TheVariants.{Shuffle}
use Rattle.lp_any.specs.Members.{rule_at}
use Rattle.lp_any.proofs.members.rule_at.Goals as goal

pub returns-in-0 : goal.returns-in-0
returns-in-0 c = ap rule_at (sym c.in-0.is)

pub returns-in-1 : goal.returns-in-1
returns-in-1 c = ap rule_at (sym c.in-1.is)

pub returns-in-2 : goal.returns-in-2
returns-in-2 c = ap rule_at (sym c.in-2.is)

pub returns-in-3 : goal.returns-in-3
returns-in-3 c = ap rule_at (sym c.in-3.is)

pub returns-in-4 : goal.returns-in-4
returns-in-4 c = ap rule_at (sym c.in-4.is)

pub returns-in-5 : goal.returns-in-5
returns-in-5 c = ap rule_at (sym c.in-5.is)

pub returns-in-6 : goal.returns-in-6
returns-in-6 c = ap rule_at (sym c.in-6.is)

pub returns-in_default : goal.returns-in_default
returns-in_default c =
    let late : suc (suc (suc (suc (suc (suc (suc (c.args.place - 7))))))) ≡ c.args.place = omega arith in
    subst (λ place. Shuffle (c.args.place - 7) ≡ rule_at place) late refl
