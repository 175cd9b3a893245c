use Rattle.std.proofs.Common.{◌-◌, ◌^◌, ℤ, length, to_z, of_z, w64, refl, sym, ap, ◌∙◌, subst, subst₂}
use Rattle.std.specs.Prelude.{IfSome}
use Rattle.std.proofs.lemmas.Int.{to_z-of_z}
use Rattle.std.proofs.lemmas.Result.{IfOk-from_err}
use Rattle.lp_integers.specs.Lines.{CombinationsStayWithin}
use Rattle.lp_integers.specs.Widths.{listed}
use Rattle.lp_integers.specs.Words.{AreDifferences}
use Rattle.lp_integers.proofs.Lines.{same_lessened}
use Rattle.lp_integers.proofs.Differences.{differences_lessened}
use Rattle.lp_integers.proofs.numbers.Numbers.lessen_few.Goals as goal

pub returns : goal.returns
returns c =
    let a : ℤ = to_z w64 (of_z w64 c.args.a) in
    let b : ℤ = to_z w64 (of_z w64 c.args.b) in
    let made : AreDifferences a b (listed c.self.inside.kept) (listed c.others.inside.kept) c.in-Some.list =
    subst (λ o. IfSome o (AreDifferences a b (listed c.self.inside.kept) (listed c.others.inside.kept))) c.in-Some.is c.in_ok-list.ensures in
    same_lessened (to_z-of_z w64 c.args.a c.ranges.a) (to_z-of_z w64 c.args.b c.ranges.b) c.self.view_is c.others.view_is (sym (c.branch.view_is ∙ c.in_ok-self-inside.ensures))
    (differences_lessened a b (listed c.self.inside.kept) (listed c.others.inside.kept) c.in-Some.list c.greatest-most.result made c.greatest-most.ensures.within c.greatest-most.ensures.small)

pub few_lessened-requires-clause-sized : goal.few_lessened-requires-clause-sized
few_lessened-requires-clause-sized c = ap length c.others.view_is ∙ c.requires.sized ∙ sym (ap length c.self.view_is)

pub few_lessened-requires-clause-within_bound : goal.few_lessened-requires-clause-within_bound
few_lessened-requires-clause-within_bound c =
    subst₂ (λ a b. CombinationsStayWithin (2 ^ 63 - 1) a b (listed c.self.inside.kept) (listed c.others.inside.kept)) (sym (to_z-of_z w64 c.args.a c.ranges.a))
    (sym (to_z-of_z w64 c.args.b c.ranges.b))
    (subst₂ (CombinationsStayWithin (2 ^ 63 - 1) c.args.a c.args.b) (sym c.self.view_is) (sym c.others.view_is) c.requires.within_bound)

pub returns-in_err-list : goal.returns-in_err-list
returns-in_err-list c = IfOk-from_err c.from_residual.result _ c.from_residual.ensures.0

pub returns-in_default : goal.returns-in_default
returns-in_default c = refl

pub returns-in_err-self-inside : goal.returns-in_err-self-inside
returns-in_err-self-inside c = IfOk-from_err c.from_residual-in_err-self-inside.result _ c.from_residual-in_err-self-inside.ensures.0

pub invariant_of-self : goal.invariant_of-self
invariant_of-self c = c.branch.invariant
