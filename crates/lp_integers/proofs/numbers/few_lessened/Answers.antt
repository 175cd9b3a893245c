-- Where both lists have words only, these are the lists.
use Rattle.std.proofs.Common.{◌-◌, ◌^◌, length, w64, sym, ap, ◌∙◌, subst₂}
use Rattle.std.proofs.lemmas.Int.{to_z-of_z}
use Rattle.lp_integers.specs.Lines.{CombinationsStayWithin}
use Rattle.lp_integers.specs.Widths.{listed}
use Rattle.lp_integers.specs.Words.{AreDifferences}
use Rattle.lp_integers.proofs.numbers.few_lessened.Goals as goal

pub lessened-requires-clause-sized : goal.lessened-requires-clause-sized
lessened-requires-clause-sized c = sym (ap (λ k. length (listed k)) c.in-Few.is) ∙ c.requires.sized ∙ ap (λ k. length (listed k)) c.in-Few-own.is

pub lessened-requires-clause-within_bound : goal.lessened-requires-clause-within_bound
lessened-requires-clause-within_bound c =
    subst₂ (λ x y. CombinationsStayWithin (2 ^ 63 - 1) x y c.in-Few-own.own c.in-Few.other) (sym (to_z-of_z w64 c.args.a c.ranges.a)) (sym (to_z-of_z w64 c.args.b c.ranges.b))
    (subst₂ (CombinationsStayWithin (2 ^ 63 - 1) c.args.a c.args.b) (ap listed c.in-Few-own.is) (ap listed c.in-Few.is) c.requires.within_bound)

pub returns : goal.returns
returns c =
    subst₂ (λ own other. AreDifferences c.args.a c.args.b own other c.in_ok-list.list) (sym (ap listed c.in-Few-own.is)) (sym (ap listed c.in-Few.is))
    (subst₂ (λ x y. AreDifferences x y c.in-Few-own.own c.in-Few.other c.in_ok-list.list) (to_z-of_z w64 c.args.a c.ranges.a) (to_z-of_z w64 c.args.b c.ranges.b) c.in_ok-list.ensures)
