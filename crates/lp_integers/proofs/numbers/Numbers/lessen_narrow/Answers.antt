-- Where both lists have one word for each number, the loop's list is this list, and so is what it
-- leaves.
use Rattle.std.proofs.Common.{◌≡◌, ◌^◌, ◌-◌, length, w64, refl, sym, ap, ◌∙◌, subst, subst₂}
use Rattle.std.specs.Prelude.{MatchOption}
use Rattle.std.proofs.lemmas.Int.{to_z-of_z}
use Rattle.std.proofs.lemmas.List.{with_items_is}
use Rattle.lp_integers.specs.Lines.{AreWithin, CombinationsStayWithin, AreLessened}
use Rattle.lp_integers.specs.Widths.{listed}
use Rattle.lp_integers.specs.contracts.numbers.Numbers.{the_invariant, the_view}
use Rattle.lp_integers.proofs.Lines.{lessened_within, same_lessened}
use Rattle.lp_integers.proofs.numbers.Numbers.lessen_narrow.Goals as goal
use Rattle.lp_integers.proofs.numbers.Numbers.lessen_narrow.Goals.{in-Narrow-kept, in-Few, in-Wide}

pub lessen-most-requires-clause-sized : goal.lessen-most-requires-clause-sized
lessen-most-requires-clause-sized c =
    let own_is = c.as_mut_slice.ensures.value ∙ sym (ap listed c.in-Narrow-kept.is) ∙ c.self.view_is in
    let other_is = c.as_slice.ensures.value ∙ sym (ap listed c.in-Narrow.is) ∙ c.others.view_is in
    ap length other_is ∙ c.requires.sized ∙ sym (ap length own_is)

pub lessen-most-requires-clause-within_bound : goal.lessen-most-requires-clause-within_bound
lessen-most-requires-clause-within_bound c =
    let own_is = c.as_mut_slice.ensures.value ∙ sym (ap listed c.in-Narrow-kept.is) ∙ c.self.view_is in
    let other_is = c.as_slice.ensures.value ∙ sym (ap listed c.in-Narrow.is) ∙ c.others.view_is in
    subst₂ (λ a b. CombinationsStayWithin (2 ^ 63 - 1) a b c.as_mut_slice.result.now c.as_slice.result.now) (sym (to_z-of_z w64 c.args.a c.ranges.a)) (sym (to_z-of_z w64 c.args.b c.ranges.b))
    (subst₂ (CombinationsStayWithin (2 ^ 63 - 1) c.args.a c.args.b) (sym own_is) (sym other_is) c.requires.within_bound)

pub invariant_of-self : goal.invariant_of-self
invariant_of-self c = elim c.match-self.branch [
  | in-Narrow-kept w ↦
      let sized : length w.lessen-most.new.numbers ≡ w.in-Narrow-kept.own.len = w.lessen-most.ensures.sized ∙ w.as_mut_slice.ensures.len in
      let own_is = w.as_mut_slice.ensures.value ∙ sym (ap listed w.in-Narrow-kept.is) ∙ c.self.view_is in
      let other_is = w.as_slice.ensures.value ∙ sym (ap listed c.in-Narrow.is) ∙ c.others.view_is in
      let lessened : AreLessened c.args.a c.args.b c.args.self.now c.args.others.now w.lessen-most.new.numbers w.lessen-most.result =
      same_lessened (to_z-of_z w64 c.args.a c.ranges.a) (to_z-of_z w64 c.args.b c.ranges.b) own_is other_is refl w.lessen-most.ensures in
      subst (λ s. the_invariant s) (sym w.self-inside-is)
      (subst (λ l. AreWithin l (2 ^ 63 - 1)) (sym (with_items_is w.in-Narrow-kept.own w.lessen-most.new.numbers sized))
      (lessened_within c.args.a c.args.b c.args.self.now c.args.others.now w.lessen-most.new.numbers w.lessen-most.result (2 ^ 63 - 1) lessened c.requires.within_bound))
  | in-Few w ↦ subst (λ s. the_invariant s) (sym w.self-inside-is) c.self.invariant
  | in-Wide w ↦ subst (λ s. the_invariant s) (sym w.self-inside-is) c.self.invariant
]

pub returns : goal.returns
returns c = elim c.match-self.branch [
  | in-Narrow-kept w ↦
      let sized : length w.lessen-most.new.numbers ≡ w.in-Narrow-kept.own.len = w.lessen-most.ensures.sized ∙ w.as_mut_slice.ensures.len in
      let own_is = w.as_mut_slice.ensures.value ∙ sym (ap listed w.in-Narrow-kept.is) ∙ c.self.view_is in
      let other_is = w.as_slice.ensures.value ∙ sym (ap listed c.in-Narrow.is) ∙ c.others.view_is in
      subst₂ (λ r s. MatchOption r (the_view s ≡ c.args.self.now) (AreLessened c.args.a c.args.b c.args.self.now c.args.others.now (the_view s))) (sym w.result-is) (sym w.self-inside-is)
      (same_lessened (to_z-of_z w64 c.args.a c.ranges.a) (to_z-of_z w64 c.args.b c.ranges.b) own_is other_is (sym (with_items_is w.in-Narrow-kept.own w.lessen-most.new.numbers sized)) w.lessen-most.ensures)
  | in-Few w ↦
      subst₂ (λ r s. MatchOption r (the_view s ≡ c.args.self.now) (AreLessened c.args.a c.args.b c.args.self.now c.args.others.now (the_view s))) (sym w.result-is) (sym w.self-inside-is) c.self.view_is
  | in-Wide w ↦
      subst₂ (λ r s. MatchOption r (the_view s ≡ c.args.self.now) (AreLessened c.args.a c.args.b c.args.self.now c.args.others.now (the_view s))) (sym w.result-is) (sym w.self-inside-is) c.self.view_is
]
