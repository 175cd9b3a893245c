-- Where this list has one word for each number, the list that is lessened is this list, and so is
-- what it leaves.
use Rattle.std.proofs.Common.{◌≡◌, ◌^◌, ◌-◌, pos, length, w64, refl, sym, ap, ◌∙◌, subst, subst₂, arith}
use Rattle.std.specs.Prelude.{MatchOption}
use Rattle.std.proofs.lemmas.Int.{to_z-of_z}
use Rattle.std.proofs.lemmas.List.{with_items_is}
use Rattle.lp_integers.specs.Lines.{AreWithin, CombinationsStayWithin, ArePlaces, AreLessenedFrom}
use Rattle.lp_integers.specs.Widths.{listed}
use Rattle.lp_integers.specs.contracts.numbers.Numbers.{the_invariant, the_view}
use Rattle.lp_integers.proofs.Places.{lessened_from_within, same_lessened_from}
use Rattle.lp_integers.proofs.numbers.Numbers.lessen_narrow_at.Goals as goal
use Rattle.lp_integers.proofs.numbers.Numbers.lessen_narrow_at.Goals.{in-Narrow-kept-2, in-Few-kept, in-Wide}

pub lessen-most-requires-clause-sized : goal.lessen-most-requires-clause-sized
lessen-most-requires-clause-sized c =
    let own_is = c.as_mut_slice.ensures.value ∙ sym (ap listed c.in-Narrow.is) ∙ c.self.view_is in
    let other_is = sym (ap listed c.in-Few.is) ∙ c.others.view_is in
    ap length other_is ∙ c.requires.sized ∙ sym (ap length own_is)

pub lessen-most-requires-clause-within : goal.lessen-most-requires-clause-within
lessen-most-requires-clause-within c =
    let own_is = c.as_mut_slice.ensures.value ∙ sym (ap listed c.in-Narrow.is) ∙ c.self.view_is in
    subst (λ l. AreWithin l c.args.least) (sym own_is) c.requires.within

pub lessen-most-requires-clause-within_bound : goal.lessen-most-requires-clause-within_bound
lessen-most-requires-clause-within_bound c =
    let own_is = c.as_mut_slice.ensures.value ∙ sym (ap listed c.in-Narrow.is) ∙ c.self.view_is in
    let other_is = sym (ap listed c.in-Few.is) ∙ c.others.view_is in
    subst (λ b. CombinationsStayWithin (2 ^ 63 - 1) (pos 1) b c.as_mut_slice.result.now c.in-Few.other) (sym (to_z-of_z w64 c.args.b c.ranges.b))
    (subst₂ (CombinationsStayWithin (2 ^ 63 - 1) (pos 1) c.args.b) (sym own_is) (sym other_is) c.requires.within_bound)

pub invariant_of-self : goal.invariant_of-self
invariant_of-self c =
    let sized : length c.lessen-most.new.numbers ≡ c.in-Narrow.own.len = c.lessen-most.ensures.sized ∙ c.as_mut_slice.ensures.len in
    let own_is = c.as_mut_slice.ensures.value ∙ sym (ap listed c.in-Narrow.is) ∙ c.self.view_is in
    let other_is = sym (ap listed c.in-Few.is) ∙ c.others.view_is in
    let lessened : AreLessenedFrom c.args.least c.args.b c.args.self.now c.args.others.now c.lessen-most.new.numbers c.lessen-most.result =
    same_lessened_from (to_z-of_z w64 c.args.b c.ranges.b) own_is other_is refl c.lessen-most.ensures in
    let small = c.requires.small in
    subst (λ l. AreWithin l (2 ^ 63 - 1)) (sym (with_items_is c.in-Narrow.own c.lessen-most.new.numbers sized))
    (lessened_from_within c.args.least c.args.b c.args.self.now c.args.others.now c.lessen-most.new.numbers c.lessen-most.result (2 ^ 63 - 1) lessened c.requires.within_bound (omega arith))

pub returns-in-Narrow : goal.returns-in-Narrow
returns-in-Narrow c =
    let sized : length c.lessen-most.new.numbers ≡ c.in-Narrow.own.len = c.lessen-most.ensures.sized ∙ c.as_mut_slice.ensures.len in
    let own_is = c.as_mut_slice.ensures.value ∙ sym (ap listed c.in-Narrow.is) ∙ c.self.view_is in
    let other_is = sym (ap listed c.in-Few.is) ∙ c.others.view_is in
    same_lessened_from (to_z-of_z w64 c.args.b c.ranges.b) own_is other_is (sym (with_items_is c.in-Narrow.own c.lessen-most.new.numbers sized)) c.lessen-most.ensures

pub lessen_at-most-requires : goal.lessen_at-most-requires
lessen_at-most-requires c =
    let own_is = c.as_mut_slice-in-Narrow-kept-2.ensures.value ∙ sym (ap listed c.in-Narrow-kept-2.is) ∙ c.self.view_is in
    let other_is = c.as_slice.ensures.value ∙ sym (ap listed c.in-Narrow-kept.is) ∙ c.others.view_is in
    record {
      sized = ap length other_is ∙ c.requires.sized ∙ sym (ap length own_is);
      places = subst (λ l. ArePlaces l (length l) c.args.places.now) (sym other_is) c.requires.places;
      within = subst (λ l. AreWithin l c.args.least) (sym own_is) c.requires.within;
      within_bound = subst (λ b. CombinationsStayWithin (2 ^ 63 - 1) (pos 1) b c.as_mut_slice-in-Narrow-kept-2.result.now c.as_slice.result.now) (sym (to_z-of_z w64 c.args.b c.ranges.b))
          (subst₂ (CombinationsStayWithin (2 ^ 63 - 1) (pos 1) c.args.b) (sym own_is) (sym other_is) c.requires.within_bound);
    }

pub invariant_of-self-2 : goal.invariant_of-self-2
invariant_of-self-2 c = elim c.match-self-2.branch [
  | in-Narrow-kept-2 w ↦
      let sized : length w.lessen_at-most.new.numbers ≡ w.in-Narrow-kept-2.own.len = w.lessen_at-most.ensures.sized ∙ w.as_mut_slice-in-Narrow-kept-2.ensures.len in
      let own_is = w.as_mut_slice-in-Narrow-kept-2.ensures.value ∙ sym (ap listed w.in-Narrow-kept-2.is) ∙ c.self.view_is in
      let other_is = w.as_slice.ensures.value ∙ sym (ap listed c.in-Narrow-kept.is) ∙ c.others.view_is in
      let lessened : AreLessenedFrom c.args.least c.args.b c.args.self.now c.args.others.now w.lessen_at-most.new.numbers w.lessen_at-most.result =
      same_lessened_from (to_z-of_z w64 c.args.b c.ranges.b) own_is other_is refl w.lessen_at-most.ensures in
      subst (λ s. the_invariant s) (sym w.self-inside-is)
      (subst (λ l. AreWithin l (2 ^ 63 - 1)) (sym (with_items_is w.in-Narrow-kept-2.own w.lessen_at-most.new.numbers sized))
      (lessened_from_within c.args.least c.args.b c.args.self.now c.args.others.now w.lessen_at-most.new.numbers w.lessen_at-most.result (2 ^ 63 - 1) lessened c.requires.within_bound (let small = c.requires.small in omega arith)))
  | in-Few-kept w ↦ subst (λ s. the_invariant s) (sym w.self-inside-is) c.self.invariant
  | in-Wide w ↦ subst (λ s. the_invariant s) (sym w.self-inside-is) c.self.invariant
]

pub returns : goal.returns
returns c = elim c.match-self-2.branch [
  | in-Narrow-kept-2 w ↦
      let sized : length w.lessen_at-most.new.numbers ≡ w.in-Narrow-kept-2.own.len = w.lessen_at-most.ensures.sized ∙ w.as_mut_slice-in-Narrow-kept-2.ensures.len in
      let own_is = w.as_mut_slice-in-Narrow-kept-2.ensures.value ∙ sym (ap listed w.in-Narrow-kept-2.is) ∙ c.self.view_is in
      let other_is = w.as_slice.ensures.value ∙ sym (ap listed c.in-Narrow-kept.is) ∙ c.others.view_is in
      subst₂ (λ r s. MatchOption r (the_view s ≡ c.args.self.now) (AreLessenedFrom c.args.least c.args.b c.args.self.now c.args.others.now (the_view s))) (sym w.result-is) (sym w.self-inside-is)
      (same_lessened_from (to_z-of_z w64 c.args.b c.ranges.b) own_is other_is (sym (with_items_is w.in-Narrow-kept-2.own w.lessen_at-most.new.numbers sized)) w.lessen_at-most.ensures)
  | in-Few-kept w ↦
      subst₂ (λ r s. MatchOption r (the_view s ≡ c.args.self.now) (AreLessenedFrom c.args.least c.args.b c.args.self.now c.args.others.now (the_view s))) (sym w.result-is) (sym w.self-inside-is) c.self.view_is
  | in-Wide w ↦
      subst₂ (λ r s. MatchOption r (the_view s ≡ c.args.self.now) (AreLessenedFrom c.args.least c.args.b c.args.self.now c.args.others.now (the_view s))) (sym w.result-is) (sym w.self-inside-is) c.self.view_is
]
