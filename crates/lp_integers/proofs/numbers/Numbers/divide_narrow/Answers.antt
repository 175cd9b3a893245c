-- Where each number has one word, the list that is divided is this list; else nothing changes.
use Rattle.std.proofs.Common.{◌≡◌, ℕ, ◌^◌, ◌-◌, length, nat_abs, sym, ap, ◌∙◌, subst, subst₂}
use Rattle.std.specs.Int.{◌∣◌}
use Rattle.std.proofs.lemmas.Bool.{false≢true}
use Rattle.std.proofs.lemmas.List.{with_items_is}
use Rattle.lp_integers.specs.Lines.{whole_at, AreWithin, AreOver}
use Rattle.lp_integers.specs.Widths.{listed, AreWithinWidth}
use Rattle.lp_integers.specs.declared.kept.Kept.TheVariants.{Few, Narrow}
use Rattle.lp_integers.specs.contracts.numbers.Numbers.{the_invariant, the_view}
use Rattle.lp_integers.proofs.Lines.{divided_within}
use Rattle.lp_integers.proofs.numbers.Numbers.divide_narrow.Goals as goal
use Rattle.lp_integers.proofs.numbers.Numbers.divide_narrow.Goals.{in-Few, in-Narrow, in-Wide}

pub divide-requires-clause-divides : goal.divide-requires-clause-divides
divide-requires-clause-divides c = subst (λ l. (k : ℕ) → c.args.divisor ∣ nat_abs (whole_at l k)) (sym c.self.view_is ∙ ap listed c.in-Few.is) c.requires.divides

pub divide-requires-in-Narrow-clause-divides : goal.divide-requires-in-Narrow-clause-divides
divide-requires-in-Narrow-clause-divides c =
    subst (λ l. (k : ℕ) → c.args.divisor ∣ nat_abs (whole_at l k)) (sym c.self.view_is ∙ ap listed c.in-Narrow.is ∙ sym c.as_mut_slice.ensures.value) c.requires.divides

pub invariant_of-self : goal.invariant_of-self
invariant_of-self c = elim c.match-self.branch [
  | in-Few w ↦
      let kept : AreWithinWidth (Few w.in-Few.list) = subst AreWithinWidth w.in-Few.is c.self.invariant in
      subst (λ s. the_invariant s) (sym w.self-inside-is) (divided_within c.args.divisor w.in-Few.list w.divide.new.self (2 ^ 63 - 1) c.requires.positive w.divide.ensures kept)
  | in-Narrow w ↦
      let sized : length w.divide-in-Narrow.new.numbers ≡ w.in-Narrow.list.len = w.divide-in-Narrow.ensures.sized ∙ w.as_mut_slice.ensures.len in
      let kept : AreWithinWidth (Narrow w.in-Narrow.list) = subst AreWithinWidth w.in-Narrow.is c.self.invariant in
      subst (λ s. the_invariant s) (sym w.self-inside-is)
      (subst (λ l. AreWithin l (2 ^ 63 - 1)) (sym (with_items_is w.in-Narrow.list w.divide-in-Narrow.new.numbers sized))
      (divided_within c.args.divisor w.as_mut_slice.result.now w.divide-in-Narrow.new.numbers (2 ^ 63 - 1) c.requires.positive w.divide-in-Narrow.ensures (subst (λ l. AreWithin l (2 ^ 63 - 1)) (sym w.as_mut_slice.ensures.value) kept)))
  | in-Wide w ↦ subst (λ s. the_invariant s) (sym w.self-inside-is) c.self.invariant
]

pub returns-clause-divided : goal.returns-clause-divided
returns-clause-divided c = λ yes. elim c.match-self.branch [
  | in-Few w ↦
      subst (λ s. AreOver c.args.divisor c.args.self.now (the_view s)) (sym w.self-inside-is)
      (subst (λ l. AreOver c.args.divisor l w.divide.new.self) (sym (ap listed w.in-Few.is) ∙ c.self.view_is) w.divide.ensures)
  | in-Narrow w ↦
      let sized : length w.divide-in-Narrow.new.numbers ≡ w.in-Narrow.list.len = w.divide-in-Narrow.ensures.sized ∙ w.as_mut_slice.ensures.len in
      subst (λ s. AreOver c.args.divisor c.args.self.now (the_view s)) (sym w.self-inside-is)
      (subst₂ (AreOver c.args.divisor) (w.as_mut_slice.ensures.value ∙ sym (ap listed w.in-Narrow.is) ∙ c.self.view_is) (sym (with_items_is w.in-Narrow.list w.divide-in-Narrow.new.numbers sized)) w.divide-in-Narrow.ensures)
  | in-Wide w ↦ absurd (false≢true (sym w.result-is ∙ yes))
]

pub returns-clause-same : goal.returns-clause-same
returns-clause-same c = λ no. elim c.match-self.branch [
  | in-Few w ↦ absurd (false≢true (sym no ∙ w.result-is))
  | in-Narrow w ↦ absurd (false≢true (sym no ∙ w.result-is))
  | in-Wide w ↦ ap the_view w.self-inside-is ∙ c.self.view_is
]
