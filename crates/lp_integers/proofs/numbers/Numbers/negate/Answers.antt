-- The numbers are negated as they are stored.
use Rattle.std.proofs.Common.{◌≡◌, ◌<◌, ◌≤◌, ◌-◌, ◌^◌, ℕ, ℤ, nat_abs, List, length, sym, ap, ◌∙◌, subst, subst₂, arith}
use Rattle.std.proofs.lemmas.List.{with_items_is}
use Rattle.lp_integers.specs.declared.numbers.Numbers.TheInside.{Inside}
use Rattle.lp_integers.specs.Lines.{whole_at, AreNegated, AreWithin}
use Rattle.lp_integers.specs.Widths.{listed, AreWithinWidth}
use Rattle.lp_integers.proofs.Lines.{negated_within}
use Rattle.lp_integers.proofs.numbers.Numbers.negate.Goals as goal
use Rattle.lp_integers.proofs.numbers.Numbers.negate.Goals.{in-Few, in-Narrow, in-Wide}

below_next : (n : ℕ) → n ≤ 2 ^ 63 - 1 → n < 2 ^ 63
below_next n h = omega arith

pub negate-requires-in-Narrow : goal.negate-requires-in-Narrow
negate-requires-in-Narrow c = λ k.
    below_next (nat_abs (whole_at c.as_mut_slice.result.now k))
    (subst (λ l. AreWithin l (2 ^ 63 - 1)) (sym c.as_mut_slice.ensures.value) (subst AreWithinWidth c.in-Narrow.is c.self.invariant) k)

pub negate-requires-in-Wide : goal.negate-requires-in-Wide
negate-requires-in-Wide c =
    subst (λ l. (k : ℕ) → nat_abs (whole_at l k) < 2 ^ 127)
    (sym (c.as_mut_slice-in-Wide.ensures.value ∙ sym (ap listed c.in-Wide.is) ∙ c.self.view_is)) c.requires

pub invariant_of-self : goal.invariant_of-self
invariant_of-self c =
    elim c.match-self.branch [
      | in-Few w ↦
          subst (λ (s : Inside). AreWithinWidth s.kept) (sym w.self-inside-is)
          (negated_within w.in-Few.list w.negate.new.self (2 ^ 63 - 1) w.negate.ensures (subst AreWithinWidth w.in-Few.is c.self.invariant))
      | in-Narrow w ↦
          let now : List ℤ = w.negate-in-Narrow.new.numbers in
          let sized : length now ≡ w.in-Narrow.list.len = w.negate-in-Narrow.ensures.sized ∙ w.as_mut_slice.ensures.len in
          subst (λ (s : Inside). AreWithinWidth s.kept) (sym w.self-inside-is)
          (subst (λ l. AreWithin l (2 ^ 63 - 1)) (sym (with_items_is w.in-Narrow.list now sized))
          (negated_within w.in-Narrow.list.items now (2 ^ 63 - 1) (subst (λ l. AreNegated l now) w.as_mut_slice.ensures.value w.negate-in-Narrow.ensures)
          (subst AreWithinWidth w.in-Narrow.is c.self.invariant)))
      | in-Wide w ↦ subst (λ (s : Inside). AreWithinWidth s.kept) (sym w.self-inside-is) tt
    ]

pub returns : goal.returns
returns c =
    elim c.match-self.branch [
      | in-Few w ↦ subst₂ AreNegated (sym (ap listed w.in-Few.is) ∙ c.self.view_is) (sym (ap (λ (s : Inside). listed s.kept) w.self-inside-is)) w.negate.ensures
      | in-Narrow w ↦
          let sized : length w.negate-in-Narrow.new.numbers ≡ w.in-Narrow.list.len = w.negate-in-Narrow.ensures.sized ∙ w.as_mut_slice.ensures.len in
          subst₂ AreNegated (w.as_mut_slice.ensures.value ∙ sym (ap listed w.in-Narrow.is) ∙ c.self.view_is)
          (sym (ap (λ (s : Inside). listed s.kept) w.self-inside-is
          ∙ with_items_is w.in-Narrow.list w.negate-in-Narrow.new.numbers sized)) w.negate-in-Narrow.ensures
      | in-Wide w ↦
          let sized : length w.negate-in-Wide.new.numbers ≡ w.in-Wide.list.len = w.negate-in-Wide.ensures.sized ∙ w.as_mut_slice-in-Wide.ensures.len in
          subst₂ AreNegated (w.as_mut_slice-in-Wide.ensures.value ∙ sym (ap listed w.in-Wide.is) ∙ c.self.view_is)
          (sym (ap (λ (s : Inside). listed s.kept) w.self-inside-is ∙ with_items_is w.in-Wide.list w.negate-in-Wide.new.numbers sized)) w.negate-in-Wide.ensures
    ]
