-- The number is cleared as it is stored.
use Rattle.std.proofs.Common.{◌-◌, ◌^◌, pos, set, sym, ap, ◌∙◌, subst}
use Rattle.lp_integers.specs.declared.numbers.Numbers.TheInside.{Inside}
use Rattle.lp_integers.specs.Lines.{AreWithin}
use Rattle.lp_integers.specs.Widths.{listed, AreWithinWidth}
use Rattle.lp_integers.proofs.Lines.{cleared_within}
use Rattle.lp_integers.proofs.numbers.Numbers.clear.Goals as goal
use Rattle.lp_integers.proofs.numbers.Numbers.clear.Goals.{in-Few, in-Narrow, in-Wide}

pub invariant_of-self : goal.invariant_of-self
invariant_of-self c =
    elim c.match-self.branch [
      | in-Few w ↦
          subst (λ (s : Inside). AreWithinWidth s.kept) (sym w.self-inside-is)
          (subst (λ l. AreWithin l (2 ^ 63 - 1)) (sym w.clear.ensures)
          (cleared_within w.in-Few.list c.args.place (2 ^ 63 - 1) (subst AreWithinWidth w.in-Few.is c.self.invariant)))
      | in-Narrow w ↦
          subst (λ (s : Inside). AreWithinWidth s.kept) (sym w.self-inside-is)
          (cleared_within w.in-Narrow.list.items c.args.place (2 ^ 63 - 1) (subst AreWithinWidth w.in-Narrow.is c.self.invariant))
      | in-Wide w ↦ subst (λ (s : Inside). AreWithinWidth s.kept) (sym w.self-inside-is) tt
    ]

pub returns : goal.returns
returns c =
    elim c.match-self.branch [
      | in-Few w ↦
          ap (λ (s : Inside). listed s.kept) w.self-inside-is ∙ w.clear.ensures
          ∙ ap (λ l. set l c.args.place (pos 0)) (sym (ap listed w.in-Few.is) ∙ c.self.view_is)
      | in-Narrow w ↦
          ap (λ (s : Inside). listed s.kept) w.self-inside-is ∙ ap (λ l. set l c.args.place (pos 0)) (sym (ap listed w.in-Narrow.is) ∙ c.self.view_is)
      | in-Wide w ↦ ap (λ (s : Inside). listed s.kept) w.self-inside-is ∙ ap (λ l. set l c.args.place (pos 0)) (sym (ap listed w.in-Wide.is) ∙ c.self.view_is)
    ]
