-- The numbers of a list of one word each have at most 63 bits.
use Rattle.std.proofs.Common.{◌-◌, ◌^◌, sym, subst}
use Rattle.lp_integers.specs.Lines.{AreWithin}
use Rattle.lp_integers.specs.Widths.{AreWithinWidth}
use Rattle.lp_integers.specs.declared.kept.Kept.TheVariants.{Narrow}
use Rattle.lp_integers.proofs.numbers.Numbers.spared.Goals as goal

pub of_counted-requires : goal.of_counted-requires
of_counted-requires c =
    let kept : AreWithinWidth (Narrow c.in-Narrow.list) = subst AreWithinWidth c.in-Narrow.is c.self.invariant in
    subst (λ l. AreWithin l (2 ^ 63 - 1)) (sym c.as_slice.ensures.value) kept
