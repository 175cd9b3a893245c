use Rattle.std.proofs.Common.{◌≤◌, ◌^◌, ◌-◌, nat_abs, sym, ◌∙◌, subst, arith}
use Rattle.lp_integers.specs.Lines.{whole_at, AreWithin}
use Rattle.lp_integer_rows.proofs.line.Line.new.Goals as goal

pub returns-clause-line : goal.returns-clause-line
returns-clause-line c =
    let low = c.requires.small in
    let most = c.greatest-most.ensures.small (2 ^ 127 - 1) (subst (λ l. AreWithin l (2 ^ 127 - 1)) (sym c.as_slice.ensures.value) c.requires.numbers_small) (omega arith) in
    record {
      positive = c.requires.positive;
      numbers_within = λ k. subst (λ l. nat_abs (whole_at l k) ≤ c.greatest-most.result) (c.as_slice.ensures.value ∙ sym c.in_ok-numbers.ensures) (c.greatest-most.ensures.within k);
      denominator_within = c.greatest-most.ensures.above;
      small = omega arith;
      marked = λ k clear. absurd (c.everywhere.ensures k clear);
      leading = c.of-leading.ensures;
    }

pub of-requires : goal.of-requires
of-requires c = subst (λ l. AreWithin l c.greatest-most.result) c.as_slice.ensures.value c.greatest-most.ensures.within
