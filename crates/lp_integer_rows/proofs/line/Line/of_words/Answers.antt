use Rattle.std.proofs.Common.{◌≤◌, ◌^◌, ◌-◌, sym, ap, ◌∙◌, subst, arith}
use Rattle.lp_integers.specs.Lines.{whole_at, AreWithin}
use Rattle.lp_integer_rows.proofs.line.Line.of_words.Goals as goal

pub returns-clause-line : goal.returns-clause-line
returns-clause-line c =
    let m = c.max.ensures in
    let low = c.requires.small in
    let most : c.greatest-greatest.result ≤ 2 ^ 63 - 1 = c.greatest-greatest.ensures.small (2 ^ 63 - 1) (subst (λ l. AreWithin l (2 ^ 63 - 1)) (sym c.in_ok-numbers.ensures) c.requires.words_small) in
    record {
      positive = c.requires.positive;
      numbers_within = λ k. let here = c.greatest-greatest.ensures.within k in omega arith;
      denominator_within = omega arith;
      small = omega arith;
      marked = λ k clear. ap (λ l. whole_at l k) c.in_ok-numbers.ensures ∙ c.requires.marked k clear;
      leading = c.of-leading.ensures;
    }
