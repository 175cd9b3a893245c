-- The greatest magnitude is that of the numbers as they are stored.
use Rattle.std.proofs.Common.{ℕ, ◌≤◌, sym, ap, ◌∙◌, subst, arith}
use Rattle.lp_integers.specs.Lines.{AreWithin}
use Rattle.lp_integers.specs.Widths.{listed}
use Rattle.lp_integers.proofs.numbers.Numbers.greatest.Goals as goal

from_zero : (m : ℕ) → 0 ≤ m
from_zero m = omega arith

pub returns-in-Few-clause-within : goal.returns-in-Few-clause-within
returns-in-Few-clause-within c = subst (λ l. AreWithin l c.greatest.result) (sym (ap listed c.in-Few.is) ∙ c.self.view_is) c.greatest.ensures.within

pub returns-in-Few-clause-small : goal.returns-in-Few-clause-small
returns-in-Few-clause-small c =
    subst (λ l. (m : ℕ) → AreWithin l m → c.greatest.result ≤ m) (sym (ap listed c.in-Few.is) ∙ c.self.view_is) c.greatest.ensures.small

pub returns-in-Narrow-clause-within : goal.returns-in-Narrow-clause-within
returns-in-Narrow-clause-within c =
    subst (λ l. AreWithin l c.greatest-in-Narrow.result)
    (c.as_slice.ensures.value ∙ sym (ap listed c.in-Narrow.is) ∙ c.self.view_is) c.greatest-in-Narrow.ensures.within

pub returns-in-Narrow-clause-small : goal.returns-in-Narrow-clause-small
returns-in-Narrow-clause-small c =
    subst (λ l. (m : ℕ) → AreWithin l m → c.greatest-in-Narrow.result ≤ m)
    (c.as_slice.ensures.value ∙ sym (ap listed c.in-Narrow.is) ∙ c.self.view_is) c.greatest-in-Narrow.ensures.small

pub returns-in-Wide-clause-within : goal.returns-in-Wide-clause-within
returns-in-Wide-clause-within c =
    subst (λ l. AreWithin l c.greatest-in-Wide.result)
    (c.as_slice-in-Wide.ensures.value ∙ sym (ap listed c.in-Wide.is) ∙ c.self.view_is) c.greatest-in-Wide.ensures.within

pub returns-in-Wide-clause-small : goal.returns-in-Wide-clause-small
returns-in-Wide-clause-small c =
    subst (λ l. (m : ℕ) → AreWithin l m → c.greatest-in-Wide.result ≤ m) (c.as_slice-in-Wide.ensures.value ∙ sym (ap listed c.in-Wide.is) ∙ c.self.view_is)
    (λ m within. c.greatest-in-Wide.ensures.small m within (from_zero m))
