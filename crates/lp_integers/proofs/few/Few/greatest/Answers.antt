use Rattle.std.proofs.Common.{◌≤◌, ◌-◌, ◌^◌, nat_abs, sym, subst, arith}
use Rattle.lp_integers.specs.Lines.{AreWithin}
use Rattle.lp_integers.specs.Words.{EachNumber}
use Rattle.lp_integers.proofs.Each.{each_spread, spread_each}
use Rattle.lp_integers.proofs.few.Few.greatest.Goals as goal

pub returns-clause-within : goal.returns-clause-within
returns-clause-within c =
    subst (λ list. AreWithin list c.greatest_of.result) c.self.view_is
    (each_spread (λ z. nat_abs z ≤ c.greatest_of.result) c.self.inside.len c.self.inside.words.items (2 ^ 63 - 1) c.self.invariant (subst (EachNumber (λ z. nat_abs z ≤ c.greatest_of.result)) c.as_slice.ensures.value c.greatest_of.ensures.within) (omega arith))

pub returns-clause-small : goal.returns-clause-small
returns-clause-small c = λ m within.
    c.greatest_of.ensures.small m (subst (EachNumber (λ z. nat_abs z ≤ m)) (sym c.as_slice.ensures.value) (spread_each (λ z. nat_abs z ≤ m) c.self.inside.len c.self.inside.words.items (2 ^ 63 - 1) c.self.invariant (subst (λ list. AreWithin list m) (sym c.self.view_is) within)))
