use Rattle.std.proofs.Common.{◌-◌, ◌^◌, nat_abs, sym, subst}
use Rattle.std.specs.Int.{◌∣◌}
use Rattle.std.proofs.Math.Nat.{dvd-zero}
use Rattle.lp_integers.specs.Lines.{AreDivided}
use Rattle.lp_integers.specs.Words.{EachNumber}
use Rattle.lp_integers.proofs.Each.{each_spread, spread_each}
use Rattle.lp_integers.proofs.few.Few.divisor_of.Goals as goal

pub returns-clause-numbers : goal.returns-clause-numbers
returns-clause-numbers c =
    subst (λ list. AreDivided list c.divisor_of.result) c.self.view_is
    (each_spread (λ z. c.divisor_of.result ∣ nat_abs z) c.self.inside.len c.self.inside.words.items (2 ^ 63 - 1) c.self.invariant (subst (EachNumber (λ z. c.divisor_of.result ∣ nat_abs z)) c.as_slice.ensures.value c.divisor_of.ensures.numbers) (dvd-zero c.divisor_of.result))

pub returns-clause-greatest : goal.returns-clause-greatest
returns-clause-greatest c = λ k of_denominator of_all.
    c.divisor_of.ensures.greatest k of_denominator (subst (EachNumber (λ z. k ∣ nat_abs z)) (sym c.as_slice.ensures.value) (spread_each (λ z. k ∣ nat_abs z) c.self.inside.len c.self.inside.words.items (2 ^ 63 - 1) c.self.invariant (subst (λ list. AreDivided list k) (sym c.self.view_is) of_all)))
