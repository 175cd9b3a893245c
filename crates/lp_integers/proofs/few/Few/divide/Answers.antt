use Rattle.std.proofs.Common.{◌≡◌, ◌-◌, ◌^◌, ◌*ℤ◌, ℤ, pos, nat_abs, length, sym, ◌∙◌, subst}
use Rattle.std.specs.Int.{◌∣◌}
use Rattle.std.proofs.lemmas.List.{with_items_is}
use Rattle.lp_integers.specs.Lines.{AreDivided, AreOver}
use Rattle.lp_integers.specs.Words.{AreWords, AreMatched, EachNumber, spread_out}
use Rattle.lp_integers.proofs.Lines.{none_over}
use Rattle.lp_integers.proofs.Words.{spread_length}
use Rattle.lp_integers.proofs.Each.{spread_each, matched_words, matched_spread, quotient_keeps}
use Rattle.lp_integers.proofs.few.Few.divide.Goals as goal

pub divide-requires-clause-divides : goal.divide-requires-clause-divides
divide-requires-clause-divides c =
    subst (EachNumber (λ z. c.args.divisor ∣ nat_abs z)) (sym c.as_mut_slice.ensures.value)
    (spread_each (λ z. c.args.divisor ∣ nat_abs z) c.self.inside.len c.self.inside.words.items (2 ^ 63 - 1) c.self.invariant (subst (λ list. AreDivided list c.args.divisor) (sym c.self.view_is) c.requires.divides))

pub invariant_of-self : goal.invariant_of-self
invariant_of-self c =
    let sized : length c.divide.new.words ≡ c.self.inside.words.len = c.divide.ensures.sized ∙ c.as_mut_slice.ensures.len in
    let matched : AreMatched (λ (x y : ℤ). y *ℤ pos c.args.divisor ≡ x) c.self.inside.words.items c.divide.new.words = subst (λ before. AreMatched (λ (x y : ℤ). y *ℤ pos c.args.divisor ≡ x) before c.divide.new.words) c.as_mut_slice.ensures.value c.divide.ensures in
    subst (AreWords (2 ^ 63 - 1) 0 c.self.inside.len) (sym (with_items_is c.self.inside.words c.divide.new.words sized))
    (matched_words (λ (x y : ℤ). y *ℤ pos c.args.divisor ≡ x) (2 ^ 63 - 1) 0 c.self.inside.len c.self.inside.words.items c.divide.new.words (quotient_keeps c.args.divisor (2 ^ 63 - 1) c.requires.positive) matched c.self.invariant)

pub returns : goal.returns
returns c =
    let sized : length c.divide.new.words ≡ c.self.inside.words.len = c.divide.ensures.sized ∙ c.as_mut_slice.ensures.len in
    let matched : AreMatched (λ (x y : ℤ). y *ℤ pos c.args.divisor ≡ x) c.self.inside.words.items c.divide.new.words = subst (λ before. AreMatched (λ (x y : ℤ). y *ℤ pos c.args.divisor ≡ x) before c.divide.new.words) c.as_mut_slice.ensures.value c.divide.ensures in
    let after : AreWords (2 ^ 63 - 1) 0 c.self.inside.len c.divide.new.words = matched_words (λ (x y : ℤ). y *ℤ pos c.args.divisor ≡ x) (2 ^ 63 - 1) 0 c.self.inside.len c.self.inside.words.items c.divide.new.words (quotient_keeps c.args.divisor (2 ^ 63 - 1) c.requires.positive) matched c.self.invariant in
    subst (λ words. AreOver c.args.divisor c.args.self.now (spread_out c.self.inside.len words)) (sym (with_items_is c.self.inside.words c.divide.new.words sized))
    (subst (λ before. AreOver c.args.divisor before (spread_out c.self.inside.len c.divide.new.words)) c.self.view_is (record {
      sized = spread_length c.self.inside.len c.divide.new.words ∙ sym (spread_length c.self.inside.len c.self.inside.words.items);
      numbers = matched_spread (λ (x y : ℤ). y *ℤ pos c.args.divisor ≡ x) c.self.inside.len c.self.inside.words.items c.divide.new.words (2 ^ 63 - 1) (2 ^ 63 - 1) c.self.invariant after matched (none_over c.args.divisor);
    }))

pub divide-requires-clause-positive : goal.divide-requires-clause-positive
divide-requires-clause-positive c = c.requires.positive

pub divide-requires-clause-small : goal.divide-requires-clause-small
divide-requires-clause-small c = c.requires.small
