use Rattle.std.proofs.Common.{◌≡◌, ◌<◌, ◌-◌, ◌^◌, neg_ℤ, ℤ, nat_abs, length, refl, sym, ◌∙◌, subst, arith}
use Rattle.std.proofs.lemmas.List.{with_items_is}
use Rattle.lp_integers.specs.Lines.{AreNegated}
use Rattle.lp_integers.specs.Words.{AreWords, AreMatched, EachNumber, spread_out}
use Rattle.lp_integers.proofs.Words.{spread_length}
use Rattle.lp_integers.proofs.Each.{says, matched_words, matched_spread, negated_keeps}
use Rattle.lp_integers.proofs.few.Few.negate.Goals as goal

pub negate-requires : goal.negate-requires
negate-requires c =
    subst (EachNumber (λ z. nat_abs z < 2 ^ 63)) (sym c.as_mut_slice.ensures.value)
    (λ i w at. let low = (says c.self.inside.words.items (2 ^ 63 - 1) 0 c.self.inside.len i w c.self.invariant at).within in omega arith)

pub invariant_of-self : goal.invariant_of-self
invariant_of-self c =
    let sized : length c.negate.new.words ≡ c.self.inside.words.len = c.negate.ensures.sized ∙ c.as_mut_slice.ensures.len in
    let matched : AreMatched (λ (x y : ℤ). y ≡ neg_ℤ x) c.self.inside.words.items c.negate.new.words = subst (λ before. AreMatched (λ (x y : ℤ). y ≡ neg_ℤ x) before c.negate.new.words) c.as_mut_slice.ensures.value c.negate.ensures in
    subst (AreWords (2 ^ 63 - 1) 0 c.self.inside.len) (sym (with_items_is c.self.inside.words c.negate.new.words sized))
    (matched_words (λ (x y : ℤ). y ≡ neg_ℤ x) (2 ^ 63 - 1) 0 c.self.inside.len c.self.inside.words.items c.negate.new.words (negated_keeps (2 ^ 63 - 1)) matched c.self.invariant)

pub returns : goal.returns
returns c =
    let sized : length c.negate.new.words ≡ c.self.inside.words.len = c.negate.ensures.sized ∙ c.as_mut_slice.ensures.len in
    let matched : AreMatched (λ (x y : ℤ). y ≡ neg_ℤ x) c.self.inside.words.items c.negate.new.words = subst (λ before. AreMatched (λ (x y : ℤ). y ≡ neg_ℤ x) before c.negate.new.words) c.as_mut_slice.ensures.value c.negate.ensures in
    let after : AreWords (2 ^ 63 - 1) 0 c.self.inside.len c.negate.new.words = matched_words (λ (x y : ℤ). y ≡ neg_ℤ x) (2 ^ 63 - 1) 0 c.self.inside.len c.self.inside.words.items c.negate.new.words (negated_keeps (2 ^ 63 - 1)) matched c.self.invariant in
    subst (λ words. AreNegated c.args.self.now (spread_out c.self.inside.len words)) (sym (with_items_is c.self.inside.words c.negate.new.words sized))
    (subst (λ before. AreNegated before (spread_out c.self.inside.len c.negate.new.words)) c.self.view_is (record {
      sized = spread_length c.self.inside.len c.negate.new.words ∙ sym (spread_length c.self.inside.len c.self.inside.words.items);
      numbers = matched_spread (λ (x y : ℤ). y ≡ neg_ℤ x) c.self.inside.len c.self.inside.words.items c.negate.new.words (2 ^ 63 - 1) (2 ^ 63 - 1) c.self.invariant after matched (refl);
    }))
