use Rattle.std.proofs.Common.{◌+◌, ◌*◌, ◌≤◌, ◌-◌, ◌^◌, ℤ, List, nat_abs, length, w64, refl, sym, ap, ap₂, ◌∙◌, subst₂}
use Rattle.std.proofs.lemmas.Int.{to_z-of_z}
use Rattle.lp_integers.specs.Lines.{whole_at}
use Rattle.lp_integers.specs.Words.{AreWords, spread_out}
use Rattle.lp_integers.proofs.Places.{same_lessened_from}
use Rattle.lp_integers.proofs.Words.{spread_length}
use Rattle.lp_integers.proofs.few.Few.lessen.Goals as goal

pub lessen_at-requires-clause-words : goal.lessen_at-requires-clause-words
lessen_at-requires-clause-words c =
    let e = sym (spread_length c.self.inside.len c.self.inside.words.items) ∙ ap length c.self.view_is ∙ c.requires.sized in
    (2 ^ 63 - 1, subst₂ (λ n words. AreWords (2 ^ 63 - 1) 0 n words) e (sym c.as_slice.ensures.value) c.self.invariant)

pub lessen_at-requires-clause-within_bound : goal.lessen_at-requires-clause-within_bound
lessen_at-requires-clause-within_bound c = λ k.
    let e = sym (spread_length c.self.inside.len c.self.inside.words.items) ∙ ap length c.self.view_is ∙ c.requires.sized in
    let same = ap₂ spread_out (sym e) c.as_slice.ensures.value ∙ c.self.view_is in
    subst₂ (λ (b : ℤ) (list : List ℤ). 1 * nat_abs (whole_at c.args.numbers.now k) + nat_abs b * nat_abs (whole_at list k) ≤ 2 ^ 63 - 1) (sym (to_z-of_z w64 c.args.b c.ranges.b)) (sym same) (c.requires.within_bound k)

pub returns : goal.returns
returns c =
    let e = sym (spread_length c.self.inside.len c.self.inside.words.items) ∙ ap length c.self.view_is ∙ c.requires.sized in
    let same = ap₂ spread_out (sym e) c.as_slice.ensures.value ∙ c.self.view_is in
    same_lessened_from (to_z-of_z w64 c.args.b c.ranges.b) refl same refl c.lessen_at.ensures
