use Rattle.std.proofs.Common.{◌≡◌, ◌-◌, ◌^◌, ℕ, length, to_z, of_z, w64, sym, ap, ◌∙◌, subst, subst₂}
use Rattle.std.proofs.lemmas.Int.{to_z-of_z}
use Rattle.lp_integers.specs.Lines.{CombinationsStayWithin}
use Rattle.lp_integers.specs.Words.{AreWords, HasWordsBound, AreDifferencesOf, AreDifferences, spread_out}
use Rattle.lp_integers.proofs.Words.{spread_length}
use Rattle.lp_integers.proofs.Differences.{words_bound, differences_spread}
use Rattle.lp_integers.proofs.few.Few.lessened.Goals as goal

pub differences-requires : goal.differences-requires
differences-requires c =
    let n : ℕ = c.self.inside.len in
    let same : c.others.inside.len ≡ n =
    sym (spread_length c.others.inside.len c.others.inside.words.items) ∙ ap length c.others.view_is ∙ c.requires.sized ∙ sym (ap length c.self.view_is) ∙ spread_length n c.self.inside.words.items in
    let other : AreWords (2 ^ 63 - 1) 0 n c.others.inside.words.items = subst (λ m. AreWords (2 ^ 63 - 1) 0 m c.others.inside.words.items) same c.others.invariant in
    let others_are : c.args.others.now ≡ spread_out n c.others.inside.words.items = sym c.others.view_is ∙ ap (λ m. spread_out m c.others.inside.words.items) same in
    let within_bound : HasWordsBound (2 ^ 63 - 1) c.args.a c.args.b c.self.inside.words.items c.others.inside.words.items =
    words_bound (2 ^ 63 - 1) n c.args.a c.args.b c.self.inside.words.items c.others.inside.words.items (2 ^ 63 - 1) (2 ^ 63 - 1) c.self.invariant other (subst₂ (CombinationsStayWithin (2 ^ 63 - 1) c.args.a c.args.b) (sym c.self.view_is) others_are c.requires.within_bound) in (
      n,
      subst (AreWords (2 ^ 63 - 1) 0 n) (sym c.as_slice-own.ensures.value) c.self.invariant,
      subst (AreWords (2 ^ 63 - 1) 0 n) (sym c.as_slice-other.ensures.value) other,
      subst₂ (λ a b. HasWordsBound (2 ^ 63 - 1) a b c.as_slice-own.result.now c.as_slice-other.result.now) (sym (to_z-of_z w64 c.args.a c.ranges.a)) (sym (to_z-of_z w64 c.args.b c.ranges.b))
          (subst₂ (HasWordsBound (2 ^ 63 - 1) c.args.a c.args.b) (sym c.as_slice-own.ensures.value) (sym c.as_slice-other.ensures.value) within_bound),
    )

pub invariant_of-result : goal.invariant_of-result
invariant_of-result c =
    let n : ℕ = c.self.inside.len in
    let same : c.others.inside.len ≡ n =
    sym (spread_length c.others.inside.len c.others.inside.words.items) ∙ ap length c.others.view_is ∙ c.requires.sized ∙ sym (ap length c.self.view_is) ∙ spread_length n c.self.inside.words.items in
    let other : AreWords (2 ^ 63 - 1) 0 n c.others.inside.words.items = subst (λ m. AreWords (2 ^ 63 - 1) 0 m c.others.inside.words.items) same c.others.invariant in
    let others_are : c.args.others.now ≡ spread_out n c.others.inside.words.items = sym c.others.view_is ∙ ap (λ m. spread_out m c.others.inside.words.items) same in
    let within_bound : HasWordsBound (2 ^ 63 - 1) c.args.a c.args.b c.self.inside.words.items c.others.inside.words.items =
    words_bound (2 ^ 63 - 1) n c.args.a c.args.b c.self.inside.words.items c.others.inside.words.items (2 ^ 63 - 1) (2 ^ 63 - 1) c.self.invariant other (subst₂ (CombinationsStayWithin (2 ^ 63 - 1) c.args.a c.args.b) (sym c.self.view_is) others_are c.requires.within_bound) in
    let own_are : AreWords (2 ^ 63 - 1) 0 n c.as_slice-own.result.now = subst (AreWords (2 ^ 63 - 1) 0 n) (sym c.as_slice-own.ensures.value) c.self.invariant in
    let others_too : AreWords (2 ^ 63 - 1) 0 n c.as_slice-other.result.now = subst (AreWords (2 ^ 63 - 1) 0 n) (sym c.as_slice-other.ensures.value) other in
    let bound : HasWordsBound (2 ^ 63 - 1) (to_z w64 (of_z w64 c.args.a)) (to_z w64 (of_z w64 c.args.b)) c.as_slice-own.result.now c.as_slice-other.result.now =
    subst₂ (λ a b. HasWordsBound (2 ^ 63 - 1) a b c.as_slice-own.result.now c.as_slice-other.result.now) (sym (to_z-of_z w64 c.args.a c.ranges.a)) (sym (to_z-of_z w64 c.args.b c.ranges.b))
    (subst₂ (HasWordsBound (2 ^ 63 - 1) c.args.a c.args.b) (sym c.as_slice-own.ensures.value) (sym c.as_slice-other.ensures.value) within_bound) in
    (c.in_ok-words.ensures n own_are others_too bound).are_words

pub returns : goal.returns
returns c =
    let n : ℕ = c.self.inside.len in
    let same : c.others.inside.len ≡ n =
    sym (spread_length c.others.inside.len c.others.inside.words.items) ∙ ap length c.others.view_is ∙ c.requires.sized ∙ sym (ap length c.self.view_is) ∙ spread_length n c.self.inside.words.items in
    let other : AreWords (2 ^ 63 - 1) 0 n c.others.inside.words.items = subst (λ m. AreWords (2 ^ 63 - 1) 0 m c.others.inside.words.items) same c.others.invariant in
    let others_are : c.args.others.now ≡ spread_out n c.others.inside.words.items = sym c.others.view_is ∙ ap (λ m. spread_out m c.others.inside.words.items) same in
    let within_bound : HasWordsBound (2 ^ 63 - 1) c.args.a c.args.b c.self.inside.words.items c.others.inside.words.items =
    words_bound (2 ^ 63 - 1) n c.args.a c.args.b c.self.inside.words.items c.others.inside.words.items (2 ^ 63 - 1) (2 ^ 63 - 1) c.self.invariant other (subst₂ (CombinationsStayWithin (2 ^ 63 - 1) c.args.a c.args.b) (sym c.self.view_is) others_are c.requires.within_bound) in
    let own_are : AreWords (2 ^ 63 - 1) 0 n c.as_slice-own.result.now = subst (AreWords (2 ^ 63 - 1) 0 n) (sym c.as_slice-own.ensures.value) c.self.invariant in
    let others_too : AreWords (2 ^ 63 - 1) 0 n c.as_slice-other.result.now = subst (AreWords (2 ^ 63 - 1) 0 n) (sym c.as_slice-other.ensures.value) other in
    let bound : HasWordsBound (2 ^ 63 - 1) (to_z w64 (of_z w64 c.args.a)) (to_z w64 (of_z w64 c.args.b)) c.as_slice-own.result.now c.as_slice-other.result.now =
    subst₂ (λ a b. HasWordsBound (2 ^ 63 - 1) a b c.as_slice-own.result.now c.as_slice-other.result.now) (sym (to_z-of_z w64 c.args.a c.ranges.a)) (sym (to_z-of_z w64 c.args.b c.ranges.b))
    (subst₂ (HasWordsBound (2 ^ 63 - 1) c.args.a c.args.b) (sym c.as_slice-own.ensures.value) (sym c.as_slice-other.ensures.value) within_bound) in
    let made : AreDifferencesOf (2 ^ 63 - 1) n c.args.a c.args.b c.self.inside.words.items c.others.inside.words.items c.in_ok-words.words.items =
    subst₂ (λ a b. AreDifferencesOf (2 ^ 63 - 1) n a b c.self.inside.words.items c.others.inside.words.items c.in_ok-words.words.items) (to_z-of_z w64 c.args.a c.ranges.a) (to_z-of_z w64 c.args.b c.ranges.b)
    (subst₂ (λ own others. AreDifferencesOf (2 ^ 63 - 1) n (to_z w64 (of_z w64 c.args.a)) (to_z w64 (of_z w64 c.args.b)) own others c.in_ok-words.words.items) c.as_slice-own.ensures.value c.as_slice-other.ensures.value (c.in_ok-words.ensures n own_are others_too bound)) in
    subst₂ (λ own others. AreDifferences c.args.a c.args.b own others (spread_out n c.in_ok-words.words.items)) c.self.view_is (sym others_are)
    (differences_spread (2 ^ 63 - 1) n c.args.a c.args.b c.self.inside.words.items c.others.inside.words.items c.in_ok-words.words.items c.self.invariant other made)
