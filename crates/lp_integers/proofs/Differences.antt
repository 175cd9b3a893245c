-- The loop through the words of two lists, place by place: the words made so far are right at the
-- places before, and the rest of each list remains.
use Rattle.std.proofs.Common.{◌≡◌, ◌≢◌, ℕ, ◌+◌, ◌*◌, ◌-◌, ◌<◌, ◌≤◌, ◌^◌, inl, inr, ℤ, pos, ◌-ℤ◌, ◌*ℤ◌, nat_abs, List, [], ◌∷◌, length, Some, None, refl, sym, ap, ap₂, ◌∙◌, subst, subst₂, arith}
use Rattle.std.proofs.lemmas.Bool.{cases_lt}
use Rattle.std.proofs.lemmas.Int.{ints}
use Rattle.lp_integers.specs.declared.few.Word.{Word}
use Rattle.lp_integers.specs.Lines.{whole_at, AreWithin, CombinationsStayWithin, AreLessened}
use Rattle.lp_integers.specs.Words.{stored_number, spread_out, AreWords, WordsStartFrom, WordsStartAt, IsNextPlace, SplitsWordAt, AppendsUnlessZero, HasWordsBound, AreDifferencesOf, AreDifferences}
use Rattle.gq_number.proofs.Whole.{nat_abs-*ℤ}
use Rattle.lp_integers.proofs.Lines.{left_within}
use Rattle.lp_integers.proofs.Places.{times_none}
use Rattle.lp_integers.proofs.Words.{number_first, number_later, number_below, number_above, words_from, words_to, number_after, number_before, words_pushed, spread_any, spread_length}

not_at : (a m : ℕ) → a ≢ m → m ≤ a → m + 1 ≤ a
not_at a m other from = omega arith

-- the rest of some words from a place on
pub record Left (most high : ℕ) (words rest : List Word) (k : ℕ) : Type 0 where
  pub are_words : AreWords most k high rest
  pub numbers : (c : ℕ) → k ≤ c → stored_number words c ≡ stored_number rest c

-- words passed up to a place m: none before it, this number at it, and the rest after it
pub record Passed (most high : ℕ) (words rest : List Word) (k m : ℕ) (x : ℤ) : Type 0 where
  pub before : (c : ℕ) → k ≤ c → c < m → stored_number words c ≡ pos 0
  pub here : stored_number words m ≡ x
  pub left : Left most high words rest (m + 1)

module _ (most high : ℕ) where
  passed_one : (words rest after : List Word) (k m : ℕ) (x : ℤ) → Left most high words rest k → k ≤ m → WordsStartFrom m rest → rest ≡ record { place = m; number = x } ∷ after → Passed most high words after k m x
  passed_one words rest after k m x left more starts split =
      let rest_words = subst (AreWords most k high) split left.are_words in
      record {
        before = λ c from to. left.numbers c from ∙ number_below rest most m high c (words_from rest most k high m left.are_words starts) to;
        here = left.numbers m more ∙ ap (λ r. stored_number r m) split ∙ number_first (record { place = m; number = x }) after m refl;
        left = record {
          are_words = rest_words.4;
          numbers = λ c from. left.numbers c (omega arith) ∙ ap (λ r. stored_number r c) split ∙ number_later (record { place = m; number = x }) after c (λ is. absurd (omega arith));
        };
      }

  passed_none : (words rest : List Word) (k m : ℕ) → Left most high words rest k → k ≤ m → WordsStartFrom m rest → ¬ (WordsStartAt m rest) → Passed most high words rest k m (pos 0)
  passed_none words [] k m left more starts none =
      record {
        before = λ c from to. left.numbers c from;
        here = left.numbers m more;
        left = record { are_words = tt; numbers = λ c from. left.numbers c (omega arith) };
      }
  passed_none words (w ∷ ws) k m left more starts none =
      let later : m + 1 ≤ w.place = not_at w.place m none starts in
      let from_later = words_from (w ∷ ws) most k high (m + 1) left.are_words later in
      record {
        before = λ c from to. left.numbers c from ∙ number_below (w ∷ ws) most (m + 1) high c from_later (omega arith);
        here = left.numbers m more ∙ number_below (w ∷ ws) most (m + 1) high m from_later (omega arith);
        left = record { are_words = from_later; numbers = λ c from. left.numbers c (omega arith) };
      }

  pub passed : (words rest after : List Word) (k m : ℕ) (x : ℤ) → Left most high words rest k → k ≤ m → WordsStartFrom m rest → SplitsWordAt rest m x after → Passed most high words after k m x
  passed words rest after k m x left more starts split =
      elim split [
        | inl one ↦ passed_one words rest after k m x left more starts one
        | inr none ↦
            subst₂ (λ (r : List Word) (z : ℤ). Passed most high words r k m z) (sym none.0) (sym none.2) (passed_none words rest k m left more starts none.1)
      ]

-- words that begin at a place have it within their bounds
starts_within : (rest : List Word) (most k high m : ℕ) → AreWords most k high rest → WordsStartAt m rest → (k ≤ m) × (m < high)
starts_within [] most k high m h starts = absurd starts
starts_within (w ∷ ws) most k high m h starts =
    let least = h.0 in
    let last = h.1 in
    (omega arith, omega arith)

-- what is pushed is there at its place, and all else is as before
pub pushed_here : (made now : List Word) (most k m : ℕ) (z : ℤ) → AreWords most 0 k made → k ≤ m → AppendsUnlessZero m z made now → stored_number now m ≡ z
pushed_here made now most k m z h more pushed =
    elim pushed [
      | inl p ↦ ap (λ r. stored_number r m) p.1 ∙ number_after made (record { place = m; number = z } ∷ []) most 0 k m h more ∙ number_first (record { place = m; number = z }) [] m refl
      | inr p ↦ ap (λ r. stored_number r m) p.1 ∙ number_above made most 0 k m h more ∙ sym p.0
    ]

pub pushed_other : (made now : List Word) (m c : ℕ) (z : ℤ) → m ≢ c → AppendsUnlessZero m z made now → stored_number now c ≡ stored_number made c
pushed_other made now m c z other pushed =
    elim pushed [
      | inl p ↦ ap (λ r. stored_number r c) p.1 ∙ number_before made (record { place = m; number = z } ∷ []) c (number_later (record { place = m; number = z }) [] c other)
      | inr p ↦ ap (λ r. stored_number r c) p.1
    ]

pub pushed_words : (made now : List Word) (most k m : ℕ) (z : ℤ) → AreWords most 0 k made → k ≤ m → nat_abs z ≤ most → AppendsUnlessZero m z made now → AreWords most 0 (m + 1) now
pushed_words made now most k m z h more small pushed =
    elim pushed [
      | inl p ↦ subst (AreWords most 0 (m + 1)) (sym p.1) (words_pushed made (record { place = m; number = z }) most 0 k h (omega arith) more p.0 small)
      | inr p ↦ subst (AreWords most 0 (m + 1)) (sym p.1) (words_to made most 0 k (m + 1) h (omega arith))
    ]

-- Two lists passed up to a place: what remains of the words of each, and what the earlier words
-- resulted in.
pub record Passing (most high : ℕ) (words : List Word) (a b : ℤ) (others left_rest right_rest made : List Word) : Type 0 where
  pub place : ℕ
  pub within : place ≤ high
  pub left : Left most high words left_rest place
  pub right : Left most high others right_rest place
  pub are_words : AreWords most 0 place made
  pub numbers : (c : ℕ) → c < place → stored_number made c ≡ a *ℤ stored_number words c -ℤ b *ℤ stored_number others c

-- 0 is a difference of multiples of 0
no_difference : (a b x y z : ℤ) → x ≡ pos 0 → y ≡ pos 0 → z ≡ pos 0 → z ≡ a *ℤ x -ℤ b *ℤ y
no_difference a b x y z e f h =
    h ∙ sym (ap₂ (λ u v. a *ℤ u -ℤ b *ℤ v) e f ∙ ap₂ (λ u v. u -ℤ v) (times_none a) (times_none b))

module _ (most high : ℕ) (words : List Word) (a b : ℤ) (others : List Word) where
  pub passing_begins : AreWords most 0 high words → AreWords most 0 high others → Passing most high words a b others words others []
  passing_begins h g =
      record {
        place = 0;
        within = omega arith;
        left = record { are_words = h; numbers = λ c from. refl };
        right = record { are_words = g; numbers = λ c from. refl };
        are_words = tt;
        numbers = λ c to. absurd (omega arith);
      }

  module _ (left right made left_after right_after : List Word) (m : ℕ) (x y : ℤ) (w : Passing most high words a b others left right made) (next : IsNextPlace left right (Some m)) (left_splits : SplitsWordAt left m x left_after) (right_splits : SplitsWordAt right m y right_after) where
    bounds : (w.place ≤ m) × (m < high)
    bounds =
        elim next.2 [
          | inl starts ↦ starts_within left most w.place high m w.left.are_words starts
          | inr starts ↦ starts_within right most w.place high m w.right.are_words starts
        ]

    own_passed : Passed most high words left_after w.place m x
    own_passed = passed most high words left left_after w.place m x w.left bounds.0 next.0 left_splits

    other_passed : Passed most high others right_after w.place m y
    other_passed = passed most high others right right_after w.place m y w.right bounds.0 next.1 right_splits

    -- the numbers that are split off stay within the bound
    pub passing_bound : HasWordsBound most a b words others → nat_abs a * nat_abs x + nat_abs b * nat_abs y ≤ most
    passing_bound within_bound = subst₂ (λ u v. nat_abs a * nat_abs u + nat_abs b * nat_abs v ≤ most) own_passed.here other_passed.here (within_bound m)

    module _ (z : ℤ) (now : List Word) (is : z ≡ a *ℤ x -ℤ b *ℤ y) (small : nat_abs z ≤ most) (pushed : AppendsUnlessZero m z made now) where
      number_before_m : (c : ℕ) → c < m → stored_number now c ≡ a *ℤ stored_number words c -ℤ b *ℤ stored_number others c
      number_before_m c to =
          pushed_other made now m c z (λ same. absurd (omega arith)) pushed
          ∙ elim (cases_lt c w.place) [
            | inl less ↦ w.numbers c less
            | inr more ↦ no_difference a b (stored_number words c) (stored_number others c) (stored_number made c) (own_passed.before c more to) (other_passed.before c more to) (number_above made most 0 w.place c w.are_words more)
          ]

      number_at_m : stored_number now m ≡ a *ℤ stored_number words m -ℤ b *ℤ stored_number others m
      number_at_m = pushed_here made now most w.place m z w.are_words bounds.0 pushed ∙ is ∙ ap₂ (λ u v. a *ℤ u -ℤ b *ℤ v) (sym own_passed.here) (sym other_passed.here)

      pub passing_goes : Passing most high words a b others left_after right_after now
      passing_goes =
          let last = bounds.1 in
          record {
            place = m + 1;
            within = omega arith;
            left = own_passed.left;
            right = other_passed.left;
            are_words = pushed_words made now most w.place m z w.are_words bounds.0 small pushed;
            numbers = λ c to. elim (cases_lt c m) [
              | inl less ↦ number_before_m c less
              | inr more ↦ let same : m ≡ c = omega arith in subst (λ d. stored_number now d ≡ a *ℤ stored_number words d -ℤ b *ℤ stored_number others d) same number_at_m
            ];
          }

  pub passing_ends : (left right made : List Word) → Passing most high words a b others left right made → IsNextPlace left right None → AreDifferencesOf most high a b words others made
  passing_ends left right made w next =
      let own_zero : (c : ℕ) → w.place ≤ c → stored_number words c ≡ pos 0 = λ c more. w.left.numbers c more ∙ ap (λ r. stored_number r c) next.0 in
      let other_zero : (c : ℕ) → w.place ≤ c → stored_number others c ≡ pos 0 = λ c more. w.right.numbers c more ∙ ap (λ r. stored_number r c) next.1 in
      record {
        are_words = words_to made most 0 w.place high w.are_words w.within;
        numbers = λ c. elim (cases_lt c w.place) [
          | inl less ↦ w.numbers c less
          | inr more ↦ no_difference a b (stored_number words c) (stored_number others c) (stored_number made c) (own_zero c more) (other_zero c more) (number_above made most 0 w.place c w.are_words more)
        ];
      }

-- The steps on one number are within one word.
pub record StepsAreSmall (a b x y : ℤ) : Type 0 where
  pub first : nat_abs (a *ℤ x) < 2 ^ 63
  pub second : nat_abs (b *ℤ y) < 2 ^ 63
  pub left : nat_abs (a *ℤ x -ℤ b *ℤ y) ≤ 2 ^ 63 - 1

difference_within : (u v : ℤ) → nat_abs (u -ℤ v) ≤ nat_abs u + nat_abs v
difference_within u v = omega (arith, ints)

pub steps_are_small : (a b x y : ℤ) → nat_abs a * nat_abs x + nat_abs b * nat_abs y ≤ 2 ^ 63 - 1 → StepsAreSmall a b x y
steps_are_small a b x y h =
    let e = nat_abs-*ℤ a x in
    let f = nat_abs-*ℤ b y in
    let k = difference_within (a *ℤ x) (b *ℤ y) in
    record { first = omega arith; second = omega arith; left = omega arith }

-- one word fewer remains
splits_length : (rest after : List Word) (m : ℕ) (x : ℤ) → SplitsWordAt rest m x after → length after ≤ length rest
splits_length rest after m x split =
    elim split [
      | inl one ↦ let same = ap length one in omega arith
      | inr none ↦ let same = ap length none.0 in omega arith
    ]

splits_shorter : (rest after : List Word) (m : ℕ) (x : ℤ) → SplitsWordAt rest m x after → WordsStartAt m rest → length after < length rest
splits_shorter rest after m x split starts =
    elim split [
      | inl one ↦ let same = ap length one in omega arith
      | inr none ↦ absurd (none.1 starts)
    ]

pub passing_shrinks : (left right left_after right_after : List Word) (m : ℕ) (x y : ℤ) → IsNextPlace left right (Some m) → SplitsWordAt left m x left_after → SplitsWordAt right m y right_after → length left_after + length right_after < length left + length right
passing_shrinks left right left_after right_after m x y next left_splits right_splits =
    let e = splits_length left left_after m x left_splits in
    let f = splits_length right right_after m y right_splits in
    elim next.2 [
      | inl starts ↦ let s = splits_shorter left left_after m x left_splits starts in omega arith
      | inr starts ↦ let s = splits_shorter right right_after m y right_splits starts in omega arith
    ]

-- the bound of two lists is that of their words
pub words_bound : (most n : ℕ) (a b : ℤ) (words others : List Word) (width also : ℕ) → AreWords width 0 n words → AreWords also 0 n others → CombinationsStayWithin most a b (spread_out n words) (spread_out n others) → HasWordsBound most a b words others
words_bound most n a b words others width also h g within_bound c =
    subst₂ (λ u v. nat_abs a * nat_abs u + nat_abs b * nat_abs v ≤ most) (spread_any n words width c h) (spread_any n others also c g) (within_bound c)

-- the differences of words are those of the lists
pub differences_spread : (most n : ℕ) (a b : ℤ) (words others made : List Word) → AreWords most 0 n words → AreWords most 0 n others → AreDifferencesOf most n a b words others made → AreDifferences a b (spread_out n words) (spread_out n others) (spread_out n made)
differences_spread most n a b words others made h g d =
    record {
      sized = spread_length n made ∙ sym (spread_length n words);
      numbers = λ c. spread_any n made most c d.are_words ∙ d.numbers c ∙ ap₂ (λ u v. a *ℤ u -ℤ b *ℤ v) (sym (spread_any n words most c h)) (sym (spread_any n others most c g));
    }

-- differences with the greatest of their magnitudes are what a list is lessened to
pub differences_lessened : (a b : ℤ) (before others after : List ℤ) (most : ℕ) → AreDifferences a b before others after → AreWithin after most → ((m : ℕ) → AreWithin after m → most ≤ m) → AreLessened a b before others after most
differences_lessened a b before others after most d within small =
    record {
      sized = d.sized;
      numbers = λ c less. d.numbers c;
      within = within;
      small = λ m bound. small m (λ c. subst (λ z. nat_abs z ≤ m) (sym (d.numbers c)) (left_within a b (whole_at before c) (whole_at others c) m (bound c)));
    }
