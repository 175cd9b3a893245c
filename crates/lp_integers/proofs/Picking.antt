-- The first word from a place on whose number is above 0, and the one with the greatest number.
use Rattle.std.proofs.Common.{◌≡◌, ◌⊎◌, ℕ, ◌+◌, ◌<◌, ◌≤◌, inl, inr, ℤ, pos, List, length, Option, Some, None, refl, sym, ap, ◌∙◌, subst, subst₂, arith}
use Rattle.std.specs.Prelude.{slice_get, ◌<ℤ◌}
use Rattle.std.proofs.lemmas.Bool.{cases_lt, cases_eq}
use Rattle.std.proofs.lemmas.Int.{ints}
use Rattle.std.proofs.lemmas.Option.{slice_get_within}
use Rattle.lp_integers.specs.declared.few.Word.{Word}
use Rattle.lp_integers.specs.Words.{stored_number, spread_out, AreWords, IsFirstPlace, IsGreatestPlace, IsFirstAbove, IsGreatestAbove}
use Rattle.lp_integers.proofs.Words.{number_above, spread_length, spread_any}
use Rattle.lp_integers.proofs.Each.{says, ascending, IsWordAt, word_or_none}

pub not_above : (z : ℤ) → z ≡ pos 0 → ¬ (pos 0 <ℤ z)
not_above z none above = omega (arith, ints)

module _ (ws : List Word) (most high : ℕ) (h : AreWords most 0 high ws) (start : ℕ) where
  -- a word whose number is above 0, after words for which that does not hold, is the first
  pub first_place : (i : ℕ) (w : Word) → slice_get ws i ≡ Some w → start ≤ w.place → pos 0 <ℤ w.number → ((j : ℕ) (v : Word) → j < i → slice_get ws j ≡ Some v → start ≤ v.place → ¬ (pos 0 <ℤ v.number)) → IsFirstPlace ws start (Some w.place)
  first_place i w at from above before = (
    from,
    subst (λ z. pos 0 <ℤ z) (sym (says ws most 0 high i w h at).number) above,
    λ c after some.
        elim (word_or_none ws c) [
          | inl found ↦
              let e = found.place in
              let is : stored_number ws c ≡ found.word.number = ap (stored_number ws) (sym found.place) ∙ (says ws most 0 high found.index found.word h found.there).number in
              elim (cases_lt found.index i) [
                | inl less ↦ absurd (before found.index found.word less found.there (omega arith) (subst (λ z. pos 0 <ℤ z) is some))
                | inr more ↦
                    elim (cases_eq found.index i) [
                      | inl same ↦ let p : found.word.place ≡ w.place = ap (λ (v : Word). v.place) (one_word found.word w (sym found.there ∙ ap (slice_get ws) same ∙ at)) in omega arith
                      | inr other ↦ let up = ascending ws most 0 high i found.index w found.word h at found.there (omega arith) in omega arith
                    ]
              ]
          | inr none ↦ absurd (not_above (stored_number ws c) none some)
        ],
  )
    where
      one_word : (x y : Word) → Some x ≡ Some y → x ≡ y
      one_word x y same = cc

  -- where it holds for no word there is none
  pub no_first : ((j : ℕ) (v : Word) → j < length ws → slice_get ws j ≡ Some v → start ≤ v.place → ¬ (pos 0 <ℤ v.number)) → IsFirstPlace ws start None
  no_first none c after some =
      elim (word_or_none ws c) [
        | inl found ↦
            let e = found.place in
            let is : stored_number ws c ≡ found.word.number = ap (stored_number ws) (sym found.place) ∙ (says ws most 0 high found.index found.word h found.there).number in
            none found.index found.word (slice_get_within ws found.index found.word found.there) found.there (omega arith) (subst (λ z. pos 0 <ℤ z) is some)
        | inr zero ↦ not_above (stored_number ws c) zero some
      ]

-- ---- the greatest

-- The word at an index below n is the best so far: from the start on, with a number above 0.
pub record IsTop (ws : List Word) (start n : ℕ) (most : ℤ) (place : ℕ) : Type 0 where
  pub index : ℕ
  pub below : index < n
  pub word : Word
  pub there : slice_get ws index ≡ Some word
  pub at : word.place ≡ place
  pub number : word.number ≡ most
  pub from : start ≤ place
  pub above : pos 0 <ℤ most
  pub others : (j : ℕ) (v : Word) → j < n → slice_get ws j ≡ Some v → start ≤ v.place → (v.number <ℤ most) ⊎ ((v.number ≡ most) × (place ≤ v.place))

-- the best of the first n words from the start on, and its number; 0 without one
abbrev pub IsBestOf : List Word → ℕ → ℕ → ℤ → Option ℕ → Type 0
IsBestOf ws start n most None = (most ≡ pos 0) × ((j : ℕ) (v : Word) → j < n → slice_get ws j ≡ Some v → start ≤ v.place → ¬ (pos 0 <ℤ v.number))
IsBestOf ws start n most (Some place) = IsTop ws start n most place

same_of : (x y : Word) → Some x ≡ Some y → x ≡ y
same_of x y same = cc

cases_int : (a b : ℤ) → (a <ℤ b) ⊎ ((b <ℤ a) ⊎ (b ≡ a))
cases_int a b = grind (arith, ints)

less_trans : (x y z : ℤ) → x <ℤ y → y <ℤ z → x <ℤ z
less_trans x y z first second = omega (arith, ints)

pub not_more : (x m : ℤ) → ¬ (m <ℤ x) → (x <ℤ m) ⊎ (x ≡ m)
not_more x m none = elim (cases_int m x) [ inl more ↦ absurd (none more) | inr h ↦ h ]

pub lower_of : (x m y : ℤ) → (x <ℤ m) ⊎ (x ≡ m) → m <ℤ y → x <ℤ y
lower_of x m y most less = elim most [ inl below ↦ less_trans x m y below less | inr same ↦ subst (λ z. z <ℤ y) (sym same) less ]

pub lower : (x m y : ℤ) → ¬ (m <ℤ x) → m <ℤ y → x <ℤ y
lower x m y most less = lower_of x m y (not_more x m most) less

module _ (ws : List Word) (bound high : ℕ) (h : AreWords bound 0 high ws) (start n : ℕ) (w : Word) (at : slice_get ws n ≡ Some w) where
  -- a better one is taken
  pub better : (most : ℤ) (best : Option ℕ) → IsBestOf ws start n most best → most <ℤ w.number → start ≤ w.place → IsBestOf ws start (n + 1) w.number (Some w.place)
  better most None b more from =
      record {
        index = n;
        below = omega arith;
        word = w;
        there = at;
        at = refl;
        number = refl;
        from = from;
        above = subst (λ z. z <ℤ w.number) b.0 more;
        others = λ j v less there after. elim (cases_eq j n) [
          | inl same ↦ let e : w ≡ v = same_of w v (sym at ∙ ap (slice_get ws) (sym same) ∙ there) in inr (ap (λ (x : Word). x.number) (sym e), let p : w.place ≡ v.place = ap (λ (x : Word). x.place) e in omega arith)
          | inr other ↦ inl (lower v.number most w.number (subst (λ z. ¬ (z <ℤ v.number)) (sym b.0) (b.1 j v (omega arith) there after)) more)
        ];
      }
  better most (Some place) b more from =
      record {
        index = n;
        below = omega arith;
        word = w;
        there = at;
        at = refl;
        number = refl;
        from = from;
        above = less_trans (pos 0) most w.number b.above more;
        others = λ j v less there after. elim (cases_eq j n) [
          | inl same ↦ let e : w ≡ v = same_of w v (sym at ∙ ap (slice_get ws) (sym same) ∙ there) in inr (ap (λ (x : Word). x.number) (sym e), let p : w.place ≡ v.place = ap (λ (x : Word). x.place) e in omega arith)
          | inr other ↦ inl (lower_of v.number most w.number (elim (b.others j v (omega arith) there after) [ inl a ↦ inl a | inr e ↦ inr e.0 ]) more)
        ];
      }

  -- one that is no better is passed
  pub no_better : (most : ℤ) (best : Option ℕ) → IsBestOf ws start n most best → (start ≤ w.place → ¬ (most <ℤ w.number)) → IsBestOf ws start (n + 1) most best
  no_better most None b none = (
    b.0,
    λ j v less there after. elim (cases_eq j n) [
      | inl same ↦ let e : w ≡ v = same_of w v (sym at ∙ ap (slice_get ws) (sym same) ∙ there) in subst (λ (x : Word). start ≤ x.place → ¬ (pos 0 <ℤ x.number)) e (λ from. subst (λ z. ¬ (z <ℤ w.number)) b.0 (none from)) after
      | inr other ↦ b.1 j v (omega arith) there after
    ],
  )
  no_better most (Some place) b none =
      record {
        index = b.index;
        below = let l = b.below in omega arith;
        word = b.word;
        there = b.there;
        at = b.at;
        number = b.number;
        from = b.from;
        above = b.above;
        others = λ j v less there after. elim (cases_eq j n) [
          | inl same ↦
              let e : w ≡ v = same_of w v (sym at ∙ ap (slice_get ws) (sym same) ∙ there) in
              let up = ascending ws bound 0 high b.index n b.word w h b.there at b.below in
              let p = b.at in
              let q : w.place ≡ v.place = ap (λ (x : Word). x.place) e in
              elim (not_more v.number most (subst (λ (x : Word). start ≤ x.place → ¬ (most <ℤ x.number)) e none after)) [
                | inl a ↦ inl a
                | inr s ↦ inr (s, omega arith)
              ]
          | inr other ↦ b.others j v (omega arith) there after
        ];
      }

module _ (ws : List Word) (bound high : ℕ) (h : AreWords bound 0 high ws) (start n : ℕ) (all : length ws ≤ n) where
  number_of : (c : ℕ) (found : IsWordAt ws c) → stored_number ws c ≡ found.word.number
  number_of c found = ap (stored_number ws) (sym found.place) ∙ (says ws bound 0 high found.index found.word h found.there).number

  pub best_place : (most : ℤ) (best : Option ℕ) → IsBestOf ws start n most best → IsGreatestPlace ws start best
  best_place most None b = λ c after some.
      elim (word_or_none ws c) [
        | inl found ↦
            let e = found.place in
            let less = slice_get_within ws found.index found.word found.there in
            b.1 found.index found.word (omega arith) found.there (omega arith) (subst (λ z. pos 0 <ℤ z) (number_of c found) some)
        | inr zero ↦ not_above (stored_number ws c) zero some
      ]
  best_place most (Some place) b =
      let is : stored_number ws place ≡ most = ap (stored_number ws) (sym b.at) ∙ (says ws bound 0 high b.index b.word h b.there).number ∙ b.number in (
        b.from,
        subst (λ z. pos 0 <ℤ z) (sym is) b.above,
        λ c after. subst (λ z. (stored_number ws c <ℤ z) ⊎ ((stored_number ws c ≡ z) × (place ≤ c))) (sym is)
            (elim (word_or_none ws c) [
              | inl found ↦
                  let e = found.place in
                  let less = slice_get_within ws found.index found.word found.there in
                  elim (b.others found.index found.word (omega arith) found.there (omega arith)) [
                    | inl a ↦ inl (subst (λ z. z <ℤ most) (sym (number_of c found)) a)
                    | inr p ↦ inr (number_of c found ∙ p.0, let q = p.1 in omega arith)
                  ]
              | inr zero ↦ inl (subst (λ z. z <ℤ most) (sym zero) b.above)
            ]),
      )

-- ---- what the places of words are in the list that the words are

module _ (n : ℕ) (ws : List Word) (most : ℕ) (h : AreWords most 0 n ws) (start : ℕ) where
  place_below : (place : ℕ) → pos 0 <ℤ stored_number ws place → place < length (spread_out n ws)
  place_below place above =
      elim (cases_lt place n) [
        | inl less ↦ let e = spread_length n ws in omega arith
        | inr past ↦ absurd (not_above (stored_number ws place) (number_above ws most 0 n place h past) above)
      ]

  pub first_spread : (r : Option ℕ) → IsFirstPlace ws start r → IsFirstAbove (spread_out n ws) start r
  first_spread None f = λ c from above. f c from (subst (λ z. pos 0 <ℤ z) (spread_any n ws most c h) above)
  first_spread (Some place) f = (
    f.0,
    place_below place f.1,
    subst (λ z. pos 0 <ℤ z) (sym (spread_any n ws most place h)) f.1,
    λ c from above. f.2 c from (subst (λ z. pos 0 <ℤ z) (spread_any n ws most c h) above),
  )

  pub greatest_spread : (r : Option ℕ) → IsGreatestPlace ws start r → IsGreatestAbove (spread_out n ws) start r
  greatest_spread None f = λ c from above. f c from (subst (λ z. pos 0 <ℤ z) (spread_any n ws most c h) above)
  greatest_spread (Some place) f = (
    f.0,
    place_below place f.1,
    subst (λ z. pos 0 <ℤ z) (sym (spread_any n ws most place h)) f.1,
    λ c from. subst₂ (λ x y. (x <ℤ y) ⊎ ((x ≡ y) × (place ≤ c))) (sym (spread_any n ws most c h)) (sym (spread_any n ws most place h)) (f.2 c from),
  )
