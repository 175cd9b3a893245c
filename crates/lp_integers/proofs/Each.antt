-- Words one by one: what each of them says of the number at a place, and what is changed at all of
-- them.
use Rattle.std.proofs.Common.{◌≡◌, ◌≢◌, ◌⊎◌, ℕ, zero, suc, ◌+◌, ◌*◌, ◌<◌, ◌≤◌, inl, inr, ℤ, pos, ◌*ℤ◌, neg_ℤ, nat_abs, List, [], ◌∷◌, ◌++◌, length, map, set, take, get_or, length-set, Some, refl, sym, ap, ◌∙◌, subst, subst₂, arith}
use Rattle.std.specs.Prelude.{slice_get}
use Rattle.std.proofs.lemmas.Bool.{cases_lt, cases_eq}
use Rattle.std.proofs.lemmas.Int.{ints}
use Rattle.gq_number.proofs.Whole.{nat_abs-*ℤ}
use Rattle.std.proofs.lemmas.Option.{slice_get-get_or, slice_get_within}
use Rattle.std.proofs.lemmas.List.{take_more}
use Rattle.lp_integers.specs.declared.few.Word.{Word}
use Rattle.lp_integers.specs.Lines.{whole_at, ArePlaces}
use Rattle.lp_integers.specs.Words.{stored_number, spread_out, AreWords, EachNumber, AreMatched}
use Rattle.lp_integers.proofs.Lines.{written_here, written_other, none_over, times_grow}
use Rattle.lp_integers.proofs.Words.{number_first, number_later, number_after, number_before, spread_any, spread_at}

-- a word that is not read
abbrev pub no_word : Word
no_word = record { place = 0; number = pos 0 }

-- the word at an index
abbrev pub word_at : List Word → ℕ → Word
word_at ws i = get_or ws i no_word

pub word_there : (ws : List Word) (i : ℕ) → i < length ws → slice_get ws i ≡ Some (word_at ws i)
word_there ws i less = slice_get-get_or ws i no_word less

pub same_word : (w v : Word) → Some w ≡ Some v → w ≡ v
same_word w v h = cc

-- a property of each number and of 0 holds at each place
pub each_at : (P : ℤ → Type 0) (ws : List Word) (c : ℕ) → EachNumber P ws → P (pos 0) → P (stored_number ws c)
each_at P [] c each none = none
each_at P (w ∷ ws) c each none =
    elim (cases_eq w.place c) [
      | inl same ↦ subst P (sym (number_first w ws c same)) (each 0 w refl)
      | inr other ↦ subst P (sym (number_later w ws c other)) (each_at P ws c (λ i v at. each (suc i) v at) none)
    ]

-- What a word says: the number at its place, and the bounds.
pub record Says (ws : List Word) (most low high : ℕ) (w : Word) : Type 0 where
  pub number : stored_number ws w.place ≡ w.number
  pub from : low ≤ w.place
  pub to : w.place < high
  pub some : w.number ≢ pos 0
  pub within : nat_abs w.number ≤ most

pub says : (ws : List Word) (most low high i : ℕ) (w : Word) → AreWords most low high ws → slice_get ws i ≡ Some w → Says ws most low high w
says [] most low high i w h at = absurd (cc)
says (v ∷ ws) most low high zero w h at =
    subst (Says (v ∷ ws) most low high) (same_word v w at) (record { number = number_first v ws v.place refl; from = h.0; to = h.1; some = h.2; within = h.3 })
says (v ∷ ws) most low high (suc i) w h at =
    let rest = says ws most (v.place + 1) high i w h.4 at in
    let from = rest.from in
    let least = h.0 in
    record {
      number = number_later v ws w.place (λ is. absurd (omega arith)) ∙ rest.number;
      from = omega arith;
      to = rest.to;
      some = rest.some;
      within = rest.within;
    }

pub each_of : (P : ℤ → Type 0) (ws : List Word) (most low high : ℕ) → AreWords most low high ws → ((c : ℕ) → P (stored_number ws c)) → EachNumber P ws
each_of P ws most low high h at i w there = subst P (says ws most low high i w h there).number (at w.place)

-- words ascend
pub ascending : (ws : List Word) (most low high i j : ℕ) (w v : Word) → AreWords most low high ws → slice_get ws i ≡ Some w → slice_get ws j ≡ Some v → i < j → w.place < v.place
ascending [] most low high i j w v h at also less = absurd (cc)
ascending (x ∷ ws) most low high i zero w v h at also less = absurd (omega arith)
ascending (x ∷ ws) most low high zero (suc j) w v h at also less =
    let from = (says ws most (x.place + 1) high j v h.4 also).from in
    let same : x.place ≡ w.place = ap (λ (u : Word). u.place) (same_word x w at) in
    omega arith
ascending (x ∷ ws) most low high (suc i) (suc j) w v h at also less = ascending ws most (x.place + 1) high i j w v h.4 at also (omega arith)

-- Some word is at a place.
pub record IsWordAt (ws : List Word) (c : ℕ) : Type 0 where
  pub index : ℕ
  pub word : Word
  pub there : slice_get ws index ≡ Some word
  pub place : word.place ≡ c

pub word_or_none : (ws : List Word) (c : ℕ) → IsWordAt ws c ⊎ (stored_number ws c ≡ pos 0)
word_or_none [] c = inr refl
word_or_none (w ∷ ws) c =
    elim (cases_eq w.place c) [
      | inl same ↦ inl (record { index = 0; word = w; there = refl; place = same })
      | inr other ↦
          elim (word_or_none ws c) [
            | inl rest ↦ inl (record { index = suc rest.index; word = rest.word; there = rest.there; place = rest.place })
            | inr none ↦ inr (number_later w ws c other ∙ none)
          ]
    ]

-- what holds for the first n words and for the next one holds for one word more
pub each_more : (P : Word → Type 0) (ws : List Word) (n : ℕ) (w : Word) → slice_get ws n ≡ Some w → ((i : ℕ) (v : Word) → i < n → slice_get ws i ≡ Some v → P v) → P w → (i : ℕ) (v : Word) → i < n + 1 → slice_get ws i ≡ Some v → P v
each_more P ws n w there before here i v less at =
    elim (cases_eq i n) [
      | inl same ↦ subst P (same_word w v (sym there ∙ ap (slice_get ws) (sym same) ∙ at)) here
      | inr other ↦ before i v (omega arith) at
    ]

-- what holds for all words below their number holds for each
pub each_all : (P : Word → Type 0) (ws : List Word) (n : ℕ) → length ws ≤ n → ((i : ℕ) (v : Word) → i < n → slice_get ws i ≡ Some v → P v) → (i : ℕ) (v : Word) → slice_get ws i ≡ Some v → P v
each_all P ws n all before i v at = before i v (let less = slice_get_within ws i v at in omega arith) at

-- ---- words at the same places

matched_rest : (P : ℤ → ℤ → Type 0) (w v : Word) (ws vs : List Word) → AreMatched P (w ∷ ws) (v ∷ vs) → AreMatched P ws vs
matched_rest P w v ws vs m = record { sized = let e = m.sized in omega arith; each = λ i x y at also. m.each (suc i) x y at also }

pub matched_at : (P : ℤ → ℤ → Type 0) (before after : List Word) (c : ℕ) → AreMatched P before after → P (pos 0) (pos 0) → P (stored_number before c) (stored_number after c)
matched_at P [] [] c m none = none
matched_at P [] (v ∷ vs) c m none = absurd (let e = m.sized in omega arith)
matched_at P (w ∷ ws) [] c m none = absurd (let e = m.sized in omega arith)
matched_at P (w ∷ ws) (v ∷ vs) c m none =
    let first = m.each 0 w v refl refl in
    elim (cases_eq w.place c) [
      | inl same ↦ subst₂ P (sym (number_first w ws c same)) (sym (number_first v vs c (first.0 ∙ same))) first.1
      | inr other ↦ subst₂ P (sym (number_later w ws c other)) (sym (number_later v vs c (λ is. other (sym first.0 ∙ is)))) (matched_at P ws vs c (matched_rest P w v ws vs m) none)
    ]

pub matched_words : (P : ℤ → ℤ → Type 0) (most low high : ℕ) (before after : List Word) → ((x y : ℤ) → P x y → x ≢ pos 0 → nat_abs x ≤ most → (y ≢ pos 0) × (nat_abs y ≤ most)) → AreMatched P before after → AreWords most low high before → AreWords most low high after
matched_words P most low high [] [] keeps m h = tt
matched_words P most low high [] (v ∷ vs) keeps m h = absurd (let e = m.sized in omega arith)
matched_words P most low high (w ∷ ws) [] keeps m h = absurd (let e = m.sized in omega arith)
matched_words P most low high (w ∷ ws) (v ∷ vs) keeps m h =
    let first = m.each 0 w v refl refl in
    let number = keeps w.number v.number first.1 h.2 h.3 in
    let rest = subst (λ k. AreWords most (k + 1) high vs) (sym first.0) (matched_words P most (w.place + 1) high ws vs keeps (matched_rest P w v ws vs m) h.4) in
    (subst (λ k. low ≤ k) (sym first.0) h.0, subst (λ k. k < high) (sym first.0) h.1, number.0, number.1, rest)

-- ---- a loop that changes each number

set_here : (ws : List Word) (n : ℕ) (v : Word) → n < length ws → slice_get (set ws n v) n ≡ Some v
set_here [] n v less = absurd (omega arith)
set_here (w ∷ ws) zero v less = refl
set_here (w ∷ ws) (suc n) v less = set_here ws n v (omega arith)

set_there : (ws : List Word) (n i : ℕ) (v : Word) → i ≢ n → slice_get (set ws n v) i ≡ slice_get ws i
set_there [] n i v other = refl
set_there (w ∷ ws) zero zero v other = absurd (other refl)
set_there (w ∷ ws) zero (suc i) v other = refl
set_there (w ∷ ws) (suc n) zero v other = refl
set_there (w ∷ ws) (suc n) (suc i) v other = set_there ws n i v (λ same. other (ap suc same))

-- The first n words are changed, the others are as before.
pub record MatchedTo (P : ℤ → ℤ → Type 0) (before after : List Word) (n : ℕ) : Type 0 where
  pub sized : length after ≡ length before
  pub done : (i : ℕ) (w v : Word) → i < n → slice_get before i ≡ Some w → slice_get after i ≡ Some v → (v.place ≡ w.place) × P w.number v.number
  pub left : (i : ℕ) → n ≤ i → slice_get after i ≡ slice_get before i

pub matched_none : (P : ℤ → ℤ → Type 0) (before : List Word) → MatchedTo P before before 0
matched_none P before = record { sized = refl; done = λ i w v less. absurd (omega arith); left = λ i from. refl }

-- the word that is changed next is as before
pub matched_next : (P : ℤ → ℤ → Type 0) (before after : List Word) (n : ℕ) → MatchedTo P before after n → n < length after → slice_get before n ≡ Some (word_at after n)
matched_next P before after n m less = sym (m.left n (omega arith)) ∙ word_there after n less

pub matched_more : (P : ℤ → ℤ → Type 0) (before after : List Word) (n : ℕ) (number : ℤ) → MatchedTo P before after n → n < length after → P (word_at after n).number number → MatchedTo P before (set after n (record { place = (word_at after n).place; number = number })) (n + 1)
matched_more P before after n number m less is =
    let new : Word = record { place = (word_at after n).place; number = number } in
    record {
      sized = length-set after n new ∙ m.sized;
      done = λ i w v below at also. elim (cases_eq i n) [
        | inl same ↦
            let old : word_at after n ≡ w = same_word (word_at after n) w (sym (matched_next P before after n m less) ∙ subst (λ k. slice_get before k ≡ Some w) same at) in
            let now : new ≡ v = same_word new v (sym (set_here after n new less) ∙ subst (λ k. slice_get (set after n new) k ≡ Some v) same also) in
            subst₂ (λ (x y : Word). (y.place ≡ x.place) × P x.number y.number) old now (refl, is)
        | inr other ↦ m.done i w v (omega arith) at (sym (set_there after n i new other) ∙ also)
      ];
      left = λ i from. set_there after n i new (λ same. absurd (omega arith)) ∙ m.left i (omega arith);
    }

pub matched_all : (P : ℤ → ℤ → Type 0) (before after : List Word) (n : ℕ) → length after ≤ n → MatchedTo P before after n → AreMatched P before after
matched_all P before after n all m =
    record { sized = m.sized; each = λ i w v at also. m.done i w v (let e = m.sized in let less = slice_get_within after i v also in omega arith) at also }

-- ---- the places of words

place_of : (ws : List Word) (i c : ℕ) → slice_get (map (λ (w : Word). w.place) ws) i ≡ Some c → (w : Word) × (slice_get ws i ≡ Some w) × (w.place ≡ c)
place_of [] i c at = absurd (cc)
place_of (w ∷ ws) zero c at = (w, refl, cc)
place_of (w ∷ ws) (suc i) c at = place_of ws i c at

of_place : (ws : List Word) (i : ℕ) (w : Word) → slice_get ws i ≡ Some w → slice_get (map (λ (w : Word). w.place) ws) i ≡ Some w.place
of_place [] i w at = absurd (cc)
of_place (v ∷ ws) zero w at = ap (λ (o : Word). Some o.place) (same_word v w at)
of_place (v ∷ ws) (suc i) w at = of_place ws i w at

pub are_places : (n : ℕ) (ws : List Word) (most : ℕ) → AreWords most 0 n ws → ArePlaces (spread_out n ws) n (map (λ (w : Word). w.place) ws)
are_places n ws most h =
    record {
      some = λ i c at.
          let found = place_of ws i c at in
          let s = says ws most 0 n i found.0 h found.1 in
          let e = found.2 in
          let to = s.to in
          (omega arith, λ none. s.some (sym s.number ∙ ap (stored_number ws) found.2 ∙ sym (spread_at n ws c (omega arith)) ∙ none));
      apart = λ i j c at also.
          let first = place_of ws i c at in
          let second = place_of ws j c also in
          let e = first.2 in
          let f = second.2 in
          elim (cases_lt i j) [
            | inl less ↦ absurd (let up = ascending ws most 0 n i j first.0 second.0 h first.1 second.1 less in omega arith)
            | inr from ↦
                elim (cases_lt j i) [
                  | inl less ↦ absurd (let up = ascending ws most 0 n j i second.0 first.0 h second.1 first.1 less in omega arith)
                  | inr also_from ↦ omega arith
                ]
          ];
      all = λ c less some.
          elim (word_or_none ws c) [
            | inl found ↦ (found.index, of_place ws found.index found.word found.there ∙ ap (λ k. Some k) found.place)
            | inr none ↦ absurd (some (spread_at n ws c less ∙ none))
          ];
    }

-- the word at an index is one of the words, by its place
pub word_place : (n : ℕ) (ws : List Word) (most i : ℕ) → AreWords most 0 n ws → i < length ws → ((word_at ws i).place < n) × (whole_at (spread_out n ws) (word_at ws i).place ≡ (word_at ws i).number)
word_place n ws most i h less =
    let s = says ws most 0 n i (word_at ws i) h (word_there ws i less) in
    (s.to, spread_at n ws (word_at ws i).place s.to ∙ s.number)

pub place_there : (ws : List Word) (i : ℕ) → i < length ws → slice_get (map (λ (w : Word). w.place) ws) i ≡ Some (word_at ws i).place
place_there ws i less = of_place ws i (word_at ws i) (word_there ws i less)

-- ---- a list that is filled by words

-- the first words stay below the place of the next one
words_taken : (ws : List Word) (most low high i : ℕ) (w : Word) → AreWords most low high ws → slice_get ws i ≡ Some w → AreWords most low w.place (take i ws)
words_taken [] most low high i w h at = absurd (cc)
words_taken (x ∷ ws) most low high zero w h at = tt
words_taken (x ∷ ws) most low high (suc i) w h at =
    let from = (says ws most (x.place + 1) high i w h.4 at).from in
    (h.0, omega arith, h.2, h.3, words_taken ws most (x.place + 1) high i w h.4 at)

pub filled_more : (list : List ℤ) (ws : List Word) (most i : ℕ) (v : ℤ) → AreWords most 0 (length list) ws → i < length ws → v ≡ (word_at ws i).number → ((c : ℕ) → whole_at list c ≡ stored_number (take i ws) c) → (c : ℕ) → whole_at (set list (word_at ws i).place v) c ≡ stored_number (take (i + 1) ws) c
filled_more list ws most i v h less is before c =
    let w : Word = word_at ws i in
    let there : slice_get ws i ≡ Some w = word_there ws i less in
    let to = (says ws most 0 (length list) i w h there).to in
    let more : take (i + 1) ws ≡ take i ws ++ w ∷ [] = take_more ws i no_word less in
    elim (cases_eq c w.place) [
      | inl same ↦
          written_here list list w.place v to c same ∙ is
          ∙ sym (ap (λ (r : List Word). stored_number r c) more ∙ number_after (take i ws) (w ∷ []) most 0 w.place c (words_taken ws most 0 (length list) i w h there) (omega arith) ∙ number_first w [] c (sym same))
      | inr other ↦
          written_other list list w.place v to c other ∙ before c
          ∙ sym (ap (λ (r : List Word). stored_number r c) more ∙ number_before (take i ws) (w ∷ []) c (number_later w [] c (λ is_place. other (sym is_place))))
    ]

-- ---- words and the list that they are

pub each_spread : (P : ℤ → Type 0) (n : ℕ) (ws : List Word) (most : ℕ) → AreWords most 0 n ws → EachNumber P ws → P (pos 0) → (c : ℕ) → P (whole_at (spread_out n ws) c)
each_spread P n ws most h each none c = subst P (sym (spread_any n ws most c h)) (each_at P ws c each none)

pub spread_each : (P : ℤ → Type 0) (n : ℕ) (ws : List Word) (most : ℕ) → AreWords most 0 n ws → ((c : ℕ) → P (whole_at (spread_out n ws) c)) → EachNumber P ws
spread_each P n ws most h all = each_of P ws most 0 n h (λ c. subst P (spread_any n ws most c h) (all c))

pub matched_spread : (P : ℤ → ℤ → Type 0) (n : ℕ) (before after : List Word) (most also : ℕ) → AreWords most 0 n before → AreWords also 0 n after → AreMatched P before after → P (pos 0) (pos 0) → (c : ℕ) → P (whole_at (spread_out n before) c) (whole_at (spread_out n after) c)
matched_spread P n before after most also h g m none c =
    subst₂ P (sym (spread_any n before most c h)) (sym (spread_any n after also c g)) (matched_at P before after c m none)

-- ---- what quotients and negated numbers keep

quotient_within : (d most : ℕ) (x y : ℤ) → 0 < d → y *ℤ pos d ≡ x → nat_abs x ≤ most → nat_abs y ≤ most
quotient_within d most x y some is within =
    let same : nat_abs y * d ≡ nat_abs x = sym (nat_abs-*ℤ y (pos d)) ∙ ap nat_abs is in
    let extended = times_grow (nat_abs y) d some in
    omega arith

pub quotient_keeps : (d most : ℕ) → 0 < d → (x y : ℤ) → y *ℤ pos d ≡ x → x ≢ pos 0 → nat_abs x ≤ most → (y ≢ pos 0) × (nat_abs y ≤ most)
quotient_keeps d most some x y is not_zero within =
    (λ none. not_zero (sym is ∙ ap (λ z. z *ℤ pos d) none ∙ none_over d), quotient_within d most x y some is within)

pub negated_keeps : (most : ℕ) (x y : ℤ) → y ≡ neg_ℤ x → x ≢ pos 0 → nat_abs x ≤ most → (y ≢ pos 0) × (nat_abs y ≤ most)
negated_keeps most x y is not_zero within = (λ none. not_zero (omega (arith, ints)), omega (arith, ints))
