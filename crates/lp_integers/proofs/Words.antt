-- Words: what numbers by ascending place say of the list that they are.
use Rattle.std.proofs.Common.{◌≡◌, ◌≢◌, ℕ, ◌+◌, ◌<◌, ◌≤◌, ◌==◌, true, false, inl, inr, ℤ, pos, nat_abs, cond, List, [], ◌∷◌, ◌++◌, length, refl, sym, ap, ◌∙◌, subst, arith}
use Rattle.std.specs.declared.cmp.Ordering.{Ordering}
use Rattle.std.specs.declared.cmp.Ordering.TheVariants.{Less, Equal, Greater}
use Rattle.std.specs.Ordering.{nat_cmp, MatchOrdering}
use Rattle.std.proofs.lemmas.Cmp.{ranked}
use Rattle.std.proofs.lemmas.Bool.{cases_lt, cases_eq}
use Rattle.std.proofs.lemmas.Bool.Decides.{nat_tests}
use Rattle.std.proofs.lemmas.List.{ext_get_or}
use Rattle.std.proofs.lemmas.List.FromFn.{get_or-map-range_with_len, length-map-range_with_len}
use Rattle.lp_integers.specs.declared.few.Word.{Word}
use Rattle.lp_integers.specs.Lines.{whole_at, AreWithin}
use Rattle.lp_integers.specs.Words.{stored_number, spread_out, AreWords, WordsStartFrom}
use Rattle.lp_integers.proofs.Lines.{whole_past}

eq_same : (a : ℕ) → (a == a) ≡ true
eq_same a = grind (arith, nat_tests)

eq_other : (a b : ℕ) → a ≢ b → (a == b) ≡ false
eq_other a b h = grind (arith, nat_tests)

-- the first word at its own place, and at another
pub number_first : (w : Word) (ws : List Word) (c : ℕ) → w.place ≡ c → stored_number (w ∷ ws) c ≡ w.number
number_first w ws c is = rw (sym is) (ap (λ b. cond b w.number (stored_number ws w.place)) (eq_same w.place))

pub number_later : (w : Word) (ws : List Word) (c : ℕ) → w.place ≢ c → stored_number (w ∷ ws) c ≡ stored_number ws c
number_later w ws c other = ap (λ b. cond b w.number (stored_number ws c)) (eq_other w.place c other)

-- before the first place and from the last on there is 0
pub number_below : (ws : List Word) (most low high c : ℕ) → AreWords most low high ws → c < low → stored_number ws c ≡ pos 0
number_below [] most low high c h before = refl
number_below (w ∷ ws) most low high c h before =
    let least = h.0 in
    number_later w ws c (λ is. absurd (omega arith)) ∙ number_below ws most (w.place + 1) high c h.4 (omega arith)

pub number_above : (ws : List Word) (most low high c : ℕ) → AreWords most low high ws → high ≤ c → stored_number ws c ≡ pos 0
number_above [] most low high c h after = refl
number_above (w ∷ ws) most low high c h after =
    let last = h.1 in
    number_later w ws c (λ is. absurd (omega arith)) ∙ number_above ws most (w.place + 1) high c h.4 after

-- the bounds may be wider
pub words_from : (ws : List Word) (most low high m : ℕ) → AreWords most low high ws → WordsStartFrom m ws → AreWords most m high ws
words_from [] most low high m h starts = tt
words_from (w ∷ ws) most low high m h starts = (starts, h.1, h.2, h.3, h.4)

pub words_to : (ws : List Word) (most low high m : ℕ) → AreWords most low high ws → high ≤ m → AreWords most low m ws
words_to [] most low high m h more = tt
words_to (w ∷ ws) most low high m h more =
    let last = h.1 in
    (h.0, omega arith, h.2, h.3, words_to ws most (w.place + 1) high m h.4 more)

-- words in two parts
pub words_prefix : (prefix : List Word) (w : Word) (after : List Word) (most low high : ℕ) → AreWords most low high (prefix ++ w ∷ after) → AreWords most low w.place prefix × (low ≤ w.place)
words_prefix [] w after most low high h = (tt, h.0)
words_prefix (f ∷ prefix) w after most low high h =
    let rest = words_prefix prefix w after most (f.place + 1) high h.4 in
    let from = rest.1 in
    let least = h.0 in
    ((h.0, omega arith, h.2, h.3, rest.0), omega arith)

pub words_back : (prefix : List Word) (w : Word) (after : List Word) (most low high : ℕ) → AreWords most low high (prefix ++ w ∷ after) → AreWords most (w.place + 1) high after
words_back [] w after most low high h = h.4
words_back (f ∷ prefix) w after most low high h = words_back prefix w after most (f.place + 1) high h.4

-- the number of words in two parts is in one of them
pub number_after : (prefix back : List Word) (most low high c : ℕ) → AreWords most low high prefix → high ≤ c → stored_number (prefix ++ back) c ≡ stored_number back c
number_after [] back most low high c h after = refl
number_after (w ∷ prefix) back most low high c h after =
    let last = h.1 in
    number_later w (prefix ++ back) c (λ is. absurd (omega arith)) ∙ number_after prefix back most (w.place + 1) high c h.4 after

pub number_before : (prefix back : List Word) (c : ℕ) → stored_number back c ≡ pos 0 → stored_number (prefix ++ back) c ≡ stored_number prefix c
number_before [] back c none = none
number_before (w ∷ prefix) back c none = ap (λ x. cond (w.place == c) w.number x) (number_before prefix back c none)

-- a word after others
pub words_pushed : (ws : List Word) (w : Word) (most low high : ℕ) → AreWords most low high ws → low ≤ high → high ≤ w.place → w.number ≢ pos 0 → nat_abs w.number ≤ most → AreWords most low (w.place + 1) (ws ++ w ∷ [])
words_pushed [] w most low high h wide after some small = (omega arith, omega arith, some, small, tt)
words_pushed (f ∷ ws) w most low high h wide after some small =
    let last = h.1 in
    (h.0, omega arith, h.2, h.3, words_pushed ws w most (f.place + 1) high h.4 (omega arith) after some small)

-- a magnitude of a number is at most that of all
pub number_within : (ws : List Word) (most low high c : ℕ) → AreWords most low high ws → nat_abs (stored_number ws c) ≤ most
number_within [] most low high c h = omega arith
number_within (w ∷ ws) most low high c h =
    elim (cases_eq w.place c) [
      | inl same ↦ subst (λ z. nat_abs z ≤ most) (sym (number_first w ws c same)) h.3
      | inr other ↦ subst (λ z. nat_abs z ≤ most) (sym (number_later w ws c other)) (number_within ws most (w.place + 1) high c h.4)
    ]

-- ---- the list that the words are

pub spread_length : (n : ℕ) (ws : List Word) → length (spread_out n ws) ≡ n
spread_length n ws = length-map-range_with_len (stored_number ws) 0 n

pub spread_at : (n : ℕ) (ws : List Word) (c : ℕ) → c < n → whole_at (spread_out n ws) c ≡ stored_number ws c
spread_at n ws c less = get_or-map-range_with_len (stored_number ws) 0 n c c (pos 0) less (omega arith)

pub spread_any : (n : ℕ) (ws : List Word) (most c : ℕ) → AreWords most 0 n ws → whole_at (spread_out n ws) c ≡ stored_number ws c
spread_any n ws most c h =
    elim (cases_lt c n) [
      | inl less ↦ spread_at n ws c less
      | inr past ↦ whole_past (spread_out n ws) c (let e = spread_length n ws in omega arith) ∙ sym (number_above ws most 0 n c h (omega arith))
    ]

-- a list with the same numbers is the list
pub spread_same : (n : ℕ) (ws : List Word) (list : List ℤ) → length list ≡ n → ((c : ℕ) → c < n → whole_at list c ≡ stored_number ws c) → list ≡ spread_out n ws
spread_same n ws list sized same =
    ext_get_or (pos 0) list (spread_out n ws) (sized ∙ sym (spread_length n ws)) (λ c less. let below : c < n = omega (arith, sized) in same c below ∙ sym (spread_at n ws c below))

pub spread_within : (n : ℕ) (ws : List Word) (most : ℕ) → AreWords most 0 n ws → AreWithin (spread_out n ws) most
spread_within n ws most h = λ c. subst (λ z. nat_abs z ≤ most) (sym (spread_any n ws most c h)) (number_within ws most 0 n c h)

-- ---- bisection

found_after : (prefix : List Word) (w : Word) (after : List Word) (most low high c : ℕ) → AreWords most low high (prefix ++ w ∷ after) → w.place < c → stored_number (prefix ++ w ∷ after) c ≡ stored_number after c
found_after prefix w after most low high c h before =
    number_after prefix (w ∷ after) most low w.place c (words_prefix prefix w after most low high h).0 (omega arith) ∙ number_later w after c (λ is. absurd (omega arith))

found_here : (prefix : List Word) (w : Word) (after : List Word) (most low high c : ℕ) → AreWords most low high (prefix ++ w ∷ after) → w.place ≡ c → stored_number (prefix ++ w ∷ after) c ≡ w.number
found_here prefix w after most low high c h is =
    number_after prefix (w ∷ after) most low w.place c (words_prefix prefix w after most low high h).0 (omega arith) ∙ number_first w after c is

found_before : (prefix : List Word) (w : Word) (after : List Word) (most low high c : ℕ) → AreWords most low high (prefix ++ w ∷ after) → c < w.place → stored_number (prefix ++ w ∷ after) c ≡ stored_number prefix c
found_before prefix w after most low high c h before =
    number_before prefix (w ∷ after) c (number_later w after c (λ is. absurd (omega arith)) ∙ number_below after most (w.place + 1) high c (words_back prefix w after most low high h) (omega arith))

-- What is left of some words in the search for a place: the number there is that of the words.
pub record Searched (words rest : List Word) (place : ℕ) : Type 0 where
  pub most : ℕ
  pub low : ℕ
  pub high : ℕ
  pub are_words : AreWords most low high rest
  pub same : stored_number words place ≡ stored_number rest place

pub search_begins : (words : List Word) (most high place : ℕ) → AreWords most 0 high words → Searched words words place
search_begins words most high place h = record { most = most; low = 0; high = high; are_words = h; same = refl }

module _ (words rest prefix back : List Word) (w : Word) (after : List Word) (c : ℕ) (s : Searched words rest c) (parts : rest ≡ prefix ++ back) (first : back ≡ w ∷ after) where
  in_parts : rest ≡ prefix ++ w ∷ after
  in_parts = parts ∙ ap (λ r. prefix ++ r) first

  parts_words : AreWords s.most s.low s.high (prefix ++ w ∷ after)
  parts_words = subst (AreWords s.most s.low s.high) in_parts s.are_words

  same_parts : stored_number words c ≡ stored_number (prefix ++ w ∷ after) c
  same_parts = s.same ∙ ap (λ r. stored_number r c) in_parts

  pub search_after : w.place < c → Searched words after c
  search_after before =
      record { most = s.most; low = w.place + 1; high = s.high; are_words = words_back prefix w after s.most s.low s.high parts_words; same = same_parts ∙ found_after prefix w after s.most s.low s.high c parts_words before }

  pub search_before : c < w.place → Searched words prefix c
  search_before before =
      record { most = s.most; low = s.low; high = w.place; are_words = (words_prefix prefix w after s.most s.low s.high parts_words).0; same = same_parts ∙ found_before prefix w after s.most s.low s.high c parts_words before }

  pub search_here : w.place ≡ c → w.number ≡ stored_number words c
  search_here is = sym (same_parts ∙ found_here prefix w after s.most s.low s.high c parts_words is)

-- what a comparison of two places tells
pub less_by_cmp : (x y : ℕ) (r : Ordering) → r ≡ nat_cmp x y → r ≡ Less → x < y
less_by_cmp x y r is less = subst (λ o. MatchOrdering o (x < y) (x ≡ y) (y < x)) less (ranked x y r is)

pub equal_by_cmp : (x y : ℕ) (r : Ordering) → r ≡ nat_cmp x y → r ≡ Equal → x ≡ y
equal_by_cmp x y r is same = subst (λ o. MatchOrdering o (x < y) (x ≡ y) (y < x)) same (ranked x y r is)

pub greater_by_cmp : (x y : ℕ) (r : Ordering) → r ≡ nat_cmp x y → r ≡ Greater → y < x
greater_by_cmp x y r is greater = subst (λ o. MatchOrdering o (x < y) (x ≡ y) (y < x)) greater (ranked x y r is)

-- if nothing remains the number is 0
pub search_ends : (words rest : List Word) (c : ℕ) → Searched words rest c → length rest ≡ 0 → stored_number words c ≡ pos 0
search_ends words [] c s none = s.same
search_ends words (w ∷ rest) c s none = absurd (omega arith)
