-- Lists of integers of which only those that are not 0 are stored. A stored one is a `Word`: its
-- place, an index into the list, and the integer there. Words ascend by place.
use Rattle.std.specs.Prelude.{◌≡◌, ◌≢◌, ◌⊎◌, ℕ, ◌+◌, ◌*◌, ◌<◌, ◌≤◌, ◌==◌, ℤ, pos, ◌<ℤ◌, ◌-ℤ◌, ◌*ℤ◌, nat_abs, List, [], ◌∷◌, ◌++◌, length, map, slice_get, Option, Some, None, if◌then◌else◌}
use Rattle.std.specs.List.{range_with_len}
use Rattle.lp_integers.specs.declared.few.Word.{Word}
use Rattle.lp_integers.specs.Lines.{whole_at}

-- A word is a place of a list, with the integer there. This is the integer of the first of these
-- words with this place; 0 if no word has the place.
abbrev pub stored_number : List Word → ℕ → ℤ
stored_number [] place = pos 0
stored_number (w ∷ ws) place = if w.place == place then w.number else stored_number ws place

-- the list of n integers; at each index it has that of the first word with this place, or 0 if no
-- word has the place
abbrev pub spread_out : ℕ → List Word → List ℤ
spread_out n words = map (stored_number words) (range_with_len 0 n)

-- the words ascend by place, from place `low` on and below place `high`; no integer is 0 or has a
-- magnitude above `most`
abbrev pub AreWords : ℕ → ℕ → ℕ → List Word → Type 0
AreWords most low high [] = Unit {0}
AreWords most low high (w ∷ ws) = (low ≤ w.place) × (w.place < high) × (w.number ≢ pos 0) × (nat_abs w.number ≤ most) × AreWords most (w.place + 1) high ws

-- the property P holds for the integer of each word
abbrev pub EachNumber : (ℤ → Type 0) → List Word → Type 0
EachNumber P words = (i : ℕ) (w : Word) → slice_get words i ≡ Some w → P w.number

-- The words `after` have the places of the words `before`, in the same order, and P relates the
-- integers before and after at each place.
pub record AreMatched (P : ℤ → ℤ → Type 0) (before after : List Word) : Type 0 where
  pub sized : length after ≡ length before
  pub each : (i : ℕ) (w v : Word) → slice_get before i ≡ Some w → slice_get after i ≡ Some v → (v.place ≡ w.place) × P w.number v.number

-- there are no words, or the first one is at the place or after it
abbrev pub WordsStartFrom : ℕ → List Word → Type 0
WordsStartFrom place [] = Unit {0}
WordsStartFrom place (w ∷ ws) = place ≤ w.place

-- there are words, and the first one is at the place
abbrev pub WordsStartAt : ℕ → List Word → Type 0
WordsStartAt place [] = ⊥
WordsStartAt place (w ∷ ws) = w.place ≡ place

-- the lesser of the places of two lists' first words; if one list is empty, the place of the first
-- word of the other; None if both lists are empty
abbrev pub IsNextPlace : List Word → List Word → Option ℕ → Type 0
IsNextPlace words others None = (words ≡ []) × (others ≡ [])
IsNextPlace words others (Some place) = WordsStartFrom place words × WordsStartFrom place others × (WordsStartAt place words ⊎ WordsStartAt place others)

-- the first word is at the place and has this integer, and `rest` are the other words; or no first
-- word is at the place, the integer is 0, and `rest` are all words
abbrev pub SplitsWordAt : List Word → ℕ → ℤ → List Word → Type 0
SplitsWordAt words place number rest =
    (words ≡ record { place = place; number = number } ∷ rest) ⊎ ((rest ≡ words) × ¬ (WordsStartAt place words) × (number ≡ pos 0))

-- `now` has the words `before`, followed by a word of this place and integer; if the integer is 0,
-- `now` has the words `before` only
abbrev pub AppendsUnlessZero : ℕ → ℤ → List Word → List Word → Type 0
AppendsUnlessZero place number before now =
    ((number ≢ pos 0) × (now ≡ before ++ record { place = place; number = number } ∷ [])) ⊎ ((number ≡ pos 0) × (now ≡ before))

-- at each place, a times the integer of `words` and b times that of `others` have magnitudes whose
-- sum is at most `most`
abbrev pub HasWordsBound : ℕ → ℤ → ℤ → List Word → List Word → Type 0
HasWordsBound most a b words others = (c : ℕ) → nat_abs a * nat_abs (stored_number words c) + nat_abs b * nat_abs (stored_number others c) ≤ most

-- The words `made` ascend by place, below place `high`, and no integer of them is 0 or has a
-- magnitude above `most`. At each place they give a times the integer of `words` less b times that
-- of `others`.
pub record AreDifferencesOf (most high : ℕ) (a b : ℤ) (words others made : List Word) : Type 0 where
  pub are_words : AreWords most 0 high made
  pub numbers : (c : ℕ) → stored_number made c ≡ a *ℤ stored_number words c -ℤ b *ℤ stored_number others c

-- The list `after` is as long as `before`, and has at each index a times the integer of `before`
-- less b times that of `others`.
pub record AreDifferences (a b : ℤ) (before others after : List ℤ) : Type 0 where
  pub sized : length after ≡ length before
  pub numbers : (c : ℕ) → whole_at after c ≡ a *ℤ whole_at before c -ℤ b *ℤ whole_at others c

-- the least place, from place `start` on, at which the words' integer is above 0; None if there is
-- none
abbrev pub IsFirstPlace : List Word → ℕ → Option ℕ → Type 0
IsFirstPlace words start None = (c : ℕ) → start ≤ c → ¬ (pos 0 <ℤ stored_number words c)
IsFirstPlace words start (Some place) =
    (start ≤ place) × (pos 0 <ℤ stored_number words place) × ((c : ℕ) → start ≤ c → pos 0 <ℤ stored_number words c → place ≤ c)

-- the place, from place `start` on, of the words' greatest integer, if that is above 0, and of
-- equal ones the least place; None if no integer from there on is above 0
abbrev pub IsGreatestPlace : List Word → ℕ → Option ℕ → Type 0
IsGreatestPlace words start None = (c : ℕ) → start ≤ c → ¬ (pos 0 <ℤ stored_number words c)
IsGreatestPlace words start (Some place) =
    (start ≤ place) × (pos 0 <ℤ stored_number words place)
    × ((c : ℕ) → start ≤ c → (stored_number words c <ℤ stored_number words place) ⊎ ((stored_number words c ≡ stored_number words place) × (place ≤ c)))

-- the least index, from `start` on, of an integer above 0 in the list; None if there is none
abbrev pub IsFirstAbove : List ℤ → ℕ → Option ℕ → Type 0
IsFirstAbove numbers start None = (c : ℕ) → start ≤ c → ¬ (pos 0 <ℤ whole_at numbers c)
IsFirstAbove numbers start (Some place) =
    (start ≤ place) × (place < length numbers) × (pos 0 <ℤ whole_at numbers place) × ((c : ℕ) → start ≤ c → pos 0 <ℤ whole_at numbers c → place ≤ c)

-- the index, from `start` on, of the greatest integer of the list, if that is above 0, and of equal
-- ones the least index; None if no integer from there on is above 0
abbrev pub IsGreatestAbove : List ℤ → ℕ → Option ℕ → Type 0
IsGreatestAbove numbers start None = (c : ℕ) → start ≤ c → ¬ (pos 0 <ℤ whole_at numbers c)
IsGreatestAbove numbers start (Some place) =
    (start ≤ place) × (place < length numbers) × (pos 0 <ℤ whole_at numbers place)
    × ((c : ℕ) → start ≤ c → (whole_at numbers c <ℤ whole_at numbers place) ⊎ ((whole_at numbers c ≡ whole_at numbers place) × (place ≤ c)))
