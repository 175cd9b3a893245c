-- Laws of places: properties of a text's place in a list, and what entering a text does to places.
use Rattle.std.proofs.Common.{◌≡◌, ℕ, zero, suc, ◌+◌, ◌<◌, Bool, true, false, cond, ltb, not, List, [], ◌∷◌, ◌++◌, length, get_or, Option, Some, None, position, is_some, IsSome, IfSome, refl, sym, ap, ◌∙◌, arith}
use Rattle.std.specs.List.{position_or_len}
use Rattle.std.proofs.lemmas.List.{length_push}
use Rattle.std.proofs.lemmas.List.Folds.{position_or_len_push}
use Rattle.std.proofs.lemmas.List.Sums.{prefix_len-le-length, position_or_len_is}
use Rattle.std.proofs.lemmas.List.Quantifiers.{position-Some}
use Rattle.std.proofs.lemmas.Bool.Decides.{nat_tests}
use Rattle.std.proofs.lemmas.Slice.Eq.{bytes_eq-Decides}
use Rattle.gms_labels.specs.Labels.{lower_case, is_same, place_of, entered, AreDistinct}

module _ {X : Type 0} (p : X → Bool) where
  -- a place that is answered is the first that passes
  pub position_is : (xs : List X) (n : ℕ) → position p xs ≡ Some n → (n < length xs) × (position_or_len p xs ≡ n)
  position_is xs n e = by (ltb (position_or_len p xs) (length xs)) refl e
    where
      by : (b : Bool) → ltb (position_or_len p xs) (length xs) ≡ b → cond b (Some (position_or_len p xs)) None ≡ Some n → (n < length xs) × (position_or_len p xs ≡ n)
      by true t e = let q : position_or_len p xs ≡ n = cc in (grind (arith, nat_tests), q)
      by false t e = absurd cc

  -- the first place that passes is answered
  pub position_from : (xs : List X) (n : ℕ) → n < length xs → position_or_len p xs ≡ n → position p xs ≡ Some n
  position_from xs n l e = grind (arith, nat_tests)

  -- where no place is answered the list was passed to its end
  pub position_none : (xs : List X) → position p xs ≡ None → position_or_len p xs ≡ length xs
  position_none xs e = by (ltb (position_or_len p xs) (length xs)) refl e
    where
      by : (b : Bool) → ltb (position_or_len p xs) (length xs) ≡ b → cond b (Some (position_or_len p xs)) None ≡ None → position_or_len p xs ≡ length xs
      by true t e = absurd cc
      by false t e = grind (arith, nat_tests, prefix_len-le-length (λ x. not (p x)) xs)

  -- one more element leaves a place that was answered
  pub position-push_kept : (xs : List X) (y : X) (n : ℕ) → position p xs ≡ Some n → position p (xs ++ y ∷ []) ≡ Some n
  position-push_kept xs y n e =
      let at = position_is xs n e in
      position_from (xs ++ y ∷ []) n (omega (arith, at.0, length_push xs y)) (grind (arith, nat_tests, at.0, at.1, position_or_len_push p xs y))

  -- a new element that passes has the last place
  pub position-push_new : (xs : List X) (y : X) → position p xs ≡ None → p y ≡ true → position p (xs ++ y ∷ []) ≡ Some (length xs)
  position-push_new xs y e passes =
      position_from (xs ++ y ∷ []) (length xs) (omega (arith, length_push xs y)) (grind (arith, nat_tests, passes, position_none xs e, position_or_len_push p xs y))

  -- a new element that does not pass changes no place
  pub position-push_other : (xs : List X) (y : X) → p y ≡ false → position p (xs ++ y ∷ []) ≡ position p xs
  position-push_other xs y fails =
      grind (arith, nat_tests, fails, position_or_len_push p xs y, length_push xs y, prefix_len-le-length (λ x. not (p x)) xs)

  passed-misses : (xs : List X) (k : ℕ) (d : X) → position_or_len p xs ≡ length xs → k < length xs → p (get_or xs k d) ≡ false
  passed-misses [] k d passed l = absurd (omega arith)
  passed-misses (x ∷ xs) k d passed l = by (passed-misses xs) (p x) refl k passed l
    where
      by : ((k : ℕ) (d : X) → position_or_len p xs ≡ length xs → k < length xs → p (get_or xs k d) ≡ false) → (b : Bool) → p x ≡ b → (k : ℕ) → cond (not b) (1 + position_or_len p xs) 0 ≡ suc (length xs) → k < suc (length xs) → p (get_or (x ∷ xs) k d) ≡ false
      by rest true e k passed l = absurd (omega arith)
      by rest false e zero passed l = e
      by rest false e (suc k) passed l = rest k d (omega arith) (omega arith)

  -- where no place is answered no element passes
  pub position_misses : (xs : List X) → position p xs ≡ None → (k : ℕ) (d : X) → k < length xs → p (get_or xs k d) ≡ false
  position_misses xs none k d l = passed-misses xs k d (position_none xs none) l

-- a text is the same label as itself
pub is_same_refl : (text : List ℕ) → is_same text text ≡ true
is_same_refl text = (bytes_eq-Decides (lower_case text) (lower_case text)).1 refl

-- two texts that are one label are so in either order
pub is_same_sym : (a b : List ℕ) → is_same a b ≡ true → is_same b a ≡ true
is_same_sym a b e = (bytes_eq-Decides (lower_case b) (lower_case a)).1 (sym ((bytes_eq-Decides (lower_case a) (lower_case b)).0 e))

-- entering a text keeps the place of each text that was there
pub place_of-entered_kept : (texts : List (List ℕ)) (text other : List ℕ) (n : ℕ) → place_of texts other ≡ Some n → place_of (entered texts text) other ≡ Some n
place_of-entered_kept texts text other n e = by (is_some (place_of texts text))
  where
    by : (b : Bool) → place_of (cond b texts (texts ++ text ∷ [])) other ≡ Some n
    by true = e
    by false = position-push_kept (is_same other) texts text n e

-- a new text gets the last place
pub place_of-entered_new : (texts : List (List ℕ)) (text : List ℕ) → place_of texts text ≡ None → place_of (entered texts text) text ≡ Some (length texts)
place_of-entered_new texts text e =
    rw e (position-push_new (is_same text) texts text e (is_same_refl text))

-- a text that was entered is found
pub place_of-entered : (texts : List (List ℕ)) (text : List ℕ) → IsSome (place_of (entered texts text) text)
place_of-entered texts text = by (place_of texts text) refl
  where
    by : (o : Option ℕ) → place_of texts text ≡ o → IsSome (place_of (entered texts text) text)
    by None e = ap is_some (place_of-entered_new texts text e)
    by (Some n) e = ap is_some (place_of-entered_kept texts text text n e)

-- two texts that are one label with a third are one label
pub is_same_trans : (a b c : List ℕ) → is_same a b ≡ true → is_same b c ≡ true → is_same a c ≡ true
is_same_trans a b c p q =
    (bytes_eq-Decides (lower_case a) (lower_case c)).1 ((bytes_eq-Decides (lower_case a) (lower_case b)).0 p ∙ (bytes_eq-Decides (lower_case b) (lower_case c)).0 q)

-- a place is unique: the place of a text is the only one at which its label is
pub place_of-unique : (texts : List (List ℕ)) (text : List ℕ) (n : ℕ) → AreDistinct texts → n < length texts → is_same text (get_or texts n []) ≡ true → place_of texts text ≡ Some n
place_of-unique texts text n distinct l e =
    position_from (is_same text) texts n l (position_or_len_is (is_same text) texts n [] (omega arith) (λ k below. by k below (is_same text (get_or texts k [])) refl) (λ _. e))
  where
    by : (k : ℕ) → k < n → (b : Bool) → is_same text (get_or texts k []) ≡ b → b ≡ false
    by k below false _ = refl
    by k below true same =
        let at : is_same (get_or texts k []) (get_or texts n []) ≡ true = is_same_trans (get_or texts k []) text (get_or texts n []) (is_same_sym text (get_or texts k []) same) e in
        let apart : is_same (get_or texts k []) (get_or texts n []) ≡ false = distinct k n [] below l in
        absurd cc

-- the label at a place that is answered is that of the text
pub place_of-reads : (texts : List (List ℕ)) (text : List ℕ) (n : ℕ) → place_of texts text ≡ Some n → (n < length texts) × (is_same text (get_or texts n []) ≡ true)
place_of-reads texts text n e =
    let at = position-Some (is_same text) texts n [] e in (at.0, at.1)

-- a place that is answered is a place of the list
pub place_of-within : (texts : List (List ℕ)) (text : List ℕ) (answer : Option ℕ) → answer ≡ place_of texts text → IfSome answer (λ n. n < length texts)
place_of-within texts text None e = tt
place_of-within texts text (Some n) e = (place_of-reads texts text n (sym e)).0

-- a text that no label of the list is has no place
pub place_of-missed : (texts : List (List ℕ)) (text : List ℕ) → ((k : ℕ) → k < length texts → is_same text (get_or texts k []) ≡ false) → place_of texts text ≡ None
place_of-missed texts text misses =
    let all : position_or_len (is_same text) texts ≡ length texts = position_or_len_is (is_same text) texts (length texts) [] (omega arith) misses (λ below. absurd (omega arith)) in
    grind (arith, nat_tests, all)
