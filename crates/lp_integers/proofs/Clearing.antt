-- Words without those at a place.
use Rattle.std.proofs.Common.{◌≡◌, ◌≢◌, ℕ, ◌+◌, ◌≤◌, ◌==◌, true, false, inl, inr, Bool, pos, cond, List, [], ◌∷◌, set, length-set, get_or-set_other, refl, sym, ap, ◌∙◌, subst, arith}
use Rattle.std.specs.Prelude.{not}
use Rattle.std.specs.List.{filter}
use Rattle.std.proofs.lemmas.Bool.{cases_eq}
use Rattle.std.proofs.lemmas.Bool.Decides.{nat_tests}
use Rattle.lp_integers.specs.declared.few.Word.{Word}
use Rattle.lp_integers.specs.Words.{stored_number, spread_out, AreWords}
use Rattle.lp_integers.proofs.Lines.{written_here}
use Rattle.lp_integers.proofs.Words.{number_first, number_later, spread_length, spread_at, spread_same}

-- whether a word is at another place
abbrev pub is_elsewhere : ℕ → Word → Bool
is_elsewhere place w = not (w.place == place)

equal_places : (a b : ℕ) → a ≡ b → (a == b) ≡ true
equal_places a b same = grind (arith, nat_tests)

other_places : (a b : ℕ) → a ≢ b → (a == b) ≡ false
other_places a b other = grind (arith, nat_tests)

-- a word at the place is left out, another one stays
left_out : (w : Word) (ws : List Word) (place : ℕ) → w.place ≡ place → filter (is_elsewhere place) (w ∷ ws) ≡ filter (is_elsewhere place) ws
left_out w ws place same = ap (λ b. cond (not b) (w ∷ filter (is_elsewhere place) ws) (filter (is_elsewhere place) ws)) (equal_places w.place place same)

left_in : (w : Word) (ws : List Word) (place : ℕ) → w.place ≢ place → filter (is_elsewhere place) (w ∷ ws) ≡ w ∷ filter (is_elsewhere place) ws
left_in w ws place other = ap (λ b. cond (not b) (w ∷ filter (is_elsewhere place) ws) (filter (is_elsewhere place) ws)) (other_places w.place place other)

words_lower : (ws : List Word) (most low high m : ℕ) → AreWords most m high ws → low ≤ m → AreWords most low high ws
words_lower [] most low high m h less = tt
words_lower (w ∷ ws) most low high m h less = let from = h.0 in (omega arith, h.1, h.2, h.3, h.4)

pub cleared_words : (ws : List Word) (most low high place : ℕ) → AreWords most low high ws → AreWords most low high (filter (is_elsewhere place) ws)
cleared_words [] most low high place h = tt
cleared_words (w ∷ ws) most low high place h =
    let least = h.0 in
    elim (cases_eq w.place place) [
      | inl same ↦ subst (AreWords most low high) (sym (left_out w ws place same)) (words_lower (filter (is_elsewhere place) ws) most low high (w.place + 1) (cleared_words ws most (w.place + 1) high place h.4) (omega arith))
      | inr other ↦ subst (AreWords most low high) (sym (left_in w ws place other)) (h.0, h.1, h.2, h.3, cleared_words ws most (w.place + 1) high place h.4)
    ]

cleared_here : (ws : List Word) (place : ℕ) → stored_number (filter (is_elsewhere place) ws) place ≡ pos 0
cleared_here [] place = refl
cleared_here (w ∷ ws) place =
    elim (cases_eq w.place place) [
      | inl same ↦ ap (λ (r : List Word). stored_number r place) (left_out w ws place same) ∙ cleared_here ws place
      | inr other ↦ ap (λ (r : List Word). stored_number r place) (left_in w ws place other) ∙ number_later w (filter (is_elsewhere place) ws) place other ∙ cleared_here ws place
    ]

cleared_there : (ws : List Word) (place c : ℕ) → c ≢ place → stored_number (filter (is_elsewhere place) ws) c ≡ stored_number ws c
cleared_there [] place c apart = refl
cleared_there (w ∷ ws) place c apart =
    elim (cases_eq w.place place) [
      | inl same ↦ ap (λ (r : List Word). stored_number r c) (left_out w ws place same) ∙ cleared_there ws place c apart ∙ sym (number_later w ws c (λ is. apart (sym is ∙ same)))
      | inr other ↦
          ap (λ (r : List Word). stored_number r c) (left_in w ws place other)
          ∙ elim (cases_eq w.place c) [
            | inl here ↦ number_first w (filter (is_elsewhere place) ws) c here ∙ sym (number_first w ws c here)
            | inr later ↦ number_later w (filter (is_elsewhere place) ws) c later ∙ cleared_there ws place c apart ∙ sym (number_later w ws c later)
          ]
    ]

pub spread_cleared : (n : ℕ) (ws : List Word) (place : ℕ) → spread_out n (filter (is_elsewhere place) ws) ≡ set (spread_out n ws) place (pos 0)
spread_cleared n ws place =
    sym (spread_same n (filter (is_elsewhere place) ws) (set (spread_out n ws) place (pos 0)) (length-set (spread_out n ws) place (pos 0) ∙ spread_length n ws) (λ c less.
    elim (cases_eq c place) [
      | inl same ↦
          written_here (spread_out n ws) (spread_out n ws) place (pos 0) (let e = spread_length n ws in omega arith) c same
          ∙ sym (subst (λ k. stored_number (filter (is_elsewhere place) ws) k ≡ pos 0) (sym same) (cleared_here ws place))
      | inr other ↦ get_or-set_other (spread_out n ws) place c (pos 0) (pos 0) other ∙ spread_at n ws c less ∙ sym (cleared_there ws place c other)
    ]))
