-- Texts that are written piece by piece, one piece for each of some things.
use Rattle.std.proofs.Common.{◌≡◌, ℕ, zero, suc, ◌+◌, ◌<◌, List, [], ◌∷◌, ◌++◌, length, take, get_or, slice_get, flat_map, sym, ap, ap₂, ◌∙◌, Some, arith, add-one, append_assoc}
use Rattle.std.proofs.lemmas.List.{take_more, append-nil}
use Rattle.std.proofs.lemmas.Grind.{flat_map-append}
use Rattle.gms_store.specs.State.{State, symbol_at}
use Rattle.gms_save_text.specs.SavedState.{part, parts_from}

-- the pieces of the first things and the piece of the next one
pub pieces_more : {X : Type 0} (piece : X → List ℕ) (things : List X) (k : ℕ) (d : X) → k < length things → flat_map piece (take (k + 1) things) ≡ flat_map piece (take k things) ++ piece (get_or things k d)
pieces_more piece things k d within =
    ap (flat_map piece) (take_more things k d within)
    ∙ flat_map-append piece (take k things) (get_or things k d ∷ [])
    ∙ ap (λ l. flat_map piece (take k things) ++ l) (append-nil (piece (get_or things k d)))

-- a piece after others
pub piece_after : (old a b i j : List ℕ) → i ≡ old ++ a → j ≡ i ++ b → j ≡ old ++ (a ++ b)
piece_after old a b i j e f = f ∙ ap (λ x. x ++ b) e ∙ append_assoc old a b

-- the parts of the first names, and the part of the next one
more_parts : (state : State) (n : ℕ) (names : List (List ℕ)) (k : ℕ) (name : List ℕ) → slice_get names k ≡ Some name → parts_from state n (take (suc k) names) ≡ parts_from state n (take k names) ++ part name (symbol_at state (n + k)).content
more_parts state n [] k name there = absurd cc
more_parts state n (first ∷ names) zero name there =
    let same : first ≡ name = cc in
    append-nil (part first (symbol_at state n).content) ∙ ap₂ (λ (m : ℕ) (t : List ℕ). part t (symbol_at state m).content) (omega arith) same
more_parts state n (first ∷ names) (suc k) name there =
    ap (λ l. part first (symbol_at state n).content ++ l) (more_parts state (n + 1) names k name there)
    ∙ sym (append_assoc (part first (symbol_at state n).content) (parts_from state (n + 1) (take k names)) (part name (symbol_at state (n + 1 + k)).content))
    ∙ ap (λ m. (part first (symbol_at state n).content ++ parts_from state (n + 1) (take k names)) ++ part name (symbol_at state m).content) (omega arith)

pub parts_more : (state : State) (names : List (List ℕ)) (k : ℕ) (name : List ℕ) → slice_get names k ≡ Some name → parts_from state 0 (take (k + 1) names) ≡ parts_from state 0 (take k names) ++ part name (symbol_at state k).content
parts_more state names k name there = ap (λ n. parts_from state 0 (take n names)) (add-one k) ∙ more_parts state 0 names k name there ∙ ap (λ (m : ℕ). parts_from state 0 (take k names) ++ part name (symbol_at state m).content) (omega arith)

-- a piece after a known text
pub further : (i j a x : List ℕ) → i ≡ x → j ≡ i ++ a → j ≡ x ++ a
further i j a x e f = f ∙ ap (λ y. y ++ a) e

-- the pieces of the line of settings
pub settings_pieces : (old p a b d e w s z blank : List ℕ) → ((((((((old ++ p) ++ (a ++ blank)) ++ (b ++ blank)) ++ (d ++ blank)) ++ (e ++ blank)) ++ w) ++ blank) ++ s) ++ z ≡ old ++ ((p ++ (a ++ (blank ++ (b ++ (blank ++ (d ++ (blank ++ (e ++ (blank ++ (w ++ (blank ++ s))))))))))) ++ z)
settings_pieces old p a b d e w s z blank = simp append_assoc
