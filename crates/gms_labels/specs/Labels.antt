-- Labels: a list of texts that differ even when letter case is ignored, each named by its position.
use Rattle.std.specs.Prelude.{◌≡◌, ℕ, ◌≤◌, Bool, false, List, [], ◌∷◌, ◌++◌, length, map, Option, None, position, is_some, if◌then◌else◌, All, AllPairs}
use Rattle.std.specs.Char.{to_ascii_lowercase}
use Rattle.std.specs.Str.{str_eq_ignore_ascii_case}

-- the greatest number of bytes that a label may have
abbrev pub most_label_bytes : ℕ
most_label_bytes = 63

-- the greatest number of labels that a label table, a list without repeated labels, may have
abbrev pub most_labels : ℕ
most_labels = 65536

-- a text with its ASCII letters in lower case
abbrev pub lower_case : List ℕ → List ℕ
lower_case text = map to_ascii_lowercase text

-- whether two texts are one label: they are equal when letter case is ignored
abbrev pub is_same : List ℕ → List ℕ → Bool
is_same a b = str_eq_ignore_ascii_case a b

-- the position, from 0, of a text in a list, letter case ignored; None if the list does not have it
abbrev pub place_of : List (List ℕ) → List ℕ → Option ℕ
place_of texts text = position (is_same text) texts

-- the list after a text is entered: the text is appended, unless the list has it, letter case
-- ignored
abbrev pub entered : List (List ℕ) → List ℕ → List (List ℕ)
entered texts text = if is_some (place_of texts text) then texts else texts ++ text ∷ []

-- the list cannot take the text: it does not have it, letter case ignored, and already has as many
-- texts as a label table may have
abbrev pub IsFullFor : List (List ℕ) → List ℕ → Type 0
IsFullFor texts text = (place_of texts text ≡ None) × (length texts ≡ most_labels)

-- no two texts of the list are equal when letter case is ignored
abbrev pub AreDistinct : List (List ℕ) → Type 0
AreDistinct texts = AllPairs (λ a b. is_same a b ≡ false) texts

-- The invariant of the texts of a label table.
pub record AreLabels (texts : List (List ℕ)) : Type 0 where
  -- no two are equal when letter case is ignored
  pub distinct : AreDistinct texts
  -- there are at most as many as a label table may have
  pub few : length texts ≤ most_labels
  -- none is longer than a label may be
  pub short : All (λ text. length text ≤ most_label_bytes) texts
