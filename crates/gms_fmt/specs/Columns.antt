-- Texts set in columns (GAMS User's Guide, "GAMS Output"). How wide a column is, is this project's
-- own choice.
use Rattle.std.specs.Prelude.{◌≡◌, ℕ, ◌-◌, List, ◌++◌, length, replicate, Result, Ok, Err}

-- `count` blanks
abbrev pub blanks : ℕ → List ℕ
blanks count = replicate count 32

-- a text at the right edge of a column of this width, after blanks; a longer text is unchanged
abbrev pub right_in : ℕ → List ℕ → List ℕ
right_in width text = blanks (width - length text) ++ text

-- a text at the left edge of a column of this width, before blanks; a longer text is unchanged
abbrev pub left_in : ℕ → List ℕ → List ℕ
left_in width text = text ++ blanks (width - length text)

-- the text `new` is `old` followed by a prefix of `more`
abbrev pub IsExtendedByPrefix : List ℕ → List ℕ → List ℕ → Type 0
IsExtendedByPrefix old more new = (prefix rest : List ℕ) × (more ≡ prefix ++ rest) × (new ≡ old ++ prefix)

-- the text `new` is `old` with `text` appended; after an error only a prefix of `text` is appended
abbrev pub Appends : {A E : Type 0} → Result A E → List ℕ → List ℕ → List ℕ → Type 0
Appends (Ok x) old new text = new ≡ old ++ text
Appends (Err e) old new text = IsExtendedByPrefix old text new
