-- The control lines that are accepted (GAMS User's Guide, "Dollar Control Options").
use Rattle.std.specs.Prelude.{ℕ, Bool, List, [], ◌∷◌, codes}
use Rattle.std.specs.List.{list_any}
use Rattle.std.specs.Str.{str_eq_ignore_ascii_case}

-- the word that begins a block of comment
abbrev pub block_word : List ℕ
block_word = codes "$ontext"

-- the prefix of the line that ends a block of comment
abbrev pub block_end : List ℕ
block_end = codes "$offtext"

-- the control words; all except `$ontext` and `$offtext` have no effect
abbrev pub control_words : List (List ℕ)
control_words =
    codes "$title" ∷ codes "$ontext" ∷ codes "$offtext" ∷ codes "$offsymxref" ∷ codes "$offsymlist" ∷ codes "$offlisting" ∷ codes "$onlisting" ∷ codes "$offupper" ∷ codes "$onupper" ∷ codes "$eject" ∷ []

-- whether the word is one of these words, letter case ignored
abbrev pub is_word_among : List ℕ → List (List ℕ) → Bool
is_word_among word words = list_any (λ other. str_eq_ignore_ascii_case word other) words
