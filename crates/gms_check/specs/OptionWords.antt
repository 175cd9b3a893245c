-- The words of options, and what they may be set to (GAMS User's Guide, "The Option Statement").
-- The ranges, and the words that are accepted without effect, are this project's own choice.
use Rattle.std.specs.Prelude.{ℕ, ℤ, pos, negsuc, Bool, true, false, not, ◌&&◌, ◌==◌, nat_le, List, [], ◌∷◌, ◌++◌, codes, if◌then◌else◌}
use Rattle.std.specs.List.{list_any}
use Rattle.std.specs.Str.{str_eq_ignore_ascii_case}
use Rattle.gq_number.specs.Number.{Number}
use Rattle.gms_ast.specs.declared.program.Setting.{Setting}
use Rattle.gms_ast.specs.declared.program.Setting.TheVariants as setting

-- whether a word is one of these words, letter case ignored
abbrev pub is_one_of : List (List ℕ) → List ℕ → Bool
is_one_of words word = list_any (str_eq_ignore_ascii_case word) words

-- the options that are set to an integer from 0 to 2,147,483,647
abbrev pub counts : List (List ℕ)
counts = codes "limrow" ∷ codes "limcol" ∷ codes "iterlim" ∷ []

-- the options that are accepted with any value, without effect
abbrev pub ignored : List (List ℕ)
ignored =
    codes "reslim" ∷ codes "optcr" ∷ codes "optca" ∷ codes "domlim" ∷ codes "bratio" ∷ codes "sysout" ∷ codes "solslack" ∷ codes "nlp" ∷ codes "mip" ∷ codes "rmip" ∷ codes "dnlp" ∷ codes "mcp" ∷ []

-- the options with an effect that are not in `counts`: `decimals` is set to a number of decimals,
-- `solprint` to `on` or `off`, `lp` to the name of a solver
abbrev pub other_options : List (List ℕ)
other_options = codes "decimals" ∷ codes "solprint" ∷ codes "lp" ∷ []

-- whether a word is that of an option, letter case ignored
abbrev pub is_option : List ℕ → Bool
is_option word = is_one_of (counts ++ other_options ++ ignored) word

-- whether an integer is from 0 to `most`
abbrev pub is_up_to : ℕ → ℤ → Bool
is_up_to most (pos n) = nat_le n most
is_up_to most (negsuc n) = false

-- whether a number is an integer
abbrev pub is_whole : Number → Bool
is_whole x = x.denominator == 1

-- whether a number is an integer from 0 to `most`
abbrev pub is_whole_up_to : ℕ → Number → Bool
is_whole_up_to most x = is_whole x && is_up_to most x.numerator

module _ {F : Type 0} where
  -- whether the value of an option is the word `on` or `off`, letter case ignored
  abbrev pub is_switch : Setting F → Bool
  is_switch (setting.Number at x) = false
  is_switch (setting.Name word) = is_one_of (codes "on" ∷ codes "off" ∷ []) word.text

  -- whether the value of an option is a word
  abbrev pub is_worded : Setting F → Bool
  is_worded (setting.Number at x) = false
  is_worded (setting.Name word) = true

module _ {F : Type 0} (value : F → Number) where
  -- whether the value of an option is an integer from 0 to `most`; a word is none. `value` gives
  -- the number that a value of `F` means
  abbrev pub is_count_up_to : ℕ → Setting F → Bool
  is_count_up_to most (setting.Number at x) = is_whole_up_to most (value x)
  is_count_up_to most (setting.Name word) = false

  -- whether the value of an option is in the range of the option of this word, letter case ignored:
  -- for `limrow`, `limcol` and `iterlim` (`counts`) an integer from 0 to 2,147,483,647; for
  -- `decimals` one from 0 to 8; for `solprint` `on` or `off`; for `lp` a word; any value for an
  -- option without effect or a word that is no option
  abbrev pub is_in_range : List ℕ → Setting F → Bool
  is_in_range word setting =
      if is_one_of counts word then is_count_up_to 2147483647 setting else if str_eq_ignore_ascii_case word (codes "decimals") then is_count_up_to 8 setting else if str_eq_ignore_ascii_case word (codes "solprint") then is_switch setting else if str_eq_ignore_ascii_case word (codes "lp") then is_worded setting else true

-- whether the value of an option is a word that is none of these names, letter case ignored
abbrev pub is_none_of : {F : Type 0} → List (List ℕ) → Setting F → Bool
is_none_of names (setting.Number at x) = false
is_none_of names (setting.Name word) = not (is_one_of names word.text)
