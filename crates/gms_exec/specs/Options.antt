-- The settings after an option statement (GAMS User's Guide, "The Option Statement").
use Rattle.std.specs.Prelude.{ℕ, ℤ, pos, negsuc, Bool, true, false, ◌&&◌, ◌==◌, nat_le, List, codes, position, unwrap_or, if◌then◌else◌}
use Rattle.std.specs.List.{fold}
use Rattle.std.specs.Str.{str_eq_ignore_ascii_case}
use Rattle.gq_number.specs.Number.{Number}
use Rattle.gms_ast.specs.declared.word.Word.{Word}
use Rattle.gms_ast.specs.declared.program.Setting.{Setting}
use Rattle.gms_ast.specs.declared.program.Setting.TheVariants as setting
use Rattle.gms_store.specs.declared.settings.Settings.{Settings}

-- whether two words are equal, letter case ignored
abbrev pub is_same_word : List ℕ → List ℕ → Bool
is_same_word word text = str_eq_ignore_ascii_case text word

-- the integer as a natural number; 0 if it is negative
abbrev pub whole_magnitude : ℤ → ℕ
whole_magnitude (pos n) = n
whole_magnitude (negsuc n) = 0

-- whether an integer is from 0 to `most`
abbrev pub is_from_zero : ℕ → ℤ → Bool
is_from_zero most (pos n) = nat_le n most
is_from_zero most (negsuc n) = false

-- whether a number is an integer from 0 to `most`
abbrev pub is_count : ℕ → Number → Bool
is_count most x = (x.denominator == 1) && is_from_zero most x.numerator

-- the number that an option is set to, an integer from 0 to `most`; the old number if the value is
-- anything else, which is an error of the program
abbrev pub count_set : {F : Type 0} → (F → Number) → ℕ → ℕ → Setting F → ℕ
count_set value most old (setting.Number at x) =
    if is_count most (value x) then whole_magnitude (value x).numerator else old
count_set value most old (setting.Name word) = old

-- whether an option is on after it is set; the old state if the value is neither `on` nor `off`
abbrev pub switch_set : {F : Type 0} → Bool → Setting F → Bool
switch_set old (setting.Number at x) = old
switch_set old (setting.Name word) =
    if is_same_word (codes "on") word.text then true else if is_same_word (codes "off") word.text then false else old

-- the index of the first solver that has the name to which the option is set, letter case ignored;
-- the old index if none has it or if the option is set to a number
abbrev pub solver_set : {F : Type 0} → List (List ℕ) → ℕ → Setting F → ℕ
solver_set solvers old (setting.Number at x) = old
solver_set solvers old (setting.Name word) = unwrap_or (position (is_same_word word.text) solvers) old

module _ {F : Type 0} (value : F → Number) (solvers : List (List ℕ)) where
  -- the settings after one option; an option other than these six, or a value that its option does
  -- not admit, changes nothing
  abbrev pub after_option : Settings → Word × Setting F → Settings
  after_option s (word, set) =
      if is_same_word (codes "limrow") word.text then record s { limrow = count_set value 2147483647 s.limrow set } else
      if is_same_word (codes "limcol") word.text then record s { limcol = count_set value 2147483647 s.limcol set } else
      if is_same_word (codes "iterlim") word.text then record s { iterlim = count_set value 2147483647 s.iterlim set } else
      if is_same_word (codes "decimals") word.text then record s { decimals = count_set value 8 s.decimals set } else
      if is_same_word (codes "solprint") word.text then record s { solprint = switch_set s.solprint set } else
      if is_same_word (codes "lp") word.text then record s { solver = solver_set solvers s.solver set } else
      s

  -- the settings after these options, in order
  abbrev pub after_options : Settings → List (Word × Setting F) → Settings
  after_options settings options = fold after_option settings options
