-- Which option a word is, and what an option may be set to (GAMS User's Guide, "The Option
-- Statement").
use Rattle.std.specs.Prelude.{ℕ, Bool, true, false, List, codes, if◌then◌else◌}
use Rattle.std.specs.Str.{str_eq_ignore_ascii_case}
use Rattle.gq_number.specs.Number.{Number}
use Rattle.gms_ast.specs.declared.program.Setting.{Setting}
use Rattle.gms_check.specs.declared.option.OptionWord.{OptionWord}
use Rattle.gms_check.specs.declared.option.OptionWord.TheVariants.{Count, Decimals, Switch, Solver, Ignored, Unknown}
use Rattle.gms_check.specs.OptionWords.{counts, ignored, is_count_up_to, is_one_of, is_switch, is_worded}

-- the option that a word is
abbrev pub kind_of_word : List ℕ → OptionWord
kind_of_word word =
    if is_one_of counts word then Count else if str_eq_ignore_ascii_case word (codes "decimals") then Decimals else if str_eq_ignore_ascii_case word (codes "solprint") then Switch else if str_eq_ignore_ascii_case word (codes "lp") then Solver else if is_one_of ignored word then Ignored else Unknown

-- whether a word is that of an option
abbrev pub is_known_option : OptionWord → Bool
is_known_option Unknown = false
is_known_option option = true

-- whether an option names a solver
abbrev pub names_solver : OptionWord → Bool
names_solver Solver = true
names_solver option = false

module _ {F : Type 0} (value : F → Number) where
  -- whether an option is set to an admitted value
  abbrev pub is_within : OptionWord → Setting F → Bool
  is_within Count setting = is_count_up_to value 2147483647 setting
  is_within Decimals setting = is_count_up_to value 8 setting
  is_within Switch setting = is_switch setting
  is_within Solver setting = is_worded setting
  is_within Ignored setting = true
  is_within Unknown setting = true
