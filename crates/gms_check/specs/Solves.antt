-- What a solve requires of its model, of the word after `using` and of its objective, and which
-- options and definitions are wrong (GAMS User's Guide, "Equations"; "Model and Solve Statements";
-- "The Option Statement").
use Rattle.std.specs.Prelude.{Bool, true, false, not, ◌&&◌, codes}
use Rattle.std.specs.List.{list_any}
use Rattle.std.specs.Str.{str_eq_ignore_ascii_case}
use Rattle.gms_store.specs.State.{symbol_at}
use Rattle.gms_set.specs.declared.fault.SetError.TheVariants.{BadRange, Repeated, Full}
use Rattle.gms_check.specs.Uses.{Use, defining, solving, method, optimizing, option_value, failing}
use Rattle.gms_check.specs.Past.{Known}
use Rattle.gms_store.specs.Declarations.{is_free}
use Rattle.gms_scope.specs.Names.{is_model, declared_kind, positions}
use Rattle.gms_scope.specs.Facts.{declared_equations}
use Rattle.gms_check.specs.Kinds.{is_without_positions}
use Rattle.gms_check.specs.OptionWords.{is_none_of, is_in_range}

module _ {F : Type 0} where
  -- ModelType: the word after `using` is not lp
  abbrev pub model_type : Known F → Use F → Bool
  model_type known (method word) = not (str_eq_ignore_ascii_case word (codes "lp"))
  model_type known used = false

  -- NotDefined: the solved model has an equation that no statement before the solve defines
  abbrev pub not_defined : Known F → Use F → Bool
  not_defined known (solving name) =
      is_model (declared_kind known.state name) && list_any (λ equation. not (known.defined equation)) (declared_equations known.models name)
  not_defined known used = false

  -- DefinedTwice: an equation is defined that a statement before defines
  abbrev pub defined_twice : Known F → Use F → Bool
  defined_twice known (defining name indices) = known.defined name
  defined_twice known used = false

  -- Objective: the variable that is minimized or maximized is not free, or is indexed
  abbrev pub objective : Known F → Use F → Bool
  objective known (optimizing name) =
      not (is_free (symbol_at known.state name).content && is_without_positions (positions known.state name))
  objective known used = false

  -- UnknownSolver: `option lp` has a word that names none of the solvers
  abbrev pub unknown_solver : Known F → Use F → Bool
  unknown_solver known (option_value word setting) = str_eq_ignore_ascii_case word (codes "lp") && is_none_of known.solvers setting
  unknown_solver known used = false

  -- OptionRange: an option is set to a value that it does not admit
  abbrev pub option_range : Known F → Use F → Bool
  option_range known (option_value word setting) = not (is_in_range known.value word setting)
  option_range known used = false

  -- DataFault: a list of data has a range whose two labels make no range (`BadRange`), an element
  -- twice (`Repeated`), or more elements than a list may have (`Full`)
  abbrev pub data_fault : Known F → Use F → Bool
  data_fault known (failing BadRange) = true
  data_fault known (failing Repeated) = true
  data_fault known (failing Full) = true
  data_fault known used = false
