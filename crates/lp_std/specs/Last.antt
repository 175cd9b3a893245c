-- What is read from a final dictionary (Chvatal, Linear Programming, chapters 2, 3 and 8).
use Rattle.std.specs.Prelude.{map}
use Rattle.gq_number.specs.Number.{Number}
use Rattle.lp_core.specs.StandardForm as form
use Rattle.lp_core.specs.Dictionary.{Dictionary}
use Rattle.lp_std.specs.declared.types.Standard.{Standard}
use Rattle.lp_std.specs.declared.types.Final.{Final}
use Rattle.lp_std.specs.Meaning.{standard_value}
-- passed on: dictionaries of a standard form, and what is read from one at which a search ends
pub use Rattle.lp_core.specs.Dictionary.{HasZero, IsDictionaryOf}
pub use Rattle.lp_core.specs.Ends.{IsReadAt}

-- what is read from a final dictionary, each as the number that it means: the variables' values;
-- their coefficients in the objective or, if the program is infeasible, in the row of variable 0;
-- and their changes along a ray
abbrev pub last_value : {F : Type 0} → (F → Number) → Final F → form.Last
last_value value final = record { values = map value final.values; costs = map value final.costs; changes = map value final.ray }

module _ {F : Type 0} (value : F → Number) where
  -- for some dictionary of the standard form s, a search in which each improving variable may enter
  -- may end there with the kind that `final` has, and `final` has what is read from this
  -- dictionary: the variables' values, coefficients and changes along a ray
  abbrev pub IsLast : Standard F → Final F → Type 0
  IsLast s final = (d : Dictionary) × IsDictionaryOf (standard_value value s) d × IsReadAt d final.kind (last_value value final)
