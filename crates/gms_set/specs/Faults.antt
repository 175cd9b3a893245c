-- The numbers and names of the errors of data lists.
use Rattle.std.specs.Prelude.{ℕ, List, codes}
use Rattle.gms_set.specs.declared.fault.SetError.{SetError}
use Rattle.gms_set.specs.declared.fault.SetError.TheVariants.{BadRange, Repeated, Outside, Full}

-- the number of an error of a data list
abbrev pub set_error_code : SetError → ℕ
set_error_code BadRange = 1
set_error_code Repeated = 2
set_error_code Outside = 3
set_error_code Full = 4

-- the name of an error of a data list
abbrev pub set_error_name : SetError → List ℕ
set_error_name BadRange = codes "BadRange"
set_error_name Repeated = codes "Repeated"
set_error_name Outside = codes "Outside"
set_error_name Full = codes "Full"
