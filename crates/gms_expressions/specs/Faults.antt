-- Syntax errors, their numbers and names (GAMS User's Guide, "GAMS Output", compilation errors).
use Rattle.std.specs.Prelude.{ℕ, List, codes}
use Rattle.gms_labels.specs.declared.place.Place.{Place}
use Rattle.gms_labels.specs.declared.fault.LabelFault.{LabelFault}
use Rattle.gms_labels.specs.declared.fault.LabelFault.TheVariants as label_fault
use Rattle.gms_expressions.specs.declared.fault.SyntaxError.{SyntaxError}
use Rattle.gms_expressions.specs.declared.fault.SyntaxError.TheVariants.{Expected, Depth, Number, NotInProfile, TooManyLabels}
use Rattle.gms_expressions.specs.declared.fault.SyntaxFaultOrMemory.{SyntaxFaultOrMemory}
use Rattle.gms_expressions.specs.declared.fault.SyntaxFaultOrMemory.TheVariants.{Fault, Memory}

-- the number of a syntax error in a listing. `Number` is the error of a number out of range
abbrev pub syntax_error_code : SyntaxError → ℕ
syntax_error_code Expected = 11
syntax_error_code Depth = 12
syntax_error_code Number = 13
syntax_error_code NotInProfile = 14
syntax_error_code TooManyLabels = 15

-- the name of a syntax error in a listing
abbrev pub syntax_error_name : SyntaxError → List ℕ
syntax_error_name Expected = codes "Expected"
syntax_error_name Depth = codes "Depth"
syntax_error_name Number = codes "Number"
syntax_error_name NotInProfile = codes "NotInProfile"
syntax_error_name TooManyLabels = codes "TooManyLabels"

-- the result in place of a part if the name or label at this place could not be entered in its
-- table: TooManyLabels at the place if the table is full, or out of memory
abbrev pub not_entered : LabelFault → Place → SyntaxFaultOrMemory
not_entered label_fault.Full at = Fault (record { error = TooManyLabels; at = at })
not_entered label_fault.Memory at = Memory
