-- The numbers of the faults of reading a number.
use Rattle.std.specs.Prelude.{ℕ}
use Rattle.gq_text.specs.declared.fault.NumberFault.{NumberFault}
use Rattle.gq_text.specs.declared.fault.NumberFault.TheVariants.{Shape, Limit}

-- the code of a fault of reading a number: 1 if the text means no number, 2 if it means a number
-- that does not fit under the limit as a literal (`FitsLiteral`)
abbrev pub fault_code : NumberFault → ℕ
fault_code Shape = 1
fault_code Limit = 2
