-- Why an execution stops (GAMS User's Guide, "GAMS Output", execution errors). Their kinds and
-- numbers are this project's own.
use Rattle.std.specs.Prelude.{ℕ, List, Result, Ok, Err, codes, pos}
use Rattle.gms_labels.specs.declared.place.Place.{Place}
use Rattle.gq_number.specs.Number.{whole}
use Rattle.gq_extended.specs.Extended.{Extended, number, Outcome}
use Rattle.gq_extended.specs.declared.fault.ExtendedFault.{ExtendedFault}
use Rattle.gq_extended.specs.declared.fault.ExtendedFault.TheVariants as step
use Rattle.gms_eval.specs.Bindings.{Pairs}
use Rattle.gms_eval.specs.declared.stop.StopKind.{StopKind}
use Rattle.gms_eval.specs.declared.stop.StopKind.TheVariants.{Limit, Divide, LagNotWhole, EmptyExtreme, Exponent, DomainSize, TooManyRows, TooManyColumns, NoSolver, Aborted, Undefined}

-- ---- kinds

-- the number of a kind of fault
abbrev pub stop_code : StopKind → ℕ
stop_code Limit = 1
stop_code Divide = 2
stop_code LagNotWhole = 3
stop_code EmptyExtreme = 4
stop_code Exponent = 5
stop_code DomainSize = 7
stop_code TooManyRows = 8
stop_code TooManyColumns = 9
stop_code NoSolver = 10
stop_code Aborted = 11
stop_code Undefined = 12

-- the name of a kind of fault
abbrev pub stop_name : StopKind → List ℕ
stop_name Limit = codes "Limit"
stop_name Divide = codes "Divide"
stop_name LagNotWhole = codes "LagNotWhole"
stop_name EmptyExtreme = codes "EmptyExtreme"
stop_name Exponent = codes "Exponent"
stop_name DomainSize = codes "DomainSize"
stop_name TooManyRows = codes "TooManyRows"
stop_name TooManyColumns = codes "TooManyColumns"
stop_name NoSolver = codes "NoSolver"
stop_name Aborted = codes "Aborted"
stop_name Undefined = codes "Undefined"

-- the kind of the fault of an expression, from that of an operation on extended numbers
abbrev pub kind_of_step : ExtendedFault → StopKind
kind_of_step step.Limit = Limit
kind_of_step step.Divide = Divide
kind_of_step step.Undefined = Undefined
kind_of_step step.Exponent = Exponent

-- ---- faults

-- A fault of an operation: its kind, its place in the source, the labels that the controlled sets
-- have there, the operands (0 for a missing one), and the count: the number of elements, rows or
-- columns if the kind is DomainSize, TooManyRows or TooManyColumns, otherwise 0.
pub record Fault : Type 0 where
  pub kind : StopKind
  pub at : Place
  pub binding : Pairs
  pub left : Extended
  pub right : Extended
  pub count : ℕ

-- 0, for a missing operand and for an entry without data
abbrev pub nothing : Extended
nothing = number (whole (pos 0))

-- the fault of this kind, at a place and under a binding, of an operation on these operands; its
-- count is 0
abbrev pub faulted : StopKind → Place → Pairs → Extended → Extended → Fault
faulted kind at binding left right =
    record { kind = kind; at = at; binding = binding; left = left; right = right; count = 0 }

-- ---- answers

-- the result of an evaluation: a value, or its first fault
abbrev pub Answer : Type 0 → Type 0
Answer A = Result A Fault

infixl 10 ◌and_then◌
-- the answer of `next` for the value of an answer; a fault stays
abbrev pub ◌and_then◌ : {A B : Type 0} → Answer A → (A → Answer B) → Answer B
(Ok x) and_then next = next x
(Err fault) and_then next = Err fault

-- the answer of an operation with this outcome: its value, or its fault at this place, with the
-- binding and the operands
abbrev pub taken : Place → Pairs → Extended → Extended → Outcome → Answer Extended
taken at binding left right (Ok x) = Ok x
taken at binding left right (Err fault) = Err (faulted (kind_of_step fault) at binding left right)
