-- The numbers and names of compile errors, and which of two comes first.
use Rattle.std.specs.Prelude.{ℕ, Bool, ◌&&◌, ◌||◌, ◌==◌, nat_lt, List, [], ◌∷◌, Option, Some, None, codes, if◌then◌else◌}
use Rattle.gms_labels.specs.declared.place.Place.{Place}
use Rattle.gms_check.specs.declared.error.ErrorKind.{ErrorKind}
use Rattle.gms_check.specs.declared.error.ErrorKind.TheVariants.{UnknownName, Redeclared, WrongKind, WrongArity, DomainOfSet, DomainOfLabel, Uncontrolled, ControlledTwice, NotOrdered, DynamicDomain, Nonlinear, Discrete, ModelType, NotDefined, DefinedTwice, Objective, UnknownSolver, OptionRange, Endogenous, Function, DataFault, Restart}
use Rattle.gms_check.specs.declared.error.CompileError.{CompileError}

-- the number of a compile error
abbrev pub error_code : ErrorKind → ℕ
error_code UnknownName = 1
error_code Redeclared = 2
error_code WrongKind = 3
error_code WrongArity = 4
error_code DomainOfSet = 5
error_code DomainOfLabel = 6
error_code Uncontrolled = 7
error_code ControlledTwice = 8
error_code NotOrdered = 9
error_code DynamicDomain = 10
error_code Nonlinear = 11
error_code Discrete = 12
error_code ModelType = 13
error_code NotDefined = 14
error_code DefinedTwice = 15
error_code Objective = 16
error_code UnknownSolver = 17
error_code OptionRange = 18
error_code Endogenous = 19
error_code Function = 20
error_code DataFault = 21
error_code Restart = 22

-- the name of a compile error
abbrev pub error_name : ErrorKind → List ℕ
error_name UnknownName = codes "UnknownName"
error_name Redeclared = codes "Redeclared"
error_name WrongKind = codes "WrongKind"
error_name WrongArity = codes "WrongArity"
error_name DomainOfSet = codes "DomainOfSet"
error_name DomainOfLabel = codes "DomainOfLabel"
error_name Uncontrolled = codes "Uncontrolled"
error_name ControlledTwice = codes "ControlledTwice"
error_name NotOrdered = codes "NotOrdered"
error_name DynamicDomain = codes "DynamicDomain"
error_name Nonlinear = codes "Nonlinear"
error_name Discrete = codes "Discrete"
error_name ModelType = codes "ModelType"
error_name NotDefined = codes "NotDefined"
error_name DefinedTwice = codes "DefinedTwice"
error_name Objective = codes "Objective"
error_name UnknownSolver = codes "UnknownSolver"
error_name OptionRange = codes "OptionRange"
error_name Endogenous = codes "Endogenous"
error_name Function = codes "Function"
error_name DataFault = codes "DataFault"
error_name Restart = codes "Restart"

-- whether the place `a` comes before the place `b` in the source
abbrev pub precedes : Place → Place → Bool
precedes a b = nat_lt a.line b.line || a.line == b.line && nat_lt a.column b.column

-- whether two places are equal
abbrev pub same_place : Place → Place → Bool
same_place a b = a.line == b.line && a.column == b.column

-- whether the error `a` comes before the error `b`: by its place, and at one place by its number
abbrev pub comes_first : CompileError → CompileError → Bool
comes_first a b = precedes a.at b.at || same_place a.at b.at && nat_lt (error_code a.kind) (error_code b.kind)

-- `error`, or `other` if there is one and it comes before `error`
abbrev pub earlier : CompileError → Option CompileError → CompileError
earlier error None = error
earlier error (Some other) = if comes_first other error then other else error

-- the one of two errors that comes first, by its place, and at one place by its number; None if
-- there is neither
abbrev pub sooner : Option CompileError → Option CompileError → Option CompileError
sooner None other = other
sooner (Some error) other = Some (earlier error other)

-- the error of the list that comes first: by its place, and at one place by its number; None if the
-- list is empty
abbrev pub first_error : List CompileError → Option CompileError
first_error [] = None
first_error (error ∷ errors) = Some (earlier error (first_error errors))
