-- A check in progress: what is known, the sets that are controlled, and the first error so far.
use Rattle.std.specs.Prelude.{ℕ, Bool, true, false, List, [], ◌∷◌, ◌++◌, Option, Some, None}
use Rattle.gq_number.specs.Number.{Number}
use Rattle.gms_labels.specs.declared.place.Place.{Place}
use Rattle.gms_scope.specs.Entries.{above_of}
use Rattle.gms_scope.specs.Facts.{Facts, marked, names}
use Rattle.gms_check.specs.declared.checker.Checker.{Checker}
use Rattle.gms_check.specs.declared.error.ErrorKind.{ErrorKind}
use Rattle.gms_check.specs.declared.error.CompileError.{CompileError}
use Rattle.gms_check.specs.Errors.{first_error, sooner}
use Rattle.gms_check.specs.Uses.{Uses}
use Rattle.gms_check.specs.Past.{Known}
use Rattle.gms_check.specs.CompileErrors.{errors_of}

-- A check in progress.
pub record Checking : Type 0 where
  -- what is known
  pub facts : Facts
  -- the names of the solvers
  pub solvers : List (List ℕ)
  -- the sets that are controlled
  pub controlled : List ℕ
  -- the first error of the statement so far
  pub first : Option CompileError

-- an error, if there is one
abbrev pub error_if : Bool → ErrorKind → Place → Option CompileError
error_if true kind at = Some (record { kind = kind; at = at })
error_if false kind at = None

-- the first of some possible errors at one place, each with whether it occurs
abbrev pub first_fault : Place → List (Bool × ErrorKind) → Option CompileError
first_fault at [] = None
first_fault at (fault ∷ faults) = sooner (error_if fault.0 fault.1 at) (first_fault at faults)

-- a check after it found the first of some possible errors at a place, or none
abbrev pub faulted : Checking → Place → List (Bool × ErrorKind) → Checking
faulted c at faults = record c { first = sooner c.first (first_fault at faults) }

-- a check with more sets controlled
abbrev pub with_controlled : Checking → List ℕ → Checking
with_controlled c sets = record c { controlled = c.controlled ++ sets }

-- a check with exactly these sets controlled
abbrev pub with_sets : Checking → List ℕ → Checking
with_sets c sets = record c { controlled = sets }

-- a check with other facts
abbrev pub with_facts : Checking → Facts → Checking
with_facts c facts = record c { facts = facts }

module _ {F : Type 0} where
  -- the view of a check
  abbrev pub seen : Checker F → Checking
  seen c = record { facts = c.known; solvers = c.solvers.now; controlled = c.controlled; first = c.first }

module _ {F : Type 0} (value : F → Number) where
  -- what is known, with solvers of these names
  abbrev pub known_by : List (List ℕ) → Facts → Known F
  known_by solvers facts =
      record { value = value; state = facts.state; declared = names facts; above = above_of facts.declared; assigned = marked facts.dynamic; unordered = marked facts.unordered; defined = marked facts.defined; models = facts.models; solvers = solvers }

  -- what a check knows
  abbrev pub known_of : Checking → Known F
  known_of c = known_by c.solvers c.facts

  -- a check after these uses
  abbrev pub noted : Checking → Uses F → Checking
  noted c uses = record c { first = sooner c.first (first_error (errors_of (known_of c) uses)) }
