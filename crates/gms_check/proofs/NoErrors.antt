-- Parts without errors.
use Rattle.gms_check.proofs.Faultless.{none-left, none-right}
use Rattle.std.proofs.Common.{◌≡◌, Bool, true, false, List, [], ◌∷◌, ◌++◌, map, refl, if◌then◌else◌}
use Rattle.std.specs.Prelude.{filter}
use Rattle.gms_labels.specs.declared.place.Place.{Place}
use Rattle.gms_check.specs.declared.error.ErrorKind.{ErrorKind}
use Rattle.gms_check.specs.declared.error.ErrorKind.TheVariants.{UnknownName, Redeclared, WrongKind, WrongArity, DomainOfSet, DomainOfLabel, Uncontrolled, ControlledTwice, NotOrdered, DynamicDomain, Nonlinear, Discrete, ModelType, NotDefined, DefinedTwice, Objective, UnknownSolver, OptionRange, Endogenous, Function, DataFault, Restart}
use Rattle.gms_check.specs.declared.error.CompileError.{CompileError}
use Rattle.gms_check.specs.CompileErrors.{checked_kinds, errors_at, errors_of, has_error}
use Rattle.gms_check.specs.Past.{Known}
use Rattle.gms_check.specs.Uses.{Use, Uses}

abbrev AllFail : (ErrorKind → Bool) → List ErrorKind → Type 0
AllFail test [] = Unit {0}
AllFail test (kind ∷ kinds) = (test kind ≡ false) × AllFail test kinds

all-fail : (at : Place) (test : ErrorKind → Bool) (kinds : List ErrorKind) → map {B = CompileError} (λ (kind : ErrorKind). record { kind = kind; at = at }) (filter test kinds) ≡ [] → AllFail test kinds
all-fail at test [] e = tt
all-fail at test (kind ∷ kinds) e = by (test kind) refl e (all-fail at test kinds)
  where
    by : (b : Bool) → test kind ≡ b → map {B = CompileError} (λ (kind : ErrorKind). record { kind = kind; at = at }) (if b then kind ∷ filter test kinds else filter test kinds) ≡ [] → (map {B = CompileError} (λ (kind : ErrorKind). record { kind = kind; at = at }) (filter test kinds) ≡ [] → AllFail test kinds) → (test kind ≡ false) × AllFail test kinds
    by true q e rest = absurd cc
    by false q e rest = (q, rest e)

each-fails : (test : ErrorKind → Bool) → AllFail test checked_kinds → test Restart ≡ false → (kind : ErrorKind) → test kind ≡ false
each-fails test h r UnknownName = h.0
each-fails test h r Redeclared = h.1.0
each-fails test h r WrongKind = h.1.1.0
each-fails test h r WrongArity = h.1.1.1.0
each-fails test h r DomainOfSet = h.1.1.1.1.0
each-fails test h r DomainOfLabel = h.1.1.1.1.1.0
each-fails test h r Uncontrolled = h.1.1.1.1.1.1.0
each-fails test h r ControlledTwice = h.1.1.1.1.1.1.1.0
each-fails test h r NotOrdered = h.1.1.1.1.1.1.1.1.0
each-fails test h r DynamicDomain = h.1.1.1.1.1.1.1.1.1.0
each-fails test h r Nonlinear = h.1.1.1.1.1.1.1.1.1.1.0
each-fails test h r Discrete = h.1.1.1.1.1.1.1.1.1.1.1.0
each-fails test h r ModelType = h.1.1.1.1.1.1.1.1.1.1.1.1.0
each-fails test h r NotDefined = h.1.1.1.1.1.1.1.1.1.1.1.1.1.0
each-fails test h r DefinedTwice = h.1.1.1.1.1.1.1.1.1.1.1.1.1.1.0
each-fails test h r Objective = h.1.1.1.1.1.1.1.1.1.1.1.1.1.1.1.0
each-fails test h r UnknownSolver = h.1.1.1.1.1.1.1.1.1.1.1.1.1.1.1.1.0
each-fails test h r OptionRange = h.1.1.1.1.1.1.1.1.1.1.1.1.1.1.1.1.1.0
each-fails test h r Endogenous = h.1.1.1.1.1.1.1.1.1.1.1.1.1.1.1.1.1.1.0
each-fails test h r Function = h.1.1.1.1.1.1.1.1.1.1.1.1.1.1.1.1.1.1.1.0
each-fails test h r DataFault = h.1.1.1.1.1.1.1.1.1.1.1.1.1.1.1.1.1.1.1.1.0
each-fails test h r Restart = r

module _ {F : Type 0} where
  -- a part without errors
  abbrev pub IsClean : Known F → Use F → Type 0
  IsClean known used = (kind : ErrorKind) → has_error known used kind ≡ false

  -- the same of parts
  abbrev pub AreClean : Known F → Uses F → Type 0
  AreClean known [] = Unit {0}
  AreClean known (u ∷ uses) = IsClean known u.1 × AreClean known uses

  clean-one : (known : Known F) (at : Place) (used : Use F) → errors_at known (at, used) ≡ [] → IsClean known used
  clean-one known at used e = each-fails (has_error known used) (all-fail at (has_error known used) checked_kinds e) refl

  pub are-clean : (known : Known F) (uses : Uses F) → errors_of known uses ≡ [] → AreClean known uses
  are-clean known [] e = tt
  are-clean known (u ∷ uses) e =
      (clean-one known u.0 u.1 (none-left (errors_at known u) (errors_of known uses) e), are-clean known uses (none-right (errors_at known u) (errors_of known uses) e))

  pub clean-left : (known : Known F) (xs ys : Uses F) → AreClean known (xs ++ ys) → AreClean known xs
  clean-left known [] ys c = tt
  clean-left known (x ∷ xs) ys c = (c.0, clean-left known xs ys c.1)

  pub clean-right : (known : Known F) (xs ys : Uses F) → AreClean known (xs ++ ys) → AreClean known ys
  clean-right known [] ys c = c
  clean-right known (x ∷ xs) ys c = clean-right known xs ys c.1
