use Rattle.std.proofs.Common.{◌≡◌, ◌∙◌, ap, refl, true, map, [], ◌∷◌}
use Rattle.gms_check.specs.InnerChecking.{faulted, first_fault, known_of, seen}
use Rattle.gms_labels.specs.declared.place.Place.{Place}
use Rattle.gms_set.specs.declared.fault.SetError.{SetError}
use Rattle.gms_set.specs.declared.fault.SetError.TheVariants.{BadRange, Repeated, Outside, Full}
use Rattle.gms_check.specs.CompileErrors.{checked_kinds, has_error}
use Rattle.gms_check.specs.InnerFaults.{kind_of_fault}
use Rattle.gms_check.specs.Past.{Known}
use Rattle.gms_check.specs.Uses.{failing}
use Rattle.gms_check.proofs.Noting.{noted-by}
use Rattle.gms_check.proofs.checker.Checker.data_fault.Goals as goal

-- the error of an error of data
one : {F : Type 0} (known : Known F) (at : Place) (error : SetError) → first_fault at ((true, kind_of_fault error) ∷ []) ≡ first_fault at (map (λ kind. (has_error known (failing error) kind, kind)) checked_kinds)
one known at BadRange = refl
one known at Repeated = refl
one known at Outside = refl
one known at Full = refl

pub returns : goal.returns
returns g c =
    let s = seen c.args.self.now in
    noted-by g.F.ExactField.value s _ c.args.fault.at (failing c.args.fault.error) ((true, kind_of_fault c.args.fault.error) ∷ []) (one (known_of g.F.ExactField.value s) c.args.fault.at c.args.fault.error)
    (c.report.ensures ∙ ap (λ kind. faulted s c.args.fault.at ((true, kind) ∷ [])) c.kind_of_fault.ensures)
