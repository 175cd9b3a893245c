-- Steps on forms with the faults of a run.
use Rattle.std.proofs.Common.{◌≡◌, ◌≢◌, ℕ, pos, Bool, true, false, ◌==◌, if◌then◌else◌, length, Option, Result, Err, sym, ap, ◌∙◌, subst}
use Rattle.gms_labels.specs.declared.place.Place.{Place}
use Rattle.gq_number.specs.Number.{Number, whole}
use Rattle.gq_extended.specs.Extended.{Extended, number}
use Rattle.gms_eval.specs.declared.stop.StopKind.TheVariants.{Limit, Divide}
use Rattle.gms_eval.specs.declared.stop.ExecStopOrMemory.{ExecStopOrMemory}
use Rattle.gms_eval.specs.Bindings.{Pairs}
use Rattle.gms_eval.specs.Faults.{faulted}
use Rattle.gms_eval.specs.Gives.{ShowsStop}
use Rattle.gms_eval.proofs.Marks.{stops-shown}
use Rattle.lp_form.specs.declared.key.Key.{Key}
use Rattle.lp_form.specs.declared.fault.FormFault.{FormFault}
use Rattle.lp_form.specs.declared.fault.FormFault.TheVariants as fault
use Rattle.lp_form.specs.Affine.{Affine, IsForm}
use Rattle.lp_form.specs.Sums.{IsUnchangedByFault}
use Rattle.gms_rows.specs.Forms.{Form, form_in, number_in_form, is_number, is_not_zero, where_fits, scaled_form, multiple, product_of_forms, quotient_of}
use Rattle.gms_rows.specs.InnerContracts.{Told, ShowsFault}
use Rattle.gms_rows.proofs.ColumnKeys.{keys-form}
use Rattle.gms_rows.proofs.Entries.{not_zero-true, not_zero-zero}

module _ {F : Type 0} (v : F → Number) (at : Place) (b : Pairs) (left right : Option Key → Extended) where
  -- a fault of the steps is the stop that shows it
  pub stops-told : (fault : FormFault) (stop : ExecStopOrMemory F) (steps : Result Form (Option Key)) → Told v (Err fault) steps → ShowsFault v at b left right fault stop → ShowsStop v stop (where_fits at b left right steps)
  stops-told (fault.Limit key) stop steps told shows =
      stops-shown v stop (faulted Limit at b (left key) (right key)) (where_fits at b left right steps) (ap (where_fits at b left right) told) shows
  stops-told fault.Memory stop steps told shows =
      subst (λ s. ShowsStop v s (where_fits at b left right steps)) (sym shows) tt

module _ (limit : ℕ) (at : Place) (b : Pairs) (form : Form) where
  -- a form over 0, and over another number
  over_number : (x : Number) (some : Bool) → is_not_zero x ≡ some → quotient_of limit at b form x ≡ (if some then scaled_form limit at b true form x else Err (faulted Divide at b (number form.constant) (number x)))
  over_number x some is =
      ap (λ other. if other then scaled_form limit at b true form x else Err (faulted Divide at b (number form.constant) (number x))) is

  pub over-zero : (x : Number) → x ≡ whole (pos 0) → quotient_of limit at b form x ≡ Err (faulted Divide at b (number form.constant) (number x))
  over-zero x is = over_number x false (ap is_not_zero is ∙ not_zero-zero)

  pub over-some : (x : Number) → x ≢ whole (pos 0) → quotient_of limit at b form x ≡ scaled_form limit at b true form x
  over-some x some = over_number x true (not_zero-true x some)

module _ {F : Type 0} (v : F → Number) (limit : ℕ) (at : Place) (b : Pairs) (a form : Affine F) (is : IsForm v form) where
  -- a form is a number where it has no keys
  number-is : (so : Bool) → (length form.keys == 0) ≡ so → is_number (form_in v form) ≡ so
  number-is so none = ap (λ keys. length keys == 0) (keys-form v form is) ∙ none

  -- the product with a number, and that of a number with another form
  pub times-number : (length form.keys == 0) ≡ true → product_of_forms limit at b (form_in v a) (form_in v form) ≡ scaled_form limit at b false (form_in v a) (v form.constant)
  times-number none =
      ap (λ n. if n then scaled_form limit at b false (form_in v a) (v form.constant) else multiple limit at b (v a.constant) (form_in v form)) (number-is true none)

  pub number-times : (length form.keys == 0) ≡ false → product_of_forms limit at b (form_in v a) (form_in v form) ≡ multiple limit at b (v a.constant) (form_in v form)
  number-times some =
      ap (λ n. if n then scaled_form limit at b false (form_in v a) (v form.constant) else multiple limit at b (v a.constant) (form_in v form)) (number-is false some)

module _ {F : Type 0} (v : F → Number) (at : Place) (b : Pairs) (right : Option Key → Extended) where
  -- a sum that is kept after a fault of a step shows the same fault
  pub shows-kept : (before now : Affine F) (fault : FormFault) (stop : ExecStopOrMemory F) → IsUnchangedByFault before now fault → ShowsFault v at b (number_in_form (form_in v now)) right fault stop → ShowsFault v at b (number_in_form (form_in v before)) right fault stop
  shows-kept before now (fault.Limit key) stop kept shows =
      subst (λ a. ShowsFault v at b (number_in_form (form_in v a)) right (fault.Limit key) stop) kept shows
  shows-kept before now fault.Memory stop kept shows = shows
