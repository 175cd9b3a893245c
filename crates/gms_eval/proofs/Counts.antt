-- A count, where it fits and where it does not.
use Rattle.std.proofs.Common.{◌≡◌, ℕ, ℤ, pos, true, false, Ok, Err, sym, ap, ◌∙◌}
use Rattle.gms_labels.specs.declared.place.Place.{Place}
use Rattle.gq_number.specs.Number.{Number, whole, ratio}
use Rattle.gq_number.proofs.Naming.{ratio-one}
use Rattle.gq_field.specs.Fits.{fits}
use Rattle.gq_extended.specs.Extended.{number, number_if}
use Rattle.gms_eval.specs.Nodes.{count_value}
use Rattle.gms_eval.specs.Bindings.{Pairs}
use Rattle.gms_eval.specs.Faults.{nothing, faulted, taken}
use Rattle.gms_eval.specs.declared.stop.StopKind.TheVariants.{Limit}

module _ (limit n : ℕ) (b : Pairs) (at : Place) (z : ℤ) (e : z ≡ pos n) where
  one_over : ratio z 1 ≡ whole (pos n)
  one_over = ap (λ k. ratio k 1) e ∙ ratio-one (pos n)

  pub counted-fits : (x : Number) → fits limit (ratio z 1) ≡ true → x ≡ ratio z 1 → count_value limit b at n ≡ Ok (number x)
  counted-fits x f is =
      ap (λ t. taken at b nothing nothing (number_if t (whole (pos n)))) (ap (fits limit) (sym one_over) ∙ f)
      ∙ ap (λ y. Ok (number y)) (sym (is ∙ one_over))

  pub counted-over : fits limit (ratio z 1) ≡ false → count_value limit b at n ≡ Err (faulted Limit at b nothing nothing)
  counted-over f =
      ap (λ t. taken at b nothing nothing (number_if t (whole (pos n)))) (ap (fits limit) (sym one_over) ∙ f)
