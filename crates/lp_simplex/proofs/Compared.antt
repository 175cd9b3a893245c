-- Whether a number is 0, by a comparison.
use Rattle.std.proofs.Common.{◌≡◌, Bool, true, pos, refl, sym, ap, ◌∙◌}
use Rattle.std.specs.Prelude.{◌↔◌, IsTrue}
use Rattle.std.specs.declared.cmp.Ordering.{Ordering}
use Rattle.std.specs.declared.cmp.Ordering.TheVariants.{Less, Equal, Greater}
use Rattle.std.specs.Ordering.{is_eq}
use Rattle.gq_number.specs.Number.{Number, whole}
use Rattle.gq_number.specs.Order.{number_cmp}
use Rattle.gq_number.proofs.Compares.{number_cmp_decides}

equal_is : (r : Ordering) → is_eq r ≡ true → r ≡ Equal
equal_is Less h = absurd (cc)
equal_is Equal h = refl
equal_is Greater h = absurd (cc)

pub zero_by_cmp : (x z : Number) (r : Ordering) (b : Bool) → z ≡ whole (pos 0) → r ≡ number_cmp x z → b ≡ is_eq r → IsTrue b ↔ (x ≡ whole (pos 0))
zero_by_cmp x z r b none is told =
    let same : r ≡ number_cmp x (whole (pos 0)) = is ∙ ap (number_cmp x) none in
    let decides = (number_cmp_decides x (whole (pos 0))).1 in
    (λ t. decides.0 (sym same ∙ equal_is r (sym told ∙ t)), λ zero. told ∙ ap is_eq (same ∙ decides.1 zero))
