-- The two tests are those of what fits.
use Rattle.std.proofs.Common.{◌≡◌, ◌∙◌, ◌-◌, ◌^◌, ap, sym, refl, arith, false}
use Rattle.gq_frac.specs.Frac.{frac_value}
use Rattle.std.proofs.Common.{true≢false}
use Rattle.gq_field.specs.Fits.{fits}
use Rattle.gq_field.proofs.Fractions.{fits_yes, too_high, too_low, fraction_shows}
use Rattle.gq_frac.proofs.widths.narrow.Goals as goal
use Rattle.gq_frac.proofs.widths.narrow.Goals.{else-fraction-limit-via-then-fraction-limit+else-fraction-limit-2, else-fraction-limit-via-else-fraction-limit}

pub narrowed-requires : goal.narrowed-requires
narrowed-requires c = fits_yes (2 ^ 63 - 1) (fraction_shows c.widened-fraction.result) (omega arith) (omega arith)

pub returns-then-fraction-limit-2-clause-fits : goal.returns-then-fraction-limit-2-clause-fits
returns-then-fraction-limit-2-clause-fits c =
    (λ _. ap (fits (2 ^ 63 - 1)) (sym c.widened-fraction.ensures) ∙ fits_yes (2 ^ 63 - 1) (fraction_shows c.widened-fraction.result) (omega arith) (omega arith), λ _. refl)

pub returns-else-fraction-limit-clause-fits : goal.returns-else-fraction-limit-clause-fits
returns-else-fraction-limit-clause-fits c =
    let same = ap (fits (2 ^ 63 - 1)) (sym c.widened-fraction.ensures) in
    let shown = fraction_shows c.widened-fraction.result in
    let over : fits (2 ^ 63 - 1) (frac_value c.args.f) ≡ false =
    elim c.else-fraction-limit.branch [
      | else-fraction-limit-via-then-fraction-limit+else-fraction-limit-2 w ↦ same ∙ too_low (2 ^ 63 - 1) shown (omega arith)
      | else-fraction-limit-via-else-fraction-limit w ↦ same ∙ too_high (2 ^ 63 - 1) shown (omega arith)
    ] in
    (λ e. absurd (true≢false (sym e)), λ e. absurd (true≢false (sym e ∙ over)))
