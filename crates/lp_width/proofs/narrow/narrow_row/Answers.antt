use Rattle.std.proofs.Common.{◌≡◌, ◌-◌, ◌^◌, true, ℕ, List, sym, subst}
use Rattle.std.specs.List.{All}
use Rattle.gq_number.specs.Number.{Number}
use Rattle.gq_field.specs.Fits.{fits}
use Rattle.gq_field.specs.Values.{half_value}
use Rattle.gq_frac.specs.declared.frac.Frac.{Frac}
use Rattle.gq_frac.specs.Frac.{frac_value}
use Rattle.lp_core.specs.Numbers.{entries_numbers, row_numbers, RowIsWithin}
use Rattle.lp_width.proofs.Narrowed.{narrows_whole}
use Rattle.lp_width.proofs.narrow.narrow_row.Goals as goal

pub returns-in_err-entries : goal.returns-in_err-entries
returns-in_err-entries c =
    narrows_whole (λ made. row_numbers half_value made ≡ row_numbers frac_value c.args.row.now) (All (λ (e : ℕ × Number). fits (2 ^ 63 - 1) e.1 ≡ true) (entries_numbers frac_value c.as_slice.result.now)) (RowIsWithin (2 ^ 63 - 1) (row_numbers frac_value c.args.row.now)) c.from_residual-in_err-entries.result c.in_err-entries.field-0.0 c.from_residual-in_err-entries.ensures.1
    (λ all. subst (λ (entries : List (ℕ × Frac)). All (λ (e : ℕ × Number). fits (2 ^ 63 - 1) e.1 ≡ true) (entries_numbers frac_value entries)) (sym c.as_slice.ensures) all.1) c.in_err-entries.ensures
