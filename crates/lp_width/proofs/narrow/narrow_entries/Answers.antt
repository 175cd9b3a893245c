use Rattle.std.proofs.Common.{◌≡◌, ◌-◌, ◌^◌, true, ap, ℕ}
use Rattle.std.specs.List.{All}
use Rattle.gq_number.specs.Number.{Number}
use Rattle.gq_field.specs.Fits.{fits}
use Rattle.gq_field.specs.Values.{half_value}
use Rattle.gq_field.specs.declared.half.Half.{Half}
use Rattle.gq_frac.specs.declared.frac.Frac.{Frac}
use Rattle.gq_frac.specs.Frac.{frac_value}
use Rattle.lp_core.specs.Numbers.{entries_numbers}
use Rattle.lp_width.proofs.Narrowed.{narrows_whole, all_here, within_more, same_more}
use Rattle.lp_width.proofs.narrow.narrow_entries.Goals as goal

pub returns-in_err-narrow_number : goal.returns-in_err-narrow_number
returns-in_err-narrow_number c =
    narrows_whole (λ made. entries_numbers half_value made.items ≡ entries_numbers frac_value c.args.entries.now) (fits (2 ^ 63 - 1) (frac_value c.loop-column-item.result.1) ≡ true) (All (λ (e : ℕ × Number). fits (2 ^ 63 - 1) e.1 ≡ true) (entries_numbers frac_value c.args.entries.now)) c.from_residual.result c.in_err-narrow_number.field-0.0 c.from_residual.ensures.1
    (all_here (λ (e : ℕ × Number). fits (2 ^ 63 - 1) e.1 ≡ true) (λ (e : ℕ × Frac). (e.0, frac_value e.1)) c.args.entries.now c.loop-column.column-index c.loop-column-item.result c.loop-column-test.true c.loop-column-item.is) c.in_err-narrow_number.ensures

pub loop-column-preserved : goal.loop-column-preserved
loop-column-preserved c =
    record {
      same =
          same_more (λ (e : ℕ × Number). fits (2 ^ 63 - 1) e.1 ≡ true) (λ (e : ℕ × Frac). (e.0, frac_value e.1)) c.args.entries.now c.loop-column.column-index c.loop-column-item.result c.loop-column-test.true c.loop-column-item.is
          (λ (e : ℕ × Half). (e.0, half_value e.1)) c.loop-column.made.items c.push.new.self.items (c.loop-column-item.result.0, c.in_ok-narrow_number.field-0) c.loop-column.invariant.same (ap (λ (n : Number). (c.loop-column-item.result.0, n)) c.in_ok-narrow_number.ensures.0) c.in_ok-push.ensures.items;
      within =
          within_more (λ (e : ℕ × Number). fits (2 ^ 63 - 1) e.1 ≡ true) (λ (e : ℕ × Frac). (e.0, frac_value e.1)) c.args.entries.now c.loop-column.column-index c.loop-column-item.result c.loop-column-test.true c.loop-column-item.is c.loop-column.invariant.within c.in_ok-narrow_number.ensures.1;
    }
