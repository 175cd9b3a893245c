use Rattle.std.proofs.Common.{◌≡◌, ◌-◌, ◌^◌, true, take}
use Rattle.std.specs.List.{All}
use Rattle.gq_field.specs.Values.{half_value}
use Rattle.gq_field.specs.Fits.{fits}
use Rattle.gq_frac.specs.Frac.{frac_value}
use Rattle.lp_core.specs.Numbers.{entries_numbers}
use Rattle.lp_width.proofs.narrow.narrow_entries.Given as goal

abbrev pub invariant-loop-column : goal.invariant-loop-column
invariant-loop-column l =
    record {
      same : entries_numbers half_value l.made.items ≡ entries_numbers frac_value (take l.column-index l.entries);
      within : All (λ e. fits (2 ^ 63 - 1) e.1 ≡ true) (entries_numbers frac_value (take l.column-index l.entries));
    }
