use Rattle.std.proofs.Common.{◌≡◌, ◌-◌, ◌^◌, take, map}
use Rattle.std.specs.List.{All}
use Rattle.gq_field.specs.Values.{half_value}
use Rattle.gq_frac.specs.Frac.{frac_value}
use Rattle.lp_core.specs.Numbers.{row_numbers, RowIsWithin}
use Rattle.lp_width.proofs.narrow.narrow_rows.Given as goal

abbrev pub invariant-loop-row : goal.invariant-loop-row
invariant-loop-row l =
    record {
      same : map (row_numbers half_value) l.made.items ≡ map (row_numbers frac_value) (take l.row-index l.rows);
      within : All (RowIsWithin (2 ^ 63 - 1)) (map (row_numbers frac_value) (take l.row-index l.rows));
    }
