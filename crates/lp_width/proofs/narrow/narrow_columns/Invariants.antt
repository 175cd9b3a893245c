use Rattle.std.proofs.Common.{◌≡◌, ◌-◌, ◌^◌, take, map}
use Rattle.std.specs.List.{All}
use Rattle.gq_field.specs.Values.{half_value}
use Rattle.gq_frac.specs.Frac.{frac_value}
use Rattle.lp_core.specs.Numbers.{column_numbers, ColumnIsWithin}
use Rattle.lp_width.proofs.narrow.narrow_columns.Given as goal

abbrev pub invariant-loop-column : goal.invariant-loop-column
invariant-loop-column l =
    record {
      same : map (column_numbers half_value) l.made.items ≡ map (column_numbers frac_value) (take l.column-index l.columns);
      within : All (ColumnIsWithin (2 ^ 63 - 1)) (map (column_numbers frac_value) (take l.column-index l.columns));
    }
