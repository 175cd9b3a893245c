use Rattle.std.proofs.Common.{◌≡◌, ◌+◌, ◌++◌, map, drop}
use Rattle.lp_core.specs.Steps.{count_of_rows}
use Rattle.lp_dict.specs.Tableau.{dictionary}
use Rattle.lp_range.specs.Ranges.{span_value, right_spans}
use Rattle.lp_range.proofs.rights.ranges_of.Given as goal

abbrev pub invariant-loop-row : goal.invariant-loop-row
invariant-loop-row g l =
    record {
      counted : l.slack + count_of_rows (drop l.row-index l.rows) ≡ l.first + count_of_rows l.rows;
      made : map (span_value g.F.ExactField.value) l.made.items ++ right_spans g.F.ExactField.limit (dictionary g.F.ExactField.value l.dict) g.F.ExactField.value l.slack (drop l.row-index l.rows)
          ≡ right_spans g.F.ExactField.limit (dictionary g.F.ExactField.value l.dict) g.F.ExactField.value l.first l.rows;
    }
