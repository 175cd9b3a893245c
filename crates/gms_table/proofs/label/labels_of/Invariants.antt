use Rattle.std.proofs.Common.{◌≡◌, ◌≤◌, length}
use Rattle.std.specs.Prelude.{All}
use Rattle.gms_table.specs.WordLabels.{labels_of_text}
use Rattle.gms_table.specs.InnerNames.{read_all}
use Rattle.gms_table.proofs.LabelLemmas.{joined, labels_from}
use Rattle.gms_table.proofs.label.labels_of.Given as goal

-- the labels so far, and those from here on
abbrev pub invariant-loop-label : goal.invariant-loop-label
invariant-loop-label l = record {
  labels : joined (read_all l.labels.items) (labels_from l.rest) ≡ labels_of_text l.fn.text;
  short : All (λ label. length label.now ≤ 63) l.labels.items;
}

abbrev pub decreases-loop-label : goal.decreases-loop-label
decreases-loop-label l = length l.rest
