use Rattle.std.proofs.Common.{◌≡◌, ◌++◌, map, take, nat_eq, string_bytes}
use Rattle.gms_fmt.specs.ElementTexts.{label_in_table, joined_by}
use Rattle.gms_fmt.proofs.elements.push_labels.Given as goal

abbrev pub invariant-loop-label : goal.invariant-loop-label
invariant-loop-label l =
    (string_bytes l.into ≡ string_bytes l.fn.into ++ joined_by l.between (map (label_in_table l.labels) (take l.label-index l.t))) × (l.first ≡ nat_eq l.label-index 0)
