-- How a label table is stored: entries from each text in lower case to the text as first
-- written, in the order of the places.
use Rattle.std.specs.Prelude.{◌≡◌, ℕ, List, map, String, string_bytes}
use Rattle.std.specs.declared.alloc.Global.{Global}
use Rattle.gms_labels.specs.Labels.{lower_case, AreLabels}

-- an entry of a label table: its key, which is a text in lower case, and the same text as first
-- written
abbrev pub Entry : Type 0
Entry = List ℕ × String Global

-- the texts of the entries as first written, in order
abbrev pub texts_of : List Entry → List (List ℕ)
texts_of entries = map (λ entry. string_bytes entry.1) entries

-- The invariant of the entries of a label table.
pub record IsLabelTable (entries : List Entry) : Type 0 where
  -- the texts are distinct, few and short (`AreLabels`)
  pub labels : AreLabels (texts_of entries)
  -- each key is its text in lower case
  pub keyed : map (λ entry. entry.0) entries ≡ map lower_case (texts_of entries)
