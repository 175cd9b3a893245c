-- Whether an entry is given.
use Rattle.std.specs.Prelude.{ℕ, Bool, ◌&&◌, List, nat_eq}
use Rattle.std.specs.List.{list_any}
use Rattle.std.specs.Cmp.Lexicographic.{pointwise}
use Rattle.gms_table.specs.declared.entry.Entry.{Entry}

-- two lists of numbers of labels are the same
abbrev pub same_numbers : List ℕ → List ℕ → Bool
same_numbers a b = pointwise nat_eq a b

-- one of these entries has the row and the heading of these labels
abbrev pub is_given : {F : Type 0} → List (Entry F) → List ℕ → List ℕ → Bool
is_given entries row column = list_any (λ entry. same_numbers entry.row row && same_numbers entry.column column) entries
