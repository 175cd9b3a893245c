-- The rows and headings of entries, stored in a set.
use Rattle.std.specs.Prelude.{◌≡◌, ℕ, Bool, ◌&&◌, List}
use Rattle.std.specs.List.{list_any}
use Rattle.gms_table.specs.declared.entry.Entry.{Entry}
use Rattle.gms_table.specs.declared.given.Cell.{Cell}
use Rattle.gms_table.specs.InnerGiven.{same_numbers, is_given}

-- one of these cells has these labels
abbrev pub has_cell : List Cell → List ℕ → List ℕ → Bool
has_cell cells row column = list_any (λ cell. same_numbers cell.row.items row && same_numbers cell.column.items column) cells

-- the cells are those of the entries
abbrev pub AreCellsOf : {F : Type 0} → List (Entry F) → List Cell → Type 0
AreCellsOf entries cells = (row column : List ℕ) → has_cell cells row column ≡ is_given entries row column
