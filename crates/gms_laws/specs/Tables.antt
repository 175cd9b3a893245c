-- The entries of a table, with the numbers that they mean (GAMS User's Guide, "Data Entry:
-- Parameters, Scalars and Tables").
use Rattle.std.specs.Prelude.{ℕ, List}
use Rattle.gq_number.specs.Number.{Number}
use Rattle.gms_table.specs.declared.entry.Entry.{Entry}
use Rattle.gms_table.specs.declared.entry.TableLine.{TableLine}
use Rattle.gms_table.specs.TableEntries.{IsTable}

-- an entry of a table, with its value replaced by the number that it means
abbrev pub meant_entry : {F : Type 0} → (F → Number) → Entry F → Entry Number
meant_entry value entry = record { at = entry.at; row = entry.row; column = entry.column; value = value entry.value }

-- the lines of a table have these entries; `limit` bounds the size of the numbers in them, `before`
-- is the list of the source's labels when the reading of the table begins, and `after` the list
-- when it has ended
abbrev pub HasEntries : ℕ → List TableLine → List (List ℕ) → List (List ℕ) → List (Entry Number) → Type 0
HasEntries limit lines before after entries = IsTable limit (λ x. x) lines before after entries
