-- Places in a source: lines and columns, each counted from 1.
use Rattle.std.specs.Prelude.{◌≡◌, ◌⊎◌, ℕ, ◌<◌, ◌+◌, ◌==◌, if◌then◌else◌, List, take, fold}
use Rattle.gms_labels.specs.declared.place.Place.{Place}
use Rattle.gms_grammar.specs.Columns.{column_after}

-- the place where a source begins
abbrev pub source_start : Place
source_start = record { line = 1; column = 1 }

-- the place of the byte that follows the byte b at the place `at`: column 1 of the next line after
-- a line feed, otherwise the column that `column_after` gives: the next one, or after a tab the
-- next tab stop
abbrev pub place_after : Place → ℕ → Place
place_after at b =
    if b == 10 then record { line = at.line + 1; column = 1 } else record { line = at.line; column = column_after at.column b }

-- the place after these bytes, of which `at` is the place of the first
abbrev pub place_after_bytes : Place → List ℕ → Place
place_after_bytes at bytes = fold place_after at bytes

-- the place of the byte n of a source, counted from 0, or of the source's end
abbrev pub place_of_byte : List ℕ → ℕ → Place
place_of_byte source n = place_after_bytes source_start (take n source)

-- the place p is before q: on an earlier line, or in an earlier column of the same line
abbrev pub IsEarlier : Place → Place → Type 0
IsEarlier p q = (p.line < q.line) ⊎ ((p.line ≡ q.line) × (p.column < q.column))
