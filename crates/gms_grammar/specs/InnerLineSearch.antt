-- The first lexical error of lines, found line by line.
use Rattle.std.specs.Prelude.{ℕ, ◌+◌, Bool, not, ◌&&◌, ◌==◌, nat_lt, if◌then◌else◌, List, [], ◌∷◌, length, Option, Some, None, option_map}
use Rattle.std.specs.Option.{option_or}
use Rattle.std.specs.List.{list_any, prefix_len}
use Rattle.gms_grammar.specs.declared.line.Class.{Class}
use Rattle.gms_grammar.specs.declared.fault.LexError.{LexError}
use Rattle.gms_grammar.specs.declared.fault.LexError.TheVariants.{BadByte, OpenText, LongLine, UnknownControl}
use Rattle.gms_grammar.specs.declared.fault.ByteFault.{ByteFault}
use Rattle.gms_grammar.specs.Lines.{content, class_of, closes, opens, inside_after}
use Rattle.gms_grammar.specs.LineFaults.{longest_line, is_bad, is_unknown_control}

-- an error at a byte
abbrev pub fault_at : ℕ → LexError → ByteFault
fault_at at error = record { at = at; error = error }

-- how many bytes of a line come before its first bad one
abbrev pub good_length : Class → List ℕ → ℕ
good_length class content = prefix_len (λ b. not (is_bad class b)) content

-- the least error at a line's first byte, bad bytes apart
abbrev pub head_error : Bool → List ℕ → List (List ℕ) → Option LexError
head_error inside line others =
    if opens inside line && not (list_any closes others) then Some OpenText else (if nat_lt longest_line (length (content line)) then Some LongLine else (if is_unknown_control (class_of inside line) line then Some UnknownControl else None))

-- The first error of a line whose first `good` of `all` bytes are good, and whose first byte has
-- the error `head`. A bad first byte is the least error there.
abbrev pub first_of_line : ℕ → ℕ → ℕ → Option LexError → Option ByteFault
first_of_line start good all head =
    if good == all then option_map (fault_at start) head else (if good == 0 then Some (fault_at start BadByte) else option_or (option_map (fault_at start) head) (Some (fault_at (start + good) BadByte)))

-- the first error of a line that begins at this byte
abbrev pub first_in_line : ℕ → Bool → List ℕ → List (List ℕ) → Option ByteFault
first_in_line start inside line others =
    first_of_line start (good_length (class_of inside line) (content line)) (length (content line)) (head_error inside line others)

-- the first error of lines
abbrev pub first_in_lines : ℕ → Bool → List (List ℕ) → Option ByteFault
first_in_lines start inside [] = None
first_in_lines start inside (line ∷ others) = option_or (first_in_line start inside line others) (first_in_lines (start + length line) (inside_after inside line) others)
