-- The lexical errors of lines: bytes that no such line may contain, long lines, control words that
-- are not accepted, and blocks of comment that are not ended (GAMS User's Guide, "Dollar Control
-- Options").
use Rattle.std.specs.Prelude.{◌≡◌, ◌⊎◌, ℕ, ◌+◌, ◌<◌, Bool, true, false, not, ◌&&◌, ◌||◌, ◌==◌, nat_lt, List, [], ◌∷◌, length, get_or}
use Rattle.std.specs.List.{list_any}
use Rattle.gms_grammar.specs.declared.line.Class.{Class}
use Rattle.gms_grammar.specs.declared.line.Class.TheVariants.{Comment, Control, Code}
use Rattle.gms_grammar.specs.declared.fault.LexError.{LexError}
use Rattle.gms_grammar.specs.declared.fault.LexError.TheVariants.{BadByte, OpenQuote, OpenText, LongLabel, LongLine, UnknownControl}
use Rattle.gms_grammar.specs.declared.fault.ByteFault.{ByteFault}
use Rattle.gms_grammar.specs.ControlWords.{control_words, is_word_among}
use Rattle.gms_grammar.specs.Lines.{content, class_of, first_word, closes, opens, inside_after, lines}

-- the greatest number of bytes that a line may have, its end not counted
abbrev pub longest_line : ℕ
longest_line = 32768

-- whether a byte is a control character other than tab
abbrev pub is_control_byte : ℕ → Bool
is_control_byte b = (nat_lt b 32 && not (b == 9)) || b == 127

-- Whether no line of this class may contain the byte, whatever surrounds it: a control byte
-- (`is_control_byte`), and in a control line also a byte above 127. Code may contain bytes above
-- 127 in texts.
abbrev pub is_bad : Class → ℕ → Bool
is_bad Comment b = is_control_byte b
is_bad Control b = is_control_byte b || nat_lt 127 b
is_bad Code b = is_control_byte b

-- whether the line, of this class, is a control line whose first word is none of `control_words`,
-- letter case ignored
abbrev pub is_unknown_control : Class → List ℕ → Bool
is_unknown_control Control line = not (is_word_among (first_word line) control_words)
is_unknown_control Comment line = false
is_unknown_control Code line = false

-- The line has this error at its byte k, from 0. `inside`: the line is in a block of comment;
-- `others`: the lines after it. BadByte is at any bad byte. OpenText (the line begins a block that
-- no later line ends), LongLine and UnknownControl are at byte 0. OpenQuote and LongLabel are no
-- errors of a line.
abbrev pub IsLineError : Bool → List ℕ → List (List ℕ) → ℕ → LexError → Type 0
IsLineError inside line others k BadByte = (k < length (content line)) × (is_bad (class_of inside line) (get_or (content line) k 0) ≡ true)
IsLineError inside line others k OpenText = (k ≡ 0) × (opens inside line ≡ true) × (list_any closes others ≡ false)
IsLineError inside line others k LongLine = (k ≡ 0) × (longest_line < length (content line))
IsLineError inside line others k UnknownControl = (k ≡ 0) × (is_unknown_control (class_of inside line) line ≡ true)
IsLineError inside line others k OpenQuote = ⊥
IsLineError inside line others k LongLabel = ⊥

-- One of these lines has the fault. The first line begins at byte `start` of the source, and
-- `inside` is whether it is inside a block of comment.
abbrev pub IsInLines : ℕ → Bool → List (List ℕ) → ByteFault → Type 0
IsInLines start inside [] fault = ⊥
IsInLines start inside (line ∷ others) fault =
    ((k : ℕ) × (fault.at ≡ start + k) × IsLineError inside line others k fault.error) ⊎ IsInLines (start + length line) (inside_after inside line) others fault

-- a line of the source has the fault
abbrev pub IsLineFault : List ℕ → ByteFault → Type 0
IsLineFault source fault = IsInLines 0 false (lines source) fault
