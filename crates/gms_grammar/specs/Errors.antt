-- Lexical errors: their numbers and names in a listing, and which of two faults comes first.
use Rattle.std.specs.Prelude.{◌≡◌, ◌⊎◌, ℕ, ◌<◌, ◌≤◌, List, Option, Some, None, codes}
use Rattle.gms_grammar.specs.declared.fault.LexError.{LexError}
use Rattle.gms_grammar.specs.declared.fault.LexError.TheVariants.{BadByte, OpenQuote, OpenText, LongLabel, LongLine, UnknownControl}
use Rattle.gms_grammar.specs.declared.fault.ByteFault.{ByteFault}

-- the number of a lexical error
abbrev pub lex_error_code : LexError → ℕ
lex_error_code BadByte = 1
lex_error_code OpenQuote = 2
lex_error_code OpenText = 3
lex_error_code LongLabel = 4
lex_error_code LongLine = 5
lex_error_code UnknownControl = 6

-- the name of a lexical error
abbrev pub lex_error_name : LexError → List ℕ
lex_error_name BadByte = codes "BadByte"
lex_error_name OpenQuote = codes "OpenQuote"
lex_error_name OpenText = codes "OpenText"
lex_error_name LongLabel = codes "LongLabel"
lex_error_name LongLine = codes "LongLine"
lex_error_name UnknownControl = codes "UnknownControl"

-- The fault f is at an earlier byte than g, or at the same byte with an error number that is at
-- most that of g.
abbrev pub IsBefore : ByteFault → ByteFault → Type 0
IsBefore f g = (f.at < g.at) ⊎ ((f.at ≡ g.at) × (lex_error_code f.error ≤ lex_error_code g.error))

-- The fault is the first of those that satisfy `Occurs`; None if no fault satisfies it.
abbrev pub IsFirstFault : (ByteFault → Type 0) → Option ByteFault → Type 0
IsFirstFault Occurs None = (f : ByteFault) → Occurs f → ⊥
IsFirstFault Occurs (Some f) = Occurs f × ((g : ByteFault) → Occurs g → IsBefore f g)
