-- The fields of a text between the bytes that split it, read byte by byte; a label in quotation
-- marks is not split (GAMS User's Guide, "Data Entry: Parameters, Scalars and Tables").
use Rattle.std.specs.Prelude.{ℕ, suc, Bool, false, ◌&&◌, ◌||◌, ◌==◌, if◌then◌else◌, List, [], ◌∷◌}
use Rattle.std.specs.List.{list_any}
use Rattle.gms_grammar.specs.Lines.{is_blank}
use Rattle.gms_grammar.specs.Bytes.{is_quote}
use Rattle.gms_grammar.specs.declared.split_fields.Separator.{Separator}
use Rattle.gms_grammar.specs.declared.split_fields.Separator.TheVariants.{Semicolon, Blank, Dot}
use Rattle.gms_grammar.specs.declared.split_fields.SplitState.{SplitState}
use Rattle.gms_grammar.specs.declared.split_fields.SplitState.TheVariants.{First, Marked, Inner}

-- whether a byte is a dot
abbrev pub is_dot : ℕ → Bool
is_dot b = b == 46

-- whether a byte is this separator: a `;`, a blank (space or tab), or a dot
abbrev pub is_separator : Separator → ℕ → Bool
is_separator Semicolon b = b == 59
is_separator Blank b = is_blank b
is_separator Dot b = is_dot b

-- the state after a byte outside labels in quotation marks: First, in which a label may begin,
-- after a blank and after a dot, otherwise Inner
abbrev pub state_after_plain : ℕ → SplitState
state_after_plain b = if is_blank b || is_dot b then First else Inner

-- The state after the byte b, read in the given state before the bytes `rest`. In First, where a
-- label may begin, a quotation mark that occurs again in `rest` begins a quoted label: the state is
-- Marked until the same mark ends the label, then Inner. Otherwise the state is First after a blank
-- or a dot, else Inner (`state_after_plain`).
abbrev pub state_after_byte : SplitState → ℕ → List ℕ → SplitState
state_after_byte First b rest = if is_quote b && list_any (λ c. c == b) rest then Marked b else state_after_plain b
state_after_byte Inner b rest = state_after_plain b
state_after_byte (Marked mark) b rest = if b == mark then Inner else Marked mark

-- whether the byte, read in this state, splits a text: it passes the test, and is outside labels in
-- quotation marks
abbrev pub parts : (ℕ → Bool) → SplitState → ℕ → Bool
parts test First b = test b
parts test Inner b = test b
parts test (Marked mark) b = false

-- how many bytes of a text, read from this state on, come before the first that passes the test
-- outside labels in quotation marks; all if none does
abbrev pub field_length : (ℕ → Bool) → SplitState → List ℕ → ℕ
field_length test split_state [] = 0
field_length test split_state (b ∷ rest) = if parts test split_state b then 0 else suc (field_length test (state_after_byte split_state b rest) rest)

-- how many bytes of a text come before the first that passes the test outside labels in quotation
-- marks; all if none does
abbrev pub field_bytes : (ℕ → Bool) → List ℕ → ℕ
field_bytes test text = field_length test First text
