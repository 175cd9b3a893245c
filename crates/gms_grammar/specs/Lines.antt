-- The lines of a source: where each ends, its class, and what it contains for tokens (GAMS User's
-- Guide, "Language Items", comments, and "Dollar Control Options").
use Rattle.std.specs.Prelude.{ℕ, ◌+◌, Bool, true, false, not, ◌&&◌, ◌||◌, ◌==◌, nat_lt, if◌then◌else◌, List, [], ◌∷◌, ◌++◌, length, take, take_while, map}
use Rattle.std.specs.List.{prefix_len}
use Rattle.std.specs.Str.{str_eq_ignore_ascii_case}
use Rattle.gms_grammar.specs.declared.line.Class.{Class}
use Rattle.gms_grammar.specs.declared.line.Class.TheVariants.{Comment, Control, Code}
use Rattle.gms_grammar.specs.ControlWords.{block_word, block_end}

-- the lines with this byte before the first of them; without lines, the byte is a line
abbrev pub put_first : ℕ → List (List ℕ) → List (List ℕ)
put_first b [] = (b ∷ []) ∷ []
put_first b (line ∷ others) = (b ∷ line) ∷ others

-- the lines of a source, each with the line feed at its end; the last may have none
abbrev pub lines : List ℕ → List (List ℕ)
lines [] = []
lines (b ∷ text) = if b == 10 then (b ∷ []) ∷ lines text else put_first b (lines text)

-- whether the text begins with a byte that passes the test
abbrev pub begins : (ℕ → Bool) → List ℕ → Bool
begins test [] = false
begins test (b ∷ text) = test b

-- whether a text begins with a line end: a line feed, or a carriage return directly before one
abbrev pub is_line_end : List ℕ → Bool
is_line_end [] = false
is_line_end (b ∷ text) = b == 10 || (b == 13 && begins (λ c. c == 10) text)

-- how many bytes of a text come before the first place from which the rest of the text passes the
-- test; all if there is none
abbrev pub before : (List ℕ → Bool) → List ℕ → ℕ
before test [] = 0
before test (b ∷ text) = if test (b ∷ text) then 0 else 1 + before test text

-- a line without its end
abbrev pub content : List ℕ → List ℕ
content line = take (before is_line_end line) line

-- whether a byte is a space or a tab
abbrev pub is_blank : ℕ → Bool
is_blank b = b == 32 || b == 9

-- the class of a line outside a block of comment, by its first column: `*` begins a comment, `$` a
-- control line
abbrev pub class_by_column : List ℕ → Class
class_by_column [] = Code
class_by_column (b ∷ line) = if b == 42 then Comment else (if b == 36 then Control else Code)

-- The class of a line; the Bool is whether it is inside a block of comment. The line that ends a
-- block is comment too.
abbrev pub class_of : Bool → List ℕ → Class
class_of true line = Comment
class_of false line = class_by_column line

-- the first word of a line: its bytes before the first space or tab; all bytes before the line end
-- if it has neither
abbrev pub first_word : List ℕ → List ℕ
first_word line = take_while (λ b. not (is_blank b)) (content line)

-- whether a line inside a block of comment ends it: it begins with `$offtext`, letter case ignored
abbrev pub closes : List ℕ → Bool
closes line = str_eq_ignore_ascii_case (take 8 line) block_end

-- whether a line begins a block of comment: it is outside of one, and its first word is `$ontext`,
-- letter case ignored
abbrev pub opens : Bool → List ℕ → Bool
opens true line = false
opens false line = str_eq_ignore_ascii_case (first_word line) block_word

-- whether the line after this one is inside a block of comment; the Bool is whether this one is
abbrev pub inside_after : Bool → List ℕ → Bool
inside_after true line = not (closes line)
inside_after false line = opens false line

-- a space in place of the byte; a tab, a line feed and a carriage return stay, so that each column
-- stays
abbrev pub blanked : ℕ → ℕ
blanked b = if b == 9 || (b == 10 || b == 13) then b else 32

-- a line of this class as tokens are read from it: comments and control lines are blank
abbrev pub read_as : Class → List ℕ → List ℕ
read_as Comment line = map blanked line
read_as Control line = map blanked line
read_as Code line = line

-- the text that tokens are read from, for these lines; `inside` is whether the first of them is
-- inside a block of comment
abbrev pub code_of : Bool → List (List ℕ) → List ℕ
code_of inside [] = []
code_of inside (line ∷ others) = read_as (class_of inside line) line ++ code_of (inside_after inside line) others

-- The text of a source from which tokens are read: each byte keeps its position in the source, and
-- comments and control lines are blank.
abbrev pub code_text : List ℕ → List ℕ
code_text source = code_of false (lines source)

-- how many bytes of a text come before its first line feed; all if it has none
abbrev pub before_feed : List ℕ → ℕ
before_feed text = prefix_len (λ b. not (b == 10)) text

-- how many bytes the first line of a text takes, its line feed included
abbrev pub line_length : List ℕ → ℕ
line_length text = if nat_lt (before_feed text) (length text) then before_feed text + 1 else before_feed text
