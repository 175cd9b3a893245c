-- In each mode, the first piece of a text has at least one byte and at most all of them; the place
-- of an error is no further on.
use Rattle.std.proofs.Common.{◌≡◌, inl, inr, ℕ, suc, ◌==◌, ◌&&◌, ◌||◌, ◌<◌, ◌≤◌, Bool, true, false, not, nat_lt, nat_le, if◌then◌else◌, List, [], ◌∷◌, length, drop, sym, subst, arith}
use Rattle.std.proofs.lemmas.Bool.Decides.{nat_tests}
use Rattle.std.proofs.lemmas.List.{length-take-le}
use Rattle.std.proofs.lemmas.List.Sums.{prefix_len-le-length}
use Rattle.std.specs.List.{prefix_len}
use Rattle.gms_grammar.specs.Lines.{begins, before, content, is_blank, is_line_end}
use Rattle.gms_grammar.proofs.LineLemmas.{true_or_false, before-le-length, before_more}
use Rattle.gms_grammar.specs.declared.kind.Kind.TheVariants.{Label, Text}
use Rattle.gms_grammar.specs.Shapes.{IsWithinText}
use Rattle.gms_grammar.specs.TableLines.{table_bytes}
use Rattle.gms_grammar.proofs.WithinLemmas.{if_within, run_within, begins_some, table_bytes_le, symbol_within, code_token_within, label_token_within, remark_within, table_line_within}
use Rattle.gms_lex.specs.declared.keyword.Shape.{Shape}
use Rattle.gms_lex.specs.declared.keyword.Shape.TheVariants.{Set, Parameter, Scalar, Model}
use Rattle.gms_lex.specs.declared.mode.Stage.{Stage}
use Rattle.gms_lex.specs.declared.mode.Stage.TheVariants.{Fresh, Expected, After, Spaced}
use Rattle.gms_lex.specs.declared.mode.Mode.{Mode}
use Rattle.gms_lex.specs.declared.mode.Mode.TheVariants.{Named, Bare, Element, Value, Tail, TableNamed, TableBare, TableLines}
use Rattle.gms_lex.specs.declared.mode.LineEnds.{LineEnds}
use Rattle.gms_lex.specs.declared.mode.LineEnds.TheVariants.{Skipped, EndItem, EndElement}
use Rattle.gms_lex.specs.Keywords.{begins_statement}
use Rattle.gms_lex.specs.Pieces.{passes, ends_or_begins, begins_other, space_length, line_end_length, line_ends, line_end, is_item_mark, is_element_mark, piece_after_name, piece_after_domain, begins_value_dot, element_tail, piece_after_label, in_list, token_read, table_piece, plain_piece, piece_at}

-- a line end takes as many bytes as there are
line_end_length_within : (text : List ℕ) → is_line_end text ≡ true → (0 < line_end_length text) × (line_end_length text ≤ length text)
line_end_length_within [] h = cc
line_end_length_within (b ∷ text) h = elim (true_or_false (b == 13)) [
  | inl r ↦
      let feed : begins (λ c. c == 10) text ≡ true = grind (arith, nat_tests) in
      subst (λ v. (0 < (if v then 2 else 1)) × ((if v then 2 else 1) ≤ suc (length text))) (sym r) (omega arith, omega (arith, begins_some (λ c. c == 10) text feed))
  | inr r ↦ subst (λ v. (0 < (if v then 2 else 1)) × ((if v then 2 else 1) ≤ suc (length text))) (sym r) (omega arith, omega arith)
]

line_end_not_other : (a b : Bool) → b ≡ true → not (a || b) ≡ false
line_end_not_other a b h = grind arith

-- a text that begins with a line end has something blank
space_some : (text : List ℕ) → is_line_end text ≡ true → 0 < space_length text
space_some [] h = cc
space_some (b ∷ text) h =
    let other : begins_other (b ∷ text) ≡ false = line_end_not_other (begins is_blank (b ∷ text)) (is_line_end (b ∷ text)) h in
    omega (arith, before_more begins_other b text other)

line_end_within : (ends : LineEnds) (text : List ℕ) → is_line_end text ≡ true → IsWithinText text (line_end ends text)
line_end_within Skipped text h = line_end_length_within text h
line_end_within EndItem text h = if_within text (ends_or_begins (passes EndItem) (drop (space_length text) text)) _ _ (λ _. (space_some text h, before-le-length begins_other text)) (λ _. line_end_length_within text h)
line_end_within EndElement text h = if_within text (ends_or_begins (passes EndElement) (drop (space_length text) text)) _ _ (λ _. (space_some text h, before-le-length begins_other text)) (λ _. line_end_length_within text h)

tail_within : (s : Shape) (text : List ℕ) → IsWithinText text (element_tail s text)
tail_within Parameter text = code_token_within Label text
tail_within Set text = remark_within text
tail_within Scalar text = remark_within text
tail_within Model text = remark_within text

after_label_within : (s : Shape) (d : ℕ) (stage : Stage) (text : List ℕ) → IsWithinText text (piece_after_label s d stage text)
after_label_within s d stage text =
    if_within text (begins is_element_mark text && not (begins_value_dot s d stage text)) _ _ (λ _. symbol_within text) (λ _. if_within text (d == 0) _ _ (λ _. tail_within s text) (λ _. label_token_within text))

in_list_within : (s : Shape) (d : ℕ) (stage : Stage) (text : List ℕ) → IsWithinText text (in_list s d stage text)
in_list_within s d Fresh text = label_token_within text
in_list_within s d Expected text = label_token_within text
in_list_within s d After text = after_label_within s d After text
in_list_within s d Spaced text = after_label_within s d Spaced text

name_within : (text : List ℕ) → IsWithinText text (piece_after_name text)
name_within text = if_within text (begins (λ b. b == 40 || is_item_mark b) text) _ _ (λ _. symbol_within text) (λ _. remark_within text)

domain_within : (text : List ℕ) → IsWithinText text (piece_after_domain text)
domain_within text = if_within text (begins is_item_mark text) _ _ (λ _. symbol_within text) (λ _. remark_within text)

token_at_within : (current : Mode) (text : List ℕ) → IsWithinText text (token_read current text)
token_at_within (Named s) text = name_within text
token_at_within TableNamed text = name_within text
token_at_within (Bare s) text = domain_within text
token_at_within TableBare text = domain_within text
token_at_within (Element s d stage) text = in_list_within s d stage text
token_at_within (Value s) text = code_token_within Label text
token_at_within (Tail s) text = code_token_within Label text
token_at_within current text = code_token_within Text text

-- blanks with which a text begins
blanks_some : (text : List ℕ) → begins is_blank text ≡ true → 0 < prefix_len is_blank text
blanks_some text h = run_within is_blank is_blank (λ b g. g) text h

-- the first piece in a mode outside the lines of a table
pub plain_within : (current : Mode) (text : List ℕ) → IsWithinText text (plain_piece current text)
plain_within current text =
    if_within text (begins is_blank text) _ _
    (λ h. (blanks_some text h, prefix_len-le-length is_blank text))
    (λ _. if_within text (is_line_end text) _ _ (λ h. line_end_within (line_ends current) text h) (λ _. token_at_within current text))

some_of_and : (n : ℕ) (b : Bool) → (nat_lt 0 n && b) ≡ true → 0 < n
some_of_and n b h = grind (arith, nat_tests, h)

some_of_or : (n : ℕ) (b : Bool) → (n == 0 || b) ≡ false → 0 < n
some_of_or n b h = grind (arith, nat_tests, h)

-- the first piece where the lines of a table may continue
pub table_within : (text : List ℕ) → IsWithinText text (table_piece text)
table_within text =
    let blanks = prefix_len is_blank text in
    let bytes = table_bytes (content text) in
    let le : bytes ≤ length text = omega (arith, table_bytes_le (content text), length-take-le (before is_line_end text) text (before-le-length is_line_end text), before-le-length is_line_end text) in
    if_within text (is_line_end text) _ _
    (λ h. line_end_length_within text h)
    (λ _. if_within text (nat_lt 0 blanks && (nat_le bytes blanks || begins_statement (drop blanks text))) _ _
    (λ h. (some_of_and _ _ h, prefix_len-le-length is_blank text))
    (λ _. if_within text (bytes == 0 || begins_statement text) _ _
    (λ _. code_token_within Text text)
    (λ h. table_line_within bytes text (some_of_or bytes _ h) le)))

-- the first piece is within the text
pub piece_within : (current : Mode) (text : List ℕ) → IsWithinText text (piece_at current text)
piece_within TableLines text = table_within text
piece_within current text = plain_within current text
