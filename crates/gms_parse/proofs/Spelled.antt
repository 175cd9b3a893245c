-- How names and labels are spelled: they are of ASCII, and short.
use Rattle.std.proofs.Common.{◌≡◌, ℕ, ◌≤◌, Bool, true, false, not, ◌&&◌, cond, ltb, Option, Some, None, List, [], ◌∷◌, length, refl, sym, ap, ◌∙◌}
use Rattle.std.proofs.lemmas.Bool.{eqb-true, not-true, and_parts}
use Rattle.std.specs.Str.{IsAscii}
use Rattle.gms_grammar.specs.declared.kind.Kind.{Kind}
use Rattle.gms_grammar.specs.declared.kind.Kind.TheVariants as kind
use Rattle.gms_grammar.specs.declared.kind.Sym.{Sym}
use Rattle.gms_grammar.specs.declared.kind.Sym.TheVariants as sym_kind
use Rattle.gms_lex.specs.declared.token.Token.{Token}
use Rattle.gms_lex.specs.TokenTexts.{token_text}
use Rattle.gms_grammar.specs.declared.terminal.Terminal.{Terminal}
use Rattle.gms_grammar.specs.declared.terminal.Terminal.TheVariants.{Text, LongText, Label, TableLine, Break, End}
use Rattle.gms_grammar.specs.Terminals.{is, is_terminal_among, terminal_number}
use Rattle.gms_grammar.specs.ControlWords.{is_word_among as is_listed}
use Rattle.gms_grammar.proofs.Basics.{both_ways}
use Rattle.gms_grammar.proofs.Checks.{right_and}
use Rattle.gms_grammar.specs.Keywords.{Words, statement_words, kind_among}
use Rattle.gms_expressions.specs.Words.{expression_words, other_words, or_else, or_name, terminal_of, terminal_of_word, terminal_of_symbol}
use Rattle.gms_parse.specs.InnerMeanings.{IsLabelToken}
use Rattle.gms_parse.specs.declared.reader.Reader.{Reader}
use Rattle.gms_parse.specs.InnerReadings.{IsNext}
use Rattle.gms_expressions.proofs.TokenKinds.{same_number}
use Rattle.gms_expressions.proofs.Spelled.{is_named, named_spelled}

-- a name is of ASCII and has at most 63 bytes
pub name_spelled : {reader : Reader} {at following : ℕ} {t : Token} → IsNext is_named reader at t following → IsAscii (token_text reader.source.now t) × (length (token_text reader.source.now t) ≤ 63)
name_spelled {reader = reader} {t = t} n = named_spelled t.kind (token_text reader.source.now t) (ap is_named (sym n.kind_is) ∙ n.passes) n.placed.spelled

-- the kinds of the grammar that tokens of one kind alone have
abbrev is_lone : Terminal → Bool
is_lone = is_terminal_among (Label ∷ TableLine ∷ Break ∷ End ∷ [])

-- the kinds of words are none of these
abbrev is_of_word : Terminal → Bool
is_of_word kind = not (is_lone kind)

abbrev all_of_words : List Words → Bool
all_of_words [] = true
all_of_words (words ∷ others) = is_of_word words.0 && all_of_words others

abbrev some_of_word : Option Terminal → Bool
some_of_word None = true
some_of_word (Some kind) = is_of_word kind

among_words : (word : List ℕ) (words : List Words) → all_of_words words ≡ true → some_of_word (kind_among word words) ≡ true
among_words word [] h = refl
among_words word (words ∷ others) h = go (is_listed word words.1) (among_words word others (right_and (is_of_word words.0) _ h))
  where
    go : (b : Bool) → some_of_word (kind_among word others) ≡ true → some_of_word (cond b (Some words.0) (kind_among word others)) ≡ true
    go true k = (and_parts _ _ h).0
    go false k = k

or_else_word : (o p : Option Terminal) → some_of_word o ≡ true → some_of_word p ≡ true → some_of_word (or_else o p) ≡ true
or_else_word None p h k = k
or_else_word (Some kind) p h k = h

or_name_word : (o : Option Terminal) → some_of_word o ≡ true → is_of_word (or_name o) ≡ true
or_name_word None h = refl
or_name_word (Some kind) h = h

word_kind : (word : List ℕ) → is_of_word (terminal_of_word word) ≡ true
unfolding terminal_of_word
word_kind word =
    or_name_word (or_else (kind_among word statement_words) (or_else (kind_among word expression_words) (kind_among word other_words)))
    (or_else_word (kind_among word statement_words) (or_else (kind_among word expression_words) (kind_among word other_words)) (among_words word statement_words refl)
    (or_else_word (kind_among word expression_words) (kind_among word other_words) (among_words word expression_words refl) (among_words word other_words refl)))

symbol_many : (s : Sym) → is_lone (terminal_of_symbol s) ≡ false
symbol_many sym_kind.EqE = refl
symbol_many _ = refl

text_many : (b : Bool) → is_lone (cond b LongText Text) ≡ false
text_many true = refl
text_many false = refl

-- the kind of tokens that has such a kind of the grammar
abbrev lone_kind : Terminal → Kind
lone_kind Label = kind.Label
lone_kind TableLine = kind.TableLine
lone_kind End = kind.End
lone_kind _ = kind.Break

only_kind : (k : Kind) (text : List ℕ) → is_lone (terminal_of k text) ≡ true → k ≡ lone_kind (terminal_of k text)
only_kind kind.Word text h = absurd (both_ways (is_lone (terminal_of_word text)) h (not-true (is_lone (terminal_of_word text)) (word_kind text)))
only_kind kind.Number text h = cc
only_kind kind.Text text h = absurd (both_ways (is_lone (terminal_of kind.Text text)) h (text_many (ltb 65 (length text))))
only_kind (kind.Symbol symbol) text h = absurd (both_ways (is_lone (terminal_of_symbol symbol)) h (symbol_many symbol))
only_kind _ text h = refl

-- what the grammar sees as one of these is a token of that kind
pub lone_as : (x : Terminal) → is_lone x ≡ true → (k : Kind) (text : List ℕ) → terminal_of k text ≡ x → k ≡ lone_kind x
lone_as x lone k text e = only_kind k text (ap is_lone e ∙ lone) ∙ ap lone_kind e

pub label_token : {reader : Reader} {at following : ℕ} {t : Token} → IsNext (is Label) reader at t following → IsLabelToken reader.source.now t
label_token {reader = reader} {t = t} n =
    record { placed = n.placed; is = lone_as Label refl t.kind (token_text reader.source.now t) (sym n.kind_is ∙ sym (same_number Label n.kind (eqb-true (terminal_number Label) (terminal_number n.kind) n.passes))) }
