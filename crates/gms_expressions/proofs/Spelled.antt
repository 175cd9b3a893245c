-- How names and labels are spelled: they are of ASCII, and short.
use Rattle.std.proofs.Common.{◌≡◌, ℕ, ◌≤◌, Bool, true, false, cond, ltb, List, [], ◌∷◌, length, refl, sym, ap, ◌∙◌, arith}
use Rattle.std.proofs.lemmas.Bool.{ltb-false, eqb-true}
use Rattle.std.specs.Str.{IsAscii}
use Rattle.gms_grammar.specs.declared.kind.Kind.{Kind}
use Rattle.gms_grammar.specs.declared.kind.Kind.TheVariants as kind
use Rattle.gms_grammar.specs.declared.kind.Sym.{Sym}
use Rattle.gms_grammar.specs.declared.kind.Sym.TheVariants as sym_kind
use Rattle.gms_lex.specs.declared.token.Token.{Token}
use Rattle.gms_lex.specs.TokenTexts.{IsSpelled, token_text, unquoted}
use Rattle.gms_lex.proofs.UnquotedLemmas.{unquoted-le, unquoted_ascii, unquoted_short}
use Rattle.gms_grammar.specs.declared.terminal.Terminal.{Terminal}
use Rattle.gms_grammar.specs.declared.terminal.Terminal.TheVariants.{Name, Suffix, Text, LongText}
use Rattle.gms_grammar.specs.Terminals.{is, is_terminal_among, terminal_number}
use Rattle.gms_expressions.specs.Words.{terminal_of, terminal_of_symbol}
use Rattle.gms_expressions.specs.declared.reader.Reader.{Reader}
use Rattle.gms_expressions.specs.InnerReadings.{IsNext}
use Rattle.gms_expressions.proofs.TokenKinds.{same_number}

abbrev pub is_named : Terminal → Bool
is_named = is_terminal_among (Name ∷ Suffix ∷ [])

symbol_named : (s : Sym) → is_named (terminal_of_symbol s) ≡ true → ⊥
symbol_named sym_kind.EqE h = cc
symbol_named _ h = cc

text_named : (b : Bool) → is_named (cond b LongText Text) ≡ true → ⊥
text_named true h = cc
text_named false h = cc

pub named_spelled : (k : Kind) (text : List ℕ) → is_named (terminal_of k text) ≡ true → IsSpelled k text → IsAscii text × (length text ≤ 63)
named_spelled kind.Word text h s = s
named_spelled kind.Text text h s = absurd (text_named (ltb 65 (length text)) h)
named_spelled (kind.Symbol symbol) text h s = absurd (symbol_named symbol h)
named_spelled _ text h s = cc

symbol_text : (s : Sym) → terminal_of_symbol s ≡ Text → ⊥
symbol_text sym_kind.EqE h = cc
symbol_text _ h = cc

short_text : (b : Bool) → cond b LongText Text ≡ Text → b ≡ false
short_text true h = cc
short_text false h = refl

text_spelled : (k : Kind) (text : List ℕ) → terminal_of k text ≡ Text → IsSpelled k text → IsAscii text × (length (unquoted text) ≤ 63)
text_spelled kind.Word text h s = (s.0, omega (arith, s.1, unquoted-le text))
text_spelled kind.Text text h s = (s.0, unquoted_short text 63 s.1 (ltb-false 65 (length text) (short_text (ltb 65 (length text)) h)))
text_spelled (kind.Symbol symbol) text h s = absurd (symbol_text symbol h)
text_spelled _ text h s = cc

-- a name is of ASCII and has at most 63 bytes
pub name_spelled : {reader : Reader} {at following : ℕ} {t : Token} → IsNext is_named reader at t following → IsAscii (token_text reader.source.now t) × (length (token_text reader.source.now t) ≤ 63)
name_spelled {reader = reader} {t = t} n = named_spelled t.kind (token_text reader.source.now t) (ap is_named (sym n.kind_is) ∙ n.passes) n.placed.spelled

-- a label is of ASCII and has at most 63 bytes, its marks not counted
pub label_spelled : {reader : Reader} {at following : ℕ} {t : Token} → IsNext (is Text) reader at t following → IsAscii (unquoted (token_text reader.source.now t)) × (length (unquoted (token_text reader.source.now t)) ≤ 63)
label_spelled {reader = reader} {t = t} n =
    let text = token_text reader.source.now t in
    let k : Text ≡ n.kind = same_number Text n.kind (eqb-true (terminal_number Text) (terminal_number n.kind) n.passes) in
    let s = text_spelled t.kind text (sym n.kind_is ∙ sym k) n.placed.spelled in
    (unquoted_ascii text s.0, s.1)
