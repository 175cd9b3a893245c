-- What the steps over single tokens say.
use Rattle.std.proofs.Common.{◌≡◌, ℕ, ◌≤◌, Bool, true, false, cond, List, [], ◌∷◌, refl, sym, ap, ◌∙◌, subst, arith, Err}
use Rattle.gq_number.specs.Number.{Number}
use Rattle.gq_text.specs.declared.fault.NumberFault.{NumberFault}
use Rattle.gq_text.specs.declared.fault.NumberFault.TheVariants.{Shape, Limit}
use Rattle.gq_text.specs.Literal.{FitsLiteral, ReadsLiteral}
use Rattle.gq_text.specs.Decimal.{MeansNumber}
use Rattle.gq_text.proofs.Splits.{one_number}
use Rattle.gms_ast.specs.declared.expression.Suffix.{Suffix as SuffixNode}
use Rattle.gms_ast.specs.declared.expression.Suffix.TheVariants as suffix
use Rattle.gms_ast.specs.Trees.{negated}
use Rattle.gms_lex.specs.declared.token.Token.{Token}
use Rattle.gms_lex.specs.TokenTexts.{token_text}
use Rattle.gms_grammar.specs.declared.terminal.Terminal.TheVariants.{LeftParen, Sign, Not, Dot, Suffix}
use Rattle.gms_grammar.specs.Grammar.{the, opt, leaf, none, some}
use Rattle.gms_grammar.specs.Reading.{leads}
use Rattle.gms_grammar.specs.Terminals.{is, is_terminal_among}
use Rattle.gms_grammar.specs.GamsGrammar.{Attribute, productions, token}
use Rattle.gms_grammar.specs.GamsLookAhead.{look_ahead}
use Rattle.gms_expressions.specs.declared.fault.SyntaxFault.{SyntaxFault}
use Rattle.gms_expressions.specs.declared.fault.SyntaxError.TheVariants.{Depth}
use Rattle.gms_expressions.specs.declared.fault.SyntaxFaultOrMemory.{SyntaxFaultOrMemory}
use Rattle.gms_expressions.specs.declared.fault.SyntaxFaultOrMemory.TheVariants.{Fault}
use Rattle.gms_expressions.specs.declared.reader.Reader.{Reader}
use Rattle.gms_expressions.specs.declared.reader.Tables.{Tables}
use Rattle.gms_expressions.specs.ExpressionTrees.{is_minus, suffix_of}
use Rattle.gms_expressions.specs.Outcomes.{ExpressionState, IsFaultyInExpression, deep, out_of_range, many_names, many_labels}
use Rattle.gms_expressions.specs.InnerReadings.{Seen, Gives, Refuses, IsGot, IsNext, IsLacking, IsUnopened, IsSigned, IsNegated, IsSuffix, seen_from, read_state_of, kind_of}
use Rattle.gms_expressions.proofs.TokenKinds.{leads_by_kind, same_test}
use Rattle.gms_expressions.proofs.Steps.{got_by, gives_one, gives_the, gives_both, gives_none, gives_some, refuses_the, refuses_second, refuses_some, refuses_token, takes_next}
use Rattle.gms_expressions.proofs.Nexts.{gives_next, led_next, exact, lacking_after, refuses_lacking}
use Rattle.gms_expressions.proofs.Extending.{went_same}

-- a sign, and none
pub sign_read : {reader : Reader} {at following : ℕ} {t : Token} (minus : Bool) → IsNext (is Sign) reader at t following → minus ≡ is_minus t.kind → IsSigned reader at minus following
sign_read {t = t} minus n is = record {
  tree = some (leaf (n.kind, t));
  gives = λ limit tables. gives_some (led_next n) (gives_next tables n refl);
  means = λ operand. ap (λ m. cond m (negated operand) operand) (sym is);
  further = (let g = n.further in omega arith);
}

pub sign_none : (reader : Reader) (at : ℕ) → leads productions look_ahead (token Sign) (seen_from reader at) ≡ false → IsSigned reader at false at
sign_none reader at unled = record { tree = none; gives = λ limit tables. gives_none unled; means = λ operand. refl; further = omega arith }

-- `not`, and none
pub not_read : {reader : Reader} {at following : ℕ} {t : Token} → IsNext (is Not) reader at t following → IsNegated reader at true following
not_read {t = t} n = record {
  tree = some (leaf (n.kind, t));
  gives = λ limit tables. gives_some (led_next n) (gives_next tables n refl);
  means = λ operand. refl;
  further = (let g = n.further in omega arith);
}

pub not_none : (reader : Reader) (at : ℕ) → leads productions look_ahead (token Not) (seen_from reader at) ≡ false → IsNegated reader at false at
not_none reader at unled = record { tree = none; gives = λ limit tables. gives_none unled; means = λ operand. refl; further = omega arith }

-- no parenthesis, and one too many
pub unopened_lacking : {reader : Reader} {at : ℕ} {e : SyntaxFaultOrMemory} → IsLacking (is LeftParen) reader at e → IsUnopened reader at e
unopened_lacking l = record { refuses = λ limit tables. refuses_lacking l }

pub unopened_deep : {reader : Reader} {at following : ℕ} {t : Token} {e : SyntaxFaultOrMemory} → IsNext (is LeftParen) reader at t following → 100 ≤ reader.unclosed → e ≡ Fault (record { error = Depth; at = t.at }) → IsUnopened reader at e
unopened_deep n many is = record { refuses = λ limit tables. refuses_token (went_same tables) (takes_next (exact n) refl) (deep refl many) is }

-- the state after a dot
dotted : ℕ → Tables → ExpressionState
dotted unclosed tables = record { open_count = unclosed; names = tables.names; labels = tables.labels; dotted = true }

gives_dot : {limit : ℕ} {reader : Reader} {at following : ℕ} {t : Token} (tables : Tables) → IsNext (is Dot) reader at t following →
    Gives limit reader.source.now (token Dot) (read_state_of reader.unclosed tables) (seen_from reader at) (leaf (Dot, t)) (dotted reader.unclosed tables) (seen_from reader following)
unfolding dotted
gives_dot {limit = limit} {reader = reader} {t = t} tables n = gives_one (exact n) refl sound refl
  where
    sound : (fault : SyntaxFault) → IsFaultyInExpression limit reader.source.now (read_state_of reader.unclosed tables) (Dot, t) fault → ⊥
    sound fault (deep e d) = cc
    sound fault (out_of_range e d) = cc
    sound fault (many_names n d) = cc
    sound fault (many_labels e d) = cc

gives_suffix : {limit : ℕ} {reader : Reader} {at following : ℕ} {t : Token} (tables : Tables) → IsNext (is Suffix) reader at t following →
    Gives limit reader.source.now (token Suffix) (dotted reader.unclosed tables) (seen_from reader at) (leaf (Suffix, t)) (read_state_of reader.unclosed tables) (seen_from reader following)
unfolding dotted
gives_suffix {limit = limit} {reader = reader} {t = t} tables n = gives_one (exact n) refl sound refl
  where
    sound : (fault : SyntaxFault) → IsFaultyInExpression limit reader.source.now (dotted reader.unclosed tables) (Suffix, t) fault → ⊥
    sound fault (deep e d) = cc
    sound fault (out_of_range e d) = cc
    sound fault (many_names n d) = cc
    sound fault (many_labels e d) = cc

pub leads_attribute : (ts : List Seen) → leads productions look_ahead (the Attribute) ts ≡ leads productions look_ahead (token Dot) ts
leads_attribute ts = leads_by_kind (the Attribute) ts refl ∙ same_test (is_terminal_among (Dot ∷ [])) (is Dot) refl (kind_of ts) ∙ sym (leads_by_kind (token Dot) ts refl)

-- no suffix
pub suffix_none : (limit : ℕ) (tables : Tables) (reader : Reader) (at : ℕ) → leads productions look_ahead (token Dot) (seen_from reader at) ≡ false → IsGot limit (IsSuffix reader.source.now) (opt (the Attribute)) reader at tables tables suffix.None at
suffix_none limit tables reader at unled = got_by (gives_none (leads_attribute (seen_from reader at) ∙ unled)) (λ sense s. refl) (omega arith)

-- a suffix
pub suffix_got : (limit : ℕ) (tables : Tables) {reader : Reader} {at middle following : ℕ} {dot word : Token} (found : SuffixNode) → IsNext (is Dot) reader at dot middle → IsNext (is Suffix) reader middle word following → found ≡ suffix_of (token_text reader.source.now word) →
    IsGot limit (IsSuffix reader.source.now) (opt (the Attribute)) reader at tables tables found following
suffix_got limit tables {reader = reader} {at = at} {dot = dot} {word = word} found n m is = got_by (gives_some (leads_attribute (seen_from reader at) ∙ led_next n) (gives_the Attribute (gives_both (gives_dot tables n) (gives_suffix tables m))))
    (λ sense s. is) (let g = n.further in let h = m.further in omega arith)

-- no suffix after a dot
pub suffix_refused : (limit : ℕ) (tables : Tables) {reader : Reader} {at middle : ℕ} {dot : Token} {e : SyntaxFaultOrMemory} → IsNext (is Dot) reader at dot middle → IsLacking (is Suffix) reader middle e →
    Refuses limit reader.source.now (opt (the Attribute)) tables (read_state_of reader.unclosed tables) (seen_from reader at) e
unfolding dotted
suffix_refused limit tables {reader = reader} {at = at} n l = refuses_some (leads_attribute (seen_from reader at) ∙ led_next n) (refuses_the Attribute (refuses_second (gives_dot tables n) (lacking_after (went_same tables) l)))

-- a number that was not read fits no literal
pub none_fits : {F : Type 0} (limit : ℕ) (value : F → Number) (text : List ℕ) (e : NumberFault) → ReadsLiteral {F = F} limit value text (Err e) → (x : Number) → MeansNumber text x → FitsLiteral limit x → ⊥
none_fits limit value text Shape r x m f = r x m
none_fits limit value text Limit r x m f = r.2 (subst (λ (y : Number). FitsLiteral limit y) (one_number text x r.0 m r.1) f)
