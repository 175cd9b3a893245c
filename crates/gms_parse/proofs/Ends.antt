-- The end of the source is a token: after any other there is a further one.
use Rattle.gms_grammar.proofs.Orders.{order, at_once, earlier, later, some_there}
use Rattle.std.proofs.Common.{◌≡◌, ℕ, ◌-◌, ◌<◌, Bool, true, false, List, [], ◌∷◌, ◌++◌, length, map, take, drop, refl, sym, ap, ◌∙◌, arith}
use Rattle.std.proofs.lemmas.List.{length-drop, length-map, take-append-drop}
use Rattle.gms_lex.specs.declared.token.Token.{Token}
use Rattle.gms_lex.specs.TokenTexts.{token_text}
use Rattle.gms_lex.specs.Tokens.{tokens_of, end_token}
use Rattle.gms_grammar.specs.declared.terminal.Terminal.{Terminal}
use Rattle.gms_grammar.specs.declared.terminal.Terminal.TheVariants.{End}
use Rattle.gms_grammar.specs.Reading.{leads}
use Rattle.gms_grammar.specs.GamsGrammar.{productions}
use Rattle.gms_grammar.specs.GamsLookAhead.{look_ahead}
use Rattle.gms_grammar.specs.Terminals.{is}
use Rattle.gms_expressions.specs.Words.{terminal_of}
use Rattle.gms_parse.specs.declared.reader.Reader.{Reader}
use Rattle.gms_parse.specs.ReadStates.{KindedToken}
use Rattle.gms_parse.specs.InnerReadings.{GamsPart, IsReady, IsNext, seen_from}
use Rattle.gms_parse.proofs.TokenKinds.{same_kind}

-- a token as the grammar sees it
abbrev pub seen_token : Reader → Token → KindedToken
seen_token reader t = (terminal_of t.kind (token_text reader.source.now t), t)

pub length_seen : (reader : Reader) (at : ℕ) → length (seen_from reader at) ≡ length reader.tokens.now - at
length_seen reader at = length-map (drop at reader.tokens.now) (seen_token reader) ∙ length-drop at reader.tokens.now

module _ {reader : Reader} {test : Terminal → Bool} {at following : ℕ} {t : Token} (ready : IsReady reader) (n : IsNext test reader at t following) where
  -- the last token is the end
  alone : (drop at reader.tokens.now ≡ t ∷ []) → n.kind ≡ End
  alone e =
      let tokens = reader.tokens.now in
      let prefix = tokens_of reader.source.now 0 ready.tokens.has.pieces in
      let all : take at tokens ++ t ∷ [] ≡ prefix ++ end_token reader.source.now ∷ [] = ap (λ u. take at tokens ++ u) (sym e) ∙ take-append-drop at tokens ∙ ready.tokens.has.tokens_are in
      let same : t ≡ end_token reader.source.now = elim (order (take at tokens) t [] prefix (end_token reader.source.now) [] all) [
        | at_once e f g ↦ f
        | earlier w e g ↦ absurd (some_there w (end_token reader.source.now) [] g)
        | later w e g ↦ absurd (some_there w t [] g)
      ] in
      n.kind_is ∙ ap (λ (x : Token). terminal_of x.kind (token_text reader.source.now x)) same

  one_left : (us : List Token) → map (seen_token reader) us ≡ (n.kind, t) ∷ [] → us ≡ t ∷ []
  one_left [] e = cc
  one_left (u ∷ []) e = let p : seen_token reader u ≡ (n.kind, t) = cc in ap (λ (x : KindedToken). x.1 ∷ []) p
  one_left (u ∷ (v ∷ us)) e = cc

  -- after a token other than the end there is another token
  pub more_after : is End n.kind ≡ false → following < length reader.tokens.now
  more_after other = go (seen_from reader following) refl
    where
      go : (rest : List KindedToken) → seen_from reader following ≡ rest → following < length reader.tokens.now
      go [] e =
          let last = alone (one_left (drop at reader.tokens.now) (n.is ∙ ap (λ u. (n.kind, t) ∷ u) e)) in
          let yes : is End n.kind ≡ true = ap (is End) last in
          cc
      go (x ∷ rest) e = let l = sym (length_seen reader following) ∙ ap length e in omega (arith, l)

-- of this kind
pub after_within : (kind : Terminal) {reader : Reader} {at following : ℕ} {t : Token} → IsReady reader → (n : IsNext (is kind) reader at t following) → is End kind ≡ false → following < length reader.tokens.now
after_within kind ready n other = more_after ready n (ap (is End) (sym (same_kind kind n.kind n.passes)) ∙ other)

-- where a part may begin there is a token
pub led_within : (part : GamsPart) (reader : Reader) (at : ℕ) → leads productions look_ahead part (seen_from reader at) ≡ true → at < length reader.tokens.now
led_within part reader at led = go (seen_from reader at) refl
  where
    go : (ts : List KindedToken) → seen_from reader at ≡ ts → at < length reader.tokens.now
    go [] e = let no_token : leads productions look_ahead part (seen_from reader at) ≡ false = ap (leads productions look_ahead part) e in cc
    go (x ∷ ts) e = let l = sym (length_seen reader at) ∙ ap length e in omega (arith, l)
