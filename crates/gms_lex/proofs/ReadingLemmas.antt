-- A text is read in one way, as far as pieces go, and reading one piece after another finds it.
use Rattle.std.proofs.Common.{◌≡◌, ◌⊎◌, inl, inr, ℕ, zero, suc, ◌+◌, ◌<◌, ◌≤◌, List, [], ◌∷◌, ◌++◌, length, take, drop, Option, Some, None, Ok, Err, refl, sym, ap, ◌∙◌, subst, append_assoc, append-nil, arith}
use Rattle.std.proofs.lemmas.List.{length-drop, drop-drop, drop_all}
use Rattle.gms_grammar.specs.declared.fault.ByteFault.{ByteFault}
use Rattle.gms_grammar.specs.Errors.{lex_error_code, IsFirstFault}
use Rattle.gms_grammar.specs.declared.lexeme.Lexeme.{Lexeme}
use Rattle.gms_grammar.specs.declared.lexeme.Misread.{Misread}
use Rattle.gms_grammar.specs.Shapes.{Read, IsWithinText}
use Rattle.gms_lex.specs.declared.mode.Mode.{Mode}
use Rattle.gms_lex.specs.declared.mode.Mode.TheVariants.{Code}
use Rattle.gms_lex.specs.declared.token.Token.{Token}
use Rattle.gms_lex.specs.Modes.{mode_after}
use Rattle.gms_lex.specs.Pieces.{piece_at}
use Rattle.gms_lex.specs.Places.{place_of_byte}
use Rattle.gms_lex.specs.Tokens.{IsMadeOf, bytes_of_pieces, token_at, tokens_of, end_token, HasTokens, StopsAt}
use Rattle.gms_lex.specs.InnerReadings.{IsReading}
use Rattle.gms_lex.proofs.PieceLemmas.{piece_within}

-- the text begins with no piece
abbrev pub BeginsNone : Mode → List ℕ → Type 0
BeginsNone current text = (p : Lexeme) → piece_at current text ≡ Ok p → ⊥

-- the first piece is within the text
pub lexeme_within : (current : Mode) (text : List ℕ) (p : Lexeme) → piece_at current text ≡ Ok p → (0 < p.length) × (p.length ≤ length text)
lexeme_within current text p e = subst (IsWithinText text) e (piece_within current text)

-- an error instead of a piece is so too
pub misread_within : (current : Mode) (text : List ℕ) (m : Misread) → piece_at current text ≡ Err m → m.ahead ≤ length text
misread_within current text m e = subst (IsWithinText text) e (piece_within current text)

-- an empty text begins with no piece
BeginsNone-nothing : (current : Mode) → BeginsNone current []
BeginsNone-nothing current p e = let h = lexeme_within current [] p e in omega arith

-- nor where an error is
BeginsNone-misread : (current : Mode) (text : List ℕ) (m : Misread) → piece_at current text ≡ Err m → BeginsNone current text
BeginsNone-misread current text m e p h = let z : Err m ≡ Ok p = sym e ∙ h in cc

-- the text determines its pieces, if none follows them
pub IsMadeOf-unique : (current : Mode) (text : List ℕ) (ps qs : List Lexeme) (l m : Mode) (r s : List ℕ) → BeginsNone l r → BeginsNone m s → IsMadeOf current text ps l r → IsMadeOf current text qs m s → (ps ≡ qs) × (l ≡ m) × (r ≡ s)
IsMadeOf-unique current text [] [] l m r s stops halts p q = (refl, p.0 ∙ sym q.0, p.1 ∙ sym q.1)
IsMadeOf-unique current text [] (y ∷ qs) l m r s stops halts p q =
    absurd (stops y (ap (λ (k : Mode). piece_at k r) p.0 ∙ ap (piece_at current) p.1 ∙ q.0))
IsMadeOf-unique current text (x ∷ ps) [] l m r s stops halts p q =
    absurd (halts x (ap (λ (k : Mode). piece_at k s) q.0 ∙ ap (piece_at current) q.1 ∙ p.0))
IsMadeOf-unique current text (x ∷ ps) (y ∷ qs) l m r s stops halts p q =
    let same : y ≡ x = let e : Ok y ≡ Ok x = sym q.0 ∙ p.0 in cc in
    let rest : IsMadeOf (mode_after current x.piece (take x.length text)) (drop x.length text) qs m s = subst (λ (z : Lexeme). IsMadeOf (mode_after current z.piece (take z.length text)) (drop z.length text) qs m s) same q.1 in
    let others = IsMadeOf-unique (mode_after current x.piece (take x.length text)) (drop x.length text) ps qs l m r s stops halts p.1 rest in
    let pieces : ps ≡ qs = others.0 in
    (let all : x ∷ ps ≡ y ∷ qs = cc in all, others.1, others.2)

-- one piece more
pub IsMadeOf-step : (current : Mode) (text : List ℕ) (pieces : List Lexeme) (last : Mode) (rest : List ℕ) (p : Lexeme) → piece_at last rest ≡ Ok p → IsMadeOf current text pieces last rest → IsMadeOf current text (pieces ++ p ∷ []) (mode_after last p.piece (take p.length rest)) (drop p.length rest)
IsMadeOf-step current text [] last rest p there made = (
  ap (λ (k : Mode). piece_at k text) (sym made.0) ∙ ap (piece_at last) (sym made.1) ∙ there,
  (ap (λ (k : Mode). mode_after k p.piece (take p.length rest)) made.0 ∙ ap (λ t. mode_after current p.piece (take p.length t)) made.1, ap (drop p.length) made.1),
)
IsMadeOf-step current text (q ∷ pieces) last rest p there made =
    (made.0, IsMadeOf-step (mode_after current q.piece (take q.length text)) (drop q.length text) pieces last rest p there made.1)

-- the bytes of one piece more
length_of-step : (pieces : List Lexeme) (p : Lexeme) → bytes_of_pieces (pieces ++ p ∷ []) ≡ bytes_of_pieces pieces + p.length
length_of-step [] p = omega arith
length_of-step (q ∷ pieces) p = omega (arith, length_of-step pieces p)

-- the tokens of one piece more
tokens_of-step : (source : List ℕ) (start : ℕ) (pieces : List Lexeme) (p : Lexeme) (n : ℕ) → start + bytes_of_pieces pieces ≡ n → tokens_of source start (pieces ++ p ∷ []) ≡ tokens_of source start pieces ++ token_at (place_of_byte source n) p.piece n (n + p.length)
tokens_of-step source start [] p n e =
    let same : start ≡ n = omega arith in
    append-nil (token_at (place_of_byte source start) p.piece start (start + p.length)) ∙ ap (λ k. token_at (place_of_byte source k) p.piece k (k + p.length)) same
tokens_of-step source start (q ∷ pieces) p n e =
    ap (λ (ts : List Token). token_at (place_of_byte source start) q.piece start (start + q.length) ++ ts) (tokens_of-step source (start + q.length) pieces p n (omega arith)) ∙ sym (append_assoc (token_at (place_of_byte source start) q.piece start (start + q.length)) (tokens_of source (start + q.length) pieces) (token_at (place_of_byte source n) p.piece n (n + p.length)))

-- Pieces lead so far, and these are the tokens among them.
pub record Opens (source text : List ℕ) (tokens : List Token) (start : ℕ) (current : Mode) : Type 0 where
  pub pieces : List Lexeme
  pub made : IsMadeOf Code text pieces current (drop start text)
  pub long : bytes_of_pieces pieces ≡ start
  pub tokens_are : tokens ≡ tokens_of source 0 pieces

-- at the start of the text
pub Opens-prefix : (source text : List ℕ) → Opens source text [] 0 Code
Opens-prefix source text = record { pieces = []; made = (refl, refl); long = refl; tokens_are = refl }

-- one piece more
pub Opens-next : (source text : List ℕ) (tokens : List Token) (start : ℕ) (current : Mode) (p : Lexeme) → Opens source text tokens start current → piece_at current (drop start text) ≡ Ok p → Opens source text (tokens ++ token_at (place_of_byte source start) p.piece start (start + p.length)) (start + p.length) (mode_after current p.piece (take p.length (drop start text)))
Opens-next source text tokens start current p opens there = record {
  pieces = opens.pieces ++ p ∷ [];
  made = subst (IsMadeOf Code text (opens.pieces ++ p ∷ []) (mode_after current p.piece (take p.length (drop start text)))) (drop-drop p.length start text) (IsMadeOf-step Code text opens.pieces current (drop start text) p there opens.made);
  long = omega (arith, length_of-step opens.pieces p, opens.long);
  tokens_are = ap (λ (ts : List Token). ts ++ token_at (place_of_byte source start) p.piece start (start + p.length)) opens.tokens_are ∙ sym (tokens_of-step source 0 opens.pieces p start (omega (arith, opens.long)));
}

-- at an error instead of a piece
pub Opens-stops : (source text : List ℕ) (tokens : List Token) (start : ℕ) (current : Mode) (m : Misread) → Opens source text tokens start current → start < length text → piece_at current (drop start text) ≡ Err m → StopsAt text record { at = start + m.ahead; error = m.error } × (start + m.ahead ≤ length text)
Opens-stops source text tokens start current m opens some there = (
  record {
    pieces = opens.pieces;
    last = current;
    rest = drop start text;
    misread = m;
    made = opens.made;
    some = omega (arith, length-drop start text);
    stops = there;
    at = omega (arith, opens.long);
    error = refl;
  },
  omega (arith, misread_within current (drop start text) m there, length-drop start text),
)

-- at the end of the text
pub Opens-end : (source text : List ℕ) (tokens : List Token) (start : ℕ) (current : Mode) → Opens source text tokens start current → start ≡ length text → length text ≡ length source → HasTokens source text (tokens ++ end_token source ∷ [])
Opens-end source text tokens start current opens end long = record {
  pieces = opens.pieces;
  last = current;
  made = subst (IsMadeOf Code text opens.pieces current) (drop_all start text (omega arith)) opens.made;
  tokens_are = ap (λ (ts : List Token). ts ++ end_token source ∷ []) opens.tokens_are;
}

-- Pieces lead from the start of the text to its end, or to a byte with an error instead of a piece.
pub record ReadsTo (current : Mode) (text : List ℕ) : Type 0 where
  pub pieces : List Lexeme
  pub last : Mode
  pub rest : List ℕ
  pub made : IsMadeOf current text pieces last rest
  pub ends : (rest ≡ []) ⊎ ((m : Misread) × (piece_at last rest ≡ Err m) × (0 < length rest))

-- each text is read to its end, or to an error
pub reads : (n : ℕ) (current : Mode) (text : List ℕ) → length text ≤ n → ReadsTo current text
reads n current [] h = record { pieces = []; last = current; rest = []; made = (refl, refl); ends = inl refl }
reads zero current (b ∷ text) h = absurd (omega arith)
reads (suc n) current (b ∷ text) h =
    elim (piece_at current (b ∷ text)) as (λ (r : Read). piece_at current (b ∷ text) ≡ r → ReadsTo current (b ∷ text)) [
      | Ok p ↦ λ e.
          let w = lexeme_within current (b ∷ text) p e in
          let more = reads n (mode_after current p.piece (take p.length (b ∷ text))) (drop p.length (b ∷ text)) (omega (arith, w.0, length-drop p.length (b ∷ text))) in
          record { pieces = p ∷ more.pieces; last = more.last; rest = more.rest; made = (e, more.made); ends = more.ends }
      | Err m ↦ λ e. record { pieces = []; last = current; rest = b ∷ text; made = (refl, refl); ends = inr (m, e, omega arith) }
    ] refl

-- the tokens of a text are known by it
pub HasTokens-unique : (source text : List ℕ) (ts us : List Token) → HasTokens source text ts → HasTokens source text us → ts ≡ us
HasTokens-unique source text ts us h g =
    let same = IsMadeOf-unique Code text h.pieces g.pieces h.last g.last [] [] (BeginsNone-nothing h.last) (BeginsNone-nothing g.last) h.made g.made in
    h.tokens_are ∙ ap (λ ps. tokens_of source 0 ps ++ end_token source ∷ []) same.0 ∙ sym g.tokens_are

-- a text with tokens has no byte at which its pieces stop
pub HasTokens-goes : (source text : List ℕ) (ts : List Token) (f : ByteFault) → HasTokens source text ts → StopsAt text f → ⊥
HasTokens-goes source text ts f h s =
    let same = IsMadeOf-unique Code text h.pieces s.pieces h.last s.last [] s.rest (BeginsNone-nothing h.last) (BeginsNone-misread s.last s.rest s.misread s.stops) h.made s.made in
    let none : length s.rest ≡ 0 = ap length (sym same.2) in
    omega (arith, none, s.some)

-- the byte at which pieces stop is known by the text, and so is the error there
pub StopsAt-unique : (text : List ℕ) (f g : ByteFault) → StopsAt text f → StopsAt text g → (f.at ≡ g.at) × (f.error ≡ g.error)
StopsAt-unique text f g s t =
    let same = IsMadeOf-unique Code text s.pieces t.pieces s.last t.last s.rest t.rest (BeginsNone-misread s.last s.rest s.misread s.stops) (BeginsNone-misread t.last t.rest t.misread t.stops) s.made t.made in
    let there : piece_at s.last s.rest ≡ Err t.misread = ap (λ (k : Mode). piece_at k s.rest) same.1 ∙ ap (piece_at t.last) same.2 ∙ t.stops in
    let read : s.misread ≡ t.misread = let e : Err s.misread ≡ Err t.misread = sym s.stops ∙ there in cc in
    (s.at ∙ ap (λ ps. bytes_of_pieces ps + s.misread.ahead) same.0 ∙ ap (λ (m : Misread). bytes_of_pieces t.pieces + m.ahead) read ∙ sym t.at, s.error ∙ ap (λ (m : Misread). m.error) read ∙ sym t.error)

-- where pieces stop is the first byte at which they do
pub stop-first : (text : List ℕ) (f : ByteFault) → StopsAt text f → IsFirstFault (StopsAt text) (Some f)
stop-first text f s = (s, λ g t. let same = StopsAt-unique text f g s t in inr (same.0, omega (arith, ap lex_error_code same.1)))

-- the first byte at which the pieces of a text stop, if they do
pub reading-first : (source text : List ℕ) (tokens : List Token) (found : Option ByteFault) → IsReading source text tokens found → IsFirstFault (StopsAt text) found
reading-first source text tokens None h = λ f s. HasTokens-goes source text tokens f h s
reading-first source text tokens (Some f) h = stop-first text f h.0
