-- The tokens of a joint source begin with those of the saved source, a `;` follows them.
use Rattle.std.proofs.Common.{◌≡◌, ℕ, ◌+◌, ◌≤◌, false, List, [], ◌∷◌, ◌++◌, length, take, drop, Ok, refl, sym, ap, ap₂, ◌∙◌, subst, arith, append_assoc, inl, inr}
use Rattle.std.proofs.lemmas.List.{take-append-le, drop-append-le, length-drop}
use Rattle.gms_grammar.specs.Lines.{lines, code_text}
use Rattle.gms_grammar.specs.declared.fault.ByteFault.{ByteFault}
use Rattle.gms_grammar.specs.LineFaults.{IsInLines}
use Rattle.gms_grammar.proofs.LineLemmas.{below_or, before-le-length}
use Rattle.gms_grammar.specs.declared.lexeme.Lexeme.{Lexeme}
use Rattle.gms_lex.specs.declared.mode.Mode.{Mode}
use Rattle.gms_lex.specs.declared.mode.Mode.TheVariants.{Code}
use Rattle.gms_lex.specs.declared.token.Token.{Token}
use Rattle.gms_lex.specs.Modes.{mode_after}
use Rattle.gms_lex.specs.Pieces.{begins_other, space_length}
use Rattle.gms_lex.specs.Places.{place_after_bytes, place_of_byte, source_start}
use Rattle.gms_lex.specs.Tokens.{IsMadeOf, bytes_of_pieces, token_at, tokens_of, end_token, IsTokens}
use Rattle.gms_lex.proofs.LineTextLemmas.{length-code_text}
use Rattle.gms_lex.proofs.ReadingLemmas.{lexeme_within}
use Rattle.gms_joint_source.specs.JointSources.{joint_source}
use Rattle.gms_joint_source.proofs.Feeds.{fed, ends_in_return, no_return_drop}
use Rattle.gms_joint_source.proofs.FedTokens.{piece_fed}
use Rattle.gms_joint_source.proofs.Spaces.{Joint, in_list_now, blank_tokens, blank_list, joining}
use Rattle.gms_joint_source.proofs.JointLines.{code_no_return, code_text_joint}

-- ---- pieces

-- The tokens of pieces begin with those of others, and the join follows: line ends, a `;` and the
-- rest.
record GoOn (Clean : Type 0) (place : ℕ) (rest source : List ℕ) (start : ℕ) (pieces longer : List Lexeme) : Type 0 where
  pub following : List Token
  pub is : tokens_of source start longer ≡ tokens_of source start pieces ++ following
  pub joining : Joint Clean place rest following

go_on_all : (source : List ℕ) (start : ℕ) (current : Mode) (text rest : List ℕ) (pieces longer : List Lexeme) (last end : Mode) → ends_in_return text ≡ false → space_length text ≡ length text → IsMadeOf current text pieces last [] → IsMadeOf current (fed text (59 ∷ rest)) longer end [] → GoOn (in_list_now last ≡ false) (start + length text + 1) rest source start pieces longer
go_on_all source start current text rest pieces longer last end h all made more = record {
  following = tokens_of source start longer;
  is = ap (λ ts. ts ++ tokens_of source start longer) (sym (blank_tokens source start current text pieces last all made));
  joining = joining (in_list_now last ≡ false) source start current text rest longer end h all (λ outside. sym (blank_list current text pieces last all made) ∙ outside) more;
}

go_on_more : (Clean : Type 0) (place : ℕ) (rest source : List ℕ) (start : ℕ) (p : Lexeme) (pieces longer : List Lexeme) → GoOn Clean place rest source (start + p.length) pieces longer → GoOn Clean place rest source start (p ∷ pieces) (p ∷ longer)
go_on_more Clean place rest source start p pieces longer g =
    let first : List Token = token_at (place_of_byte source start) p.piece start (start + p.length) in
    record {
      following = g.following;
      is = ap (λ ts. first ++ ts) g.is ∙ sym (append_assoc first (tokens_of source (start + p.length) pieces) g.following);
      joining = g.joining;
    }

-- the first piece, and the others
first_piece : (current : Mode) (text following : List ℕ) (p q : Lexeme) (longer : List Lexeme) (end : Mode) → p.length ≤ length text → q ≡ p → IsMadeOf (mode_after current q.piece (take q.length (fed text following))) (drop q.length (fed text following)) longer end [] → IsMadeOf (mode_after current p.piece (take p.length text)) (fed (drop p.length text) following) longer end []
first_piece current text following p q longer end within same made =
    let here : IsMadeOf (mode_after current p.piece (take p.length (fed text following))) (drop p.length (fed text following)) longer end [] = subst (λ (r : Lexeme). IsMadeOf (mode_after current r.piece (take r.length (fed text following))) (drop r.length (fed text following)) longer end []) same made in
    subst (λ t. IsMadeOf (mode_after current p.piece t) (fed (drop p.length text) following) longer end []) (take-append-le p.length text (10 ∷ following) within)
    (subst (λ t. IsMadeOf (mode_after current p.piece (take p.length (fed text following))) t longer end []) (drop-append-le p.length text (10 ∷ following) within) here)

-- the pieces of a text, and those of the same text with a line feed, a `;` and more after it
go_on : (source : List ℕ) (start : ℕ) (current : Mode) (text rest : List ℕ) (pieces longer : List Lexeme) (last end : Mode) → ends_in_return text ≡ false → IsMadeOf current text pieces last [] → IsMadeOf current (fed text (59 ∷ rest)) longer end [] → GoOn (in_list_now last ≡ false) (start + length text + 1) rest source start pieces longer
go_on source start current [] rest pieces longer last end h made more = go_on_all source start current [] rest pieces longer last end h refl made more
go_on source start current (b ∷ text) rest [] longer last end h made more = absurd (let e : [] ≡ b ∷ text = made.1 in cc)
go_on source start current (b ∷ text) rest (p ∷ pieces) [] last end h made more = absurd (let e : [] ≡ b ∷ fed text (59 ∷ rest) = more.1 in cc)
go_on source start current (b ∷ text) rest (p ∷ pieces) (q ∷ longer) last end h made more =
    elim (below_or (space_length (b ∷ text)) (length (b ∷ text))) [
      | inr all ↦
          go_on_all source start current (b ∷ text) rest (p ∷ pieces) (q ∷ longer) last end h (omega (arith, all, before-le-length begins_other (b ∷ text))) made more
      | inl some ↦
          let both : Ok q ≡ Ok p = sym more.0 ∙ piece_fed current b text (59 ∷ rest) h some ∙ made.0 in
          let same : q ≡ p = cc in
          let within : p.length ≤ length (b ∷ text) = (lexeme_within current (b ∷ text) p made.0).1 in
          let place : start + p.length + length (drop p.length (b ∷ text)) + 1 ≡ start + length (b ∷ text) + 1 = omega (arith, within, length-drop p.length (b ∷ text)) in
          subst (λ (r : Lexeme). GoOn (in_list_now last ≡ false) (start + length (b ∷ text) + 1) rest source start (p ∷ pieces) (r ∷ longer)) (sym same)
          (go_on_more (in_list_now last ≡ false) (start + length (b ∷ text) + 1) rest source start p pieces longer
          (subst (λ n. GoOn (in_list_now last ≡ false) n rest source (start + p.length) pieces longer) place
          (go_on source (start + p.length) (mode_after current p.piece (take p.length (b ∷ text))) (drop p.length (b ∷ text)) rest pieces longer last end (no_return_drop p.length (b ∷ text) h) made.1 (first_piece current (b ∷ text) (59 ∷ rest) p q longer end within same more.1))))
    ]

-- ---- places

-- the pieces of a text take all its bytes
made_long : (current : Mode) (text : List ℕ) (pieces : List Lexeme) (last : Mode) → IsMadeOf current text pieces last [] → bytes_of_pieces pieces ≡ length text
made_long current text [] last made = ap length made.1
made_long current text (p ∷ pieces) last made =
    omega (arith, made_long (mode_after current p.piece (take p.length text)) (drop p.length text) pieces last made.1, length-drop p.length text, (lexeme_within current text p made.0).1)

place_same : (source more : List ℕ) (n : ℕ) → n ≤ length source → place_of_byte (source ++ more) n ≡ place_of_byte source n
place_same source more n le = ap (place_after_bytes source_start) (take-append-le n source more le)

-- tokens have the same places in a source with more after it
tokens_same : (source more : List ℕ) (start : ℕ) (pieces : List Lexeme) → start + bytes_of_pieces pieces ≤ length source → tokens_of (source ++ more) start pieces ≡ tokens_of source start pieces
tokens_same source more start [] le = refl
tokens_same source more start (p ∷ pieces) le =
    ap₂ (λ at ts. token_at at p.piece start (start + p.length) ++ ts) (place_same source more start (omega (arith, le))) (tokens_same source more (start + p.length) pieces (omega (arith, le)))

-- ---- sources

-- Tokens of a saved source, without its end; and those of a joint source, which are these, the
-- join, and the end.
pub record PrefixTokens (Clean : Type 0) (saved file : List ℕ) (tokens all : List Token) : Type 0 where
  pub own : List Token
  pub tokens_are : tokens ≡ own ++ end_token saved ∷ []
  pub following : List Token
  pub all_are : all ≡ own ++ following ++ end_token (joint_source saved file) ∷ []
  pub joining : Joint Clean (length saved + 1) (10 ∷ code_text file) following

-- where the tokens of the saved source end outside a list there are no line ends before the `;`
pub prefix_tokens : (saved file : List ℕ) (tokens all : List Token) (is : IsTokens saved tokens) → IsTokens (joint_source saved file) all → PrefixTokens (in_list_now is.has.last ≡ false) saved file tokens all
prefix_tokens saved file tokens all is are =
    let good : (fault : ByteFault) → IsInLines 0 false (lines saved) fault → ⊥ = λ fault h. is.sound fault (inl h) in
    let joint : List ℕ = joint_source saved file in
    let text : List ℕ = code_text saved in
    let made : IsMadeOf Code (fed text (59 ∷ 10 ∷ code_text file)) are.has.pieces are.has.last [] = subst (λ t. IsMadeOf Code t are.has.pieces are.has.last []) (code_text_joint saved good file) are.has.made in
    let place : 0 + length text + 1 ≡ length saved + 1 = omega (arith, length-code_text saved) in
    let g : GoOn (in_list_now is.has.last ≡ false) (0 + length text + 1) (10 ∷ code_text file) joint 0 is.has.pieces are.has.pieces = go_on joint 0 Code text (10 ∷ code_text file) is.has.pieces are.has.pieces is.has.last are.has.last (code_no_return saved good) is.has.made made in
    let own : List Token = tokens_of saved 0 is.has.pieces in
    let same : tokens_of joint 0 is.has.pieces ≡ own = tokens_same saved (10 ∷ 59 ∷ 10 ∷ file) 0 is.has.pieces (omega (arith, made_long Code text is.has.pieces is.has.last is.has.made, length-code_text saved)) in
    record {
      own = own;
      tokens_are = is.has.tokens_are;
      following = g.following;
      all_are = are.has.tokens_are ∙ ap (λ ts. ts ++ end_token joint ∷ []) (g.is ∙ ap (λ ts. ts ++ g.following) same);
      joining = subst (λ n. Joint (in_list_now is.has.last ≡ false) n (10 ∷ code_text file) g.following) place g.joining;
    }
