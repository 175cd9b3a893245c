-- Single tokens at places of a reader.
use Rattle.std.proofs.Common.{◌≡◌, ℕ, ◌+◌, ◌<◌, ◌≤◌, Bool, true, List, ◌∷◌, length, Some, refl, sym, ap, ◌∙◌, subst, arith, ◌-◌}
use Rattle.gms_grammar.specs.declared.terminal.Terminal.{Terminal}
use Rattle.gms_grammar.specs.declared.terminal.Terminal.TheVariants.{LeftParen, RightParen}
use Rattle.gms_grammar.specs.Grammar.{one, ◌·◌, leaf, pair, yield}
use Rattle.gms_grammar.specs.Reading.{leads, refused}
use Rattle.gms_grammar.specs.Terminals.{is, terminal_number}
use Rattle.std.proofs.lemmas.Bool.{eqb-true}
use Rattle.gms_grammar.specs.GamsGrammar.{productions, token, bracketed}
use Rattle.gms_grammar.specs.GamsLookAhead.{look_ahead}
use Rattle.gms_grammar.proofs.Basics.{or_left}
pub use Rattle.gms_grammar.proofs.Eithers.{unled_next}
use Rattle.gms_lex.specs.declared.token.Token.{Token}
use Rattle.gms_labels.specs.Labels.{place_of}
use Rattle.gms_expressions.specs.declared.fault.SyntaxFault.{SyntaxFault}
use Rattle.gms_expressions.specs.declared.fault.SyntaxFaultOrMemory.{SyntaxFaultOrMemory}
use Rattle.gms_expressions.specs.declared.reader.Reader.{Reader}
use Rattle.gms_expressions.specs.declared.reader.Tables.{Tables}
use Rattle.gms_expressions.specs.Outcomes.{ExpressionState, IsFaultyInExpression, deep, out_of_range, many_names, many_labels}
use Rattle.gms_expressions.specs.InnerReadings.{Seen, Derivation, GamsPart, Gives, Went, Refuses, Sense, IsSense, IsNext, IsLacking, IsOpened, IsUnopened, seen_from, read_state_of, kind_of}
use Rattle.gms_expressions.proofs.TokenKinds.{is_plain, implies, also, same_number}
use Rattle.gms_expressions.proofs.ReadStates.{plain_after, plain_sound, names_kept, labels_kept}
use Rattle.gms_expressions.proofs.Extending.{went_same}
use Rattle.gms_expressions.proofs.Steps.{gives_one, gives_both, refuses_at, refuses_first, refuses_second}

-- the kind of a token that is next
pub kind_next : {test : Terminal → Bool} {reader : Reader} {at following : ℕ} {token : Token} (n : IsNext test reader at token following) → kind_of (seen_from reader at) ≡ n.kind
kind_next n = ap kind_of n.is

-- the next token, of a plain kind
pub gives_next : {limit : ℕ} {test : Terminal → Bool} {reader : Reader} {at following : ℕ} {token : Token} (tables : Tables) (n : IsNext test reader at token following) → implies test is_plain ≡ true →
    Gives limit reader.source.now (one test) (read_state_of reader.unclosed tables) (seen_from reader at) (leaf (n.kind, token)) (read_state_of reader.unclosed tables) (seen_from reader following)
gives_next {limit = limit} {test = test} {reader = reader} {token = token} tables n plain =
    let k = also test is_plain plain n.kind n.passes in
    gives_one n.is n.passes (plain_sound limit reader.source.now (read_state_of reader.unclosed tables) n.kind token k) (sym (plain_after reader.source.now reader.unclosed tables n.kind token k))

-- another token is expected
pub lacking_after : {limit : ℕ} {test : Terminal → Bool} {reader : Reader} {at : ℕ} {tables : Tables} {w : ExpressionState} {e : SyntaxFaultOrMemory} → Went w tables → IsLacking test reader at e → Refuses limit reader.source.now (one test) tables w (seen_from reader at) e
lacking_after went l = refuses_at went (refused l.not_led) l.is

pub refuses_lacking : {limit : ℕ} {test : Terminal → Bool} {reader : Reader} {at unclosed : ℕ} {tables : Tables} {e : SyntaxFaultOrMemory} → IsLacking test reader at e → Refuses limit reader.source.now (one test) tables (read_state_of unclosed tables) (seen_from reader at) e
refuses_lacking {tables = tables} l = lacking_after (went_same tables) l

-- the next token leads into a part that begins with it
pub leads_next : {test : Terminal → Bool} {reader : Reader} {at following : ℕ} {token : Token} (q : GamsPart) → IsNext test reader at token following → leads productions look_ahead (one test · q) (seen_from reader at) ≡ true
leads_next {test = test} q n = ap (leads productions look_ahead (one test · q)) n.is ∙ or_left (test n.kind) _ n.passes

pub led_next : {test : Terminal → Bool} {reader : Reader} {at following : ℕ} {token : Token} → IsNext test reader at token following → leads productions look_ahead (one test) (seen_from reader at) ≡ true
led_next {test = test} n = ap (leads productions look_ahead (one test)) n.is ∙ n.passes

-- what is so of the sense of later tables is so of that of earlier ones
pub earlier : {limit : ℕ} {source : List ℕ} {part : GamsPart} {unclosed : ℕ} {old new : Tables} {ts rest : List Seen} {tree : Derivation} {sense : Sense} →
    Gives limit source part (read_state_of unclosed old) ts tree (read_state_of unclosed new) rest → IsSense new sense → IsSense old sense
earlier {source = source} {unclosed = unclosed} {old = old} {rest = rest} {tree = tree} g s = record {
  names = λ text n h. s.names text n (subst (λ (w : ExpressionState). place_of w.names text ≡ Some n) (sym g.leaves) (names_kept source (read_state_of unclosed old) (yield tree) (kind_of rest) text n h));
  labels = λ text n h. s.labels text n (subst (λ (w : ExpressionState). place_of w.labels text ≡ Some n) (sym g.leaves) (labels_kept source (read_state_of unclosed old) (yield tree) (kind_of rest) text n h));
}

-- the next token, of a kind that is known
pub exact : {kind : Terminal} {reader : Reader} {at following : ℕ} {token : Token} → IsNext (is kind) reader at token following → seen_from reader at ≡ (kind, token) ∷ seen_from reader following
exact {kind = kind} {reader = reader} {following = following} {token = token} n =
    let k : kind ≡ n.kind = same_number kind n.kind (eqb-true (terminal_number kind) (terminal_number n.kind) n.passes) in
    n.is ∙ ap (λ (k : Terminal). (k, token) ∷ seen_from reader following) (sym k)

-- the parenthesis opens
gives_open : {limit : ℕ} {reader : Reader} {at following : ℕ} {inner : Reader} (tables : Tables) (o : IsOpened reader at inner following) →
    Gives limit reader.source.now (one (is LeftParen)) (read_state_of reader.unclosed tables) (seen_from reader at) (leaf (LeftParen, o.token)) (read_state_of (reader.unclosed + 1) tables) (seen_from reader following)
gives_open {limit = limit} {reader = reader} tables o = gives_one (exact o.next) refl sound refl
  where
    sound : (fault : SyntaxFault) → IsFaultyInExpression limit reader.source.now (read_state_of reader.unclosed tables) (LeftParen, o.token) fault → ⊥
    sound fault (deep e d) = let within_bound = o.within_bound in absurd (omega (arith, d))
    sound fault (out_of_range e d) = cc
    sound fault (many_names n d) = cc
    sound fault (many_labels e d) = cc

-- the parenthesis closes
gives_close : {limit : ℕ} {reader : Reader} {at following : ℕ} {token : Token} (tables : Tables) → IsNext (is RightParen) reader at token following →
    Gives limit reader.source.now (one (is RightParen)) (read_state_of (reader.unclosed + 1) tables) (seen_from reader at) (leaf (RightParen, token)) (read_state_of reader.unclosed tables) (seen_from reader following)
gives_close {limit = limit} {reader = reader} {token = token} tables n = gives_one (exact n) refl sound (ap (λ k. read_state_of k tables) (let e : reader.unclosed ≡ reader.unclosed + 1 - 1 = omega arith in e))
  where
    sound : (fault : SyntaxFault) → IsFaultyInExpression limit reader.source.now (read_state_of (reader.unclosed + 1) tables) (RightParen, token) fault → ⊥
    sound fault (deep e d) = cc
    sound fault (out_of_range e d) = cc
    sound fault (many_names n d) = cc
    sound fault (many_labels e d) = cc

module _ {limit : ℕ} {reader : Reader} {at start : ℕ} {inner : Reader} {p : GamsPart} {old : Tables} (o : IsOpened reader at inner start) where
  -- a part in parentheses
  pub gives_bracketed : {new : Tables} {tree : Derivation} {next following : ℕ} {token : Token} →
      Gives limit reader.source.now p (read_state_of (reader.unclosed + 1) old) (seen_from reader start) tree (read_state_of (reader.unclosed + 1) new) (seen_from reader next) → IsNext (is RightParen) reader next token following →
      Gives limit reader.source.now (bracketed p) (read_state_of reader.unclosed old) (seen_from reader at) (pair (leaf (LeftParen, o.token)) (pair tree (leaf (RightParen, token)))) (read_state_of reader.unclosed new) (seen_from reader following)
  gives_bracketed {new = new} g n = gives_both (gives_open old o) (gives_both g (gives_close new n))

  pub refuses_inside : {last : Tables} {e : SyntaxFaultOrMemory} → Refuses limit reader.source.now p last (read_state_of (reader.unclosed + 1) old) (seen_from reader start) e → Refuses limit reader.source.now (bracketed p) last (read_state_of reader.unclosed old) (seen_from reader at) e
  refuses_inside r = refuses_second (gives_open old o) (refuses_first r)

  pub refuses_unclosed : {new : Tables} {tree : Derivation} {next : ℕ} {e : SyntaxFaultOrMemory} →
      Gives limit reader.source.now p (read_state_of (reader.unclosed + 1) old) (seen_from reader start) tree (read_state_of (reader.unclosed + 1) new) (seen_from reader next) → IsLacking (is RightParen) reader next e →
      Refuses limit reader.source.now (bracketed p) new (read_state_of reader.unclosed old) (seen_from reader at) e
  refuses_unclosed g l = refuses_second (gives_open old o) (refuses_second g (refuses_lacking l))

-- no parenthesis opens where one is expected
pub refuses_unopened : {limit : ℕ} {reader : Reader} {at : ℕ} {e : SyntaxFaultOrMemory} (p : GamsPart) (tables : Tables) → IsUnopened reader at e → Refuses limit reader.source.now (bracketed p) tables (read_state_of reader.unclosed tables) (seen_from reader at) e
refuses_unopened {limit = limit} p tables u = refuses_first (u.refuses limit tables)

-- each step of a loop over tokens leaves fewer
pub falls : {test : Terminal → Bool} {reader : Reader} {at following : ℕ} {token : Token} → IsNext test reader at token following → (after : ℕ) → following ≤ after → length reader.tokens.now - after < length reader.tokens.now - at
falls n after h = let w = n.within in let f = n.further in omega arith
