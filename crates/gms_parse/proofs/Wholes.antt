-- A whole program: what is between semicolons, up to the end.
use Rattle.std.proofs.Common.{◌≡◌, ℕ, Bool, true, false, not, ◌||◌, List, [], ◌∷◌, ◌++◌, map, Vec, refl, sym, ap, ◌∙◌, subst, arith, inl, inr}
use Rattle.std.specs.declared.alloc.Global.{Global}
use Rattle.std.proofs.lemmas.List.{append-nil, map-append}
use Rattle.gq_number.specs.Number.{Number}
use Rattle.gms_lex.specs.declared.token.Token.{Token}
use Rattle.gms_lex.specs.Tokens.{tokens_of, end_token}
use Rattle.gms_ast.specs.declared.program.Stmt.{Stmt}
use Rattle.gms_ast.specs.StatementTrees.{Statements, no_statement, statement, followed_by}
use Rattle.gms_ast.specs.StatementView.{statements_in_order, statement_view}
use Rattle.gms_grammar.specs.declared.terminal.Terminal.{Terminal}
use Rattle.gms_grammar.specs.declared.terminal.Terminal.TheVariants.{Semicolon, End}
use Rattle.gms_grammar.specs.Grammar.{the, ◌·◌, many, leaf, pair, none, more, node, yield}
use Rattle.gms_grammar.specs.Reading.{leads}
use Rattle.gms_grammar.specs.Terminals.{is}
use Rattle.gms_grammar.specs.GamsGrammar.{Nonterminal, Expression, Program, Segment, productions, token}
use Rattle.gms_grammar.specs.GamsLookAhead.{look_ahead}
use Rattle.gms_grammar.proofs.Sound.{sound}
use Rattle.gms_parse.specs.declared.fault.SourceFaultOrMemory.{SourceFaultOrMemory}
use Rattle.gms_parse.specs.declared.reader.Reader.{Reader}
use Rattle.gms_parse.specs.declared.reader.Tables.{Tables}
use Rattle.gms_parse.specs.Programs.{segments, statements_of}
use Rattle.gms_parse.specs.ReadStates.{KindedToken, ReaderState, start, unexpected}
use Rattle.gms_parse.specs.InnerReadings.{Derivation, Gives, Refuses, Sense, IsSense, IsReady, IsGot, IsNext, Holds, Starts, IsWhole, RefusesWhole, unexpected_at, kind_of, seen_from}
use Rattle.gms_parse.specs.InnerMeanings.{IsSegment, AreStatements, act_view, put_before}
use Rattle.gms_parse.proofs.TokenKinds.{same_kind, unled_next}
use Rattle.gms_parse.proofs.Alphabet.{AllPass, pass_rest, only, all_pass}
use Rattle.gms_parse.proofs.Steps.{got_by, Within, within_the, within_second, within_again, within_then, gives_both, gives_no_more, refuses_second, refuses_again}
use Rattle.gms_parse.proofs.Nexts.{past, gives_exact, leads_next, earlier}
use Rattle.gms_parse.proofs.Ends.{seen_token}
use Rattle.gms_parse.proofs.Looped.{view-Stmt, in_order_is}
use Rattle.gms_parse.proofs.Segments.{put_append}

-- ---- before the first token

pub starts_whole : {reader : Reader} {tables : Tables} → reader.unclosed ≡ 0 → tables.names ≡ [] → tables.labels ≡ [] → Starts reader tables start
starts_whole outside names labels = record {
  has = record { holds = record { open_count = sym outside; names = sym names; labels = sym labels }; level = omega arith };
  undotted = refl;
  optionless = refl;
}

-- ---- statements after others

module _ {F : Type 0} (value : F → Number) where
  followed : (xs : List (Stmt F)) (others : Statements Number) → followed_by (put_before value xs no_statement) others ≡ put_before value xs others
  followed [] others = refl
  followed (x ∷ xs) others = ap (λ ys. followed_by ys others) (view-Stmt value x (put_before value xs no_statement)) ∙ ap (statement x.at (act_view value x.act)) (followed xs others) ∙ sym (view-Stmt value x (put_before value xs others))

-- the segments of a program read so far, and the statements that they mean
pub record Whole {F : Type 0} (limit : ℕ) (value : F → Number) (reader : Reader) (new : Tables) (xs : List (Stmt F)) (at : ℕ) : Type 0 where
  pub context : Derivation → Derivation
  pub following : ReaderState
  pub within : Within limit reader.source.now (the Program) start (seen_from reader 0) (many (token Semicolon · the Segment)) following (seen_from reader at) context
  pub holds : Holds reader new following
  pub means : (sense : Sense) → IsSense new sense → (b : Derivation) → statements_of reader.source.now sense.names sense.labels (context b) ≡ put_before value xs (segments reader.source.now sense.names sense.labels b)

-- why a part of the program is refused is why the program is
pub refuses_whole : {limit : ℕ} {reader : Reader} {e : SourceFaultOrMemory} → Refuses limit reader.source.now (the Program) start (seen_from reader 0) e → RefusesWhole limit reader e
refuses_whole r = record { why = λ fault is. inl (r.why fault is) }

module _ {F : Type 0} (value : F → Number) {limit : ℕ} {reader : Reader} where
  pub whole_start : {new : Tables} (old : Vec (Stmt F) Global) {now : Vec (Stmt F) Global} {at : ℕ} → old.items ≡ [] → IsGot limit (IsSegment value reader.source.now old) (Holds reader new) (the Segment) reader 0 new start now at → Whole limit value reader new now.items at
  whole_start old {now = now} none_before got = record {
    context = λ b. node (pair got.tree b);
    following = got.following;
    within = within_then (within_the Program) (within_second got.gives);
    holds = got.leaves;
    means = λ sense s b.
        let m = got.means sense s in
        let rest = segments reader.source.now sense.names sense.labels b in
        ap (λ ys. followed_by ys rest) (sym m.2 ∙ in_order_is value m.0) ∙ followed value m.0 rest ∙ ap (λ ys. put_before value ys rest) (sym (m.1 ∙ ap (λ ys. ys ++ m.0) none_before));
  }

  module _ {new : Tables} {xs : List (Stmt F)} {at : ℕ} (l : Whole limit value reader new xs at) {t : Token} {following : ℕ} (n : IsNext (is Semicolon) reader at t following) where
    pub whole_refuses : {e : SourceFaultOrMemory} → Refuses limit reader.source.now (the Segment) (past reader l.following Semicolon t following) (seen_from reader following) e → RefusesWhole limit reader e
    whole_refuses r = refuses_whole (l.within.refuses _ (refuses_again (leads_next (the Segment) n) (refuses_second (gives_exact {kind = Semicolon} n refl) r)))

    -- one more
    pub whole_on : {newer : Tables} (old : Vec (Stmt F) Global) {now : Vec (Stmt F) Global} {after : ℕ} → old.items ≡ xs → IsGot limit (IsSegment value reader.source.now old) (Holds reader newer) (the Segment) reader following newer (past reader l.following Semicolon t following) now after →
        Whole limit value reader newer now.items after
    whole_on old {after = after} was got = record {
      context = λ b. l.context (more (pair (leaf (Semicolon, t)) got.tree) b);
      following = got.following;
      within = within_then l.within (within_again (leads_next (the Segment) n) gives);
      holds = got.leaves;
      means = λ sense s b.
          let m = got.means sense s in
          let rest = segments reader.source.now sense.names sense.labels b in
          l.means sense (earlier gives l.holds got.leaves s) (more (pair (leaf (Semicolon, t)) got.tree) b)
          ∙ ap (put_before value xs) (ap (λ ys. followed_by ys rest) (sym m.2 ∙ in_order_is value m.0) ∙ followed value m.0 rest) ∙ sym (put_append value xs m.0 rest) ∙ ap (λ ys. put_before value ys rest) (sym (m.1 ∙ ap (λ ys. ys ++ m.0) was));
    }
      where
        gives : Gives limit reader.source.now (token Semicolon · the Segment) l.following (seen_from reader at) (pair (leaf (Semicolon, t)) got.tree) got.following (seen_from reader after)
        gives = gives_both (gives_exact {kind = Semicolon} n refl) got.gives

-- ---- the end

led_end : (ts : List KindedToken) → leads productions look_ahead (token End) ts ≡ true → kind_of ts ≡ End
led_end [] h = cc
led_end (t ∷ ts) h = sym (same_kind End t.0 h)

abbrev no_end : Terminal → Bool
no_end kind = not (is End kind)

abbrev everywhere : Nonterminal → Bool
everywhere n = true

endless : (n : Nonterminal) → (not (everywhere n) || only everywhere no_end (productions n)) ≡ true
endless Expression = refl
endless _ = refl

-- the end of the source is among its tokens
ends : {reader : Reader} → IsReady reader → AllPass no_end (seen_from reader 0) → ⊥
ends {reader} ready pass =
    let prefix = tokens_of reader.source.now 0 ready.tokens.has.pieces in
    let last = end_token reader.source.now in
    let all : seen_from reader 0 ≡ map (seen_token reader) prefix ++ map (seen_token reader) (last ∷ []) = ap (map (seen_token reader)) ready.tokens.has.tokens_are ∙ map-append (seen_token reader) prefix (last ∷ []) in
    let p = pass_rest no_end (map (seen_token reader) prefix) (map (seen_token reader) (last ∷ [])) (subst (λ (us : List KindedToken). AllPass no_end us) all pass) in
    let q : no_end (seen_token reader last).0 ≡ true = p.0 in
    cc

-- a token follows a program
not_ended : {limit : ℕ} {reader : Reader} {v : ReaderState} {tree : Derivation} (rest : List KindedToken) → IsReady reader → Gives limit reader.source.now (the Program) start (seen_from reader 0) tree v rest → leads productions look_ahead (token End) rest ≡ false → kind_of rest ≡ End → ⊥
not_ended {tree = tree} [] ready g unled e =
    let found = sound productions look_ahead g.reads in
    ends ready (subst (λ (us : List KindedToken). AllPass no_end us) (sym (found.1 ∙ append-nil (yield tree))) (all_pass everywhere no_end endless (the Program) tree found.0 refl))
not_ended (t ∷ rest) ready g unled e = let k : is End t.0 ≡ true = ap (is End) e in cc

module _ {F : Type 0} (value : F → Number) {limit : ℕ} {reader : Reader} {new : Tables} {xs : List (Stmt F)} {at : ℕ} (l : Whole limit value reader new xs at) (unled : leads productions look_ahead (token Semicolon) (seen_from reader at) ≡ false) where
  gives_whole : Gives limit reader.source.now (the Program) start (seen_from reader 0) (l.context none) l.following (seen_from reader at)
  gives_whole = l.within.gives none _ _ (gives_no_more (unled_next (is Semicolon) (the Segment) (seen_from reader at) unled))

  pub whole_got : leads productions look_ahead (token End) (seen_from reader at) ≡ true → (all : Vec (Stmt F) Global) → all.items ≡ xs → IsWhole limit (AreStatements value reader.source.now) reader new all
  whole_got led all same = record {
    next = at;
    got = got_by gives_whole l.holds (λ sense s. ap (λ (ys : List (Stmt F)). statements_in_order value (map {B = Statements Number → Statements Number} (statement_view value) ys)) same ∙ in_order_is value xs ∙ sym (l.means sense s none)) (omega arith);
    at_end = led_end (seen_from reader at) led;
  }

  -- another token than the end comes next
  pub whole_over : IsReady reader → leads productions look_ahead (token End) (seen_from reader at) ≡ false → {e : SourceFaultOrMemory} → e ≡ unexpected_at reader at → RefusesWhole limit reader e
  whole_over ready not_end is = record {
    why = λ fault k.
        let same : fault ≡ unexpected reader.source.now (seen_from reader at) = cc in
        inr (record { tree = l.context none; following = l.following; rest = seen_from reader at; gives = gives_whole; other = not_ended (seen_from reader at) ready gives_whole not_end; is = same });
  }
