-- Single tokens at places of a reader.
use Rattle.std.proofs.Common.{◌≡◌, ℕ, ◌+◌, ◌<◌, ◌≤◌, Bool, true, false, not, ◌&&◌, List, [], ◌∷◌, length, Some, refl, sym, ap, ◌∙◌, subst, arith, ◌-◌}
use Rattle.gms_grammar.specs.declared.terminal.Terminal.{Terminal}
use Rattle.gms_grammar.specs.declared.terminal.Terminal.TheVariants.{LeftParen, RightParen, Dot, Using, Option, Table, Semicolon}
use Rattle.gms_grammar.specs.Grammar.{one, ◌·◌, leaf, pair, yield}
use Rattle.gms_grammar.specs.Reading.{leads, refused}
use Rattle.gms_grammar.specs.Terminals.{is, is_terminal_among}
use Rattle.gms_grammar.specs.GamsGrammar.{productions, token, bracketed}
use Rattle.gms_grammar.specs.GamsLookAhead.{look_ahead}
use Rattle.gms_grammar.proofs.Checks.{right_and}
use Rattle.std.proofs.lemmas.Bool.{not-true, and_parts}
use Rattle.gms_lex.specs.declared.token.Token.{Token}
use Rattle.gms_labels.specs.Labels.{place_of}
use Rattle.gms_expressions.specs.Outcomes.{open_after}
use Rattle.gms_expressions.proofs.TokenKinds.{implies, also}
use Rattle.gms_parse.specs.declared.fault.SourceFault.{SourceFault}
use Rattle.gms_parse.specs.declared.fault.SourceFaultOrMemory.{SourceFaultOrMemory}
use Rattle.gms_parse.specs.declared.reader.Reader.{Reader}
use Rattle.gms_parse.specs.declared.reader.Tables.{Tables}
use Rattle.gms_parse.specs.ReadStates.{KindedToken, ReaderState, ends_statement, reader_after, IsFaulty, deep, out_of_range, many_names, many_labels, in_table, without_lines}
use Rattle.gms_parse.specs.InnerReadings.{Derivation, GamsPart, Gives, Refuses, Sense, IsSense, Holds, Has, Starts, Stays, Optionless, IsNext, IsLacking, IsOpened, IsUnopened, inside, seen_from, kind_of, IsGot}
use Rattle.gms_parse.proofs.TokenKinds.{begins, is_quiet, is_plain, same_kind, led_first}
use Rattle.gms_parse.proofs.StateLemmas.{quiet_after, quiet_sound, closing_sound, keyword_after, begun_after, bound_for_none, names_kept, labels_kept}
use Rattle.gms_parse.proofs.Steps.{got_by, gives_one, gives_both, refuses_at, refuses_first, refuses_second}

-- what a token leaves, which a reader has passed
abbrev pub past : Reader → ReaderState → Terminal → Token → ℕ → ReaderState
past reader w kind t following = reader_after reader.source.now w (kind, t) (kind_of (seen_from reader following))

-- the next token leads into a part that it is, or that begins with it
pub led_next : {test : Terminal → Bool} {reader : Reader} {at following : ℕ} {t : Token} → IsNext test reader at t following → leads productions look_ahead (one test) (seen_from reader at) ≡ true
led_next {test = test} n = ap (leads productions look_ahead (one test)) n.is ∙ n.passes

pub leads_next : {test : Terminal → Bool} {reader : Reader} {at following : ℕ} {t : Token} (q : GamsPart) → IsNext test reader at t following → leads productions look_ahead (one test · q) (seen_from reader at) ≡ true
leads_next {test = test} {reader = reader} {at = at} q n = led_first test q (seen_from reader at) (led_next n)

-- the next token, of a kind that is known
pub exact_kind : {kind : Terminal} {reader : Reader} {at following : ℕ} {t : Token} → (n : IsNext (is kind) reader at t following) → kind ≡ n.kind
exact_kind {kind = kind} n = same_kind kind n.kind n.passes

pub exact : {kind : Terminal} {reader : Reader} {at following : ℕ} {t : Token} → IsNext (is kind) reader at t following → seen_from reader at ≡ (kind, t) ∷ seen_from reader following
exact {reader = reader} {following = following} {t = t} n = n.is ∙ ap (λ (k : Terminal). (k, t) ∷ seen_from reader following) (sym (exact_kind n))

-- another token is expected
pub refuses_lacking : {limit : ℕ} {test : Terminal → Bool} {reader : Reader} {at : ℕ} {w : ReaderState} {e : SourceFaultOrMemory} → IsLacking test reader at e → Refuses limit reader.source.now (one test) w (seen_from reader at) e
refuses_lacking l = refuses_at (refused l.not_led) l.is

-- ---- states

-- where the keyword is the same
pub optionless_on : {j k : Terminal} → k ≡ j → is Option j ≡ false → is Option k ≡ false
optionless_on e h = ap (is Option) e ∙ h

pub tableless_on : {j k : Terminal} → k ≡ j → is Table j ≡ false → is Table k ≡ false
tableless_on e h = ap (is Table) e ∙ h

pub stays_then : {reader : Reader} {between new : Tables} {w v x : ReaderState} → Stays reader between w v → Stays reader new v x → Stays reader new w x
stays_then s t = record { has = t.has; keyword = t.keyword ∙ s.keyword; level = t.level ∙ s.level }

pub stays_same : {reader : Reader} {tables : Tables} {w : ReaderState} → Has reader tables w → Stays reader tables w w
stays_same h = record { has = h; keyword = refl; level = refl }

-- what is so of the sense of later tables is so of that of earlier ones
pub earlier : {limit : ℕ} {source : List ℕ} {part : GamsPart} {reader other : Reader} {old new : Tables} {w v : ReaderState} {ts rest : List KindedToken} {tree : Derivation} {sense : Sense} →
    Gives limit source part w ts tree v rest → Holds reader old w → Holds other new v → IsSense new sense → IsSense old sense
earlier {source = source} {w = w} {v = v} {rest = rest} {tree = tree} g h k s = record {
  names = λ text n p. s.names text n (subst (λ (x : List (List ℕ)). place_of x text ≡ Some n) k.names (subst (λ (x : ReaderState). place_of x.names text ≡ Some n) (sym g.leaves) (names_kept source w (yield tree) (kind_of rest) text n (subst (λ (x : List (List ℕ)). place_of x text ≡ Some n) (sym h.names) p))));
  labels = λ text n p. s.labels text n (subst (λ (x : List (List ℕ)). place_of x text ≡ Some n) k.labels (subst (λ (x : ReaderState). place_of x.labels text ≡ Some n) (sym g.leaves) (labels_kept source w (yield tree) (kind_of rest) text n (subst (λ (x : List (List ℕ)). place_of x text ≡ Some n) (sym h.labels) p))));
}

module _ (reader : Reader) (w : ReaderState) (kind : Terminal) (t : Token) (following : ℕ) where
  -- after a quiet token
  pub quiet_holds : {tables : Tables} → is_quiet kind ≡ true → Holds reader tables w → Holds reader tables (past reader w kind t following)
  quiet_holds q h =
      let k = quiet_after reader.source.now w kind t (kind_of (seen_from reader following)) q in
      record { open_count = k.open_count ∙ h.open_count; names = k.names ∙ h.names; labels = k.labels ∙ h.labels }

  -- after a token within a statement that leaves the parentheses as they were
  pub stays_by : {old new : Tables} → begins kind ≡ false → Has reader old w → open_after w.open_count kind ≡ w.open_count → (past reader w kind t following).names ≡ new.names → (past reader w kind t following).labels ≡ new.labels → Stays reader new w (past reader w kind t following)
  stays_by b h opens names labels =
      let k = keyword_after reader.source.now w (kind, t) (kind_of (seen_from reader following)) b in
      let l = h.level in
      record { has = record { holds = record { open_count = opens ∙ h.holds.open_count; names = names; labels = labels }; level = omega (arith, k.1, opens, l) }; keyword = k.0; level = k.1 }

  -- after a plain token
  pub plain_stays : {tables : Tables} → is_plain kind ≡ true → Has reader tables w → Stays reader tables w (past reader w kind t following)
  plain_stays p h =
      let q = (and_parts (is_quiet kind) (not (begins kind)) p).0 in
      let k = quiet_after reader.source.now w kind t (kind_of (seen_from reader following)) q in
      stays_by (not-true (begins kind) (right_and (is_quiet kind) (not (begins kind)) p)) h k.open_count (k.names ∙ h.holds.names) (k.labels ∙ h.holds.labels)

  pub plain_starts : {tables : Tables} → is_plain kind ≡ true → is_terminal_among (Dot ∷ Using ∷ []) kind ≡ false → Has reader tables w → Optionless w → Starts reader tables (past reader w kind t following)
  plain_starts p d h o = let s = plain_stays p h in record { has = s.has; undotted = d; optionless = optionless_on s.keyword o }

  -- after a keyword or a semicolon
  pub begun_has : {tables : Tables} → is_quiet kind ≡ true → begins kind ≡ true → Holds reader tables w → Has reader tables (past reader w kind t following)
  begun_has q b h =
      let k = quiet_after reader.source.now w kind t (kind_of (seen_from reader following)) q in
      let l = begun_after reader.source.now w (kind, t) (kind_of (seen_from reader following)) b in
      record { holds = quiet_holds q h; level = omega (arith, l.1, k.open_count) }

  pub begun_keyword : begins kind ≡ true → (past reader w kind t following).keyword ≡ kind
  begun_keyword b = (begun_after reader.source.now w (kind, t) (kind_of (seen_from reader following)) b).0

  pub begun_starts : {tables : Tables} → is_quiet kind ≡ true → begins kind ≡ true → is Option kind ≡ false → is_terminal_among (Dot ∷ Using ∷ []) kind ≡ false → Holds reader tables w → Starts reader tables (past reader w kind t following)
  begun_starts q b o d h = record { has = begun_has q b h; undotted = d; optionless = ap (is Option) (begun_keyword b) ∙ o }

-- ---- tokens that were read

-- the next token, of a quiet kind
pub gives_quiet : {limit : ℕ} {test : Terminal → Bool} {reader : Reader} {at following : ℕ} {t : Token} {w : ReaderState} (n : IsNext test reader at t following) → is_quiet n.kind ≡ true →
    Gives limit reader.source.now (one test) w (seen_from reader at) (leaf (n.kind, t)) (past reader w n.kind t following) (seen_from reader following)
gives_quiet {limit = limit} {reader = reader} {following = following} {t = t} {w = w} n q = gives_one n.is n.passes (quiet_sound limit reader.source.now w n.kind t (kind_of (seen_from reader following)) q) refl

-- of one of some plain kinds
pub gives_plain : {limit : ℕ} {test : Terminal → Bool} {reader : Reader} {at following : ℕ} {t : Token} {w : ReaderState} (n : IsNext test reader at t following) → implies test is_plain ≡ true →
    Gives limit reader.source.now (one test) w (seen_from reader at) (leaf (n.kind, t)) (past reader w n.kind t following) (seen_from reader following)
gives_plain {test = test} n all = gives_quiet n ((and_parts (is_quiet n.kind) (not (begins n.kind)) (also test is_plain all n.kind n.passes)).0)

-- of this quiet kind
pub gives_exact : {limit : ℕ} {kind : Terminal} {reader : Reader} {at following : ℕ} {t : Token} {w : ReaderState} → IsNext (is kind) reader at t following → is_quiet kind ≡ true →
    Gives limit reader.source.now (token kind) w (seen_from reader at) (leaf (kind, t)) (past reader w kind t following) (seen_from reader following)
gives_exact {limit = limit} {kind = kind} {reader = reader} {following = following} {t = t} {w = w} n q = gives_one (exact n) (ap (is kind) (exact_kind n) ∙ n.passes) (quiet_sound limit reader.source.now w kind t (kind_of (seen_from reader following)) q) refl

-- each step of a loop over tokens leaves fewer
pub falls : {test : Terminal → Bool} {reader : Reader} {at following : ℕ} {t : Token} → IsNext test reader at t following → (after : ℕ) → following ≤ after → length reader.tokens.now - after < length reader.tokens.now - at
falls n after h = let w = n.within in let f = n.further in omega arith

-- ---- parentheses

-- what was read by the reader inside is read by the one outside
pub got_inside : {T : Type 0} {limit : ℕ} (Means : Reader → Sense → Derivation → T → Type 0) {Leaves : ReaderState → Type 0} {p : GamsPart} {reader inner : Reader} {at start from next : ℕ} {new : Tables} {w : ReaderState} {x : T} → IsOpened reader at inner start →
    IsGot limit (Means inner) Leaves p inner from new w x next → IsGot limit (Means (inside reader (reader.unclosed + 1))) Leaves p reader from new w x next
got_inside {limit = limit} Means {Leaves} {p} {reader} {from = from} {next = next} {new = new} {w = w} {x = x} o got =
    let g = subst (λ (r : Reader). IsGot limit (Means r) Leaves p r from new w x next) o.inner_is got in
    got_by g.gives g.leaves g.means g.further

pub refuses_within : {limit : ℕ} {p : GamsPart} {reader inner : Reader} {at start : ℕ} (from : ℕ) {w : ReaderState} {e : SourceFaultOrMemory} → IsOpened reader at inner start →
    Refuses limit inner.source.now p w (seen_from inner from) e → Refuses limit reader.source.now p w (seen_from reader from) e
refuses_within {limit = limit} {p = p} from {w = w} {e = e} o r = subst (λ (r : Reader). Refuses limit r.source.now p w (seen_from r from) e) o.inner_is r

-- after the opening parenthesis
abbrev pub opened : {reader : Reader} {at start : ℕ} {inner : Reader} → ReaderState → IsOpened reader at inner start → ReaderState
opened {reader} {at} {start} w o = past reader w LeftParen o.token start

module _ {reader : Reader} {at start : ℕ} {inner : Reader} {old : Tables} {w : ReaderState} (o : IsOpened reader at inner start) (h : Has reader old w) where
  pub open_has : Has inner old (opened w o)
  open_has = record {
    holds = record { open_count = ap (λ n. n + 1) h.holds.open_count ∙ ap (λ (r : Reader). r.unclosed) (sym o.inner_is); names = h.holds.names; labels = h.holds.labels };
    level = (let l = h.level in omega arith);
  }

  pub open_starts : Optionless w → Starts inner old (opened w o)
  open_starts n = record { has = open_has; undotted = refl; optionless = n }

  -- after the closing parenthesis
  pub close_stays : {new : Tables} {v : ReaderState} → Stays inner new (opened w o) v → (t : Token) (following : ℕ) → Stays reader new w (past reader v RightParen t following)
  close_stays s t following =
      let c = s.has.holds.open_count ∙ ap (λ (r : Reader). r.unclosed) o.inner_is in
      let k = h.holds.open_count in
      let l = h.level in
      let e = s.level in
      record {
        has = record {
          holds = record { open_count = omega (arith, c); names = s.has.holds.names; labels = s.has.holds.labels };
          level = omega (arith, c, k, l, e);
        };
        keyword = s.keyword;
        level = s.level;
      }

  module _ {limit : ℕ} where
    pub gives_open : Gives limit reader.source.now (token LeftParen) w (seen_from reader at) (leaf (LeftParen, o.token)) (opened w o) (seen_from reader start)
    gives_open = gives_one (exact o.next) refl sound refl
      where
        sound : (fault : SourceFault) → IsFaulty limit reader.source.now w (LeftParen, o.token) (kind_of (seen_from reader start)) fault → ⊥
        sound fault (deep e d) = let within_bound = o.within_bound in let c = h.holds.open_count in absurd (omega (arith, d, c, within_bound))
        sound fault (out_of_range e d) = cc
        sound fault (many_names e d) = cc
        sound fault (many_labels e d) = bound_for_none _ _ refl d
        sound fault (in_table e d f) = cc
        sound fault (without_lines e d f) = cc

    pub refuses_inside : {p : GamsPart} {e : SourceFaultOrMemory} → Refuses limit reader.source.now p (opened w o) (seen_from reader start) e → Refuses limit reader.source.now (bracketed p) w (seen_from reader at) e
    refuses_inside r = refuses_second gives_open (refuses_first r)

    module _ {new : Tables} {v : ReaderState} (s : Stays inner new (opened w o) v) where
      pub gives_close : {next following : ℕ} {t : Token} → IsNext (is RightParen) reader next t following → (is Table w.keyword && ends_statement (kind_of (seen_from reader following))) ≡ false →
          Gives limit reader.source.now (token RightParen) v (seen_from reader next) (leaf (RightParen, t)) (past reader v RightParen t following) (seen_from reader following)
      gives_close {following = following} {t = t} n on = gives_one (exact n) refl (closing_sound limit reader.source.now v t (kind_of (seen_from reader following)) table_on) refl
        where
          table_on : v.keyword ≡ Table → ends_statement (kind_of (seen_from reader following)) ≡ true → ⊥
          table_on k f =
              let yes : (is Table w.keyword && ends_statement (kind_of (seen_from reader following))) ≡ true = ap (λ x. is Table x && ends_statement (kind_of (seen_from reader following))) (sym s.keyword ∙ k) ∙ f in
              cc

      -- a part in parentheses
      pub gives_bracketed : {p : GamsPart} {tree : Derivation} {next following : ℕ} {t : Token} → Gives limit reader.source.now p (opened w o) (seen_from reader start) tree v (seen_from reader next) → IsNext (is RightParen) reader next t following →
          (is Table w.keyword && ends_statement (kind_of (seen_from reader following))) ≡ false →
          Gives limit reader.source.now (bracketed p) w (seen_from reader at) (pair (leaf (LeftParen, o.token)) (pair tree (leaf (RightParen, t)))) (past reader v RightParen t following) (seen_from reader following)
      gives_bracketed g n on = gives_both gives_open (gives_both g (gives_close n on))

      pub refuses_unclosed : {p : GamsPart} {tree : Derivation} {next : ℕ} {e : SourceFaultOrMemory} → Gives limit reader.source.now p (opened w o) (seen_from reader start) tree v (seen_from reader next) → IsLacking (is RightParen) reader next e →
          Refuses limit reader.source.now (bracketed p) w (seen_from reader at) e
      refuses_unclosed g l = refuses_second gives_open (refuses_second g (refuses_lacking l))

-- a statement that is no table continues after a parenthesis
pub closes_on : (k : Terminal) (b : Bool) → is Table k ≡ false → (is Table k && b) ≡ false
closes_on k b h = ap (λ a. a && b) h

-- no parenthesis opens where one is expected
pub refuses_unopened : {limit : ℕ} {reader : Reader} {at : ℕ} {e : SourceFaultOrMemory} {tables : Tables} {w : ReaderState} (p : GamsPart) → IsUnopened reader at e → Holds reader tables w → Refuses limit reader.source.now (bracketed p) w (seen_from reader at) e
refuses_unopened {limit = limit} {tables = tables} {w = w} p u h = refuses_first (u.refuses limit tables w h)

-- some state that a name may follow, to view a loop's step by itself
abbrev pub somewhere : Reader → Tables → ReaderState
somewhere reader tables = record { open_count = reader.unclosed; names = tables.names; labels = tables.labels; before = []; keyword = Semicolon; level = 0 }

pub starts_somewhere : (reader : Reader) (tables : Tables) → Starts reader tables (somewhere reader tables)
starts_somewhere reader tables = record { has = record { holds = record { open_count = refl; names = refl; labels = refl }; level = omega arith }; undotted = refl; optionless = refl }

-- after a token of this plain kind
pub kind_stays : (kind : Terminal) {reader : Reader} {at following : ℕ} {t : Token} {tables : Tables} {w : ReaderState} → IsNext (is kind) reader at t following → is_plain kind ≡ true → Has reader tables w → Stays reader tables w (past reader w kind t following)
kind_stays kind {reader} {following = following} {t = t} {w = w} n p h = plain_stays reader w kind t following p h
