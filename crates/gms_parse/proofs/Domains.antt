-- Domains: sets and `*` in parentheses after a name.
use Rattle.std.proofs.lemmas.Bool.{and_parts, not-true}
use Rattle.std.proofs.Common.{◌≡◌, ℕ, Bool, true, false, cond, List, [], ◌∷◌, Option as Maybe, Some, None, Vec, Result, Ok, Err, not, ◌||◌, refl, sym, ap, ◌∙◌, subst, arith}
use Rattle.std.specs.declared.alloc.Global.{Global}
use Rattle.std.proofs.lemmas.List.{map-id}
use Rattle.gms_lex.specs.declared.token.Token.{Token}
use Rattle.gms_ast.specs.declared.word.Named.{Named}
use Rattle.gms_grammar.specs.declared.terminal.Terminal.{Terminal}
use Rattle.gms_grammar.specs.declared.terminal.Terminal.TheVariants.{Star, Comma, LeftParen, RightParen, Table}
use Rattle.gms_grammar.specs.Grammar.{the, opt, node, yield}
use Rattle.gms_grammar.specs.LookAhead.{may_begin}
use Rattle.gms_grammar.specs.Reading.{leads}
use Rattle.gms_grammar.specs.Terminals.{is}
use Rattle.gms_grammar.specs.GamsGrammar.{Nonterminal, Expression, Domain, DomainList, DomainPosition, productions, token, name}
use Rattle.gms_grammar.specs.GamsLookAhead.{look_ahead}
use Rattle.gms_expressions.proofs.TokenKinds.{same_test}
use Rattle.gms_parse.specs.declared.fault.SourceFaultOrMemory.{SourceFaultOrMemory}
use Rattle.gms_parse.specs.declared.reader.Reader.{Reader}
use Rattle.gms_parse.specs.declared.reader.Tables.{Tables}
use Rattle.gms_parse.specs.DataLists.{listed_in}
use Rattle.gms_parse.specs.Declarations.{position_in}
use Rattle.gms_labels.specs.declared.place.Place.{Place}
use Rattle.gms_grammar.proofs.Checks.{right_and}
use Rattle.gms_grammar.proofs.Sound.{sound}
use Rattle.gms_parse.specs.declared.fault.SourceError.TheVariants as source_error
use Rattle.gms_table.specs.declared.fault.TableError.TheVariants.{NoHeading}
use Rattle.gms_parse.specs.declared.fault.SourceFaultOrMemory.TheVariants.{Fault}
use Rattle.gms_parse.specs.ReadStates.{KindedToken, ReaderState, ends_statement, last_kind, table_name, kind_ahead, reader_after, reader_after_all, IsFaulty, without_lines}
use Rattle.gms_parse.specs.InnerReadings.{Derivation, Gives, Refuses, Sense, Has, Starts, Stays, IsNext, IsGot, IsOpened, AnswersDomain, AnswersAfter, ends_head, seen_from, kind_of}
use Rattle.gms_parse.specs.InnerMeanings.{IsNamed, IsPosition, IsDomain, IsOptionalDomain}
use Rattle.gms_parse.proofs.TokenKinds.{leads_alike, same_kind}
use Rattle.gms_parse.proofs.Alphabet.{AllPass, only, all_pass}
use Rattle.gms_parse.proofs.Steps.{got_by, gives_the, gives_left, gives_right, gives_none, gives_some, refuses_the, refuses_second, refuses_some, refuses_token, takes_next}
use Rattle.gms_parse.proofs.Nexts.{exact, opened, gives_open, gives_bracketed, close_stays, closes_on, led_next, gives_exact, plain_stays, stays_same}
use Rattle.gms_grammar.proofs.Eithers.{led_given, refuses_other}
use Rattle.gms_parse.proofs.Listing.{AreAll, all_meant, list_of}

-- `*`
pub star_got : {limit : ℕ} {reader : Reader} {at : ℕ} {old : Tables} {w : ReaderState} {t : Token} {following : ℕ} → Starts reader old w → IsNext (is Star) reader at t following → IsGot limit (IsPosition reader.source.now) (Stays reader old w) (the DomainPosition) reader at old w None following
star_got {reader = reader} {w = w} {t = t} {following = following} s n = got_by (gives_the DomainPosition (gives_left (led_next n) (gives_exact n refl))) (plain_stays reader w Star t following refl s.has) (λ sense m. refl) (let g = n.further in omega arith)

-- a set
pub position_got : {limit : ℕ} {reader : Reader} {at : ℕ} {w : ReaderState} {new : Tables} {named : Named} {next : ℕ} → leads productions look_ahead (token Star) (seen_from reader at) ≡ false → IsGot limit (IsNamed reader.source.now) (Stays reader new w) name reader at new w named next →
    IsGot limit (IsPosition reader.source.now) (Stays reader new w) (the DomainPosition) reader at new w (Some named) next
position_got unled got = got_by (gives_the DomainPosition (gives_right unled (led_given got.gives) got.gives)) got.leaves (λ sense m. ap Some (got.means sense m)) got.further

pub position_refused : {limit : ℕ} {source : List ℕ} {w : ReaderState} {ts : List KindedToken} {e : SourceFaultOrMemory} → leads productions look_ahead (token Star) ts ≡ false → Refuses limit source name w ts e → Refuses limit source (the DomainPosition) w ts e
position_refused unled r = refuses_the DomainPosition (refuses_other unled r)

-- positions as they are meant
pub positions_meant : (source : List ℕ) (sense : Sense) (tree : Derivation) (xs : List (Maybe Named)) → AreAll (IsPosition source) sense tree xs → xs ≡ listed_in (position_in source sense.names sense.labels) tree
positions_meant source sense tree xs h = sym (map-id xs) ∙ all_meant (IsPosition source) (λ x. x) (position_in source sense.names sense.labels) sense (λ t x k. k) tree xs h

-- ---- the name of a table

abbrev is_domain_list : Nonterminal → Bool
is_domain_list DomainList = true
is_domain_list DomainPosition = true
is_domain_list _ = false

abbrev no_table : Terminal → Bool
no_table kind = not (is Table kind)

domains_other : (n : Nonterminal) → (not (is_domain_list n) || only is_domain_list no_table (productions n)) ≡ true
domains_other Expression = refl
domains_other _ = refl

pub name_pushed : (x : KindedToken) (before : List KindedToken) → is Table (last_kind before) ≡ false → table_name (x ∷ before) ≡ table_name before
name_pushed x [] h = refl
name_pushed x (y ∷ before) h = ap (λ b. cond b x.1.at (table_name (y ∷ before))) h

pub name_kept : (source : List ℕ) (w : ReaderState) (u : List KindedToken) (ahead : Terminal) → AllPass no_table u → is Table (last_kind w.before) ≡ false → table_name (reader_after_all source w u ahead).before ≡ table_name w.before
name_kept source w [] ahead h k = refl
name_kept source w (t ∷ u) ahead h k = name_kept source (reader_after source w t (kind_ahead u ahead)) u ahead h.1 (not-true (is Table t.0) h.0) ∙ name_pushed t w.before k

-- ---- domains

module _ {reader : Reader} {at start : ℕ} {inner : Reader} {old : Tables} {w : ReaderState} (o : IsOpened reader at inner start) (h : Has reader old w) where
  -- positions between parentheses
  pub domain_got : {limit : ℕ} {new : Tables} {positions : Vec (Maybe Named) Global} {next following : ℕ} {t : Token} →
      IsGot limit (AreAll (IsPosition reader.source.now)) (Stays inner new (opened w o)) (list_of (is Comma) (the DomainPosition)) reader start new (opened w o) positions.items next → IsNext (is RightParen) reader next t following →
      (ends_head w (seen_from reader following) ≡ false → IsGot limit (IsDomain reader.source.now) (Stays reader new w) (the Domain) reader at new w positions following)
      × (ends_head w (seen_from reader following) ≡ true → is Table (last_kind w.before) ≡ false → Refuses limit reader.source.now (the Domain) w (seen_from reader at) (Fault (record { error = source_error.Table NoHeading; at = table_name w.before })))
  domain_got {limit} {new} {positions = positions} {next = next} {following = following} {t = t} got n = (found, headless)
    where
      listed : Gives limit reader.source.now (the DomainList) (opened w o) (seen_from reader start) (node got.tree) got.following (seen_from reader next)
      listed = gives_the DomainList got.gives

      found : ends_head w (seen_from reader following) ≡ false → IsGot limit (IsDomain reader.source.now) (Stays reader new w) (the Domain) reader at new w positions following
      found on = got_by (gives_the Domain (gives_bracketed o h got.leaves listed n on)) (close_stays o h got.leaves t following) (λ sense m. positions_meant reader.source.now sense got.tree positions.items (got.means sense m))
          (let a = o.next.further in let b = got.further in let c = n.further in omega arith)

      headless : ends_head w (seen_from reader following) ≡ true → is Table (last_kind w.before) ≡ false → Refuses limit reader.source.now (the Domain) w (seen_from reader at) (Fault (record { error = source_error.Table NoHeading; at = table_name w.before }))
      headless true_there last =
          let table : Table ≡ w.keyword = same_kind Table w.keyword ((and_parts _ _ true_there).0) in
          let ends = right_and (is Table w.keyword) (ends_statement (kind_of (seen_from reader following))) true_there in
          let kinds = all_pass is_domain_list no_table domains_other (the DomainList) (node got.tree) (sound productions look_ahead listed.reads).0 refl in
          let where_it_is : table_name got.following.before ≡ table_name w.before =
          ap (λ (x : ReaderState). table_name x.before) listed.leaves ∙ name_kept reader.source.now (opened w o) (yield got.tree) (kind_of (seen_from reader next)) kinds refl ∙ name_pushed (LeftParen, o.token) w.before last in
          refuses_the Domain (refuses_second (gives_open o h) (refuses_second listed
          (refuses_token (takes_next (exact n) refl) (subst (λ (x : Place). IsFaulty limit reader.source.now got.following (RightParen, t) (kind_of (seen_from reader following)) (record { error = source_error.Table NoHeading; at = x })) where_it_is (without_lines refl (got.leaves.keyword ∙ sym table) ends)) refl)))

-- a parenthesis leads into a domain
pub leads_domain : (ts : List KindedToken) → leads productions look_ahead (the Domain) ts ≡ leads productions look_ahead (token LeftParen) ts
leads_domain ts = leads_alike (the Domain) (token LeftParen) ts refl refl (same_test (may_begin look_ahead (the Domain)) (is LeftParen) refl)

pub no_domain : {limit : ℕ} {reader : Reader} {at : ℕ} {old : Tables} {w : ReaderState} (positions : Vec (Maybe Named) Global) → positions.items ≡ [] → Has reader old w → leads productions look_ahead (token LeftParen) (seen_from reader at) ≡ false →
    IsGot limit (IsOptionalDomain reader.source.now) (Stays reader old w) (opt (the Domain)) reader at old w positions at
no_domain {reader = reader} {at = at} {w = w} positions is h unled = got_by (gives_none (leads_domain (seen_from reader at) ∙ unled)) (stays_same h) (λ sense m. is) (omega arith)

-- a domain that is there
pub some_domain : (limit : ℕ) (reader : Reader) (at : ℕ) (old new : Tables) (r : Result (Vec (Maybe Named) Global × ℕ) SourceFaultOrMemory) → AnswersDomain limit (IsDomain reader.source.now) (the Domain) reader at old new r →
    leads productions look_ahead (token LeftParen) (seen_from reader at) ≡ true → AnswersAfter limit (IsOptionalDomain reader.source.now) (opt (the Domain)) reader at old new r
some_domain limit reader at old new (Ok b) answer led w h o other =
    let got = (answer w h o).0 (closes_on w.keyword (ends_statement (kind_of (seen_from reader b.1))) other) in
    got_by (gives_some (leads_domain (seen_from reader at) ∙ led) got.gives) got.leaves got.means got.further
some_domain limit reader at old new (Err e) answer led w h o other = refuses_some (leads_domain (seen_from reader at) ∙ led) (answer w h o)
