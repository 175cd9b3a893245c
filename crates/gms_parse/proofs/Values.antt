-- Values of data.
use Rattle.std.proofs.Common.{◌≡◌, ℕ, Bool, true, false, cond, List, [], ◌∷◌, map, Some, Vec, refl, sym, ap, ap₂, ◌∙◌, arith}
use Rattle.std.specs.declared.alloc.Global.{Global}
use Rattle.gq_number.specs.Number.{Number as Rational}
use Rattle.gq_extended.specs.declared.extended.Ext.{Ext}
use Rattle.gq_extended.specs.declared.extended.Ext.TheVariants as ext
use Rattle.gms_ast.specs.declared.declaration.Item.{Item}
use Rattle.gms_ast.specs.StatementView.{extended_in, item_in}
use Rattle.gms_lex.specs.declared.token.Token.{Token}
use Rattle.gms_lex.specs.TokenTexts.{token_text}
use Rattle.gms_grammar.specs.declared.terminal.Terminal.{Terminal}
use Rattle.gms_grammar.specs.declared.terminal.Terminal.TheVariants.{Number, Infinity, NotAvailable, Sign, Equals, Slash}
use Rattle.gms_grammar.specs.Grammar.{the, one, ◌·◌, ◌∣◌, opt}
use Rattle.gms_grammar.specs.Reading.{read, stuck, leads, Reads, taken, refused, first_stuck, second_stuck, in_right_stuck, in_neither, left_out, there, there_stuck, takes_right}
use Rattle.gms_grammar.specs.Terminals.{is}
use Rattle.gms_grammar.specs.GamsGrammar.{Value, productions, token, any_of}
use Rattle.gms_grammar.specs.GamsLookAhead.{look_ahead}
use Rattle.gms_grammar.proofs.Basics.{or_left, or_right, or_both, not_true}
use Rattle.gms_expressions.proofs.Valued.{number_in_is}
use Rattle.gms_expressions.specs.ExpressionTrees.{second_in}
use Rattle.gms_expressions.specs.Outcomes.{next_place}
use Rattle.gms_parse.proofs.TokenKinds.{same_kind, unled_next}
use Rattle.gms_parse.proofs.StateLemmas.{quiet_sound}
use Rattle.gms_expressions.proofs.Chains.{place_read}
use Rattle.gms_parse.specs.declared.fault.SourceFaultOrMemory.{SourceFaultOrMemory}
use Rattle.gms_parse.specs.declared.reader.Reader.{Reader}
use Rattle.gms_parse.specs.declared.reader.Tables.{Tables}
use Rattle.gms_parse.specs.DataLists.{opposed, signed_value}
use Rattle.gms_parse.specs.ReadStates.{KindedToken, ReaderState}
use Rattle.gms_parse.specs.InnerReadings.{Derivation, GamsPart, Gives, Refuses, IsGot, Has, Stays, IsNext, IsLacking, IsValue, seen_from, kind_of}
use Rattle.gms_parse.specs.InnerMeanings.{IsSign, IsUnsigned, IsGiven, IsScalarValue}
use Rattle.gms_parse.proofs.Steps.{got_by, gives_one, gives_both, gives_the, gives_left, gives_right, gives_none, gives_some, refuses_at, refuses_the, refuses_first, refuses_second, refuses_some, by_cause, stuck_as, wrong_as}
use Rattle.gms_parse.proofs.Nexts.{past, exact, led_next, leads_next, gives_exact, refuses_lacking, plain_stays, stays_then, stays_same, earlier}
use Rattle.gms_parse.proofs.Entering.{number_gives, number_stays}

-- an infinity
pub infinity_got : {F : Type 0} (value : F → Rational) {limit : ℕ} {reader : Reader} {at following : ℕ} {t : Token} {tables : Tables} {w : ReaderState} → IsNext (is Infinity) reader at t following → Has reader tables w → IsGot limit (IsUnsigned {F = F} value reader.source.now) (Stays reader tables w) (any_of (Number ∷ Infinity ∷ [])) reader at tables w ext.PlusInf following
infinity_got value {limit = limit} {reader = reader} {following = following} {t = t} {w = w} n h = got_by (gives_one (exact {kind = Infinity} n) refl (quiet_sound limit reader.source.now w Infinity t (kind_of (seen_from reader following)) refl) refl) (plain_stays reader w Infinity t following refl h) (λ sense s. refl)
    (let g = n.further in omega arith)

-- a number
pub numeral_got : {F : Type 0} (value : F → Rational) {limit : ℕ} {reader : Reader} {at following : ℕ} {t : Token} {tables : Tables} {w : ReaderState} (v : F) → IsNext (is Number) reader at t following → IsValue limit value (token_text reader.source.now t) v → Has reader tables w →
    IsGot limit (IsUnsigned {F = F} value reader.source.now) (Stays reader tables w) (any_of (Number ∷ Infinity ∷ [])) reader at tables w (ext.Number v) following
numeral_got value {reader = reader} {following = following} {t = t} {w = w} v n within h = got_by (number_gives (value v) n refl within.0 within.1) (number_stays following h)
    (λ sense s. ap ext.Number (sym (number_in_is (token_text reader.source.now t) (value v) within.0))) (let g = n.further in omega arith)

pub neither_led : (ts : List KindedToken) → leads productions look_ahead (token Infinity) ts ≡ false → leads productions look_ahead (token Number) ts ≡ false → leads productions look_ahead (any_of (Number ∷ Infinity ∷ [])) ts ≡ false
neither_led [] h k = refl
neither_led (t ∷ ts) h k = or_both _ _ (swapped t.0 Number k) (or_both _ _ (swapped t.0 Infinity h) refl)
  where
    self : (kind : Terminal) → is kind kind ≡ true
    self Number = refl
    self _ = refl

    swapped : (kind other : Terminal) → is other kind ≡ false → is kind other ≡ false
    swapped kind other e = not_true (is kind other) (λ f. let same = same_kind kind other f in let g : is other kind ≡ true = ap (is other) same ∙ self other in cc)

pub numeral_lacking : {limit : ℕ} {reader : Reader} {at : ℕ} {w : ReaderState} {e : SourceFaultOrMemory} → leads productions look_ahead (token Infinity) (seen_from reader at) ≡ false → IsLacking (is Number) reader at e → Refuses limit reader.source.now (any_of (Number ∷ Infinity ∷ [])) w (seen_from reader at) e
numeral_lacking {reader = reader} {at = at} h l = refuses_at (refused (neither_led (seen_from reader at) h l.not_led)) l.is

-- ---- signs before values

led_signed : {f g : Terminal → Bool} {ts between rest : List KindedToken} {a b : Derivation} → Reads productions look_ahead (opt (one f)) ts (read a between) → Reads productions look_ahead (one g) between (read b rest) → leads productions look_ahead (opt (one f) · one g) ts ≡ true
led_signed {f} {g} (left_out h) (taken {token = t} k) = or_right (f t.0) _ k
led_signed {f} {g} (there (h) (taken {token = t} r)) k = or_left (f t.0) _ r

stuck_signed : {p : GamsPart} {f g : Terminal → Bool} {ts prefix rest : List KindedToken} → leads productions look_ahead p ts ≡ false → Reads productions look_ahead (opt (one f) · one g) ts (stuck prefix rest) → Reads productions look_ahead (p ∣ opt (one f) · one g) ts (stuck prefix rest)
stuck_signed {f = f} {g = g} no_first (first_stuck (there_stuck h (refused k))) = cc
stuck_signed {f = f} {g = g} no_first (second_stuck (left_out {tokens = []} h) (refused k)) = in_neither no_first refl
stuck_signed {f = f} {g = g} no_first (second_stuck (left_out {tokens = t ∷ ts} h) (refused k)) = in_neither no_first (or_both (f t.0) _ h k)
stuck_signed {f = f} {g = g} no_first (second_stuck (there h (taken {token = t} r)) (refused k)) = in_right_stuck no_first (or_left (f t.0) _ r) (second_stuck (there h (taken r)) (refused k))

-- a value with its sign
pub value_got : {F : Type 0} (value : F → Rational) {limit : ℕ} {reader : Reader} {at start next : ℕ} {tables : Tables} {w : ReaderState} {minus : Bool} {v found : Ext F} → leads productions look_ahead (token NotAvailable) (seen_from reader at) ≡ false →
    (s : IsGot limit IsSign (Stays reader tables w) (opt (token Sign)) reader at tables w minus start) → IsGot limit (IsUnsigned value reader.source.now) (Stays reader tables s.following) (any_of (Number ∷ Infinity ∷ [])) reader start tables s.following v next →
    extended_in value found ≡ cond minus (opposed (extended_in value v)) (extended_in value v) → IsGot limit (IsGiven value reader.source.now) (Stays reader tables w) (the Value) reader at tables w found next
value_got value {reader = reader} {v = v} unled s u shown = got_by (gives_the Value (gives_right unled (led_signed s.gives.reads u.gives.reads) (gives_both s.gives u.gives))) (stays_then s.leaves u.leaves)
    (λ sense m. shown ∙ sym (s.means sense (earlier u.gives s.leaves.has.holds u.leaves.has.holds m) (extended_in value v)) ∙ ap (signed_value s.tree) (u.means sense m)) (let a = s.further in let b = u.further in omega arith)

pub value_refused : {limit : ℕ} {source : List ℕ} {w v : ReaderState} {ts between : List KindedToken} {a : Derivation} {e : SourceFaultOrMemory} → leads productions look_ahead (token NotAvailable) ts ≡ false → Gives limit source (opt (token Sign)) w ts a v between → Refuses limit source (any_of (Number ∷ Infinity ∷ [])) v between e → Refuses limit source (the Value) w ts e
value_refused unled g r = refuses_the Value (by_cause (refuses_second g r) (λ fault s. stuck_as s (stuck_signed unled s.reads)) (λ fault s. wrong_as s (takes_right s.takes)))

-- NA
pub not_available_got : {F : Type 0} (value : F → Rational) {limit : ℕ} {reader : Reader} {at following : ℕ} {t : Token} {tables : Tables} {w : ReaderState} → IsNext (is NotAvailable) reader at t following → Has reader tables w → IsGot limit (IsGiven {F = F} value reader.source.now) (Stays reader tables w) (the Value) reader at tables w ext.Na following
not_available_got value {reader = reader} {following = following} {t = t} {w = w} n h = got_by (gives_the Value (gives_left (led_next n) (gives_exact {kind = NotAvailable} n refl))) (plain_stays reader w NotAvailable t following refl h) (λ sense s. refl)
    (let g = n.further in omega arith)

-- ---- values of entries, perhaps after `=`

pub equals_got : {F : Type 0} (value : F → Rational) {limit : ℕ} {reader : Reader} {at following next : ℕ} {t : Token} {tables : Tables} {w : ReaderState} {v : Ext F} → Has reader tables w → IsNext (is Equals) reader at t following →
    IsGot limit (IsGiven value reader.source.now) (Stays reader tables (past reader w Equals t following)) (the Value) reader following tables (past reader w Equals t following) v next →
    IsGot limit (λ sense tree v. IsGiven value reader.source.now sense (second_in tree) v) (Stays reader tables w) (opt (token Equals) · the Value) reader at tables w v next
equals_got value {reader = reader} {following = following} {t = t} {w = w} h n got = got_by (gives_both (gives_some (led_next n) (gives_exact {kind = Equals} n refl)) got.gives) (stays_then (plain_stays reader w Equals t following refl h) got.leaves)
    got.means (let a = n.further in let b = got.further in omega arith)

pub equals_refused : {limit : ℕ} {reader : Reader} {at following : ℕ} {t : Token} {w : ReaderState} {e : SourceFaultOrMemory} → IsNext (is Equals) reader at t following → Refuses limit reader.source.now (the Value) (past reader w Equals t following) (seen_from reader following) e → Refuses limit reader.source.now (opt (token Equals) · the Value) w (seen_from reader at) e
equals_refused n r = refuses_second (gives_some (led_next n) (gives_exact {kind = Equals} n refl)) r

pub no_equals_got : {F : Type 0} (value : F → Rational) {limit : ℕ} {reader : Reader} {at next : ℕ} {tables : Tables} {w : ReaderState} {v : Ext F} → leads productions look_ahead (token Equals) (seen_from reader at) ≡ false →
    IsGot limit (IsGiven value reader.source.now) (Stays reader tables w) (the Value) reader at tables w v next → IsGot limit (λ sense tree v. IsGiven value reader.source.now sense (second_in tree) v) (Stays reader tables w) (opt (token Equals) · the Value) reader at tables w v next
no_equals_got value unled got = got_by (gives_both (gives_none unled) got.gives) got.leaves got.means got.further

pub no_equals_refused : {limit : ℕ} {source : List ℕ} {w : ReaderState} {ts : List KindedToken} {e : SourceFaultOrMemory} → leads productions look_ahead (token Equals) ts ≡ false → Refuses limit source (the Value) w ts e → Refuses limit source (opt (token Equals) · the Value) w ts e
no_equals_refused unled r = refuses_second (gives_none unled) r

-- ---- the value of a scalar

pub no_value : {F : Type 0} (value : F → Rational) {limit : ℕ} {reader : Reader} {at : ℕ} {tables : Tables} {w : ReaderState} (items : Vec (Item F) Global) → items.items ≡ [] → leads productions look_ahead (token Slash) (seen_from reader at) ≡ false → Has reader tables w →
    IsGot limit (IsScalarValue value reader.source.now) (Stays reader tables w) (opt (token Slash · the Value · token Slash)) reader at tables w items at
no_value value {reader = reader} {at = at} {w = w} items none_yet unled h = got_by (gives_none (unled_next (is Slash) (the Value · token Slash) (seen_from reader at) unled)) (stays_same h) (λ sense s. ap (map (item_in value)) none_yet) (omega arith)

pub slash_stays : {reader : Reader} {at following : ℕ} {t : Token} {tables : Tables} {w : ReaderState} → Has reader tables w → IsNext (is Slash) reader at t following → Stays reader tables w (past reader w Slash t following)
slash_stays {reader} {following = following} {t = t} {w = w} h n = plain_stays reader w Slash t following refl h

module _ {limit : ℕ} {reader : Reader} {at following : ℕ} {t : Token} {tables : Tables} {w : ReaderState} (h : Has reader tables w) (n : IsNext (is Slash) reader at t following) where
  pub some_value : {F : Type 0} (value : F → Rational) {v : Ext F} {next after : ℕ} {end : Token} (items : Vec (Item F) Global) (item : Item F) → items.items ≡ item ∷ [] → item_in value item ≡ record { at = next_place reader.source.now (seen_from reader following); parts = []; value = Some (extended_in value v); bad_range = false } →
      IsGot limit (IsGiven value reader.source.now) (Stays reader tables (past reader w Slash t following)) (the Value) reader following tables (past reader w Slash t following) v next → IsNext (is Slash) reader next end after →
      IsGot limit (IsScalarValue value reader.source.now) (Stays reader tables w) (opt (token Slash · the Value · token Slash)) reader at tables w items after
  some_value value {v} {after = after} {end = end} items item one_item shown got m = got_by
      (gives_some (leads_next (the Value · token Slash) n) (gives_both (gives_exact {kind = Slash} n refl) (gives_both got.gives (gives_exact {kind = Slash} m refl))))
      (stays_then (slash_stays h n) (stays_then got.leaves (plain_stays reader got.following Slash end after refl got.leaves.has)))
      (λ sense s. ap (map (item_in value)) one_item ∙ ap (λ x. x ∷ []) (shown ∙ ap₂ (λ p x. record { at = p; parts = []; value = Some x; bad_range = false }) (sym (place_read (the Value) refl got.gives)) (got.means sense s)))
      (let a = n.further in let b = got.further in let c = m.further in omega arith)

  pub value_unclosed : {F : Type 0} (value : F → Rational) {v : Ext F} {next : ℕ} {e : SourceFaultOrMemory} → IsGot limit (IsGiven value reader.source.now) (Stays reader tables (past reader w Slash t following)) (the Value) reader following tables (past reader w Slash t following) v next → IsLacking (is Slash) reader next e →
      Refuses limit reader.source.now (opt (token Slash · the Value · token Slash)) w (seen_from reader at) e
  value_unclosed value got l = refuses_some (leads_next (the Value · token Slash) n) (refuses_second (gives_exact {kind = Slash} n refl) (refuses_second got.gives (refuses_lacking l)))

pub slashed_refused : {limit : ℕ} {reader : Reader} {at following : ℕ} {t : Token} {w : ReaderState} {e : SourceFaultOrMemory} → IsNext (is Slash) reader at t following → Refuses limit reader.source.now (the Value) (past reader w Slash t following) (seen_from reader following) e → Refuses limit reader.source.now (opt (token Slash · the Value · token Slash)) w (seen_from reader at) e
slashed_refused n r = refuses_some (leads_next (the Value · token Slash) n) (refuses_second (gives_exact {kind = Slash} n refl) (refuses_first r))
