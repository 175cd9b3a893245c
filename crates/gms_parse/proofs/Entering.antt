-- Names that are entered, numbers, and signs.
use Rattle.std.proofs.lemmas.Bool.{not-true}
use Rattle.gms_expressions.proofs.TokenKinds.{also}
use Rattle.gms_table.specs.WordLabels.{all_entered}
use Rattle.std.proofs.Common.{◌≡◌, ℕ, ◌≤◌, Bool, true, false, cond, not, ◌&&◌, ◌||◌, List, [], ◌∷◌, refl, sym, ap, ap₂, ◌∙◌, subst, arith, inl, inr}
use Rattle.gq_number.specs.Number.{Number as Rational}
use Rattle.gq_text.specs.Decimal.{MeansNumber}
use Rattle.gq_text.specs.Literal.{FitsLiteral}
use Rattle.gms_labels.specs.Labels.{place_of, entered, IsFullFor}
use Rattle.gms_lex.specs.declared.token.Token.{Token}
use Rattle.gms_lex.specs.TokenTexts.{token_text}
use Rattle.gms_grammar.specs.declared.terminal.Terminal.{Terminal}
use Rattle.gms_grammar.specs.declared.terminal.Terminal.TheVariants as terminal
use Rattle.gms_grammar.specs.declared.terminal.Terminal.TheVariants.{LeftParen, Name, Suffix, Number, Sign}
use Rattle.gms_grammar.specs.Grammar.{one, opt, leaf}
use Rattle.gms_grammar.specs.Reading.{leads}
use Rattle.gms_grammar.specs.Terminals.{is, is_terminal_among}
use Rattle.gms_grammar.specs.GamsGrammar.{name, token, productions}
use Rattle.gms_grammar.specs.GamsLookAhead.{look_ahead}
use Rattle.gms_expressions.specs.ExpressionTrees.{or_0, is_minus}
use Rattle.gms_parse.specs.declared.fault.SourceFault.{SourceFault}
use Rattle.gms_parse.specs.declared.fault.SourceFaultOrMemory.{SourceFaultOrMemory}
use Rattle.gms_parse.specs.declared.fault.SourceError.TheVariants.{Syntax}
use Rattle.gms_expressions.specs.declared.fault.SyntaxError.TheVariants.{Depth, NotInProfile, Expected}
use Rattle.gms_parse.specs.declared.fault.SourceFaultOrMemory.TheVariants.{Fault}
use Rattle.gms_parse.specs.declared.reader.Reader.{Reader}
use Rattle.gms_parse.specs.declared.reader.Tables.{Tables}
use Rattle.gms_grammar.proofs.Basics.{not_true}
use Rattle.gms_expressions.specs.Outcomes.{unexpected_error}
use Rattle.gms_parse.specs.DataLists.{opposed}
use Rattle.gms_parse.specs.ReadStates.{KindedToken, ReaderState, is_name, IsFaulty, deep, out_of_range, many_names, many_labels, in_table, without_lines}
use Rattle.gms_parse.specs.InnerReadings.{Gives, Refuses, IsGot, Has, Starts, Stays, IsNext, IsEntered, IsNotEntered, IsTooLarge, IsLacking, IsUnopened, seen_from, kind_of}
use Rattle.gms_parse.specs.InnerMeanings.{IsNamed, IsSign}
use Rattle.gms_parse.proofs.TokenKinds.{begins, same_kind}
use Rattle.gms_parse.proofs.StateLemmas.{is_mute, is_free, mute_after, free_sound, bound_for_none}
use Rattle.gms_parse.proofs.Steps.{got_by, gives_one, gives_none, gives_some, takes_next, refuses_token, refuses_memory}
use Rattle.gms_parse.proofs.Nexts.{past, exact, led_next, refuses_lacking, gives_exact, stays_by, plain_stays, stays_same}

abbrev pub is_named : Terminal → Bool
is_named = is_terminal_among (Name ∷ Suffix ∷ [])

-- the next token is a name
named_there : {reader : Reader} {at following : ℕ} {t : Token} {old : Tables} {w : ReaderState} (n : IsNext is_named reader at t following) → Starts reader old w → is_name w n.kind ≡ true
named_there n s = ap₂ (λ a b. a && not b) n.passes (ap₂ (λ a b. a || b) s.undotted s.optionless)

name_sound : (limit : ℕ) {reader : Reader} {at following : ℕ} {t : Token} {old : Tables} {w : ReaderState} (n : IsNext is_named reader at t following) → Starts reader old w → (IsFullFor old.names (token_text reader.source.now t) → ⊥) → (fault : SourceFault) →
    IsFaulty limit reader.source.now w (n.kind, t) (kind_of (seen_from reader following)) fault → ⊥
name_sound limit {reader} {following = following} {t = t} {w = w} n s within_bound =
    free_sound limit reader.source.now w n.kind t (kind_of (seen_from reader following)) (also is_named is_free refl n.kind n.passes) (λ e d. within_bound (subst (λ (ns : List (List ℕ)). IsFullFor ns (token_text reader.source.now t)) s.has.holds.names d))
    (bound_for_none w.labels _ (mute_after reader.source.now w n.kind t (kind_of (seen_from reader following)) (also is_named is_mute refl n.kind n.passes)).1)

-- a name was entered, and has this number
pub name_got : {limit : ℕ} {reader : Reader} {at following : ℕ} {t : Token} {old : Tables} {w : ReaderState} (n : IsNext is_named reader at t following) → Starts reader old w → (number : ℕ) (texts : List ℕ) → texts ≡ token_text reader.source.now t → (names : List (List ℕ)) → IsEntered old.names names texts number →
    (new : Tables) → new.names ≡ names → new.labels ≡ old.labels → IsGot limit (IsNamed reader.source.now) (Stays reader new w) name reader at new w (record { at = t.at; name = number }) following
name_got {limit} {reader} {at} {following} {t} {old} {w} n s number texts is names entered_there new same labels =
    let text = token_text reader.source.now t in
    let m = mute_after reader.source.now w n.kind t (kind_of (seen_from reader following)) (also is_named is_mute refl n.kind n.passes) in
    let table : IsEntered old.names names text number = subst (λ (x : List ℕ). IsEntered old.names names x number) is entered_there in
    got_by (gives_one n.is n.passes (name_sound limit n s table.within_bound) refl)
    (stays_by reader w n.kind t following (not-true (begins n.kind) (also is_named (λ k. not (begins k)) refl n.kind n.passes)) s.has m.0
    (ap (λ c. cond c (entered w.names text) w.names) (named_there n s) ∙ ap (λ (ns : List (List ℕ)). entered ns text) s.has.holds.names ∙ sym table.table ∙ sym same) (ap (all_entered w.labels) m.1 ∙ s.has.holds.labels ∙ sym labels))
    (λ sense m. ap (λ v. record { at = t.at; name = v }) (sym (ap or_0 (m.names text number (ap (λ (ns : List (List ℕ)). place_of ns text) same ∙ table.place))))) (let g = n.further in omega arith)

-- the table of names is full for a name
pub name_refused : {limit : ℕ} {reader : Reader} {at following : ℕ} {t : Token} {old : Tables} {w : ReaderState} (n : IsNext is_named reader at t following) → Starts reader old w → {e : SourceFaultOrMemory} (texts : List ℕ) → texts ≡ token_text reader.source.now t → IsNotEntered old.names texts t.at e →
    Refuses limit reader.source.now name w (seen_from reader at) e
name_refused {reader = reader} {t = t} {old = old} n s texts is r = elim r.why [
  | inl m ↦ refuses_memory m
  | inr f ↦ refuses_token (takes_next n.is n.passes) (many_names (named_there n s) (subst (λ (ns : List (List ℕ)). IsFullFor ns (token_text reader.source.now t)) (sym s.has.holds.names) (subst (λ (x : List ℕ). IsFullFor old.names x) is f.1))) f.0
]

-- ---- signs

pub sign_got : {limit : ℕ} {reader : Reader} {at following : ℕ} {t : Token} {tables : Tables} {w : ReaderState} (minus : Bool) → IsNext (is Sign) reader at t following → minus ≡ is_minus t.kind → Has reader tables w →
    IsGot limit IsSign (Stays reader tables w) (opt (token Sign)) reader at tables w minus following
sign_got {reader = reader} {following = following} {t = t} {w = w} minus n is h = got_by (gives_some (led_next n) (gives_exact n refl)) (plain_stays reader w Sign t following refl h) (λ sense s v. ap (λ m. cond m (opposed v) v) (sym is))
    (let g = n.further in omega arith)

pub sign_none : {limit : ℕ} {reader : Reader} {at : ℕ} {tables : Tables} {w : ReaderState} → leads productions look_ahead (token Sign) (seen_from reader at) ≡ false → Has reader tables w → IsGot limit IsSign (Stays reader tables w) (opt (token Sign)) reader at tables w false at
sign_none {w = w} unled h = got_by (gives_none unled) (stays_same h) (λ sense s v. refl) (omega arith)

-- ---- numbers

-- a number that is within its range has no fault
number_sound : (limit : ℕ) (source : List ℕ) (w : ReaderState) (t : Token) (ahead : Terminal) (x : Rational) → MeansNumber (token_text source t) x → FitsLiteral limit x → (fault : SourceFault) → IsFaulty limit source w (Number, t) ahead fault → ⊥
number_sound limit source w t ahead x means fits fault (deep e d) = cc
number_sound limit source w t ahead x means fits fault (out_of_range e d) = d x means fits
number_sound limit source w t ahead x means fits fault (many_names e d) = cc
number_sound limit source w t ahead x means fits fault (many_labels e d) = bound_for_none _ _ refl d
number_sound limit source w t ahead x means fits fault (in_table e d f) = cc
number_sound limit source w t ahead x means fits fault (without_lines e d f) = cc

-- the next token is a number, which is allowed there
pub number_gives : {limit : ℕ} {test : Terminal → Bool} {reader : Reader} {at following : ℕ} {t : Token} {w : ReaderState} (x : Rational) → IsNext (is Number) reader at t following → test Number ≡ true →
    MeansNumber (token_text reader.source.now t) x → FitsLiteral limit x → Gives limit reader.source.now (one test) w (seen_from reader at) (leaf (Number, t)) (past reader w Number t following) (seen_from reader following)
number_gives {limit = limit} {reader = reader} {following = following} {t = t} {w = w} x n h means fits = gives_one (exact n) h (number_sound limit reader.source.now w t (kind_of (seen_from reader following)) x means fits) refl

-- what a number leaves
pub number_stays : {reader : Reader} (following : ℕ) {t : Token} {tables : Tables} {w : ReaderState} → Has reader tables w → Stays reader tables w (past reader w Number t following)
number_stays following h = record { has = record { holds = record { open_count = h.holds.open_count; names = h.holds.names; labels = h.holds.labels }; level = h.level }; keyword = refl; level = refl }

-- a number is out of range
pub number_refused : {limit : ℕ} {test : Terminal → Bool} {reader : Reader} {at following : ℕ} {t : Token} {w : ReaderState} {e : SourceFaultOrMemory} → IsNext (is Number) reader at t following → test Number ≡ true →
    IsTooLarge limit reader.source.now t e → Refuses limit reader.source.now (one test) w (seen_from reader at) e
number_refused n h o = refuses_token (takes_next (exact n) h) (out_of_range refl o.none_fits) o.is

-- no parenthesis, and one too many
pub unopened_lacking : {reader : Reader} {at : ℕ} {e : SourceFaultOrMemory} → IsLacking (is LeftParen) reader at e → IsUnopened reader at e
unopened_lacking l = record { refuses = λ limit tables w h. refuses_lacking l }

pub unopened_deep : {reader : Reader} {at following : ℕ} {t : Token} {e : SourceFaultOrMemory} → IsNext (is LeftParen) reader at t following → 100 ≤ reader.unclosed → e ≡ Fault (record { error = Syntax Depth; at = t.at }) → IsUnopened reader at e
unopened_deep n many is = record { refuses = λ limit tables w h. refuses_token (takes_next (exact n) refl) (deep refl (let o = h.open_count in omega (arith, o, many))) is }

-- the error of a token that is unexpected, by its kind
pub left_out_told : (ts : List KindedToken) {k : Terminal} → k ≡ kind_of ts → k ≡ terminal.NotInProfile → NotInProfile ≡ unexpected_error ts
left_out_told [] e h = let f : terminal.End ≡ terminal.NotInProfile = sym e ∙ h in cc
left_out_told (t ∷ ts) e h = sym (ap (λ b. cond b NotInProfile Expected) (ap (is terminal.NotInProfile) (sym e ∙ h)))

pub unexpected_told : (ts : List KindedToken) {k : Terminal} → k ≡ kind_of ts → (k ≡ terminal.NotInProfile → ⊥) → Expected ≡ unexpected_error ts
unexpected_told [] e h = refl
unexpected_told (t ∷ ts) e h = sym (ap (λ b. cond b NotInProfile Expected) (not_true (is terminal.NotInProfile t.0) (λ p. h (e ∙ sym (same_kind terminal.NotInProfile t.0 p)))))
