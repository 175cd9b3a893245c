-- Statements without statements in them: words, what is shown, options, solves and aliases.
use Rattle.std.proofs.Common.{◌≡◌, ℕ, Bool, true, false, not, ◌==◌, cond, List, [], ◌∷◌, ◌++◌, map, Option as Maybe, option_map, refl, sym, ap, ap₂, ◌∙◌, subst, arith, append_assoc}
use Rattle.std.proofs.lemmas.Bool.{not-true, eq-eqb, and_parts}
use Rattle.std.proofs.lemmas.List.{map-id}
use Rattle.gq_number.specs.Number.{Number as Rational}
use Rattle.gms_labels.specs.Labels.{entered}
use Rattle.gms_lex.specs.declared.token.Token.{Token}
use Rattle.gms_lex.specs.TokenTexts.{token_text, unquoted}
use Rattle.gms_ast.specs.declared.word.Word.{Word}
use Rattle.gms_ast.specs.declared.word.Named.{Named}
use Rattle.gms_ast.specs.declared.expression.Expr.{Expr}
use Rattle.gms_ast.specs.declared.expression.Suffix.{Suffix as SuffixNode}
use Rattle.gms_ast.specs.declared.expression.Suffix.TheVariants as suffix
use Rattle.gms_ast.specs.declared.program.Show.{Show}
use Rattle.gms_ast.specs.declared.program.Show.TheVariants as show
use Rattle.gms_ast.specs.declared.program.Setting.{Setting as SettingNode}
use Rattle.gms_ast.specs.declared.program.Setting.TheVariants as setting
use Rattle.gms_ast.specs.declared.program.Act.{Act as ActNode}
use Rattle.gms_ast.specs.declared.program.Act.TheVariants as act
use Rattle.gms_ast.specs.declared.program.Act.TheOpen.{Act-F}
use Rattle.gms_ast.specs.declared.program.Act.TheFolds.{fold-roll-Act}
use Rattle.gms_ast.specs.declared.declaration.ModelDecl.{ModelDecl}
use Rattle.gms_ast.specs.StatementTrees.{Act, Statements, declares_models, aliases, solves, displays, sets_options, aborts}
use Rattle.gms_ast.specs.StatementView.{setting_in, shown_tree, act_view_step, statement_view_step}
use Rattle.gms_grammar.specs.declared.terminal.Terminal.{Terminal}
use Rattle.gms_grammar.specs.declared.terminal.Terminal.TheVariants.{Abort, Alias, Display, Option, Solve, Table, Name, Suffix, Function, OrdCard, FoldOp, Infinity, NotAvailable, YesNo, Not, And, Or, RelationWord, All, Using, Direction, Reserved, Number, Text, LongText, Equals, RightParen, Comma, Dot}
use Rattle.gms_grammar.specs.Grammar.{one, the, ◌·◌, ◌∣◌, opt, pair, yield}
use Rattle.gms_grammar.specs.LookAhead.{may_begin}
use Rattle.gms_grammar.specs.Reading.{read, stuck, leads, Reads, Takes, taken, refused, both, first_stuck, second_stuck, in_right_stuck, in_neither, takes_first, takes_second, takes_right}
use Rattle.gms_grammar.specs.Terminals.{is, is_terminal_among}
use Rattle.gms_grammar.specs.GamsGrammar.{Attribute, Condition, Shown, ShownList, Setting, DisplayStatement, AbortStatement, OptionStatement, SolveStatement, AliasStatement, productions, token, any_of, name, word}
use Rattle.gms_grammar.specs.GamsLookAhead.{look_ahead}
use Rattle.gms_grammar.proofs.Basics.{and_both, and_second, or_right}
use Rattle.gms_expressions.specs.ExpressionTrees.{suffix_of, first_in, second_in}
use Rattle.gms_expressions.proofs.Valued.{number_in_is}
use Rattle.gms_expressions.proofs.TokenKinds.{also, same_test}
use Rattle.gms_parse.specs.declared.fault.SourceFault.{SourceFault}
use Rattle.gms_parse.specs.declared.fault.SourceFaultOrMemory.{SourceFaultOrMemory}
use Rattle.gms_parse.specs.declared.reader.Reader.{Reader}
use Rattle.gms_parse.specs.declared.reader.Tables.{Tables}
use Rattle.gms_parse.specs.DataLists.{optional_in}
use Rattle.gms_parse.specs.Statements.{alias_act, display_act, abort_act, option_act, solve_act, parsed_shown, shown_list, is_maximizing, parsed_setting as setting_of}
use Rattle.gms_table.specs.WordLabels.{all_entered}
use Rattle.gms_parse.specs.ReadStates.{KindedToken, ReaderState, is_name, new_labels, reader_after, IsFaulty}
use Rattle.gms_parse.specs.InnerReadings.{Derivation, GamsPart, Gives, Refuses, Sense, Holds, Has, Starts, Stays, StaysOpen, Ends, Nameless, IsNext, IsLacking, IsOpened, IsGot, IsValue, IsTooLarge, seen_from, kind_of}
use Rattle.gms_parse.specs.InnerMeanings.{IsNamed, IsWord, IsMethod, IsObjective, IsSuffix, IsShown, AreShown, IsCondition, IsSetting, IsAct, act_view}
use Rattle.gms_parse.proofs.TokenKinds.{begins, leads_alike, led_first, unled_next}
use Rattle.gms_parse.proofs.StateLemmas.{is_mute, is_free, mute_after, free_sound, bound_for_none}
use Rattle.gms_parse.proofs.Steps.{got_by, gives_one, gives_as, gives_both, gives_the, gives_left, gives_right, gives_none, gives_some, by_cause, stuck_as, wrong_as, refuses_first, refuses_second, refuses_the, refuses_left, refuses_right, refuses_some}
use Rattle.gms_parse.proofs.Nexts.{past, exact_kind, led_next, refuses_lacking, gives_exact, stays_by, plain_stays, stays_same, stays_then, earlier, begun_has, begun_starts, opened, open_starts, close_stays, gives_bracketed, got_inside, refuses_within, refuses_inside, refuses_unclosed}
use Rattle.gms_parse.proofs.Entering.{number_gives, number_stays, number_refused}
use Rattle.gms_grammar.proofs.Eithers.{led_given, refuses_other, refuses_or}
use Rattle.gms_parse.proofs.Listing.{AreAll, all_meant, list_of}
pub use Rattle.gms_expressions.proofs.Singles.{leads_attribute}

-- ---- words

-- a word that begins no statement, reserved or not
abbrev pub is_worded : Terminal → Bool
is_worded = is_terminal_among
    (Name ∷ Suffix ∷ Function ∷ OrdCard ∷ FoldOp ∷ Infinity ∷ NotAvailable ∷ YesNo ∷ Not ∷ And ∷ Or ∷ RelationWord ∷ All ∷ Using ∷ Direction ∷ Reserved ∷ [])

-- where a name is none of the program
unnamed : (w : ReaderState) (kind : Terminal) → Nameless w → is_name w kind ≡ false
unnamed w kind u = and_second (is_terminal_among (Name ∷ Suffix ∷ []) kind) _ (ap not u)

module _ (reader : Reader) (w : ReaderState) (kind : Terminal) (t : Token) (following : ℕ) (passes : is_worded kind ≡ true) (u : Nameless w) where
  pub worded_stays : {tables : Tables} → Has reader tables w → Stays reader tables w (past reader w kind t following)
  worded_stays h =
      let m = mute_after reader.source.now w kind t (kind_of (seen_from reader following)) (also is_worded is_mute refl kind passes) in
      stays_by reader w kind t following (not-true (begins kind) (also is_worded (λ k. not (begins k)) refl kind passes)) h m.0 (ap (λ c. cond c (entered w.names (token_text reader.source.now t)) w.names) (unnamed w kind u) ∙ h.holds.names) (ap (all_entered w.labels) m.1 ∙ h.holds.labels)

  pub worded_sound : (limit : ℕ) (fault : SourceFault) → IsFaulty limit reader.source.now w (kind, t) (kind_of (seen_from reader following)) fault → ⊥
  worded_sound limit =
      free_sound limit reader.source.now w kind t (kind_of (seen_from reader following)) (also is_worded is_free refl kind passes) (λ e d. let k = unnamed w kind u in cc)
      (bound_for_none w.labels _ (mute_after reader.source.now w kind t (kind_of (seen_from reader following)) (also is_worded is_mute refl kind passes)).1)

-- a word that is no name of the program
pub word_got : {limit : ℕ} {reader : Reader} {at following : ℕ} {t : Token} {w : ReaderState} {tables : Tables} (n : IsNext is_worded reader at t following) → Has reader tables w → Nameless w → (x : Word) → x ≡ record { at = t.at; text = token_text reader.source.now t } →
    IsGot limit (IsWord reader.source.now) (Stays reader tables w) word reader at tables w x following
word_got {limit} {reader} {at} {following} {t} {w} n h u x is = got_by (gives_one n.is n.passes (worded_sound reader w n.kind t following n.passes u limit) refl) (worded_stays reader w n.kind t following n.passes u h) (λ sense m. is)
    (let g = n.further in omega arith)

-- ---- suffixes

pub suffix_none : {limit : ℕ} {reader : Reader} {at : ℕ} {tables : Tables} {w : ReaderState} → Has reader tables w → leads productions look_ahead (token Dot) (seen_from reader at) ≡ false →
    IsGot limit (IsSuffix reader.source.now) (Stays reader tables w) (opt (the Attribute)) reader at tables w suffix.None at
suffix_none {reader = reader} {at = at} {w = w} h unled = got_by (gives_none (leads_attribute (seen_from reader at) ∙ unled)) (stays_same h) (λ sense m. refl) (omega arith)

pub suffix_got : {limit : ℕ} {reader : Reader} {at between following : ℕ} {dot t : Token} {tables : Tables} {w : ReaderState} → IsNext (is Dot) reader at dot between → IsNext (is Suffix) reader between t following → Has reader tables w →
    (x : SuffixNode) → x ≡ suffix_of (token_text reader.source.now t) → IsGot limit (IsSuffix reader.source.now) (Stays reader tables w) (opt (the Attribute)) reader at tables w x following
suffix_got {limit} {reader} {at} {between} {following} {dot} {t} {tables} {w} d n h x is =
    let v = past reader w Dot dot between in
    let s = plain_stays reader w Dot dot between refl h in
    let passes : is_worded n.kind ≡ true = ap is_worded (sym (exact_kind {kind = Suffix} n)) in
    got_by (gives_some (leads_attribute (seen_from reader at) ∙ led_next d) (gives_the Attribute (gives_both (gives_exact d refl) (gives_one n.is n.passes (worded_sound reader v n.kind t following passes refl limit) refl))))
    (stays_then s (worded_stays reader v n.kind t following passes refl s.has)) (λ sense m. is) (let a = d.further in let b = n.further in omega arith)

pub suffix_refused : {limit : ℕ} {reader : Reader} {at between : ℕ} {dot : Token} {w : ReaderState} {e : SourceFaultOrMemory} → IsNext (is Dot) reader at dot between → IsLacking (is Suffix) reader between e → Refuses limit reader.source.now (opt (the Attribute)) w (seen_from reader at) e
suffix_refused {reader = reader} {at = at} d l = refuses_some (leads_attribute (seen_from reader at) ∙ led_next d) (refuses_the Attribute (refuses_second (gives_exact {kind = Dot} d refl) (refuses_lacking l)))

-- ---- what is shown

abbrev pub is_text : Terminal → Bool
is_text = is_terminal_among (Text ∷ LongText ∷ [])

-- the statement shows, and no parenthesis of it is open
abbrev pub Shows : ReaderState → Type 0
Shows w = (is_terminal_among (Display ∷ Abort ∷ []) w.keyword ≡ true) × (w.level ≡ w.open_count)

pub shows_on : {reader : Reader} {old new : Tables} {w v : ReaderState} → Holds reader old w → Stays reader new w v → Shows w → Shows v
shows_on h s k = (ap (is_terminal_among (Display ∷ Abort ∷ [])) s.keyword ∙ k.0, s.level ∙ k.1 ∙ h.open_count ∙ sym s.has.holds.open_count)

text_new : (source : List ℕ) (w : ReaderState) (kind : Terminal) (t : Token) (ahead : Terminal) → is_text kind ≡ true → Shows w → new_labels source w (kind, t) ahead ≡ []
text_new source w Text t ahead h k =
    ap (λ b. cond (not b) (unquoted (token_text source t) ∷ []) []) (and_both (is_terminal_among (Display ∷ Abort ∷ []) w.keyword) (w.open_count == w.level) k.0 (eq-eqb w.open_count w.level (sym k.1)))
text_new source w LongText t ahead h k = refl
text_new source w _ t ahead h k = cc

text_after : (source : List ℕ) (w : ReaderState) (kind : Terminal) (t : Token) (ahead : Terminal) → is_text kind ≡ true → ((reader_after source w (kind, t) ahead).open_count ≡ w.open_count) × ((reader_after source w (kind, t) ahead).names ≡ w.names) × (begins kind ≡ false)
text_after source w Text t ahead h = (refl, refl, refl)
text_after source w LongText t ahead h = (refl, refl, refl)
text_after source w _ t ahead h = cc

module _ {reader : Reader} {at following : ℕ} {t : Token} {w : ReaderState} (n : IsNext is_text reader at t following) (k : Shows w) where
  text_sound : (limit : ℕ) (fault : SourceFault) → IsFaulty limit reader.source.now w (n.kind, t) (kind_of (seen_from reader following)) fault → ⊥
  text_sound limit =
      free_sound limit reader.source.now w n.kind t (kind_of (seen_from reader following)) (also is_text is_free refl n.kind n.passes)
      (λ e d. let passes = n.passes in let other : not (is_text n.kind) ≡ true = also (is_terminal_among (Name ∷ Suffix ∷ [])) (λ kind. not (is_text kind)) refl n.kind ((and_parts _ _ e).0) in cc)
      (bound_for_none w.labels _ (text_new reader.source.now w n.kind t (kind_of (seen_from reader following)) n.passes k))

  text_stays : {tables : Tables} → Has reader tables w → Stays reader tables w (past reader w n.kind t following)
  text_stays h =
      let a = text_after reader.source.now w n.kind t (kind_of (seen_from reader following)) n.passes in
      stays_by reader w n.kind t following a.2 h a.0 (a.1 ∙ h.holds.names) (ap (all_entered w.labels) (text_new reader.source.now w n.kind t (kind_of (seen_from reader following)) n.passes k) ∙ h.holds.labels)

  -- a text
  pub text_got : {limit : ℕ} {tables : Tables} → Has reader tables w → (x : Word) → x ≡ record { at = t.at; text = unquoted (token_text reader.source.now t) } →
      IsGot limit (IsShown reader.source.now) (Stays reader tables w) (the Shown) reader at tables w (show.Text x) following
  text_got {limit} h x is = got_by (gives_the Shown (gives_left (led_next n) (gives_one n.is n.passes (text_sound limit) refl))) (text_stays h) (λ sense m. ap show.Text is) (let g = n.further in omega arith)

-- a symbol, perhaps with a suffix
pub symbol_got : {limit : ℕ} {reader : Reader} {at middle next : ℕ} {new : Tables} {w : ReaderState} {named : Named} {x : SuffixNode} → leads productions look_ahead (any_of (Text ∷ LongText ∷ [])) (seen_from reader at) ≡ false →
    (n : IsGot limit (IsNamed reader.source.now) (Stays reader new w) name reader at new w named middle) → IsGot limit (IsSuffix reader.source.now) (Stays reader new n.following) (opt (the Attribute)) reader middle new n.following x next →
    IsGot limit (IsShown reader.source.now) (Stays reader new w) (the Shown) reader at new w (show.Symbol named x) next
symbol_got {reader = reader} {at = at} unled n s = got_by (gives_the Shown (gives_right unled (led_first (is_terminal_among (Name ∷ Suffix ∷ [])) (opt (the Attribute)) (seen_from reader at) (led_given n.gives)) (gives_both n.gives s.gives)))
    (stays_then n.leaves s.leaves) (λ sense m. ap₂ (λ a b. show.Symbol a b) (n.means sense m) (s.means sense m)) (let a = n.further in let b = s.further in omega arith)

pub symbol_unnamed : {limit : ℕ} {source : List ℕ} {w : ReaderState} {ts : List KindedToken} {e : SourceFaultOrMemory} → leads productions look_ahead (any_of (Text ∷ LongText ∷ [])) ts ≡ false → Refuses limit source name w ts e → Refuses limit source (the Shown) w ts e
symbol_unnamed unled r = refuses_the Shown (refuses_or unled r)

pub symbol_refused : {limit : ℕ} {source : List ℕ} {w v : ReaderState} {ts us : List KindedToken} {tree : Derivation} {e : SourceFaultOrMemory} → leads productions look_ahead (any_of (Text ∷ LongText ∷ [])) ts ≡ false → Gives limit source name w ts tree v us → Refuses limit source (opt (the Attribute)) v us e →
    Refuses limit source (the Shown) w ts e
symbol_refused {ts = ts} unled g r = refuses_the Shown (refuses_right unled (led_first (is_terminal_among (Name ∷ Suffix ∷ [])) (opt (the Attribute)) ts (led_given g)) (refuses_second g r))

-- all that is shown
pub shown_list_got : {limit : ℕ} {reader : Reader} {at next : ℕ} {new : Tables} {w : ReaderState} {items : List Show} → IsGot limit (AreAll (IsShown reader.source.now)) (Stays reader new w) (list_of (is Comma) (the Shown)) reader at new w items next →
    IsGot limit (AreShown reader.source.now) (Stays reader new w) (the ShownList) reader at new w items next
shown_list_got {reader = reader} {items = items} got = got_by (gives_the ShownList got.gives) got.leaves (λ sense m. sym (map-id items) ∙ all_meant (IsShown reader.source.now) (λ x. x) (parsed_shown reader.source.now sense.names sense.labels) sense (λ t x k. k) got.tree items (got.means sense m)) got.further

-- where a step of a list that is shown is looked at by itself
abbrev pub showing : Reader → Tables → ReaderState
showing reader tables = record { open_count = reader.unclosed; names = tables.names; labels = tables.labels; before = []; keyword = Display; level = reader.unclosed }

pub starts_showing : (reader : Reader) (tables : Tables) → Starts reader tables (showing reader tables)
starts_showing reader tables = record { has = record { holds = record { open_count = refl; names = refl; labels = refl }; level = omega arith }; undotted = refl; optionless = refl }

-- ---- what acts show

module _ {F : Type 0} (value : F → Rational) where
  pub view-Alias : (first second : Named) → act_view value (act.Alias first second) ≡ aliases first second
  view-Alias first second = ap (act_view value) (sym (act.rolls-Alias first second)) ∙ fold-roll-Act F (Act Rational) (Statements Rational → Statements Rational) (act_view_step value) (statement_view_step value) (Act-F.Alias first second)

  pub view-Display : (items : List Show) → act_view value (act.Display items) ≡ displays items
  view-Display items = ap (act_view value) (sym (act.rolls-Display items)) ∙ fold-roll-Act F (Act Rational) (Statements Rational → Statements Rational) (act_view_step value) (statement_view_step value) (Act-F.Display items)

  pub view-Abort : (condition : Maybe (Expr F)) (items : List Show) → act_view value (act.Abort condition items) ≡ aborts (option_map (shown_tree value) condition) items
  view-Abort condition items = ap (act_view value) (sym (act.rolls-Abort condition items)) ∙ fold-roll-Act F (Act Rational) (Statements Rational → Statements Rational) (act_view_step value) (statement_view_step value) (Act-F.Abort condition items)

  pub view-Options : (settings : List (Word × SettingNode F)) → act_view value (act.Options settings) ≡ sets_options (map (λ pair. (pair.0, setting_in value pair.1)) settings)
  view-Options settings = ap (act_view value) (sym (act.rolls-Options settings)) ∙ fold-roll-Act F (Act Rational) (Statements Rational → Statements Rational) (act_view_step value) (statement_view_step value) (Act-F.Options settings)

  pub view-Model : (models : List ModelDecl) → act_view value (act.Model models) ≡ declares_models models
  view-Model models = ap (act_view value) (sym (act.rolls-Model models)) ∙ fold-roll-Act F (Act Rational) (Statements Rational → Statements Rational) (act_view_step value) (statement_view_step value) (Act-F.Model models)

-- ---- displays and aborts

pub display_got : {F : Type 0} (value : F → Rational) {limit : ℕ} {reader : Reader} {at start next : ℕ} {t : Token} {new : Tables} {w : ReaderState} {items : List Show} → IsNext (is Display) reader at t start →
    IsGot limit (AreShown reader.source.now) (Stays reader new (past reader w Display t start)) (the ShownList) reader start new (past reader w Display t start) items next →
    IsGot limit (IsAct value reader.source.now display_act) (Ends reader new) (the DisplayStatement) reader at new w (act.Display items) next
display_got value {t = t} {items = items} n got = got_by (gives_the DisplayStatement (gives_both (gives_exact n refl) got.gives)) (record { holds = got.leaves.has.holds; tableless = ap (is Table) got.leaves.keyword })
    (λ sense m. view-Display value items ∙ ap displays (got.means sense m)) (let a = n.further in let b = got.further in omega arith)

-- what an abort shows, where it shows anything
abbrev pub ArePerhapsShown : List ℕ → Sense → Derivation → List Show → Type 0
ArePerhapsShown source sense tree shows = shows ≡ optional_in [] (shown_list source sense.names sense.labels) tree

leads_shown : (ts : List KindedToken) → leads productions look_ahead (the ShownList) ts ≡ leads productions look_ahead (any_of (Text ∷ LongText ∷ Name ∷ Suffix ∷ [])) ts
leads_shown ts = leads_alike (the ShownList) (any_of (Text ∷ LongText ∷ Name ∷ Suffix ∷ [])) ts refl refl (same_test (may_begin look_ahead (the ShownList)) (is_terminal_among (Text ∷ LongText ∷ Name ∷ Suffix ∷ [])) refl)

pub shows_none : {limit : ℕ} {reader : Reader} {at : ℕ} {tables : Tables} {w : ReaderState} (items : List Show) → items ≡ [] → leads productions look_ahead (any_of (Text ∷ LongText ∷ Name ∷ Suffix ∷ [])) (seen_from reader at) ≡ false → Has reader tables w →
    IsGot limit (ArePerhapsShown reader.source.now) (Stays reader tables w) (opt (the ShownList)) reader at tables w items at
shows_none {reader = reader} {at = at} {w = w} items is unled h = got_by (gives_none (leads_shown (seen_from reader at) ∙ unled)) (stays_same h) (λ sense m. is) (omega arith)

pub shows_some : {limit : ℕ} {reader : Reader} {at next : ℕ} {new : Tables} {w : ReaderState} {items : List Show} → leads productions look_ahead (any_of (Text ∷ LongText ∷ Name ∷ Suffix ∷ [])) (seen_from reader at) ≡ true →
    IsGot limit (AreShown reader.source.now) (Stays reader new w) (the ShownList) reader at new w items next → IsGot limit (ArePerhapsShown reader.source.now) (Stays reader new w) (opt (the ShownList)) reader at new w items next
shows_some {reader = reader} {at = at} led got = got_by (gives_some (leads_shown (seen_from reader at) ∙ led) got.gives) got.leaves got.means got.further

module _ {reader : Reader} {at start : ℕ} {t : Token} {old : Tables} {w : ReaderState} (n : IsNext (is Abort) reader at t start) (h : Holds reader old w) where
  pub abort_starts : Starts reader old (past reader w Abort t start)
  abort_starts = begun_starts reader w Abort t start refl refl refl refl h

  module _ {F : Type 0} (value : F → Rational) {limit : ℕ} {mid : Tables} {condition : Maybe (Expr F)} {middle : ℕ} (c : IsGot limit (IsCondition value reader.source.now) (StaysOpen reader mid (past reader w Abort t start)) (opt (the Condition)) reader start mid (past reader w Abort t start) condition middle) where
    pub abort_shows : Shows c.following
    abort_shows = shows_on {reader = reader} {old = old} {w = past reader w Abort t start} abort_starts.has.holds c.leaves.stays (refl, refl)

    pub abort_got : {new : Tables} {items : List Show} {next : ℕ} → IsGot limit (ArePerhapsShown reader.source.now) (Stays reader new c.following) (opt (the ShownList)) reader middle new c.following items next →
        IsGot limit (IsAct value reader.source.now abort_act) (Ends reader new) (the AbortStatement) reader at new w (act.Abort condition items) next
    abort_got {items = items} got = got_by (gives_the AbortStatement (gives_both (gives_exact n refl) (gives_both c.gives got.gives))) (record { holds = got.leaves.has.holds; tableless = ap (is Table) (got.leaves.keyword ∙ c.leaves.stays.keyword) })
        (λ sense m. view-Abort value condition items ∙ ap₂ (λ a b. aborts a b) (c.means sense (earlier got.gives c.leaves.stays.has.holds got.leaves.has.holds m)) (got.means sense m))
        (let a = n.further in let b = c.further in let d = got.further in omega arith)

    pub abort_refused : {e : SourceFaultOrMemory} → leads productions look_ahead (any_of (Text ∷ LongText ∷ Name ∷ Suffix ∷ [])) (seen_from reader middle) ≡ true → Refuses limit reader.source.now (the ShownList) c.following (seen_from reader middle) e → Refuses limit reader.source.now (the AbortStatement) w (seen_from reader at) e
    abort_refused led r = refuses_the AbortStatement (refuses_second (gives_exact n refl) (refuses_second c.gives (refuses_some (leads_shown (seen_from reader middle) ∙ led) r)))

-- ---- options

-- a statement of options has words, and no names
pub option_nameless : (w v : ReaderState) → v.keyword ≡ w.keyword → is Option w.keyword ≡ true → Nameless v
option_nameless w v same h = or_right _ _ (ap (is Option) same ∙ h)

module _ {F : Type 0} (value : F → Rational) {limit : ℕ} {reader : Reader} {at middle start : ℕ} {e : Token} {tables : Tables} {w : ReaderState} {option : Word} (o : IsGot limit (IsWord reader.source.now) (Stays reader tables w) word reader at tables w option middle) (q : IsNext (is Equals) reader middle e start) where
  pub equals_stays : Stays reader tables w (past reader o.following Equals e start)
  equals_stays = stays_then o.leaves (plain_stays reader o.following Equals e start refl o.leaves.has)

  pub equals_nameless : is Option w.keyword ≡ true → Nameless (past reader o.following Equals e start)
  equals_nameless k = option_nameless w (past reader o.following Equals e start) equals_stays.keyword k

  pub setting_number : {next : ℕ} {t : Token} {v : F} → IsNext (is Number) reader start t next → IsValue limit value (token_text reader.source.now t) v →
      IsGot limit (IsSetting value reader.source.now) (Stays reader tables w) (the Setting) reader at tables w (option, setting.Number t.at v) next
  setting_number {next} {t} {v} n is = got_by (gives_the Setting (gives_both o.gives (gives_both (gives_exact q refl) (gives_left (led_next n) (number_gives (value v) n refl is.0 is.1)))))
      (stays_then equals_stays (number_stays next equals_stays.has))
      (λ sense m. ap₂ (λ (a : Word) (b : SettingNode Rational). (a, b)) (o.means sense m) (ap (λ x. setting.Number t.at x) (sym (number_in_is (token_text reader.source.now t) (value v) is.0))))
      (let a = o.further in let b = q.further in let c = n.further in omega arith)

  pub setting_number_refused : {next : ℕ} {t : Token} {refusal : SourceFaultOrMemory} → IsNext (is Number) reader start t next → IsTooLarge limit reader.source.now t refusal → Refuses limit reader.source.now (the Setting) w (seen_from reader at) refusal
  setting_number_refused n l = refuses_the Setting (refuses_second o.gives (refuses_second (gives_exact {kind = Equals} q refl) (refuses_left {q = word} (led_next n) (number_refused n refl l))))

  pub setting_word : {next : ℕ} {x : Word} → leads productions look_ahead (token Number) (seen_from reader start) ≡ false → IsGot limit (IsWord reader.source.now) (Stays reader tables (past reader o.following Equals e start)) word reader start tables (past reader o.following Equals e start) x next →
      IsGot limit (IsSetting value reader.source.now) (Stays reader tables w) (the Setting) reader at tables w (option, setting.Name x) next
  setting_word unled got = got_by (gives_the Setting (gives_both o.gives (gives_both (gives_exact q refl) (gives_right unled (led_given got.gives) got.gives)))) (stays_then equals_stays got.leaves)
      (λ sense m. ap₂ (λ (a : Word) (b : SettingNode Rational). (a, b)) (o.means sense m) (ap setting.Name (got.means sense m))) (let a = o.further in let b = q.further in let c = got.further in omega arith)

  pub setting_word_refused : {refusal : SourceFaultOrMemory} → leads productions look_ahead (token Number) (seen_from reader start) ≡ false → Refuses limit reader.source.now word (past reader o.following Equals e start) (seen_from reader start) refusal →
      Refuses limit reader.source.now (the Setting) w (seen_from reader at) refusal
  setting_word_refused unled r = refuses_the Setting (refuses_second o.gives (refuses_second (gives_exact q refl) (refuses_other unled r)))

-- where a step of a list of settings is looked at by itself
abbrev pub setting_read_state : Reader → Tables → ReaderState
setting_read_state reader tables = record { open_count = reader.unclosed; names = tables.names; labels = tables.labels; before = []; keyword = Option; level = 0 }

pub has_setting : (reader : Reader) (tables : Tables) → Has reader tables (setting_read_state reader tables)
has_setting reader tables = record { holds = record { open_count = refl; names = refl; labels = refl }; level = omega arith }

pub options_got : {F : Type 0} (value : F → Rational) {limit : ℕ} {reader : Reader} {at start next : ℕ} {t : Token} {tables : Tables} {w : ReaderState} {settings : List (Word × SettingNode F)} → IsNext (is Option) reader at t start →
    IsGot limit (AreAll (IsSetting value reader.source.now)) (Stays reader tables (past reader w Option t start)) (list_of (is Comma) (the Setting)) reader start tables (past reader w Option t start) settings next →
    IsGot limit (IsAct value reader.source.now option_act) (Ends reader tables) (the OptionStatement) reader at tables w (act.Options settings) next
options_got value {reader = reader} {t = t} {settings = settings} n got = got_by (gives_the OptionStatement (gives_both (gives_exact n refl) got.gives)) (record { holds = got.leaves.has.holds; tableless = ap (is Table) got.leaves.keyword })
    (λ sense m. view-Options value settings ∙ ap sets_options (all_meant (IsSetting value reader.source.now) (λ pair. (pair.0, setting_in value pair.1)) (setting_of reader.source.now sense.names sense.labels) sense (λ tree x k. k) got.tree settings (got.means sense m)))
    (let a = n.further in let b = got.further in omega arith)

-- ---- a part after two others

module _ {p q r : GamsPart} {ts : List KindedToken} where
  regrouped_reads : {between rest : List KindedToken} {a b : Derivation} → Reads productions look_ahead (p · q) ts (read a between) → Reads productions look_ahead r between (read b rest) →
      Reads productions look_ahead (p · (q · r)) ts (read (pair (first_in a) (pair (second_in a) b)) rest) × (yield a ≡ yield (first_in a) ++ yield (second_in a))
  regrouped_reads (both h k) l = (both h (both k l), refl)

  grouped_reads : {prefix rest : List KindedToken} → Reads productions look_ahead ((p · q) · r) ts (stuck prefix rest) → Reads productions look_ahead (p · (q · r)) ts (stuck prefix rest)
  grouped_reads (first_stuck (first_stuck h)) = first_stuck h
  grouped_reads (first_stuck (second_stuck h k)) = second_stuck h (first_stuck k)
  grouped_reads {rest = rest} (second_stuck {prefix = prefix} (both {a = a} {b = b} h k) l) =
      subst (λ (u : List KindedToken). Reads productions look_ahead (p · (q · r)) ts (stuck u rest)) (sym (append_assoc (yield a) (yield b) prefix)) (second_stuck h (second_stuck k l))

  grouped_takes : {prefix rest : List KindedToken} → Takes productions look_ahead ((p · q) · r) ts prefix rest → Takes productions look_ahead (p · (q · r)) ts prefix rest
  grouped_takes (takes_first (takes_first h)) = takes_first h
  grouped_takes (takes_first (takes_second h k)) = takes_second h (takes_first k)
  grouped_takes {rest = rest} (takes_second {prefix = prefix} (both {a = a} {b = b} h k) l) =
      subst (λ (u : List KindedToken). Takes productions look_ahead (p · (q · r)) ts u rest) (sym (append_assoc (yield a) (yield b) prefix)) (takes_second h (takes_second k l))

module _ {limit : ℕ} {source : List ℕ} {p q r : GamsPart} {w : ReaderState} {ts : List KindedToken} where
  -- the first of two, and the second followed by another
  pub gives_regrouped : {v x : ReaderState} {between rest : List KindedToken} {a b : Derivation} → Gives limit source (p · q) w ts a v between → Gives limit source r v between b x rest →
      Gives limit source (p · (q · r)) w ts (pair (first_in a) (pair (second_in a) b)) x rest
  gives_regrouped {a = a} {b = b} g h =
      let k = regrouped_reads g.reads h.reads in
      let both_given = gives_both g h in
      let same : yield a ++ yield b ≡ yield (first_in a) ++ (yield (second_in a) ++ yield b) = ap (λ u. u ++ yield b) k.1 ∙ append_assoc (yield (first_in a)) (yield (second_in a)) (yield b) in
      gives_as both_given k.0 same

  refuses_grouped : {e : SourceFaultOrMemory} → Refuses limit source ((p · q) · r) w ts e → Refuses limit source (p · (q · r)) w ts e
  refuses_grouped c = by_cause c (λ fault s. stuck_as s (grouped_reads s.reads)) (λ fault s. wrong_as s (grouped_takes s.takes))

  -- the first two are refused, and what follows them
  pub refuses_pair : {e : SourceFaultOrMemory} → Refuses limit source (p · q) w ts e → Refuses limit source (p · (q · r)) w ts e
  refuses_pair c = refuses_grouped (refuses_first c)

  pub refuses_after : {v : ReaderState} {between : List KindedToken} {a : Derivation} {e : SourceFaultOrMemory} → Gives limit source (p · q) w ts a v between → Refuses limit source r v between e → Refuses limit source (p · (q · r)) w ts e
  refuses_after g c = refuses_grouped (refuses_second g c)

-- ---- solves

pub method_got : {limit : ℕ} {reader : Reader} {at start next : ℕ} {t : Token} {tables : Tables} {w : ReaderState} {x : Word} → IsNext (is Using) reader at t start → Has reader tables w →
    IsGot limit (IsWord reader.source.now) (Stays reader tables (past reader w Using t start)) word reader start tables (past reader w Using t start) x next →
    IsGot limit (IsMethod reader.source.now) (Stays reader tables w) (token Using · word) reader at tables w x next
method_got {reader = reader} {start = start} {t = t} {w = w} n h got = got_by (gives_both (gives_exact n refl) got.gives) (stays_then (plain_stays reader w Using t start refl h) got.leaves) got.means
    (let a = n.further in let b = got.further in omega arith)

pub objective_got : {limit : ℕ} {reader : Reader} {at start next : ℕ} {t : Token} {old new : Tables} {w : ReaderState} {maximize : Bool} {named : Named} → IsNext (is Direction) reader at t start → Has reader old w → maximize ≡ is_maximizing (token_text reader.source.now t) →
    IsGot limit (IsNamed reader.source.now) (Stays reader new (past reader w Direction t start)) name reader start new (past reader w Direction t start) named next →
    IsGot limit (IsObjective reader.source.now) (Stays reader new w) (token Direction · name) reader at new w (maximize, named) next
objective_got {reader = reader} {start = start} {t = t} {w = w} n h is got = got_by (gives_both (gives_exact n refl) got.gives) (stays_then (plain_stays reader w Direction t start refl h) got.leaves) (λ sense m. (is, got.means sense m))
    (let a = n.further in let b = got.further in omega arith)

-- what begins with a token that was read leads
pub led_both : {test : Terminal → Bool} {q : GamsPart} {ts rest : List KindedToken} {tree : Derivation} (r : GamsPart) → Reads productions look_ahead (one test · q) ts (read tree rest) → leads productions look_ahead (one test · r) ts ≡ true
led_both {test} r (both (taken {token = token} {rest = rest} h) k) = led_first test r (token ∷ rest) h

stuck_more : {test : Terminal → Bool} {p q : GamsPart} {ts prefix rest : List KindedToken} → leads productions look_ahead p ts ≡ false → Reads productions look_ahead (one test · q) ts (stuck prefix rest) → Reads productions look_ahead (p ∣ one test · q) ts (stuck prefix rest)
stuck_more {test} {p} {q} k (first_stuck (refused {tokens = ts} h)) = in_neither k (unled_next test q ts h)
stuck_more {test} {p} {q} k (second_stuck (taken {token = token} {rest = rest} h) l) = in_right_stuck k (led_first test q (token ∷ rest) h) (second_stuck (taken h) l)

pub refuses_more : {limit : ℕ} {source : List ℕ} {test : Terminal → Bool} {p q : GamsPart} {w : ReaderState} {ts : List KindedToken} {e : SourceFaultOrMemory} → leads productions look_ahead p ts ≡ false → Refuses limit source (one test · q) w ts e → Refuses limit source (p ∣ one test · q) w ts e
refuses_more k r = by_cause r (λ fault s. stuck_as s (stuck_more k s.reads)) (λ fault s. wrong_as s (takes_right s.takes))

using_led : (ts : List KindedToken) → leads productions look_ahead (token Using) ts ≡ true → leads productions look_ahead (token Using · word · token Direction · name) ts ≡ true
using_led ts led = led_first (is Using) (word · token Direction · name) ts led

using_unled : (ts : List KindedToken) → leads productions look_ahead (token Using) ts ≡ false → leads productions look_ahead (token Using · word · token Direction · name) ts ≡ false
using_unled ts unled = unled_next (is Using) (word · token Direction · name) ts unled

module _ {F : Type 0} (value : F → Rational) {limit : ℕ} {reader : Reader} {at start middle : ℕ} {t : Token} {mid : Tables} {w : ReaderState} {model : Named} (n : IsNext (is Solve) reader at t start) (m : IsGot limit (IsNamed reader.source.now) (Stays reader mid (past reader w Solve t start)) name reader start mid (past reader w Solve t start) model middle) where
  solve_refused : {e : SourceFaultOrMemory} → Refuses limit reader.source.now (token Using · word · token Direction · name ∣ token Direction · name · token Using · word) m.following (seen_from reader middle) e → Refuses limit reader.source.now (the SolveStatement) w (seen_from reader at) e
  solve_refused r = refuses_the SolveStatement (refuses_second (gives_exact n refl) (refuses_second m.gives r))

  -- `using` comes first
  module _ (led : leads productions look_ahead (token Using) (seen_from reader middle) ≡ true) where
    pub using_refused : {e : SourceFaultOrMemory} → Refuses limit reader.source.now (token Using · word) m.following (seen_from reader middle) e → Refuses limit reader.source.now (the SolveStatement) w (seen_from reader at) e
    using_refused r = solve_refused (refuses_left (using_led (seen_from reader middle) led) (refuses_pair r))

    module _ {between : ℕ} {method : Word} (u : IsGot limit (IsMethod reader.source.now) (Stays reader mid m.following) (token Using · word) reader middle mid m.following method between) where
      pub aim_refused : {e : SourceFaultOrMemory} → Refuses limit reader.source.now (token Direction · name) u.following (seen_from reader between) e → Refuses limit reader.source.now (the SolveStatement) w (seen_from reader at) e
      aim_refused r = solve_refused (refuses_left (using_led (seen_from reader middle) led) (refuses_after u.gives r))

      pub using_solved : {new : Tables} {maximize : Bool} {objective : Named} {next : ℕ} → IsGot limit (IsObjective reader.source.now) (Stays reader new u.following) (token Direction · name) reader between new u.following (maximize, objective) next →
          (act : ActNode F) → act_view value act ≡ solves model method objective maximize → IsGot limit (IsAct value reader.source.now solve_act) (Ends reader new) (the SolveStatement) reader at new w act next
      using_solved o act shown = got_by (gives_the SolveStatement (gives_both (gives_exact n refl) (gives_both m.gives (gives_left (using_led (seen_from reader middle) led) (gives_regrouped u.gives o.gives)))))
          (record { holds = o.leaves.has.holds; tableless = ap (is Table) (o.leaves.keyword ∙ u.leaves.keyword ∙ m.leaves.keyword) })
          (λ sense s.
          let before = earlier o.gives u.leaves.has.holds o.leaves.has.holds s in
          let aim = o.means sense s in
          shown ∙ ap₂ (λ (x : Named × Word) (y : Named × Bool). solves x.0 x.1 y.0 y.1) (ap₂ (λ (a : Named) (b : Word). (a, b)) (m.means sense before) (u.means sense before)) (ap₂ (λ (a : Named) (b : Bool). (a, b)) aim.1 aim.0))
          (let a = n.further in let b = m.further in let c = u.further in let d = o.further in omega arith)

  -- the direction comes first
  module _ (unled : leads productions look_ahead (token Using) (seen_from reader middle) ≡ false) where
    pub objective_refused : {e : SourceFaultOrMemory} → Refuses limit reader.source.now (token Direction · name) m.following (seen_from reader middle) e → Refuses limit reader.source.now (the SolveStatement) w (seen_from reader at) e
    objective_refused r = solve_refused (refuses_more (using_unled (seen_from reader middle) unled) (refuses_pair r))

    module _ {between : ℕ} {new : Tables} {maximize : Bool} {objective : Named} (o : IsGot limit (IsObjective reader.source.now) (Stays reader new m.following) (token Direction · name) reader middle new m.following (maximize, objective) between) where
      pub method_refused : {e : SourceFaultOrMemory} → Refuses limit reader.source.now (token Using · word) o.following (seen_from reader between) e → Refuses limit reader.source.now (the SolveStatement) w (seen_from reader at) e
      method_refused r = solve_refused (refuses_right (using_unled (seen_from reader middle) unled) (led_both (name · token Using · word) o.gives.reads) (refuses_after o.gives r))

      pub aim_solved : {method : Word} {next : ℕ} → IsGot limit (IsMethod reader.source.now) (Stays reader new o.following) (token Using · word) reader between new o.following method next →
          (act : ActNode F) → act_view value act ≡ solves model method objective maximize → IsGot limit (IsAct value reader.source.now solve_act) (Ends reader new) (the SolveStatement) reader at new w act next
      aim_solved u act shown = got_by
          (gives_the SolveStatement (gives_both (gives_exact n refl) (gives_both m.gives (gives_right (using_unled (seen_from reader middle) unled) (led_both (name · token Using · word) o.gives.reads) (gives_regrouped o.gives u.gives)))))
          (record { holds = u.leaves.has.holds; tableless = ap (is Table) (u.leaves.keyword ∙ o.leaves.keyword ∙ m.leaves.keyword) })
          (λ sense s.
          let before = earlier o.gives m.leaves.has.holds o.leaves.has.holds s in
          let aim = o.means sense s in
          shown ∙ ap₂ (λ (x : Named × Word) (y : Named × Bool). solves x.0 x.1 y.0 y.1) (ap₂ (λ (a : Named) (b : Word). (a, b)) (m.means sense before) (u.means sense s)) (ap₂ (λ (a : Named) (b : Bool). (a, b)) aim.1 aim.0))
          (let a = n.further in let b = m.further in let c = u.further in let d = o.further in omega arith)

-- ---- aliases

-- two names, with a comma between them
abbrev pub ArePair : List ℕ → Sense → Derivation → Named × Named → Type 0
ArePair source sense tree x = IsNamed source sense (first_in tree) x.0 × IsNamed source sense (second_in (second_in tree)) x.1

pub pair_got : {limit : ℕ} {reader : Reader} {at middle following next : ℕ} {t : Token} {mid new : Tables} {w : ReaderState} {first second : Named} (f : IsGot limit (IsNamed reader.source.now) (Stays reader mid w) name reader at mid w first middle) → IsNext (is Comma) reader middle t following →
    IsGot limit (IsNamed reader.source.now) (Stays reader new (past reader f.following Comma t following)) name reader following new (past reader f.following Comma t following) second next →
    IsGot limit (ArePair reader.source.now) (Stays reader new w) (name · token Comma · name) reader at new w (first, second) next
pair_got {reader = reader} {following = following} {t = t} f n s =
    let k = plain_stays reader f.following Comma t following refl f.leaves.has in
    got_by (gives_both f.gives (gives_both (gives_exact n refl) s.gives)) (stays_then f.leaves (stays_then k s.leaves)) (λ sense m. (f.means sense (earlier s.gives k.has.holds s.leaves.has.holds m), s.means sense m))
    (let a = f.further in let b = n.further in let c = s.further in omega arith)

module _ {reader : Reader} {at start : ℕ} {t : Token} {old : Tables} {w : ReaderState} (n : IsNext (is Alias) reader at t start) (h : Holds reader old w) where
  pub alias_has : Has reader old (past reader w Alias t start)
  alias_has = begun_has reader w Alias t start refl refl h

  module _ {from : ℕ} {inner : Reader} (o : IsOpened reader start inner from) where
    pub alias_starts : Starts inner old (opened (past reader w Alias t start) o)
    alias_starts = open_starts o alias_has refl

    pub alias_inside : {limit : ℕ} {e : SourceFaultOrMemory} → Refuses limit inner.source.now (name · token Comma · name) (opened (past reader w Alias t start) o) (seen_from inner from) e → Refuses limit reader.source.now (the AliasStatement) w (seen_from reader at) e
    alias_inside r = refuses_the AliasStatement (refuses_second (gives_exact n refl) (refuses_inside o alias_has (refuses_within from o r)))

    module _ {limit : ℕ} {new : Tables} {first second : Named} {next : ℕ} (got : IsGot limit (ArePair inner.source.now) (Stays inner new (opened (past reader w Alias t start) o)) (name · token Comma · name) inner from new (opened (past reader w Alias t start) o) (first, second) next) where
      alias_pair : IsGot limit (ArePair reader.source.now) (Stays inner new (opened (past reader w Alias t start) o)) (name · token Comma · name) reader from new (opened (past reader w Alias t start) o) (first, second) next
      alias_pair = got_inside (λ r. ArePair r.source.now) o got

      pub alias_unclosed : {e : SourceFaultOrMemory} → IsLacking (is RightParen) reader next e → Refuses limit reader.source.now (the AliasStatement) w (seen_from reader at) e
      alias_unclosed l = refuses_the AliasStatement (refuses_second (gives_exact n refl) (refuses_unclosed o alias_has alias_pair.leaves alias_pair.gives l))

      pub alias_got : {F : Type 0} (value : F → Rational) {following : ℕ} {c : Token} → IsNext (is RightParen) reader next c following → IsGot limit (IsAct value reader.source.now alias_act) (Ends reader new) (the AliasStatement) reader at new w (act.Alias first second) following
      alias_got value {following} {c} close =
          let s = close_stays o alias_has alias_pair.leaves c following in
          got_by (gives_the AliasStatement (gives_both (gives_exact n refl) (gives_bracketed o alias_has alias_pair.leaves alias_pair.gives close refl))) (record { holds = s.has.holds; tableless = ap (is Table) s.keyword })
          (λ sense m. let both_are = alias_pair.means sense m in view-Alias value first second ∙ ap₂ (λ a b. aliases a b) both_are.0 both_are.1)
          (let a = n.further in let b = o.next.further in let d = alias_pair.further in let e = close.further in omega arith)
