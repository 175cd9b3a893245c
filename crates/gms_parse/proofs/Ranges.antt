-- Labels of lists, and ranges of them.
use Rattle.std.proofs.Math.Bool.{or-false, or-true}
use Rattle.std.proofs.Common.{◌≡◌, ℕ, zero, suc, get_or, ◌+◌, ◌<◌, ◌≤◌, Bool, true, false, not, ◌&&◌, ◌||◌, cond, List, [], ◌∷◌, ◌++◌, length, map, take, Option, Some, None, is_some, refl, sym, ap, ap₂, ◌∙◌, subst, inl, inr, arith, append_assoc}
use Rattle.std.specs.Str.{IsAscii}
use Rattle.std.proofs.lemmas.List.{append-nil, map_push, take_all}
use Rattle.std.proofs.Math.Seq.{take-suc}
use Rattle.gms_grammar.proofs.Orders.{order, at_once, earlier, later, some_there}
use Rattle.gms_labels.specs.Labels.{place_of, entered, IsFullFor}
use Rattle.gms_labels.proofs.Places.{place_of-entered, place_of-entered_kept}
use Rattle.gms_grammar.specs.declared.kind.Kind.{Kind}
use Rattle.gms_grammar.specs.declared.kind.Kind.TheVariants as token_kind
use Rattle.gms_lex.specs.declared.token.Token.{Token}
use Rattle.gms_lex.specs.TokenTexts.{token_text, unquoted, IsSpelled}
use Rattle.gms_lex.proofs.UnquotedLemmas.{unquoted_ascii}
use Rattle.gms_set.specs.Ranges.{is_range, members, IsRangeError}
use Rattle.gms_set.specs.declared.fault.SetFault.{SetFault}
use Rattle.gms_set.specs.declared.fault.SetFaultOrMemory.{SetFaultOrMemory}
use Rattle.gms_set.specs.declared.fault.SetFaultOrMemory.TheVariants as set_fault
use Rattle.gms_grammar.specs.declared.terminal.Terminal.{Terminal}
use Rattle.gms_grammar.specs.declared.terminal.Terminal.TheVariants.{Label, Star}
use Rattle.gms_grammar.specs.Grammar.{the, leaf}
use Rattle.gms_grammar.specs.Reading.{leads}
use Rattle.gms_grammar.specs.Terminals.{is}
use Rattle.gms_grammar.specs.GamsGrammar.{Range, productions, token}
use Rattle.gms_grammar.specs.GamsLookAhead.{look_ahead}
use Rattle.gms_expressions.specs.ExpressionTrees.{or_0}
use Rattle.gms_parse.specs.declared.data.Part.{Part as Position}
use Rattle.gms_parse.specs.declared.fault.SourceFaultOrMemory.{SourceFaultOrMemory}
use Rattle.gms_parse.specs.declared.fault.SourceFaultOrMemory.TheVariants.{Fault}
use Rattle.gms_parse.specs.declared.fault.SourceError.TheVariants.{Syntax}
use Rattle.gms_expressions.specs.declared.fault.SyntaxError.TheVariants.{TooManyLabels}
use Rattle.gms_parse.specs.declared.reader.Reader.{Reader}
use Rattle.gms_parse.specs.declared.reader.Tables.{Tables}
use Rattle.gms_parse.specs.DataLists.{range_labels}
use Rattle.gms_table.specs.WordLabels.{all_entered}
use Rattle.gms_table.proofs.LabelLemmas.{Stay-all_entered, all_entered-append}
use Rattle.gms_parse.specs.ReadStates.{KindedToken, ReaderState, last_kind, range_start, range_texts, list_labels, new_labels, ExceedsTable, many_labels}
use Rattle.gms_parse.specs.InnerReadings.{Gives, Refuses, Sense, IsSense, IsGot, Has, Holds, Starless, Stays, IsNext, IsLacking, IsEntered, IsNotEntered, seen_from, kind_of}
use Rattle.gms_parse.specs.InnerMeanings.{IsLabelToken, IsEnteredRange, IsNotEnteredRange, IsAdded, AreThere, text_of_label}
use Rattle.gms_parse.proofs.TokenKinds.{leads_by_kind, unled_next}
use Rattle.gms_parse.proofs.Steps.{got_by, gives_one, gives_both, gives_the, gives_none, gives_some, takes_next, refuses_the, refuses_first, refuses_second, refuses_some, refuses_token, refuses_memory}
use Rattle.gms_parse.proofs.Nexts.{past, exact, leads_next, gives_exact, refuses_lacking, stays_by, plain_stays, stays_then}
use Rattle.gms_parse.proofs.StateLemmas.{free_sound, bound_for_none}

-- ---- spelling

pub label_spelled : {source : List ℕ} {t : Token} → IsLabelToken source t → IsAscii (unquoted (token_text source t)) × (length (unquoted (token_text source t)) ≤ 63)
label_spelled {source} {t} l = let s : IsSpelled token_kind.Label (token_text source t) = subst (λ (x : Kind). IsSpelled x (token_text source t)) l.is l.placed.spelled in (unquoted_ascii (token_text source t) s.0, s.1)

-- ---- texts that are entered

-- the table is full for one more text, or was for one before it
pub data Lacking (labels texts : List (List ℕ)) (text : List ℕ) : Type 0 where
  earlier_one : ExceedsTable labels texts → Lacking labels texts text
  this_one : IsFullFor (all_entered labels texts) text → Lacking labels texts text

pub lacking_of : (labels texts : List (List ℕ)) (text : List ℕ) → ExceedsTable labels (texts ++ text ∷ []) → Lacking labels texts text
lacking_of labels texts text l = elim (order l.before l.text l.following texts text [] (sym l.parts)) [
  | earlier w e k ↦ earlier_one (record { before = l.before; text = l.text; following = w; parts = e; full = l.full })
  | later w e k ↦ absurd (some_there w l.text l.following k)
  | at_once e same k ↦ this_one (subst (λ (x : List ℕ). IsFullFor (all_entered labels texts) x) same (subst (λ (us : List (List ℕ)). IsFullFor (all_entered labels us) l.text) e l.full))
]

pub full_of : (labels : List (List ℕ)) (text : List ℕ) → ExceedsTable labels (text ∷ []) → IsFullFor labels text
full_of labels text l = elim (lacking_of labels [] text l) [ earlier_one k ↦ absurd (bound_for_none _ [] refl k) | this_one f ↦ f ]

-- the texts entered so far have these numbers
pub record Entering (old now : List (List ℕ)) (texts : List (List ℕ)) (was numbers : List ℕ) : Type 0 where
  pub table : now ≡ all_entered old texts
  pub within_bound : ExceedsTable old texts → ⊥
  pub numbers_are : numbers ≡ was ++ map (λ text. or_0 (place_of now text)) texts

pub entering_start : (old : List (List ℕ)) (was : List ℕ) → Entering old old [] was was
entering_start old was = record { table = refl; within_bound = λ l. bound_for_none _ [] refl l; numbers_are = sym (append-nil was) }

there_from : (labels : List (List ℕ)) (text : List ℕ) (o : Option ℕ) → place_of labels text ≡ o → is_some o ≡ true → (n : ℕ) × (place_of labels text ≡ Some n)
there_from labels text (Some n) e h = (n, e)
there_from labels text None e h = absurd cc

-- texts that are entered have numbers
pub entered_there : (labels texts : List (List ℕ)) → AreThere (all_entered labels texts) texts
entered_there labels [] = tt
entered_there labels (t ∷ texts) =
    let p = there_from (entered labels t) t (place_of (entered labels t) t) refl (place_of-entered labels t) in
    ((p.0, (Stay-all_entered (entered labels t) texts).stays t p.0 p.1), entered_there (entered labels t) texts)

-- tables that keep places keep the numbers of texts
same_places : (labels now : List (List ℕ)) → ((text : List ℕ) (n : ℕ) → place_of labels text ≡ Some n → place_of now text ≡ Some n) → (texts : List (List ℕ)) → AreThere labels texts → map (λ t. or_0 (place_of labels t)) texts ≡ map (λ t. or_0 (place_of now t)) texts
same_places labels now keep [] h = refl
same_places labels now keep (t ∷ texts) h = ap₂ (λ a b. or_0 a ∷ b) (h.0.1 ∙ sym (keep t h.0.0 h.0.1)) (same_places labels now keep texts h.1)

pub entering_on : (old now : List (List ℕ)) (texts : List (List ℕ)) (was numbers : List ℕ) → Entering old now texts was numbers → (new : List (List ℕ)) (text : List ℕ) (n : ℕ) → IsEntered now new text n → (more : List ℕ) → more ≡ numbers ++ n ∷ [] → Entering old new (texts ++ text ∷ []) was more
entering_on old now texts was numbers e new text n f more is_more =
    let there : AreThere now texts = subst (λ (z : List (List ℕ)). AreThere z texts) (sym e.table) (entered_there old texts) in
    let same : map (λ t. or_0 (place_of now t)) texts ≡ map (λ t. or_0 (place_of new t)) texts = same_places now (entered now text) (λ t n p. place_of-entered_kept now text t n p) texts there ∙ ap (λ (z : List (List ℕ)). map (λ t. or_0 (place_of z t)) texts) (sym f.table) in
    record {
      table = f.table ∙ ap (λ z. entered z text) e.table ∙ sym (all_entered-append old texts (text ∷ []));
      within_bound = λ l. elim (lacking_of old texts text l) [ earlier_one k ↦ e.within_bound k | this_one g ↦ f.within_bound (subst (λ (z : List (List ℕ)). IsFullFor z text) (sym e.table) g) ];
      numbers_are = is_more ∙ ap₂ (λ a b. a ++ b ∷ []) e.numbers_are (sym (ap or_0 f.place)) ∙ append_assoc was (map (λ t. or_0 (place_of now t)) texts) (or_0 (place_of new text) ∷ []) ∙ ap (λ u. was ++ (u ++ or_0 (place_of new text) ∷ [])) same ∙ ap (λ u. was ++ u) (sym (map_push (λ t. or_0 (place_of new t)) texts text));
    }

pub lacks_append : (old texts : List (List ℕ)) (text : List ℕ) (more : List (List ℕ)) → IsFullFor (all_entered old texts) text → ExceedsTable old (texts ++ text ∷ more)
lacks_append old texts text more f = record { before = texts; text = text; following = more; parts = refl; full = f }

-- the table is full for a text after others
pub entering_full : (old now : List (List ℕ)) (texts : List (List ℕ)) (was numbers : List ℕ) → Entering old now texts was numbers → (text : List ℕ) (more : List (List ℕ)) → IsFullFor now text → ExceedsTable old (texts ++ text ∷ more)
entering_full old now texts was numbers e text more f = lacks_append old texts text more (subst (λ (z : List (List ℕ)). IsFullFor z text) e.table f)

-- ---- tokens

-- no range begins before
no_range : (before : List KindedToken) → is Star (last_kind before) ≡ false → range_start before ≡ None
no_range [] h = refl
no_range (star ∷ []) h = refl
no_range (star ∷ (first ∷ others)) h = ap (λ b. cond (b && is Label first.0) (Some first.1) None) h

-- a label that does not end a range enters itself, or nothing if a range continues
label_new : (source : List ℕ) (w : ReaderState) (t : Token) (ahead : Terminal) → Starless w → new_labels source w (Label, t) ahead ≡ cond (is Star ahead) [] (unquoted (token_text source t) ∷ [])
label_new source w t ahead h = ap (λ o. list_labels source o ahead t) (no_range w.before h)

-- what a label leaves, where it enters these
label_stays : {reader : Reader} (w : ReaderState) (t : Token) (following : ℕ) {old new : Tables} (texts : List (List ℕ)) → new_labels reader.source.now w (Label, t) (kind_of (seen_from reader following)) ≡ texts → Has reader old w → new.names ≡ old.names → new.labels ≡ all_entered old.labels texts →
    Stays reader new w (past reader w Label t following)
label_stays {reader} w t following texts is h names labels = stays_by reader w Label t following refl h refl (h.holds.names ∙ sym names) (ap (all_entered w.labels) is ∙ ap (λ (ls : List (List ℕ)). all_entered ls texts) h.holds.labels ∙ sym labels)

-- a label that enters these
label_gives : {limit : ℕ} {reader : Reader} {at following : ℕ} {t : Token} {w : ReaderState} {old : Tables} (texts : List (List ℕ)) → IsNext (is Label) reader at t following → new_labels reader.source.now w (Label, t) (kind_of (seen_from reader following)) ≡ texts → Holds reader old w → (ExceedsTable old.labels texts → ⊥) →
    Gives limit reader.source.now (token Label) w (seen_from reader at) (leaf (Label, t)) (past reader w Label t following) (seen_from reader following)
label_gives {limit} {reader} {following = following} {t = t} {w = w} texts n is h within_bound =
    gives_one (exact {kind = Label} n) refl (free_sound limit reader.source.now w Label t (kind_of (seen_from reader following)) refl (λ e d. cc) (λ l. within_bound (subst (λ (ls : List (List ℕ)). ExceedsTable ls texts) h.labels (subst (λ (x : List (List ℕ)). ExceedsTable w.labels x) is l)))) refl

label_refuses : {limit : ℕ} {reader : Reader} {at following : ℕ} {t : Token} {w : ReaderState} {old : Tables} (texts : List (List ℕ)) {e : SourceFaultOrMemory} → IsNext (is Label) reader at t following → new_labels reader.source.now w (Label, t) (kind_of (seen_from reader following)) ≡ texts → Holds reader old w → ExceedsTable old.labels texts →
    e ≡ Fault (record { error = Syntax TooManyLabels; at = t.at }) → Refuses limit reader.source.now (token Label) w (seen_from reader at) e
label_refuses {w = w} texts n is h lacks e =
    refuses_token (takes_next (exact {kind = Label} n) refl) (many_labels refl (subst (λ (x : List (List ℕ)). ExceedsTable w.labels x) (sym is) (subst (λ (ls : List (List ℕ)). ExceedsTable ls texts) (sym h.labels) lacks))) e

-- ---- a label, or a range

module _ {reader : Reader} {at : ℕ} {old : Tables} {w : ReaderState} {first : Token} {next : ℕ} (h : Has reader old w) (clean : Starless w) (n : IsNext (is Label) reader at first next) where
  -- a label by itself
  alone_new : leads productions look_ahead (token Star) (seen_from reader next) ≡ false → new_labels reader.source.now w (Label, first) (kind_of (seen_from reader next)) ≡ text_of_label reader.source.now first ∷ []
  alone_new unled = label_new reader.source.now w first (kind_of (seen_from reader next)) clean ∙ ap (λ b. cond b [] (text_of_label reader.source.now first ∷ [])) (sym (leads_by_kind (token Star) (seen_from reader next) refl) ∙ unled)

  pub label_got : {limit : ℕ} (was now : Position) (new : Tables) (number : ℕ) (labels : List (List ℕ)) → leads productions look_ahead (token Star) (seen_from reader next) ≡ false → (text : List ℕ) → text ≡ text_of_label reader.source.now first → IsEntered old.labels labels text number → new.names ≡ old.names → new.labels ≡ labels →
      now.labels.items ≡ was.labels.items ++ number ∷ [] → now.bad_range ≡ was.bad_range → IsGot limit (λ sense tree x. IsAdded reader.source.now sense tree was x) (Stays reader new w) (the Range) reader at new w now next
  label_got was now new number labels unled text spelled given names same items bad = let e = subst (λ (x : List ℕ). IsEntered old.labels labels x number) spelled given in got_by
      (gives_the Range (gives_both (label_gives (text_of_label reader.source.now first ∷ []) n (alone_new unled) h.holds (λ l. e.within_bound (full_of old.labels (text_of_label reader.source.now first) l))) (gives_none (unled_next (is Star) (token Label) (seen_from reader next) unled))))
      (label_stays w first next (text_of_label reader.source.now first ∷ []) (alone_new unled) h names (same ∙ e.table))
      (λ sense m. (items ∙ ap (λ k. was.labels.items ++ k ∷ []) (sym (ap or_0 (m.labels (text_of_label reader.source.now first) number (ap (λ (z : List (List ℕ)). place_of z (text_of_label reader.source.now first)) same ∙ e.place)))), bad ∙ sym (or-false was.bad_range)))
      (let g = n.further in omega arith)

  pub label_not_entered : {limit : ℕ} {e : SourceFaultOrMemory} → leads productions look_ahead (token Star) (seen_from reader next) ≡ false → (text : List ℕ) → text ≡ text_of_label reader.source.now first → IsNotEntered old.labels text first.at e → Refuses limit reader.source.now (the Range) w (seen_from reader at) e
  label_not_entered unled text spelled r = elim r.why [
    | inl m ↦ refuses_memory m
    | inr f ↦ refuses_the Range (refuses_first (label_refuses (text_of_label reader.source.now first ∷ []) n (alone_new unled) h.holds (lacks_append old.labels [] (text_of_label reader.source.now first) [] (subst (λ (x : List ℕ). IsFullFor old.labels x) spelled f.1)) f.0))
  ]

  module _ {star : Token} {middle : ℕ} (m : IsNext (is Star) reader next star middle) where
    -- the label that begins a range enters none
    begun_new : new_labels reader.source.now w (Label, first) (kind_of (seen_from reader next)) ≡ []
    begun_new = label_new reader.source.now w first (kind_of (seen_from reader next)) clean ∙ ap (λ b. cond b [] (text_of_label reader.source.now first ∷ [])) (ap (λ (ts : List KindedToken). is Star (kind_of ts)) (exact {kind = Star} m))

    begun_stays : Stays reader old w (past reader w Label first next)
    begun_stays = label_stays w first next [] begun_new h refl refl

    star_stays : Stays reader old w (past reader (past reader w Label first next) Star star middle)
    star_stays = stays_then begun_stays (plain_stays reader (past reader w Label first next) Star star middle refl begun_stays.has)

    begun_gives : {limit : ℕ} → Gives limit reader.source.now (token Label) w (seen_from reader at) (leaf (Label, first)) (past reader w Label first next) (seen_from reader next)
    begun_gives = label_gives [] n begun_new h.holds (λ l. bound_for_none _ [] refl l)

    pub range_unfinished : {limit : ℕ} {e : SourceFaultOrMemory} → IsLacking (is Label) reader middle e → Refuses limit reader.source.now (the Range) w (seen_from reader at) e
    range_unfinished l = refuses_the Range (refuses_second begun_gives (refuses_some (leads_next (token Label) m) (refuses_second (gives_exact {kind = Star} m refl) (refuses_lacking l))))

    module _ {last : Token} {following : ℕ} (k : IsNext (is Label) reader middle last following) where
      pub range_got : {limit : ℕ} (was now : Position) (new : Tables) → IsEnteredRange reader.source.now old new was now first last → new.names ≡ old.names → IsGot limit (λ sense tree x. IsAdded reader.source.now sense tree was x) (Stays reader new w) (the Range) reader at new w now following
      range_got was now new e names = got_by (gives_the Range (gives_both begun_gives (gives_some (leads_next (token Label) m) (gives_both (gives_exact {kind = Star} m refl) (label_gives texts k refl star_stays.has.holds e.within_bound)))))
          (stays_then star_stays (label_stays (past reader (past reader w Label first next) Star star middle) last following texts refl star_stays.has names e.table))
          (λ sense s. (e.labels ∙ ap (λ u. was.labels.items ++ u) (places sense s), e.bad_range)) (let a = n.further in let b = m.further in let c = k.further in omega arith)
        where
          from : List ℕ
          from = text_of_label reader.source.now first

          to : List ℕ
          to = text_of_label reader.source.now last

          texts : List (List ℕ)
          texts = range_texts reader.source.now from to

          by_range : (labels : List (List ℕ)) (b : Bool) → map (λ text. or_0 (place_of labels text)) (cond b (members from to) []) ≡ cond b (map (λ text. or_0 (place_of labels text)) (members from to)) []
          by_range labels true = refl
          by_range labels false = refl

          places : (sense : Sense) → IsSense new sense → map (λ text. or_0 (place_of new.labels text)) (range_texts reader.source.now from to) ≡ range_labels reader.source.now sense.labels from to
          places sense s = same_places new.labels sense.labels (λ text n p. s.labels text n p) (range_texts reader.source.now from to) e.are_there ∙ by_range sense.labels (is_range from to)

      pub range_refused : {limit : ℕ} {e : SourceFaultOrMemory} → IsNotEnteredRange reader.source.now old first last e → Refuses limit reader.source.now (the Range) w (seen_from reader at) e
      range_refused r = elim r.why [
        | inl f ↦ refuses_memory f
        | inr f ↦ refuses_the Range (refuses_second begun_gives (refuses_some (leads_next (token Label) m) (refuses_second (gives_exact {kind = Star} m refl) (label_refuses (range_texts reader.source.now (text_of_label reader.source.now first) (text_of_label reader.source.now last)) k refl star_stays.has.holds f.1 f.0))))
      ]

-- ---- members, in order

parted_at : {T : Type 0} (xs : List T) (i : ℕ) (d : T) → i < length xs → (rest : List T) × (xs ≡ take i xs ++ get_or xs i d ∷ rest)
parted_at [] i d h = absurd (omega (arith, h))
parted_at (x ∷ xs) zero d h = (xs, refl)
parted_at (x ∷ xs) (suc i) d h = let r = parted_at xs i d (omega (arith, h)) in (r.0, ap (λ u. x ∷ u) r.1)

pub entering_next : (old now all : List (List ℕ)) (i : ℕ) (was numbers : List ℕ) → Entering old now (take i all) was numbers → i < length all → (text : List ℕ) → text ≡ get_or all i [] → (new : List (List ℕ)) (n : ℕ) → IsEntered now new text n → (more : List ℕ) → more ≡ numbers ++ n ∷ [] → Entering old new (take (i + 1) all) was more
entering_next old now all i was numbers e within text is new n f more is_more =
    let next : take (i + 1) all ≡ take i all ++ text ∷ [] = (ap (λ k. take k all) (let k : i + 1 ≡ suc i = omega arith in k) ∙ take-suc all i [] within ∙ ap (λ t. take i all ++ t ∷ []) (sym is)) in
    subst (λ (z : List (List ℕ)). Entering old new z was more) (sym next) (entering_on old now (take i all) was numbers e new text n f more is_more)

-- the texts of a range, where it is one
pub texts_are : (source from to a b : List ℕ) (all : List (List ℕ)) → from ≡ a → to ≡ b → is_range from to ≡ true → all ≡ members from to → range_texts source a b ≡ all
texts_are source from to a b all e f r m = ap₂ (λ x y. range_texts source x y) (sym e) (sym f) ∙ ap (λ c. cond c (members from to) []) r ∙ sym m

-- all members were entered
pub members_entered : (source : List ℕ) (old new : Tables) (was now : Position) (first last : Token) (all : List (List ℕ)) (i : ℕ) → Entering old.labels new.labels (take i all) was.labels.items now.labels.items → length all ≤ i → range_texts source (text_of_label source first) (text_of_label source last) ≡ all →
    now.bad_range ≡ was.bad_range → is_range (text_of_label source first) (text_of_label source last) ≡ true → IsEnteredRange source old new was now first last
members_entered source old new was now first last all i e done texts bad range =
    let whole : Entering old.labels new.labels (range_texts source (text_of_label source first) (text_of_label source last)) was.labels.items now.labels.items = subst (λ (z : List (List ℕ)). Entering old.labels new.labels z was.labels.items now.labels.items) (take_all i all done ∙ sym texts) e in
    record {
      table = whole.table;
      within_bound = whole.within_bound;
      labels = whole.numbers_are;
      are_there = subst (λ (z : List (List ℕ)). AreThere z (range_texts source (text_of_label source first) (text_of_label source last))) (sym whole.table) (entered_there old.labels (range_texts source (text_of_label source first) (text_of_label source last)));
      bad_range = bad ∙ sym (or-false was.bad_range) ∙ ap (λ b. was.bad_range || not b) (sym range);
    }

-- it is no range
pub no_members : (source : List ℕ) (tables : Tables) (was now : Position) (first last : Token) → is_range (text_of_label source first) (text_of_label source last) ≡ false → now.labels.items ≡ was.labels.items → now.bad_range ≡ true → IsEnteredRange source tables tables was now first last
no_members source tables was now first last lacking items bad =
    let texts : range_texts source (text_of_label source first) (text_of_label source last) ≡ [] = ap (λ c. cond c (members (text_of_label source first) (text_of_label source last)) []) lacking in
    record {
      table = ap (all_entered tables.labels) (sym texts);
      within_bound = bound_for_none tables.labels (range_texts source (text_of_label source first) (text_of_label source last)) texts;
      labels = items ∙ sym (append-nil was.labels.items) ∙ ap (λ us. was.labels.items ++ map (λ text. or_0 (place_of tables.labels text)) us) (sym texts);
      are_there = subst (λ (us : List (List ℕ)). AreThere tables.labels us) (sym texts) tt;
      bad_range = bad ∙ sym (ap (λ b. was.bad_range || not b) lacking ∙ or-true was.bad_range);
    }

-- the table is full for a member
pub member_refused : (source : List ℕ) (old : Tables) (first last : Token) (now all : List (List ℕ)) (i : ℕ) (was numbers : List ℕ) → Entering old.labels now (take i all) was numbers → i < length all → range_texts source (text_of_label source first) (text_of_label source last) ≡ all → (text : List ℕ) → text ≡ get_or all i [] →
    (e : SourceFaultOrMemory) → IsNotEntered now text last.at e → IsNotEnteredRange source old first last e
member_refused source old first last now all i was numbers g within texts text is e r = record { why = elim r.why [ inl m ↦ inl m | inr f ↦ inr (f.0, lacks f.1) ] }
  where
    lacks : IsFullFor now text → ExceedsTable old.labels (range_texts source (text_of_label source first) (text_of_label source last))
    lacks f =
        let p = parted_at all i [] within in
        subst (λ (z : List (List ℕ)). ExceedsTable old.labels z) (sym (texts ∙ p.1 ∙ ap (λ t. take i all ++ t ∷ p.0) (sym is))) (entering_full old.labels now (take i all) was numbers g text p.0 f)

-- the error of a range says that it is none
pub range_error : (range : Bool) (e : SetFaultOrMemory) (fault : SetFault) → IsRangeError range e → e ≡ set_fault.Fault fault → range ≡ false
range_error range e fault r is_fault = (subst (λ (x : SetFaultOrMemory). IsRangeError range x) is_fault r).0
