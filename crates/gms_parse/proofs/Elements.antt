-- Elements of lists: positions with ranges, joined by dots.
use Rattle.std.proofs.Math.Bool.{or-false, or_assoc}
use Rattle.std.proofs.Common.{◌≡◌, ℕ, ◌≤◌, Bool, true, false, ◌||◌, List, [], ◌∷◌, ◌++◌, map, refl, sym, ap, ◌∙◌, arith, append_assoc}
use Rattle.std.proofs.lemmas.List.{append-nil}
use Rattle.gms_lex.specs.declared.token.Token.{Token}
use Rattle.gms_grammar.specs.declared.terminal.Terminal.TheVariants.{Label, Comma, LeftParen, RightParen}
use Rattle.gms_grammar.specs.Grammar.{the, ◌·◌, ◌∣◌, many, leaf, pair, none, more}
use Rattle.gms_grammar.specs.LookAhead.{may_begin}
use Rattle.gms_grammar.specs.Reading.{read, stuck, leads, Reads, taken, refused, entered, entered_stuck, both, first_stuck, second_stuck, in_left_stuck, in_neither, takes_left}
use Rattle.gms_grammar.specs.Terminals.{is}
use Rattle.gms_grammar.specs.GamsGrammar.{Range, RangeList, ElementPart, productions, token, bracketed}
use Rattle.gms_grammar.specs.GamsLookAhead.{look_ahead}
use Rattle.gms_expressions.specs.ExpressionTrees.{second_in}
use Rattle.gms_expressions.proofs.TokenKinds.{same_test}
use Rattle.gms_parse.specs.declared.data.Part.{Part as Position}
use Rattle.gms_parse.specs.declared.fault.SourceFaultOrMemory.{SourceFaultOrMemory}
use Rattle.gms_parse.specs.declared.reader.Reader.{Reader}
use Rattle.gms_parse.specs.declared.reader.Tables.{Tables}
use Rattle.gms_parse.specs.DataLists.{listed_in, each_in, concatenated, any_true, labels_in_range, is_bad_range}
use Rattle.gms_parse.specs.ReadStates.{KindedToken, ReaderState, ends_statement}
use Rattle.gms_parse.specs.InnerReadings.{Derivation, GamsPart, Refuses, Sense, IsSense, IsGot, Has, Stays, Tableless, IsNext, IsLacking, IsOpened, IsUnopened, seen_from, kind_of}
use Rattle.gms_parse.specs.InnerMeanings.{IsAdded, IsPart}
use Rattle.gms_parse.proofs.TokenKinds.{unled_next, led_first, leads_alike, same_kind}
use Rattle.gms_parse.proofs.Steps.{got_by, Within, within_second, within_then, within_again, gives_both, gives_the, gives_left, gives_right, gives_no_more, refuses_the, refuses_second, refuses_right, refuses_again, by_cause, stuck_as, wrong_as}
use Rattle.gms_parse.proofs.Nexts.{past, exact, opened, leads_next, gives_exact, gives_bracketed, refuses_inside, refuses_unclosed, close_stays, closes_on, plain_stays, stays_then, earlier, got_inside, refuses_unopened}

-- the labels of ranges, and whether one of them is none
abbrev pub labels_of : List ℕ → Sense → List Derivation → List ℕ
labels_of source sense ranges = concatenated (map (labels_in_range source sense.labels) ranges)

abbrev pub bad_of : List ℕ → Sense → List Derivation → Bool
bad_of source sense ranges = any_true (map (is_bad_range source sense.labels) ranges)

abbrev pub first_ranges : Derivation → List Derivation
first_ranges tree = listed_in (λ range. range) tree

abbrev pub other_ranges : Derivation → List Derivation
other_ranges tree = each_in (λ other. second_in other) tree

-- the ranges added so far to a position
pub record Gathering (limit : ℕ) (reader : Reader) (start : ℕ) (w : ReaderState) (new : Tables) (part : Position) (at : ℕ) : Type 0 where
  pub context : Derivation → Derivation
  pub following : ReaderState
  pub within : Within limit reader.source.now (the Range · many (token Comma · the Range)) w (seen_from reader start) (many (token Comma · the Range)) following (seen_from reader at) context
  pub stays : Stays reader new w following
  pub labels : (sense : Sense) → IsSense new sense → (b : Derivation) → labels_of reader.source.now sense (first_ranges (context b)) ≡ part.labels.items ++ labels_of reader.source.now sense (other_ranges b)
  pub bad : (sense : Sense) → IsSense new sense → (b : Derivation) → bad_of reader.source.now sense (first_ranges (context b)) ≡ (part.bad_range || bad_of reader.source.now sense (other_ranges b))
  pub further : start ≤ at

module _ {limit : ℕ} {reader : Reader} {start : ℕ} {w : ReaderState} where
  pub gathering_start : (was : Position) {new : Tables} {part : Position} {at : ℕ} → was.labels.items ≡ [] → was.bad_range ≡ false → IsGot limit (λ sense tree x. IsAdded reader.source.now sense tree was x) (Stays reader new w) (the Range) reader start new w part at → Gathering limit reader start w new part at
  gathering_start was {part = part} none_yet sound_yet got = record {
    context = λ b. pair got.tree b;
    following = got.following;
    within = within_second got.gives;
    stays = got.leaves;
    labels = λ sense s b. ap (λ u. u ++ labels_of reader.source.now sense (other_ranges b)) (sym ((got.means sense s).0 ∙ ap (λ u. u ++ labels_in_range reader.source.now sense.labels got.tree) none_yet));
    bad = λ sense s b. ap (λ c. c || bad_of reader.source.now sense (other_ranges b)) (sym ((got.means sense s).1 ∙ ap (λ c. c || is_bad_range reader.source.now sense.labels got.tree) sound_yet));
    further = got.further;
  }

  module _ {new : Tables} {part : Position} {at : ℕ} (l : Gathering limit reader start w new part at) {t : Token} {following : ℕ} (n : IsNext (is Comma) reader at t following) where
    pub comma_stays : Stays reader new w (past reader l.following Comma t following)
    comma_stays = stays_then l.stays (plain_stays reader l.following Comma t following refl l.stays.has)

    pub gathering_on : {newer : Tables} {now : Position} {after : ℕ} → IsGot limit (λ sense tree x. IsAdded reader.source.now sense tree part x) (Stays reader newer (past reader l.following Comma t following)) (the Range) reader following newer (past reader l.following Comma t following) now after →
        Gathering limit reader start w newer now after
    gathering_on {newer} {now} got =
        let g = gives_both (gives_exact {kind = Comma} n refl) got.gives in
        record {
          context = λ b. l.context (more (pair (leaf (Comma, t)) got.tree) b);
          following = got.following;
          within = within_then l.within (within_again (leads_next (the Range) n) g);
          stays = stays_then comma_stays got.leaves;
          labels = λ sense s b.
              l.labels sense (earlier g l.stays.has.holds got.leaves.has.holds s) (more (pair (leaf (Comma, t)) got.tree) b)
              ∙ sym (append_assoc part.labels.items (labels_in_range reader.source.now sense.labels got.tree) (labels_of reader.source.now sense (other_ranges b)))
              ∙ ap (λ u. u ++ labels_of reader.source.now sense (other_ranges b)) (sym (got.means sense s).0);
          bad = λ sense s b.
              l.bad sense (earlier g l.stays.has.holds got.leaves.has.holds s) (more (pair (leaf (Comma, t)) got.tree) b)
              ∙ sym (or_assoc part.bad_range (is_bad_range reader.source.now sense.labels got.tree) (bad_of reader.source.now sense (other_ranges b)))
              ∙ ap (λ c. c || bad_of reader.source.now sense (other_ranges b)) (sym (got.means sense s).1);
          further = (let a = l.further in let f = got.further in let g = n.further in omega arith);
        }

    pub gathering_refuses : {e : SourceFaultOrMemory} → Refuses limit reader.source.now (the Range) (past reader l.following Comma t following) (seen_from reader following) e → Refuses limit reader.source.now (the RangeList) w (seen_from reader start) e
    gathering_refuses r = refuses_the RangeList (l.within.refuses _ (refuses_again (leads_next (the Range) n) (refuses_second (gives_exact {kind = Comma} n refl) r)))

-- ---- positions

-- a label leads into a range
leads_range : (ts : List KindedToken) → leads productions look_ahead (the Range) ts ≡ leads productions look_ahead (token Label) ts
leads_range ts = leads_alike (the Range) (token Label) ts refl refl (same_test (may_begin look_ahead (the Range)) (is Label) refl)

range_read : {ts rest : List KindedToken} {tree : Derivation} → Reads productions look_ahead (the Range) ts (read tree rest) → leads productions look_ahead (token Label) ts ≡ true
range_read (entered (both (taken h) s)) = h

-- a range alone
pub lone_got : {limit : ℕ} {reader : Reader} {at next : ℕ} {new : Tables} {w : ReaderState} (was : Position) (part : Position) → was.labels.items ≡ [] → was.bad_range ≡ false → IsGot limit (λ sense tree x. IsAdded reader.source.now sense tree was x) (Stays reader new w) (the Range) reader at new w part next →
    IsGot limit (IsPart reader.source.now) (Stays reader new w) (the ElementPart) reader at new w part next
lone_got {reader = reader} {at = at} was part none_yet sound_yet got = got_by (gives_the ElementPart (gives_left (leads_range (seen_from reader at) ∙ range_read got.gives.reads) got.gives)) got.leaves
    (λ sense s. (
      (got.means sense s).0 ∙ ap (λ u. u ++ labels_in_range reader.source.now sense.labels got.tree) none_yet ∙ sym (append-nil (labels_in_range reader.source.now sense.labels got.tree)),
      (got.means sense s).1 ∙ ap (λ c. c || is_bad_range reader.source.now sense.labels got.tree) sound_yet ∙ sym (or-false (is_bad_range reader.source.now sense.labels got.tree)),
    ))
    got.further

-- it is refused
pub lone_refused : {limit : ℕ} {source : List ℕ} {w : ReaderState} {ts : List KindedToken} {e : SourceFaultOrMemory} → leads productions look_ahead (token LeftParen) ts ≡ false → Refuses limit source (the Range) w ts e → Refuses limit source (the ElementPart) w ts e
lone_refused {ts = ts} unled r = refuses_the ElementPart (by_cause r (λ fault s. stuck_as s (stuck_range (unled_next (is LeftParen) (the RangeList · token RightParen) ts unled) s.reads)) (λ fault s. wrong_as s (takes_left s.takes)))
  where
    stuck_in : {p : GamsPart} {us prefix rest : List KindedToken} → leads productions look_ahead p us ≡ false → Reads productions look_ahead (productions Range) us (stuck prefix rest) → Reads productions look_ahead (the Range) us (stuck prefix rest) → Reads productions look_ahead (the Range ∣ p) us (stuck prefix rest)
    stuck_in {us = us} k (first_stuck (refused h)) r = in_neither (leads_range us ∙ h) k
    stuck_in {us = us} k (second_stuck (taken h) s) r = in_left_stuck (leads_range us ∙ h) r

    stuck_range : {p : GamsPart} {us prefix rest : List KindedToken} → leads productions look_ahead p us ≡ false → Reads productions look_ahead (the Range) us (stuck prefix rest) → Reads productions look_ahead (the Range ∣ p) us (stuck prefix rest)
    stuck_range k (entered_stuck r) = stuck_in k r (entered_stuck r)

-- ranges in parentheses
module _ {reader : Reader} {at start : ℕ} {inner : Reader} {old : Tables} {w : ReaderState} (o : IsOpened reader at inner start) (h : Has reader old w) where
  led_in : leads productions look_ahead (bracketed (the RangeList)) (seen_from reader at) ≡ true
  led_in = leads_next (the RangeList · token RightParen) o.next

  unled_range : leads productions look_ahead (the Range) (seen_from reader at) ≡ false
  unled_range = leads_range (seen_from reader at) ∙ ap (leads productions look_ahead (token Label)) (exact {kind = LeftParen} o.next)

  pub part_refused : {limit : ℕ} {e : SourceFaultOrMemory} → Refuses limit reader.source.now (the RangeList) (opened w o) (seen_from reader start) e → Refuses limit reader.source.now (the ElementPart) w (seen_from reader at) e
  part_refused r = refuses_the ElementPart (refuses_right unled_range led_in (refuses_inside o h r))

  module _ {limit : ℕ} {new : Tables} {part : Position} {next : ℕ} (l : Gathering limit inner start (opened w o) new part next) (unled : leads productions look_ahead (token Comma) (seen_from inner next) ≡ false) where
    listed_got : IsGot limit (λ sense tree (x : Position). (x.labels.items ≡ labels_of inner.source.now sense (first_ranges tree)) × (x.bad_range ≡ bad_of inner.source.now sense (first_ranges tree))) (Stays inner new (opened w o)) (the Range · many (token Comma · the Range)) inner start new (opened w o) part next
    listed_got = got_by (l.within.gives none _ _ (gives_no_more (unled_next (is Comma) (the Range) (seen_from inner next) unled))) l.stays
        (λ sense s. (sym (l.labels sense s none ∙ append-nil part.labels.items), sym (l.bad sense s none ∙ or-false part.bad_range))) l.further

    outer_got : IsGot limit (λ sense tree (x : Position). (x.labels.items ≡ labels_of reader.source.now sense (first_ranges tree)) × (x.bad_range ≡ bad_of reader.source.now sense (first_ranges tree))) (Stays inner new (opened w o)) (the Range · many (token Comma · the Range)) reader start new (opened w o) part next
    outer_got = got_inside (λ (r : Reader) sense tree (x : Position). (x.labels.items ≡ labels_of r.source.now sense (first_ranges tree)) × (x.bad_range ≡ bad_of r.source.now sense (first_ranges tree))) o listed_got

    pub part_unclosed : {e : SourceFaultOrMemory} → IsLacking (is RightParen) reader next e → Refuses limit reader.source.now (the ElementPart) w (seen_from reader at) e
    part_unclosed k = refuses_the ElementPart (refuses_right unled_range led_in (refuses_unclosed o h outer_got.leaves (gives_the RangeList outer_got.gives) k))

    pub part_got : Tableless w → {t : Token} {following : ℕ} → IsNext (is RightParen) reader next t following → IsGot limit (IsPart reader.source.now) (Stays reader new w) (the ElementPart) reader at new w part following
    part_got other {t} {following} n = got_by
        (gives_the ElementPart (gives_right unled_range led_in (gives_bracketed o h outer_got.leaves (gives_the RangeList outer_got.gives) n (closes_on w.keyword (ends_statement (kind_of (seen_from reader following))) other))))
        (close_stays o h outer_got.leaves t following) outer_got.means (let a = o.next.further in let b = outer_got.further in let c = n.further in omega arith)

pub unopened_part : {limit : ℕ} {reader : Reader} {at : ℕ} {old : Tables} {w : ReaderState} {e : SourceFaultOrMemory} → Has reader old w → IsUnopened reader at e → leads productions look_ahead (token LeftParen) (seen_from reader at) ≡ true → Refuses limit reader.source.now (the ElementPart) w (seen_from reader at) e
unopened_part {reader = reader} {at = at} h u led =
    refuses_the ElementPart (refuses_right (no_range_led (seen_from reader at) led) (led_first (is LeftParen) (the RangeList · token RightParen) (seen_from reader at) led) (refuses_unopened (the RangeList) u h.holds))
  where
    no_range_led : (ts : List KindedToken) → leads productions look_ahead (token LeftParen) ts ≡ true → leads productions look_ahead (the Range) ts ≡ false
    no_range_led [] k = cc
    no_range_led (t ∷ ts) k = leads_range (t ∷ ts) ∙ ap (is Label) (sym (same_kind LeftParen t.0 k))
