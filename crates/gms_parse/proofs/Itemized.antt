-- The items of a declaration, which the grammar nests, read in a loop: a reading of the rest is one
-- of the whole.
use Rattle.std.proofs.Common.{◌≡◌, ℕ, ◌-◌, ◌<◌, ◌≤◌, false, List, [], ◌∷◌, ◌++◌, map, length, refl, sym, ap, ◌∙◌, subst, arith, append_assoc, inl, inr}
use Rattle.std.proofs.lemmas.List.{append-nil, map-append}
use Rattle.gms_grammar.specs.declared.terminal.Terminal.TheVariants.{Comma, Break}
use Rattle.gms_grammar.specs.Grammar.{the, ◌·◌, ◌∣◌, opt, leaf, pair, none, some, node}
use Rattle.gms_grammar.specs.Alternatives.{items_comma, items_line}
use Rattle.gms_grammar.specs.Reading.{leads}
use Rattle.gms_grammar.specs.Terminals.{is}
use Rattle.gms_grammar.specs.GamsGrammar.{Nonterminal, productions, token, name}
use Rattle.gms_grammar.specs.GamsLookAhead.{look_ahead}
use Rattle.gms_parse.specs.declared.fault.SourceFaultOrMemory.{SourceFaultOrMemory}
use Rattle.gms_parse.specs.declared.reader.Reader.{Reader}
use Rattle.gms_parse.specs.declared.reader.Tables.{Tables}
use Rattle.gms_parse.specs.Declarations.{items_in, further_items}
use Rattle.gms_parse.specs.ReadStates.{KindedToken, ReaderState}
use Rattle.gms_parse.specs.InnerReadings.{Derivation, GamsPart, Refuses, Sense, IsSense, Has, Starts, Stays, Optionless, IsPassed, IsFurther, IsNotFurther, IsAfterLast, IsGot, seen_from}
use Rattle.gms_parse.proofs.TokenKinds.{unled_next, led_either, led_other, unled_either}
use Rattle.gms_parse.proofs.Steps.{got_by, Within, within_second, within_some, within_left, within_right, within_then, gives_both, gives_right, gives_none, gives_some, refuses_first}
use Rattle.gms_parse.proofs.Nexts.{past, exact, led_next, leads_next, falls, gives_exact, plain_stays, plain_starts, stays_then, earlier}

-- after an item: perhaps a comma and further items, or a line end and perhaps further items
abbrev pub further_of : Nonterminal → GamsPart
further_of again = opt (token Comma · the again ∣ token Break · opt (the again))

-- what stands for items, and what an item begins with
pub record ItemPart (item again : Nonterminal) : Type 0 where
  pub enters : (limit : ℕ) (source : List ℕ) (v : ReaderState) (ts : List KindedToken) → Within limit source (the again) v ts (the item · further_of again) v ts node
  pub led : (ts : List KindedToken) → leads productions look_ahead (the again) ts ≡ leads productions look_ahead name ts

-- items, each shown as it is meant
abbrev pub AreItems : {T A : Type 0} → (T → A) → (Sense → Derivation → A) → Sense → Derivation → List T → Type 0
AreItems show meaning sense tree xs = map show xs ≡ items_in (meaning sense) tree

-- the items read so far
pub record Itemizing {T A : Type 0} (limit : ℕ) (show : T → A) (meaning : Sense → Derivation → A) (again : Nonterminal) (reader : Reader) (start : ℕ) (w : ReaderState) (new : Tables) (xs : List T) (at : ℕ) : Type 0 where
  pub context : Derivation → Derivation
  pub following : ReaderState
  pub within : Within limit reader.source.now (the again) w (seen_from reader start) (further_of again) following (seen_from reader at) context
  pub stays : Stays reader new w following
  pub means : (sense : Sense) → IsSense new sense → (b : Derivation) → items_in (meaning sense) (context b) ≡ map show xs ++ further_items (meaning sense) b
  pub further : start ≤ at

-- the state after the comma or the line end before a further item
abbrev pub further_read_state : (reader : Reader) (at following : ℕ) → ReaderState → IsFurther reader at following → ReaderState
further_read_state reader at following v (inl p) = past reader v Comma p.token following
further_read_state reader at following v (inr p) = past reader v Break p.0.token following

pub further_stays : (reader : Reader) (at following : ℕ) {tables : Tables} {v : ReaderState} (f : IsFurther reader at following) → Has reader tables v → Stays reader tables v (further_read_state reader at following v f)
further_stays reader at following {v = v} (inl p) h = plain_stays reader v Comma p.token following refl h
further_stays reader at following {v = v} (inr p) h = plain_stays reader v Break p.0.token following refl h

pub further_starts : (reader : Reader) (at following : ℕ) {tables : Tables} {v : ReaderState} (f : IsFurther reader at following) → Has reader tables v → Optionless v → Starts reader tables (further_read_state reader at following v f)
further_starts reader at following {v = v} (inl p) h o = plain_starts reader v Comma p.token following refl refl h o
further_starts reader at following {v = v} (inr p) h o = plain_starts reader v Break p.0.token following refl refl h o

pub further_falls : (reader : Reader) (at following : ℕ) → IsFurther reader at following → (after : ℕ) → following ≤ after → length reader.tokens.now - after < length reader.tokens.now - at
further_falls reader at following (inl p) after h = falls p.next after h
further_falls reader at following (inr p) after h = falls p.0.next after h

further_ahead : (reader : Reader) (at following : ℕ) → IsFurther reader at following → at ≤ following
further_ahead reader at following (inl p) = let f = p.next.further in omega arith
further_ahead reader at following (inr p) = let f = p.0.next.further in omega arith

-- a further item follows the one before it in the tree
abbrev further_tree : (reader : Reader) (at following : ℕ) → IsFurther reader at following → Derivation → Derivation
further_tree reader at following (inl p) tree = some (items_comma (pair (leaf (Comma, p.token)) tree))
further_tree reader at following (inr p) tree = some (items_line (pair (leaf (Break, p.0.token)) (some tree)))

module _ {item again : Nonterminal} (part : ItemPart item again) {limit : ℕ} (reader : Reader) (at following : ℕ) where
  further_within : {v : ReaderState} (f : IsFurther reader at following) → Within limit reader.source.now (further_of again) v (seen_from reader at) (the again) (further_read_state reader at following v f) (seen_from reader following) (further_tree reader at following f)
  further_within (inl p) =
      let led = leads_next (the again) p.next in
      within_then (within_some (led_either (token Comma · the again) (token Break · opt (the again)) (seen_from reader at) led)) (within_then (within_left led) (within_second (gives_exact {kind = Comma} p.next refl)))
  further_within (inr p) =
      let led = leads_next (opt (the again)) p.0.next in
      let unled : leads productions look_ahead (token Comma · the again) (seen_from reader at) ≡ false = ap (leads productions look_ahead (token Comma · the again)) (exact {kind = Break} p.0.next) in
      within_then (within_some (led_other (token Comma · the again) (token Break · opt (the again)) (seen_from reader at) led))
      (within_then (within_right unled led) (within_then (within_second (gives_exact {kind = Break} p.0.next refl)) (within_some (part.led (seen_from reader following) ∙ p.1))))

further_meant : {A : Type 0} (meaning : Derivation → A) (reader : Reader) (at following : ℕ) (f : IsFurther reader at following) (tree : Derivation) → further_items meaning (further_tree reader at following f tree) ≡ items_in meaning tree
further_meant meaning reader at following (inl p) tree = refl
further_meant meaning reader at following (inr p) tree = refl

module _ {T A : Type 0} {limit : ℕ} {show : T → A} {meaning : Sense → Derivation → A} {Means : Sense → Derivation → T → Type 0} (says : (sense : Sense) (tree : Derivation) (x : T) → Means sense tree x → show x ≡ meaning sense tree) {item again : Nonterminal} (part : ItemPart item again) {reader : Reader} {start : ℕ} {w : ReaderState} where
  -- the first item
  pub items_start : {new : Tables} {x : T} {at : ℕ} → IsGot limit Means (Stays reader new w) (the item) reader start new w x at → (xs : List T) → xs ≡ x ∷ [] → Itemizing limit show meaning again reader start w new xs at
  items_start {x = x} got xs is = record {
    context = λ b. node (pair got.tree b);
    following = got.following;
    within = within_then (part.enters limit reader.source.now w (seen_from reader start)) (within_second got.gives);
    stays = got.leaves;
    means = λ sense s b. ap (λ y. y ∷ further_items (meaning sense) b) (sym (says sense got.tree x (got.means sense s))) ∙ ap (λ ys. map show ys ++ further_items (meaning sense) b) (sym is);
    further = got.further;
  }

  module _ {new : Tables} {xs : List T} {at : ℕ} (l : Itemizing limit show meaning again reader start w new xs at) where
    -- one more
    pub items_on : {following : ℕ} (f : IsFurther reader at following) → {newer : Tables} {x : T} {after : ℕ} → IsGot limit Means (Stays reader newer (further_read_state reader at following l.following f)) (the item) reader following newer (further_read_state reader at following l.following f) x after →
        (now : List T) → now ≡ xs ++ x ∷ [] → Itemizing limit show meaning again reader start w newer now after
    items_on {following} f {newer} {x} {after} got now is =
        let between = further_stays reader at following f l.stays.has in
        record {
          context = λ b. l.context (further_tree reader at following f (node (pair got.tree b)));
          following = got.following;
          within = within_then l.within (within_then (further_within part reader at following f) (within_then (part.enters limit reader.source.now _ _) (within_second got.gives)));
          stays = stays_then l.stays (stays_then between got.leaves);
          means = λ sense s b.
              l.means sense (earlier got.gives between.has.holds got.leaves.has.holds s) (further_tree reader at following f (node (pair got.tree b))) ∙ ap (λ ys. map show xs ++ ys) (further_meant (meaning sense) reader at following f (node (pair got.tree b))) ∙ ap (λ y. map show xs ++ (y ∷ further_items (meaning sense) b)) (sym (says sense got.tree x (got.means sense s))) ∙ sym (append_assoc (map show xs) (show x ∷ []) (further_items (meaning sense) b)) ∙ ap (λ ys. ys ++ further_items (meaning sense) b) (sym (map-append show xs (x ∷ []))) ∙ ap (λ ys. map show ys ++ further_items (meaning sense) b) (sym is);
          further = (let a = l.further in let b = got.further in let c = further_ahead reader at following f in omega arith);
        }

    -- the next one is refused
    pub items_refused : {following : ℕ} (f : IsFurther reader at following) → {e : SourceFaultOrMemory} → Refuses limit reader.source.now (the item) (further_read_state reader at following l.following f) (seen_from reader following) e → Refuses limit reader.source.now (the again) w (seen_from reader start) e
    items_refused {following} f r = l.within.refuses _ ((further_within part reader at following f).refuses _ ((part.enters limit reader.source.now _ _).refuses _ (refuses_first r)))

    -- no more is to be read
    items_end : leads productions look_ahead (token Comma) (seen_from reader at) ≡ false → leads productions look_ahead (token Break) (seen_from reader at) ≡ false → IsGot limit (AreItems show meaning) (Stays reader new w) (the again) reader start new w xs at
    items_end no_comma no_break = got_by
        (l.within.gives none _ _ (gives_none (unled_either (token Comma · the again) (token Break · opt (the again)) (seen_from reader at) (unled_next (is Comma) (the again) (seen_from reader at) no_comma) (unled_next (is Break) (opt (the again)) (seen_from reader at) no_break))))
        l.stays (λ sense s. sym (l.means sense s none ∙ append-nil (map show xs))) l.further

    pub items_got : {next : ℕ} → IsNotFurther reader at → IsAfterLast reader at next → IsGot limit (AreItems show meaning) (Stays reader new w) (the again) reader start new w xs next
    items_got {next} n (inl (no_break, same)) = subst (λ (m : ℕ). IsGot limit (AreItems show meaning) (Stays reader new w) (the again) reader start new w xs m) (sym same) (items_end n.0 no_break)
    items_got {next} n (inr (p, unnamed)) =
        let led = leads_next (opt (the again)) p.next in
        let unled = unled_next (is Comma) (the again) (seen_from reader at) n.0 in
        got_by
        (l.within.gives _ _ _ (gives_some (led_other (token Comma · the again) (token Break · opt (the again)) (seen_from reader at) led) (gives_right unled led (gives_both (gives_exact p.next refl) (gives_none (part.led (seen_from reader next) ∙ unnamed))))))
        (stays_then l.stays (plain_stays reader l.following Break p.token next refl l.stays.has)) (λ sense s. sym (l.means sense s (some (items_line (pair (leaf (Break, p.token)) none))) ∙ append-nil (map show xs)))
        (let a = l.further in let f = p.next.further in omega arith)

-- the place after the last item
pub after_break : {reader : Reader} {at following : ℕ} → IsNotFurther reader at → IsPassed Break reader at following → IsAfterLast reader at following
after_break {reader} {at} {following} u p = elim u.1 [ inl h ↦ (let k = led_next p.next in cc) | inr q ↦ inr (p, sym (ap (leads productions look_ahead name) (same_rest q.1)) ∙ q.2) ]
  where
    same_rest : {other : ℕ} → IsPassed Break reader at other → seen_from reader other ≡ seen_from reader following
    same_rest {other} q =
        let e : (Break, q.token) ∷ seen_from reader other ≡ (Break, p.token) ∷ seen_from reader following = sym (exact {kind = Break} q.next) ∙ exact {kind = Break} p.next in
        cc
