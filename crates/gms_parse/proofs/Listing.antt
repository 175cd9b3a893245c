-- Lists with separators between their parts, read in a loop.
use Rattle.std.proofs.Common.{◌≡◌, ℕ, ◌≤◌, Bool, true, false, not, List, [], ◌∷◌, ◌++◌, map, refl, sym, ap, ap₂, ◌∙◌, subst, arith, append_assoc}
use Rattle.std.specs.Bool.{⊤}
use Rattle.std.proofs.lemmas.List.{append-nil}
use Rattle.gms_grammar.specs.declared.terminal.Terminal.{Terminal}
use Rattle.std.proofs.lemmas.Bool.{not-true}
use Rattle.gms_grammar.specs.declared.terminal.Terminal.TheVariants.{Dot, Using, Star}
use Rattle.gms_grammar.specs.Terminals.{is, is_terminal_among}
use Rattle.gms_grammar.specs.Grammar.{one, ◌·◌, many, leaf, pair, none, more}
use Rattle.gms_grammar.specs.Reading.{leads}
use Rattle.gms_grammar.specs.GamsGrammar.{productions}
use Rattle.gms_grammar.specs.GamsLookAhead.{look_ahead}
use Rattle.gms_lex.specs.declared.token.Token.{Token}
use Rattle.gms_expressions.proofs.TokenKinds.{implies, also}
use Rattle.gms_expressions.specs.ExpressionTrees.{second_in}
use Rattle.gms_parse.specs.declared.fault.SourceFaultOrMemory.{SourceFaultOrMemory}
use Rattle.gms_parse.specs.declared.reader.Reader.{Reader}
use Rattle.gms_parse.specs.declared.reader.Tables.{Tables}
use Rattle.gms_parse.specs.ReadStates.{ReaderState, last_kind}
use Rattle.gms_parse.specs.DataLists.{listed_in, each_in}
use Rattle.gms_parse.specs.InnerReadings.{Derivation, GamsPart, Refuses, Sense, IsSense, Starts, Stays, IsNext, IsGot, seen_from}
use Rattle.gms_parse.proofs.TokenKinds.{is_plain, unled_next}
use Rattle.gms_parse.proofs.Steps.{got_by, Within, within_second, within_then, within_again, gives_both, gives_no_more, refuses_again, refuses_second}
use Rattle.gms_parse.proofs.Nexts.{past, gives_plain, leads_next, earlier, plain_stays, stays_then, optionless_on}

-- the parts of a list after its first one, each with a separator before it
abbrev pub AreEach : {T : Type 0} → (Sense → Derivation → T → Type 0) → Sense → Derivation → List T → Type 0
AreEach Means sense (more other others) (x ∷ xs) = Means sense (second_in other) x × AreEach Means sense others xs
AreEach Means sense none [] = ⊤
AreEach Means sense _ _ = ⊥

-- the parts of a list
abbrev pub AreAll : {T : Type 0} → (Sense → Derivation → T → Type 0) → Sense → Derivation → List T → Type 0
AreAll Means sense (pair first others) (x ∷ xs) = Means sense first x × AreEach Means sense others xs
AreAll Means sense _ _ = ⊥

-- where each part is shown as its derivation means, so is the list
pub each_meant : {T A : Type 0} (Means : Sense → Derivation → T → Type 0) (show : T → A) (meaning : Derivation → A) (sense : Sense) → ((tree : Derivation) (x : T) → Means sense tree x → show x ≡ meaning tree) → (tree : Derivation) (xs : List T) → AreEach Means sense tree xs →
    map show xs ≡ each_in (λ other. meaning (second_in other)) tree
each_meant Means show meaning sense says (more other others) (x ∷ xs) h = ap₂ (λ a b. a ∷ b) (says (second_in other) x h.0) (each_meant Means show meaning sense says others xs h.1)
each_meant Means show meaning sense says none [] h = refl
each_meant Means show meaning sense says _ _ h = absurd h

pub all_meant : {T A : Type 0} (Means : Sense → Derivation → T → Type 0) (show : T → A) (meaning : Derivation → A) (sense : Sense) → ((tree : Derivation) (x : T) → Means sense tree x → show x ≡ meaning tree) → (tree : Derivation) (xs : List T) → AreAll Means sense tree xs →
    map show xs ≡ listed_in meaning tree
all_meant Means show meaning sense says (pair first others) (x ∷ xs) h = ap₂ (λ a b. a ∷ b) (says first x h.0) (each_meant Means show meaning sense says others xs h.1)
all_meant Means show meaning sense says _ _ h = absurd h

-- no dot and no `using`
abbrev pub is_undotted : Terminal → Bool
is_undotted kind = not (is_terminal_among (Dot ∷ Using ∷ []) kind)

-- no `*`
abbrev pub is_starless : Terminal → Bool
is_starless kind = not (is Star kind)

-- a list of such parts, with such separators between them
abbrev pub list_of : (Terminal → Bool) → GamsPart → GamsPart
list_of separator p = p · many (one separator · p)

-- the parts of a list read so far
pub record Listing {T : Type 0} (limit : ℕ) (Means : Sense → Derivation → T → Type 0) (separator : Terminal → Bool) (p : GamsPart) (reader : Reader) (start : ℕ) (w : ReaderState) (new : Tables) (items : List T) (at : ℕ) : Type 0 where
  pub context : Derivation → Derivation
  pub following : ReaderState
  pub within : Within limit reader.source.now (list_of separator p) w (seen_from reader start) (many (one separator · p)) following (seen_from reader at) context
  pub stays : Stays reader new w following
  pub means : (sense : Sense) → IsSense new sense → (b : Derivation) (xs : List T) → AreEach Means sense b xs → AreAll Means sense (context b) (items ++ xs)
  pub further : start ≤ at

module _ {T : Type 0} {limit : ℕ} {Means : Sense → Derivation → T → Type 0} {separator : Terminal → Bool} {p : GamsPart} {reader : Reader} {start : ℕ} {w : ReaderState} where
  -- the first one
  pub listing_start : {new : Tables} {x : T} {at : ℕ} → IsGot limit Means (Stays reader new w) p reader start new w x at → (items : List T) → items ≡ x ∷ [] → Listing limit Means separator p reader start w new items at
  listing_start got items is = record {
    context = λ b. pair got.tree b;
    following = got.following;
    within = within_second got.gives;
    stays = got.leaves;
    means = λ sense s b xs h. subst (λ (ys : List T). AreAll Means sense (pair got.tree b) (ys ++ xs)) (sym is) (got.means sense s, h);
    further = got.further;
  }

  module _ {new : Tables} {items : List T} {at : ℕ} (l : Listing limit Means separator p reader start w new items at) where
    -- the state after a separator
    abbrev pub separated_read_state : {t : Token} {following : ℕ} → IsNext separator reader at t following → ReaderState
    separated_read_state {t} {following} n = past reader l.following n.kind t following

    pub separated_stays : {t : Token} {following : ℕ} (n : IsNext separator reader at t following) → implies separator is_plain ≡ true → Stays reader new w (separated_read_state n)
    separated_stays {t = t} {following = following} n plain = stays_then l.stays (plain_stays reader l.following n.kind t following (also separator is_plain plain n.kind n.passes) l.stays.has)

    -- a name may follow it
    pub separated_starts : {t : Token} {following : ℕ} (n : IsNext separator reader at t following) → implies separator is_plain ≡ true → implies separator is_undotted ≡ true → {old : Tables} → Starts reader old w → Starts reader new (separated_read_state n)
    separated_starts n plain undotted s =
        let k = separated_stays n plain in
        record { has = k.has; undotted = not-true _ (also separator is_undotted undotted n.kind n.passes); optionless = optionless_on k.keyword s.optionless }

    -- a range may begin after it
    pub separated_starless : {t : Token} {following : ℕ} (n : IsNext separator reader at t following) → implies separator is_starless ≡ true → is Star (last_kind (separated_read_state n).before) ≡ false
    separated_starless n starless = not-true _ (also separator is_starless starless n.kind n.passes)

    -- one more
    pub listing_on : {t : Token} {following : ℕ} (n : IsNext separator reader at t following) → implies separator is_plain ≡ true → {newer : Tables} {x : T} {after : ℕ} → IsGot limit Means (Stays reader newer (separated_read_state n)) p reader following newer (separated_read_state n) x after →
        (now : List T) → now ≡ items ++ x ∷ [] → Listing limit Means separator p reader start w newer now after
    listing_on {t = t} n plain {newer = newer} {x = x} got now is =
        let g = gives_both (gives_plain n plain) got.gives in
        record {
          context = λ b. l.context (more (pair (leaf (n.kind, t)) got.tree) b);
          following = got.following;
          within = within_then l.within (within_again (leads_next p n) g);
          stays = stays_then (separated_stays n plain) got.leaves;
          means = λ sense s b xs h. subst (λ (ys : List T). AreAll Means sense (l.context (more (pair (leaf (n.kind, t)) got.tree) b)) ys) (sym (ap (λ ys. ys ++ xs) is ∙ append_assoc items (x ∷ []) xs))
              (l.means sense (earlier g l.stays.has.holds got.leaves.has.holds s) (more (pair (leaf (n.kind, t)) got.tree) b) (x ∷ xs) (got.means sense s, h));
          further = (let a = l.further in let f = got.further in let g = n.further in omega arith);
        }

    -- the next one is refused
    pub listing_refuses : {t : Token} {following : ℕ} (n : IsNext separator reader at t following) → implies separator is_plain ≡ true → {e : SourceFaultOrMemory} → Refuses limit reader.source.now p (separated_read_state n) (seen_from reader following) e →
        Refuses limit reader.source.now (list_of separator p) w (seen_from reader start) e
    listing_refuses n plain r = l.within.refuses _ (refuses_again (leads_next p n) (refuses_second (gives_plain n plain) r))

    -- no more is to be read
    pub listing_got : leads productions look_ahead (one separator) (seen_from reader at) ≡ false → IsGot limit (AreAll Means) (Stays reader new w) (list_of separator p) reader start new w items at
    listing_got unled = got_by (l.within.gives none _ _ (gives_no_more (unled_next separator p (seen_from reader at) unled))) l.stays
        (λ sense s. subst (λ (ys : List T). AreAll Means sense (l.context none) ys) (append-nil items) (l.means sense s none [] tt)) l.further
