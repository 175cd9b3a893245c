-- With which tokens the trees of a part may start, and what the first token tells.
use Rattle.std.proofs.Common.{◌≡◌, Bool, true, false, List, [], ◌∷◌, ◌++◌, refl, sym, ap, ◌∙◌}
use Rattle.std.specs.Prelude.{⊤}
use Rattle.gms_grammar.specs.Grammar.{Part, one, the, ◌·◌, ◌∣◌, opt, many, DerivationTree, leaf, pair, left, right, none, some, more, node, yield, IsTree}
use Rattle.gms_grammar.specs.LookAhead.{LookAhead, may_be_empty, may_begin, may_come_next, Apart, DecidesEach}
use Rattle.gms_grammar.specs.Reading.{leads}
use Rattle.gms_grammar.proofs.Basics.{or_left, or_right, and_both, not_true, both_ways}

-- the first token passes the test
abbrev pub Follows : {C D : Type 0} → (C → Bool) → List (C × D) → Type 0
Follows after [] = ⊤
Follows after (token ∷ tokens) = after token.0 ≡ true

-- the second list is empty, or begins like the first
abbrev pub Goes : {T : Type 0} → List T → List T → Type 0
Goes rest [] = ⊤
Goes [] (x ∷ xs) = ⊥
Goes (y ∷ ys) (x ∷ xs) = x ≡ y

pub goes_after : {T : Type 0} (u rest further : List T) → Goes rest further → Goes (u ++ rest) (u ++ further)
goes_after [] rest further h = h
goes_after (x ∷ u) rest further h = refl

module _ {C N D : Type 0} (production : N → Part C N) (ahead : LookAhead C N) (ok : DecidesEach ahead production) where
  -- the tokens are none, and the part may be empty, or their first may begin it
  abbrev pub Starts : Part C N → List (C × D) → Type 0
  Starts p [] = may_be_empty ahead p ≡ true
  Starts p (token ∷ tokens) = may_begin ahead p token.0 ≡ true

  -- tokens start a part that may start with all with which another may
  starts_as : (p q : Part C N) (u : List (C × D)) → (may_be_empty ahead p ≡ true → may_be_empty ahead q ≡ true) → ((c : C) → may_begin ahead p c ≡ true → may_begin ahead q c ≡ true) → Starts p u → Starts q u
  starts_as p q [] f g h = f h
  starts_as p q (x ∷ u) f g h = g x.0 h

  starts_both : (p q : Part C N) (u v : List (C × D)) → Starts p u → Starts q v → Starts (p · q) (u ++ v)
  starts_both p q [] [] h k = and_both _ _ h k
  starts_both p q [] (x ∷ v) h k = or_right (may_begin ahead p x.0) _ (and_both _ _ h k)
  starts_both p q (x ∷ u) v h k = or_left _ _ h

  starts_many : (p : Part C N) (u v : List (C × D)) → Starts p u → Starts (many p) v → Starts (many p) (u ++ v)
  starts_many p [] v h k = k
  starts_many p (x ∷ u) v h k = h

  -- the tokens of a tree start as its part may
  pub starts : (p : Part C N) (tree : DerivationTree (C × D)) → IsTree production p tree → Starts p (yield tree)
  starts (one test) (leaf token) h = h
  starts (the n) (node tree) h = starts_as (production n) (the n) _ (λ k. sym (ok.empty_is n) ∙ k) (λ c k. sym (ok.first_is n c) ∙ k) (starts (production n) tree h)
  starts (p · q) (pair a b) h = starts_both p q _ _ (starts p a h.0) (starts q b h.1)
  starts (p ∣ q) (left tree) h = starts_as p (p ∣ q) _ (λ k. or_left _ _ k) (λ c k. or_left _ _ k) (starts p tree h)
  starts (p ∣ q) (right tree) h = starts_as q (p ∣ q) _ (λ k. or_right (may_be_empty ahead p) _ k) (λ c k. or_right (may_begin ahead p c) _ k) (starts q tree h)
  starts (opt p) none h = refl
  starts (opt p) (some tree) h = starts_as p (opt p) _ (λ k. refl) (λ c k. k) (starts p tree h)
  starts (many p) none h = refl
  starts (many p) (more a b) h = starts_many p _ _ (starts p a h.0) (starts (many p) b h.1)
  starts _ _ h = absurd h

  -- what follows a part that another follows
  pub follows_part : (q : Part C N) (after : C → Bool) (u following : List (C × D)) → Starts q u → Follows after following → Follows (may_come_next ahead q after) (u ++ following)
  follows_part q after [] [] h k = tt
  follows_part q after [] (x ∷ following) h k = or_right (may_begin ahead q x.0) _ (and_both _ _ h k)
  follows_part q after (x ∷ u) following h k = or_left _ _ h

  pub follows_more : (after also : C → Bool) (following : List (C × D)) → ((c : C) → after c ≡ true → also c ≡ true) → Follows after following → Follows also following
  follows_more after also [] h k = tt
  follows_more after also (x ∷ following) h k = h x.0 k

  -- the first token leads into a part that is not empty
  pub led : (p : Part C N) (u following : List (C × D)) → Starts p u → may_be_empty ahead p ≡ false → leads {D = D} production ahead p (u ++ following) ≡ true
  led p [] following h k = absurd (both_ways _ h k)
  led p (x ∷ u) following h k = h

  -- the first token of one part does not lead into another that starts otherwise
  pub not_led : (p q : Part C N) (u following : List (C × D)) → Starts q u → may_be_empty ahead q ≡ false → Apart ahead (may_begin ahead p) (may_begin ahead q) → leads {D = D} production ahead p (u ++ following) ≡ false
  not_led p q [] following h k apart = absurd (both_ways _ h k)
  not_led p q (x ∷ u) following h k apart = not_true _ (λ w. apart x.0 w h)

  -- what follows does not lead into a part that starts otherwise
  pub not_led_after : (p : Part C N) (after : C → Bool) (following : List (C × D)) → Follows after following → Apart ahead (may_begin ahead p) after → leads {D = D} production ahead p following ≡ false
  not_led_after p after [] h apart = refl
  not_led_after p after (x ∷ following) h apart = not_true _ (λ w. apart x.0 w h)

  -- a list begins with a token that may begin a part
  pub record Begun (p : Part C N) (prefix : List (C × D)) : Type 0 where
    pub first : C × D
    pub others : List (C × D)
    pub is : prefix ≡ first ∷ others
    pub may : may_begin ahead p first.0 ≡ true

  pub begun : (p : Part C N) (tokens prefix rest : List (C × D)) → tokens ≡ prefix ++ rest → leads production ahead p tokens ≡ true → (prefix ≡ [] → leads production ahead p tokens ≡ false) → Begun p prefix
  begun p tokens [] rest e h took = absurd (both_ways _ h (took refl))
  begun p tokens (x ∷ prefix) rest e h took = record { first = x; others = prefix; is = refl; may = sym (ap (leads production ahead p) e) ∙ h }

  -- two parts that start otherwise do not start alike
  pub clash : (p q : Part C N) (prefix u following further : List (C × D)) → Begun p prefix → Starts q u → may_be_empty ahead q ≡ false → Apart ahead (may_begin ahead p) (may_begin ahead q) → u ++ following ≡ prefix ++ further → ⊥
  clash p q prefix [] following further b h k apart e = both_ways _ h k
  clash p q prefix (x ∷ u) following further b h k apart e =
      let equal : x ∷ (u ++ following) ≡ b.first ∷ (b.others ++ further) = e ∙ ap (λ w. w ++ further) b.is in
      let same : x ≡ b.first = cc in
      apart x.0 (ap (λ (w : C × D). may_begin ahead p w.0) same ∙ b.may) h

  -- a nonempty part is not at a place where the first token does not lead into it
  pub unled : (p : Part C N) (tokens u following further : List (C × D)) → Starts p u → may_be_empty ahead p ≡ false → leads {D = D} production ahead p tokens ≡ false → Goes tokens further → u ++ following ≡ further → ⊥
  unled p tokens [] following further h k l g e = both_ways _ h k
  unled p [] (x ∷ u) following [] h k l g e = cc
  unled p [] (x ∷ u) following (y ∷ further) h k l g e = g
  unled p (z ∷ tokens) (x ∷ u) following [] h k l g e = cc
  unled p (z ∷ tokens) (x ∷ u) following (y ∷ further) h k l g e =
      let same : x ≡ z = cc in
      both_ways _ (ap (λ (w : C × D). may_begin ahead p w.0) (sym same) ∙ h) l

  -- what follows a part does not start it
  pub unfollowed : (p : Part C N) (after : C → Bool) (prefix following further : List (C × D)) → Begun p prefix → Follows after following → Apart ahead (may_begin ahead p) after → following ≡ prefix ++ further → ⊥
  unfollowed p after prefix [] further b h apart e =
      let wrong : [] ≡ b.first ∷ (b.others ++ further) = e ∙ ap (λ w. w ++ further) b.is in
      cc
  unfollowed p after prefix (x ∷ following) further b h apart e =
      let equal : x ∷ following ≡ b.first ∷ (b.others ++ further) = e ∙ ap (λ w. w ++ further) b.is in
      let same : x ≡ b.first = cc in
      apart x.0 (ap (λ (w : C × D). may_begin ahead p w.0) same ∙ b.may) h
