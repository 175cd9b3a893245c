-- Each part has a tree, and what a reader finds is as much as begins a list that the part derives.
use Rattle.std.proofs.Common.{◌≡◌, inl, inr, ℕ, zero, suc, ◌<◌, Bool, true, ◌||◌, List, [], ◌∷◌, ◌++◌, refl, sym, ap, ◌∙◌, append_assoc, arith, ltb-true}
use Rattle.std.specs.Prelude.{⊤}
use Rattle.std.proofs.lemmas.Bool.{or_cases, and_parts}
use Rattle.gms_grammar.specs.Grammar.{Part, one, the, ◌·◌, ◌∣◌, opt, many, DerivationTree, leaf, pair, left, right, none, some, more, node, yield, IsTree, Derives, IsUnexpected, Stops}
use Rattle.gms_grammar.specs.LookAhead.{LookAhead, may_begin, may_come_next, IsDecided, DecidesEach, ends_below}
use Rattle.gms_grammar.specs.Reading.{Found, read, stuck, Reads, taken, refused, entered, entered_stuck, both, first_stuck, second_stuck, in_left, in_left_stuck, in_right, in_right_stuck, in_neither, left_out, there, there_stuck, no_more, again, again_stuck, later_stuck, Takes, takes_one, takes_the, takes_first, takes_second, takes_left, takes_right, takes_opt, takes_many, takes_later}
use Rattle.gms_grammar.proofs.Basics.{end_nil, not_longer, regrouped}
use Rattle.gms_grammar.proofs.Sound.{sound}
use Rattle.gms_grammar.proofs.Checks.{right_and}
use Rattle.gms_grammar.proofs.Only.{only}

module _ {C N D : Type 0} (production : N → Part C N) (ahead : LookAhead C N) (ok : DecidesEach ahead production) (known : D) where
  -- Some tree of the part begins with these tokens.
  pub record GoesOn (part : Part C N) (prefix : List (C × D)) : Type 0 where
    pub tree : DerivationTree (C × D)
    pub is_tree : IsTree production part tree
    pub further : List (C × D)
    pub yields : yield tree ≡ prefix ++ further

  -- a tree begins with no tokens
  from : {part : Part C N} (tree : DerivationTree (C × D)) → IsTree production part tree → GoesOn part []
  from tree h = record { tree = tree; is_tree = h; further = yield tree; yields = refl }

  -- tokens that begin a part begin a larger one
  on_node : {n : N} {prefix : List (C × D)} → GoesOn (production n) prefix → GoesOn (the n) prefix
  on_node t = record { tree = node t.tree; is_tree = t.is_tree; further = t.further; yields = t.yields }

  on_left : {p q : Part C N} {prefix : List (C × D)} → GoesOn p prefix → GoesOn (p ∣ q) prefix
  on_left t = record { tree = left t.tree; is_tree = t.is_tree; further = t.further; yields = t.yields }

  on_right : {p q : Part C N} {prefix : List (C × D)} → GoesOn q prefix → GoesOn (p ∣ q) prefix
  on_right t = record { tree = right t.tree; is_tree = t.is_tree; further = t.further; yields = t.yields }

  on_some : {p : Part C N} {prefix : List (C × D)} → GoesOn p prefix → GoesOn (opt p) prefix
  on_some t = record { tree = some t.tree; is_tree = t.is_tree; further = t.further; yields = t.yields }

  on_more : {p : Part C N} {prefix : List (C × D)} → GoesOn p prefix → GoesOn (many p) prefix
  on_more t = record { tree = more t.tree none; is_tree = (t.is_tree, tt); further = t.further; yields = end_nil (yield t.tree) ∙ t.yields }

  on_first : {p q : Part C N} {prefix : List (C × D)} → GoesOn p prefix → GoesOn q [] → GoesOn (p · q) prefix
  on_first {prefix = prefix} t u = record {
    tree = pair t.tree u.tree;
    is_tree = (t.is_tree, u.is_tree);
    further = t.further ++ yield u.tree;
    yields = ap (λ w. w ++ yield u.tree) t.yields ∙ append_assoc prefix t.further (yield u.tree);
  }

  following : (a : DerivationTree (C × D)) (b prefix further : List (C × D)) → b ≡ prefix ++ further → yield a ++ b ≡ (yield a ++ prefix) ++ further
  following a b prefix further e = ap (λ w. yield a ++ w) e ∙ sym (append_assoc (yield a) prefix further)

  on_second : {p q : Part C N} (a : DerivationTree (C × D)) {prefix : List (C × D)} → IsTree production p a → GoesOn q prefix → GoesOn (p · q) (yield a ++ prefix)
  on_second a h u = record { tree = pair a u.tree; is_tree = (h, u.is_tree); further = u.further; yields = following a _ _ _ u.yields }

  on_later : {p : Part C N} (a : DerivationTree (C × D)) {prefix : List (C × D)} → IsTree production p a → GoesOn (many p) prefix → GoesOn (many p) (yield a ++ prefix)
  on_later a h u = record { tree = more a u.tree; is_tree = (h, u.is_tree); further = u.further; yields = following a _ _ _ u.yields }

  -- a part has a tree where the nonterminals below a bound have one
  tree_within : (bound : ℕ) → ((n : N) → ahead.depth n < bound → GoesOn (the n) []) → (part : Part C N) (after : C → Bool) → IsDecided ahead part after → ends_below ahead bound part ≡ true → GoesOn part []
  tree_within bound below (one test) after d h = from (leaf (d.0, known)) d.1
  tree_within bound below (the n) after d h = below n (ltb-true (ahead.depth n) bound h)
  tree_within bound below (p · q) after d h =
      on_first (tree_within bound below p _ d.0 ((and_parts _ _ h).0)) (tree_within bound below q after d.1 (right_and (ends_below ahead bound p) _ h))
  tree_within bound below (p ∣ q) after d h =
      let first : ends_below ahead bound p ≡ true → GoesOn p [] = tree_within bound below p after d.3 in
      let second : ends_below ahead bound q ≡ true → GoesOn q [] = tree_within bound below q after d.4 in
      elim (or_cases (ends_below ahead bound p) (ends_below ahead bound q) h) [ inl k ↦ on_left (first k) | inr k ↦ on_right (second k) ]
  tree_within bound below (opt p) after d h = from none tt
  tree_within bound below (many p) after d h = from none tt

  tree_below : (bound : ℕ) (n : N) → ahead.depth n < bound → GoesOn (the n) []
  tree_below zero n h = absurd (omega arith)
  tree_below (suc bound) n h =
      on_node (tree_within (ahead.depth n) (λ m k. tree_below bound m (omega arith)) (production n) (ahead.follow n) (ok.decided n) (ok.ends n))

  -- each part has a tree
  has_tree : (part : Part C N) (after : C → Bool) → IsDecided ahead part after → GoesOn part []
  has_tree (one test) after d = from (leaf (d.0, known)) d.1
  has_tree (the n) after d = tree_below (suc (ahead.depth n)) n (omega arith)
  has_tree (p · q) after d = on_first (has_tree p _ d.0) (has_tree q after d.1)
  has_tree (p ∣ q) after d = on_left (has_tree p after d.3)
  has_tree (opt p) after d = from none tt
  has_tree (many p) after d = from none tt

  abbrev Promises : Part C N → Found (C × D) → Type 0
  Promises part (read tree rest) = ⊤
  Promises part (stuck prefix rest) = GoesOn part prefix

  promises : {part : Part C N} {tokens : List (C × D)} {found : Found (C × D)} → Reads production ahead part tokens found → (after : C → Bool) → IsDecided ahead part after → Promises part found
  promises (taken h) after d = tt
  promises (refused {test = test} h) after d = has_tree (one test) after d
  promises (entered r) after d = tt
  promises (entered_stuck {n = n} r) after d = on_node (promises r (ahead.follow n) (ok.decided n))
  promises (both r s) after d = tt
  promises (first_stuck {q = q} r) after d = on_first (promises r (may_come_next ahead q after) d.0) (has_tree q after d.1)
  promises (second_stuck {a = a} r s) after d = on_second a (sound production ahead r).0 (promises s after d.1)
  promises (in_left h r) after d = tt
  promises (in_left_stuck h r) after d = on_left (promises r after d.3)
  promises (in_right h k r) after d = tt
  promises (in_right_stuck h k r) after d = on_right (promises r after d.4)
  promises (in_neither {p = p} h k) after d = on_left (has_tree p after d.3)
  promises (left_out h) after d = tt
  promises (there h r) after d = tt
  promises (there_stuck h r) after d = on_some (promises r after d.2)
  promises (no_more h) after d = tt
  promises (again h r s) after d = tt
  promises (again_stuck {p = p} h r) after d = on_more (promises r (λ c. may_begin ahead p c || after c) d.2)
  promises (later_stuck {a = a} h r s) after d = on_later a (sound production ahead r).0 (promises s after d)

  -- what a reader goes over begins a list that the part derives
  pub takes_on : {part : Part C N} {tokens prefix rest : List (C × D)} → Takes production ahead part tokens prefix rest → (after : C → Bool) → IsDecided ahead part after → (tokens ≡ prefix ++ rest) × GoesOn part prefix
  takes_on (takes_one {token = token} h) after d = (refl, record { tree = leaf token; is_tree = h; further = []; yields = refl })
  takes_on (takes_the {n = n} r) after d = let t = takes_on r (ahead.follow n) (ok.decided n) in (t.0, on_node t.1)
  takes_on (takes_first {q = q} r) after d = let t = takes_on r (may_come_next ahead q after) d.0 in (t.0, on_first t.1 (has_tree q after d.1))
  takes_on (takes_second {a = a} r s) after d =
      let u = takes_on s after d.1 in
      let v = sound production ahead r in
      (regrouped _ _ _ _ _ v.1 u.0, on_second a v.0 u.1)
  takes_on (takes_left r) after d = let t = takes_on r after d.3 in (t.0, on_left t.1)
  takes_on (takes_right r) after d = let t = takes_on r after d.4 in (t.0, on_right t.1)
  takes_on (takes_opt r) after d = let t = takes_on r after d.2 in (t.0, on_some t.1)
  takes_on (takes_many {p = p} r) after d = let t = takes_on r (λ c. may_begin ahead p c || after c) d.2 in (t.0, on_more t.1)
  takes_on (takes_later {a = a} r s) after d =
      let u = takes_on s after d in
      let v = sound production ahead r in
      (regrouped _ _ _ _ _ v.1 u.0, on_later a v.0 u.1)

  -- where a tree is read, its tokens are as many as begin a list that the part derives
  pub read_stops : (part : Part C N) (after : C → Bool) (tokens : List (C × D)) (tree : DerivationTree (C × D)) (rest : List (C × D)) → IsDecided ahead part after → Reads production ahead part tokens (read tree rest) → Stops production part tokens (yield tree) rest
  read_stops part after tokens tree rest d r =
      record {
        parts = (sound production ahead r).1;
        begins = record { further = []; derives = record { tree = tree; is_tree = (sound production ahead r).0; yields = sym (end_nil (yield tree)) } };
        ends = ends_at rest r;
      }
    where
      ends_at : (rest : List (C × D)) → Reads production ahead part tokens (read tree rest) → IsUnexpected production part (yield tree) rest
      ends_at [] r = tt
      ends_at (next ∷ rest) r = λ b.
          let longer : yield b.derives.tree ≡ yield tree ++ (next ∷ b.further) = b.derives.yields ∙ append_assoc (yield tree) (next ∷ []) b.further in
          let same : b.derives.tree ≡ tree = only production ahead ok r after d b.derives.tree [] (next ∷ b.further) (record { is_tree = b.derives.is_tree; follows = tt; goes = refl; agrees = end_nil (yield b.derives.tree) ∙ longer }) in
          not_longer (yield tree) next b.further (ap yield (sym same) ∙ longer)

  -- where a reader is stuck, the tokens read are the longest that begin a list that the part
  -- derives
  pub stuck_stops : (part : Part C N) (after : C → Bool) (tokens prefix rest : List (C × D)) → IsDecided ahead part after → Reads production ahead part tokens (stuck prefix rest) → Stops production part tokens prefix rest
  stuck_stops part after tokens prefix rest d r =
      let t = promises r after d in
      record {
        parts = sound production ahead r;
        begins = record { further = t.further; derives = record { tree = t.tree; is_tree = t.is_tree; yields = t.yields } };
        ends = ends_at rest r;
      }
    where
      ends_at : (rest : List (C × D)) → Reads production ahead part tokens (stuck prefix rest) → IsUnexpected production part prefix rest
      ends_at [] r = tt
      ends_at (next ∷ rest) r = λ b.
          only production ahead ok r after d b.derives.tree [] (next ∷ b.further)
          (record { is_tree = b.derives.is_tree; follows = tt; goes = refl; agrees = end_nil (yield b.derives.tree) ∙ b.derives.yields ∙ append_assoc prefix (next ∷ []) b.further })

  -- where a reader is stuck, the tokens read are no complete part
  pub stuck_none : (part : Part C N) (after : C → Bool) (tokens prefix rest : List (C × D)) → IsDecided ahead part after → Reads production ahead part tokens (stuck prefix rest) → Derives production part prefix → ⊥
  stuck_none part after tokens prefix rest d r b =
      only production ahead ok r after d b.tree [] []
      (record { is_tree = b.is_tree; follows = tt; goes = tt; agrees = ap (λ w. w ++ []) b.yields })
