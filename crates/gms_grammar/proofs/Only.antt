-- What a reader finds is unique: no other tree derives tokens that agree up to the one after those
-- read.
use Rattle.std.proofs.Common.{◌≡◌, Bool, true, false, ◌||◌, List, [], ◌∷◌, ◌++◌, refl, sym, ap, ap₂, subst, ◌∙◌, append_assoc}
use Rattle.gms_grammar.specs.Grammar.{Part, one, the, ◌·◌, ◌∣◌, opt, many, DerivationTree, leaf, pair, left, right, none, some, more, node, yield, IsTree}
use Rattle.gms_grammar.specs.LookAhead.{LookAhead, may_be_empty, may_begin, may_come_next, Apart, IsDecided, DecidesEach}
use Rattle.gms_grammar.specs.Reading.{Found, read, stuck, leads, Reads, taken, refused, entered, entered_stuck, both, first_stuck, second_stuck, in_left, in_left_stuck, in_right, in_right_stuck, in_neither, left_out, there, there_stuck, no_more, again, again_stuck, later_stuck}
use Rattle.gms_grammar.proofs.Basics.{after_same}
use Rattle.gms_grammar.proofs.Starts.{Follows, Goes, goes_after, starts, follows_part, follows_more, begun, clash, unled, unfollowed}
use Rattle.gms_grammar.proofs.Sound.{sound, took}

module _ {C N D : Type 0} (production : N → Part C N) (ahead : LookAhead C N) (ok : DecidesEach ahead production) where
  -- another tree of the part, over tokens that agree with those read up to the next one, and that
  -- tokens follow which may follow the part
  pub record Other (part : Part C N) (after : C → Bool) (prefix rest : List (C × D)) (tree : DerivationTree (C × D)) (following further : List (C × D)) : Type 0 where
    pub is_tree : IsTree production part tree
    pub follows : Follows after following
    pub goes : Goes rest further
    pub agrees : yield tree ++ following ≡ prefix ++ further

  -- what was found is all that there is
  abbrev pub Only : Part C N → (C → Bool) → Found (C × D) → Type 0
  Only part after (read tree rest) = (other : DerivationTree (C × D)) (following further : List (C × D)) → Other part after (yield tree) rest other following further → other ≡ tree
  Only part after (stuck prefix rest) = (other : DerivationTree (C × D)) (following further : List (C × D)) → Other part after prefix rest other following further → ⊥

  -- the tokens agree in two parts, where the first trees are the same
  pub rest_agrees : (a b : DerivationTree (C × D)) (u v following further : List (C × D)) → b ≡ a → (yield b ++ u) ++ following ≡ (yield a ++ v) ++ further → u ++ following ≡ v ++ further
  rest_agrees a b u v following further same e =
      after_same (yield a) _ _
      (sym (append_assoc (yield a) u following) ∙ ap (λ t. (yield t ++ u) ++ following) (sym same) ∙ e ∙ append_assoc (yield a) v further)

  only_one : (test : C → Bool) (token : C × D) (other : DerivationTree (C × D)) (following further : List (C × D)) → IsTree production (one test) other → yield other ++ following ≡ (token ∷ []) ++ further → other ≡ leaf token
  only_one test token (leaf u) following further h e = cc
  only_one test token _ following further h e = absurd h

  none_one : (test : C → Bool) (after : C → Bool) (tokens : List (C × D)) (other : DerivationTree (C × D)) (following further : List (C × D)) → leads production ahead (one test) tokens ≡ false → Other (one test) after [] tokens other following further → ⊥
  none_one test after tokens other following further h o = unled production ahead ok (one test) tokens (yield other) following further (starts production ahead ok (one test) other o.is_tree) refl h o.goes o.agrees

  only_the : (n : N) (after : C → Bool) (tree : DerivationTree (C × D)) (rest : List (C × D)) → ((c : C) → after c ≡ true → ahead.follow n c ≡ true) → Only (production n) (ahead.follow n) (read tree rest) → Only (the n) after (read (node tree) rest)
  only_the n after tree rest d h (node other) following further o =
      ap node (h other following further (record { is_tree = o.is_tree; follows = follows_more production ahead ok _ _ _ d o.follows; goes = o.goes; agrees = o.agrees }))
  only_the n after tree rest d h _ following further o = absurd o.is_tree

  none_the : (n : N) (after : C → Bool) (prefix rest : List (C × D)) → ((c : C) → after c ≡ true → ahead.follow n c ≡ true) → Only (production n) (ahead.follow n) (stuck prefix rest) → Only (the n) after (stuck prefix rest)
  none_the n after prefix rest d h (node other) following further o =
      h other following further (record { is_tree = o.is_tree; follows = follows_more production ahead ok _ _ _ d o.follows; goes = o.goes; agrees = o.agrees })
  none_the n after prefix rest d h _ following further o = o.is_tree

  -- the first of two parts, followed by the tokens of the second
  first_other : (p : Part C N) (on : C → Bool) (a b c : DerivationTree (C × D)) (between v rest following further : List (C × D)) → between ≡ v ++ rest → IsTree production p b → Follows on (yield c ++ following) → Goes rest further → (yield b ++ yield c) ++ following ≡ (yield a ++ v) ++ further → Other p on (yield a) between b (yield c ++ following) (v ++ further)
  first_other p on a b c between v rest following further e is_b follows goes agrees =
      record {
        is_tree = is_b;
        follows = follows;
        goes = subst (λ w. Goes w (v ++ further)) (sym e) (goes_after v rest further goes);
        agrees = sym (append_assoc (yield b) (yield c) following) ∙ agrees ∙ append_assoc (yield a) v further;
      }

  -- the same where nothing else was read
  first_alone : (p : Part C N) (on : C → Bool) (b c : DerivationTree (C × D)) (prefix rest following further : List (C × D)) → IsTree production p b → Follows on (yield c ++ following) → Goes rest further → (yield b ++ yield c) ++ following ≡ prefix ++ further → Other p on prefix rest b (yield c ++ following) further
  first_alone p on b c prefix rest following further is_b follows goes agrees =
      record { is_tree = is_b; follows = follows; goes = goes; agrees = sym (append_assoc (yield b) (yield c) following) ∙ agrees }

  -- a tree of the second part precedes tokens that may follow the first
  on_second : (q : Part C N) (after : C → Bool) (c : DerivationTree (C × D)) (following : List (C × D)) → IsTree production q c → Follows after following → Follows (may_come_next ahead q after) (yield c ++ following)
  on_second q after c following is_c follows = follows_part production ahead ok q after (yield c) following (starts production ahead ok q c is_c) follows

  only_both : (p q : Part C N) (after : C → Bool) (a b : DerivationTree (C × D)) (between rest : List (C × D)) → between ≡ yield b ++ rest → Only p (may_come_next ahead q after) (read a between) → Only q after (read b rest) → Only (p · q) after (read (pair a b) rest)
  only_both p q after a b between rest e h k (pair c d) following further o =
      let same : c ≡ a = h c _ _ (first_other p _ a c d between (yield b) rest following further e o.is_tree.0 (on_second q after d following o.is_tree.1 o.follows) o.goes o.agrees) in
      ap₂ pair same
      (k d following further
      (record { is_tree = o.is_tree.1; follows = o.follows; goes = o.goes; agrees = rest_agrees a c (yield d) (yield b) following further same o.agrees }))
  only_both p q after a b between rest e h k _ following further o = absurd o.is_tree

  none_first : (p q : Part C N) (after : C → Bool) (prefix rest : List (C × D)) → Only p (may_come_next ahead q after) (stuck prefix rest) → Only (p · q) after (stuck prefix rest)
  none_first p q after prefix rest h (pair c d) following further o =
      h c _ _ (first_alone p _ c d prefix rest following further o.is_tree.0 (on_second q after d following o.is_tree.1 o.follows) o.goes o.agrees)
  none_first p q after prefix rest h _ following further o = o.is_tree

  none_second : (p q : Part C N) (after : C → Bool) (a : DerivationTree (C × D)) (between prefix rest : List (C × D)) → between ≡ prefix ++ rest → Only p (may_come_next ahead q after) (read a between) → Only q after (stuck prefix rest) → Only (p · q) after (stuck (yield a ++ prefix) rest)
  none_second p q after a between prefix rest e h k (pair c d) following further o =
      let same : c ≡ a = h c _ _ (first_other p _ a c d between prefix rest following further e o.is_tree.0 (on_second q after d following o.is_tree.1 o.follows) o.goes o.agrees) in
      k d following further
      (record { is_tree = o.is_tree.1; follows = o.follows; goes = o.goes; agrees = rest_agrees a c (yield d) prefix following further same o.agrees })
  none_second p q after a between prefix rest e h k _ following further o = o.is_tree

  -- a tree of a part that is not the one that was begun
  astray : (p q : Part C N) (after : C → Bool) (tokens prefix rest : List (C × D)) (other : DerivationTree (C × D)) (following further : List (C × D)) → tokens ≡ prefix ++ rest → leads production ahead p tokens ≡ true → (prefix ≡ [] → leads production ahead p tokens ≡ false) → may_be_empty ahead q ≡ false → Apart ahead (may_begin ahead p) (may_begin ahead q) → IsTree production q other → yield other ++ following ≡ prefix ++ further → ⊥
  astray p q after tokens prefix rest other following further e h t k apart is agrees =
      clash production ahead ok p q prefix (yield other) following further (begun production ahead ok p tokens prefix rest e h t) (starts production ahead ok q other is) k apart agrees

  only_left : (p q : Part C N) (after : C → Bool) (tokens rest : List (C × D)) (tree : DerivationTree (C × D)) → tokens ≡ yield tree ++ rest → leads production ahead p tokens ≡ true → (yield tree ≡ [] → leads production ahead p tokens ≡ false) → IsDecided ahead (p ∣ q) after → Only p after (read tree rest) → Only (p ∣ q) after (read (left tree) rest)
  only_left p q after tokens rest tree e h t d k (left other) following further o =
      ap left (k other following further (record { is_tree = o.is_tree; follows = o.follows; goes = o.goes; agrees = o.agrees }))
  only_left p q after tokens rest tree e h t d k (right other) following further o =
      absurd (astray p q after tokens (yield tree) rest other following further e h t d.1 d.2 o.is_tree o.agrees)
  only_left p q after tokens rest tree e h t d k _ following further o = absurd o.is_tree

  none_left : (p q : Part C N) (after : C → Bool) (tokens prefix rest : List (C × D)) → tokens ≡ prefix ++ rest → leads production ahead p tokens ≡ true → (prefix ≡ [] → leads production ahead p tokens ≡ false) → IsDecided ahead (p ∣ q) after → Only p after (stuck prefix rest) → Only (p ∣ q) after (stuck prefix rest)
  none_left p q after tokens prefix rest e h t d k (left other) following further o =
      k other following further (record { is_tree = o.is_tree; follows = o.follows; goes = o.goes; agrees = o.agrees })
  none_left p q after tokens prefix rest e h t d k (right other) following further o =
      astray p q after tokens prefix rest other following further e h t d.1 d.2 o.is_tree o.agrees
  none_left p q after tokens prefix rest e h t d k _ following further o = o.is_tree

  only_right : (p q : Part C N) (after : C → Bool) (tokens rest : List (C × D)) (tree : DerivationTree (C × D)) → tokens ≡ yield tree ++ rest → leads production ahead q tokens ≡ true → (yield tree ≡ [] → leads production ahead q tokens ≡ false) → IsDecided ahead (p ∣ q) after → Only q after (read tree rest) → Only (p ∣ q) after (read (right tree) rest)
  only_right p q after tokens rest tree e h t d k (right other) following further o =
      ap right (k other following further (record { is_tree = o.is_tree; follows = o.follows; goes = o.goes; agrees = o.agrees }))
  only_right p q after tokens rest tree e h t d k (left other) following further o =
      absurd (astray q p after tokens (yield tree) rest other following further e h t d.0 (λ c u v. d.2 c v u) o.is_tree o.agrees)
  only_right p q after tokens rest tree e h t d k _ following further o = absurd o.is_tree

  none_right : (p q : Part C N) (after : C → Bool) (tokens prefix rest : List (C × D)) → tokens ≡ prefix ++ rest → leads production ahead q tokens ≡ true → (prefix ≡ [] → leads production ahead q tokens ≡ false) → IsDecided ahead (p ∣ q) after → Only q after (stuck prefix rest) → Only (p ∣ q) after (stuck prefix rest)
  none_right p q after tokens prefix rest e h t d k (right other) following further o =
      k other following further (record { is_tree = o.is_tree; follows = o.follows; goes = o.goes; agrees = o.agrees })
  none_right p q after tokens prefix rest e h t d k (left other) following further o =
      astray q p after tokens prefix rest other following further e h t d.0 (λ c u v. d.2 c v u) o.is_tree o.agrees
  none_right p q after tokens prefix rest e h t d k _ following further o = o.is_tree

  -- a tree of a part into which the first token does not lead
  absent : (p : Part C N) (tokens : List (C × D)) (other : DerivationTree (C × D)) (following further : List (C × D)) → may_be_empty ahead p ≡ false → leads production ahead p tokens ≡ false → IsTree production p other → Goes tokens further → yield other ++ following ≡ further → ⊥
  absent p tokens other following further k h is goes agrees =
      unled production ahead ok p tokens (yield other) following further (starts production ahead ok p other is) k h goes agrees

  none_neither : (p q : Part C N) (after : C → Bool) (tokens : List (C × D)) → leads production ahead p tokens ≡ false → leads production ahead q tokens ≡ false → IsDecided ahead (p ∣ q) after → Only (p ∣ q) after (stuck [] tokens)
  none_neither p q after tokens h k d (left other) following further o = absent p tokens other following further d.0 h o.is_tree o.goes o.agrees
  none_neither p q after tokens h k d (right other) following further o = absent q tokens other following further d.1 k o.is_tree o.goes o.agrees
  none_neither p q after tokens h k d _ following further o = o.is_tree

  only_left_out : (p : Part C N) (after : C → Bool) (tokens : List (C × D)) → leads production ahead p tokens ≡ false → IsDecided ahead (opt p) after → Only (opt p) after (read none tokens)
  only_left_out p after tokens h d none following further o = refl
  only_left_out p after tokens h d (some other) following further o = absurd (absent p tokens other following further d.0 h o.is_tree o.goes o.agrees)
  only_left_out p after tokens h d _ following further o = absurd o.is_tree

  -- a part that was begun is not absent
  not_none : (p : Part C N) (after : C → Bool) (tokens prefix rest following further : List (C × D)) → tokens ≡ prefix ++ rest → leads production ahead p tokens ≡ true → (prefix ≡ [] → leads production ahead p tokens ≡ false) → Apart ahead (may_begin ahead p) after → Follows after following → following ≡ prefix ++ further → ⊥
  not_none p after tokens prefix rest following further e h t apart follows agrees =
      unfollowed production ahead ok p after prefix following further (begun production ahead ok p tokens prefix rest e h t) follows apart agrees

  only_there : (p : Part C N) (after : C → Bool) (tokens rest : List (C × D)) (tree : DerivationTree (C × D)) → tokens ≡ yield tree ++ rest → leads production ahead p tokens ≡ true → (yield tree ≡ [] → leads production ahead p tokens ≡ false) → IsDecided ahead (opt p) after → Only p after (read tree rest) → Only (opt p) after (read (some tree) rest)
  only_there p after tokens rest tree e h t d k none following further o =
      absurd (not_none p after tokens (yield tree) rest following further e h t d.1 o.follows o.agrees)
  only_there p after tokens rest tree e h t d k (some other) following further o =
      ap some (k other following further (record { is_tree = o.is_tree; follows = o.follows; goes = o.goes; agrees = o.agrees }))
  only_there p after tokens rest tree e h t d k _ following further o = absurd o.is_tree

  none_there : (p : Part C N) (after : C → Bool) (tokens prefix rest : List (C × D)) → tokens ≡ prefix ++ rest → leads production ahead p tokens ≡ true → (prefix ≡ [] → leads production ahead p tokens ≡ false) → IsDecided ahead (opt p) after → Only p after (stuck prefix rest) → Only (opt p) after (stuck prefix rest)
  none_there p after tokens prefix rest e h t d k none following further o = not_none p after tokens prefix rest following further e h t d.1 o.follows o.agrees
  none_there p after tokens prefix rest e h t d k (some other) following further o =
      k other following further (record { is_tree = o.is_tree; follows = o.follows; goes = o.goes; agrees = o.agrees })
  none_there p after tokens prefix rest e h t d k _ following further o = o.is_tree

  only_no_more : (p : Part C N) (after : C → Bool) (tokens : List (C × D)) → leads production ahead p tokens ≡ false → IsDecided ahead (many p) after → Only (many p) after (read none tokens)
  only_no_more p after tokens h d none following further o = refl
  only_no_more p after tokens h d (more a b) following further o =
      absurd
      (absent p tokens a (yield b ++ following) further d.0 h o.is_tree.0 o.goes (sym (append_assoc (yield a) (yield b) following) ∙ o.agrees))
  only_no_more p after tokens h d _ following further o = absurd o.is_tree

  only_again : (p : Part C N) (after : C → Bool) (tokens between rest : List (C × D)) (a b : DerivationTree (C × D)) → tokens ≡ yield a ++ between → between ≡ yield b ++ rest → leads production ahead p tokens ≡ true → (yield a ≡ [] → leads production ahead p tokens ≡ false) → IsDecided ahead (many p) after → Only p (λ c. may_begin ahead p c || after c) (read a between) → Only (many p) after (read b rest) → Only (many p) after (read (more a b) rest)
  only_again p after tokens between rest a b e f h t d k l none following further o =
      absurd (not_none p after tokens (yield a) between following (yield b ++ further) e h t d.1 o.follows (o.agrees ∙ append_assoc (yield a) (yield b) further))
  only_again p after tokens between rest a b e f h t d k l (more c u) following further o =
      let same : c ≡ a = k c _ _ (first_other p _ a c u between (yield b) rest following further f o.is_tree.0 (on_second (many p) after u following o.is_tree.1 o.follows) o.goes o.agrees) in
      ap₂ more same
      (l u following further
      (record { is_tree = o.is_tree.1; follows = o.follows; goes = o.goes; agrees = rest_agrees a c (yield u) (yield b) following further same o.agrees }))
  only_again p after tokens between rest a b e f h t d k l _ following further o = absurd o.is_tree

  none_again : (p : Part C N) (after : C → Bool) (tokens prefix rest : List (C × D)) → tokens ≡ prefix ++ rest → leads production ahead p tokens ≡ true → (prefix ≡ [] → leads production ahead p tokens ≡ false) → IsDecided ahead (many p) after → Only p (λ c. may_begin ahead p c || after c) (stuck prefix rest) → Only (many p) after (stuck prefix rest)
  none_again p after tokens prefix rest e h t d k none following further o = not_none p after tokens prefix rest following further e h t d.1 o.follows o.agrees
  none_again p after tokens prefix rest e h t d k (more c u) following further o =
      k c _ _ (first_alone p _ c u prefix rest following further o.is_tree.0 (on_second (many p) after u following o.is_tree.1 o.follows) o.goes o.agrees)
  none_again p after tokens prefix rest e h t d k _ following further o = o.is_tree

  none_later : (p : Part C N) (after : C → Bool) (tokens between prefix rest : List (C × D)) (a : DerivationTree (C × D)) → tokens ≡ yield a ++ between → between ≡ prefix ++ rest → leads production ahead p tokens ≡ true → (yield a ≡ [] → leads production ahead p tokens ≡ false) → IsDecided ahead (many p) after → Only p (λ c. may_begin ahead p c || after c) (read a between) → Only (many p) after (stuck prefix rest) → Only (many p) after (stuck (yield a ++ prefix) rest)
  none_later p after tokens between prefix rest a e f h t d k l none following further o =
      not_none p after tokens (yield a) between following (prefix ++ further) e h t d.1 o.follows (o.agrees ∙ append_assoc (yield a) prefix further)
  none_later p after tokens between prefix rest a e f h t d k l (more c u) following further o =
      let same : c ≡ a = k c _ _ (first_other p _ a c u between prefix rest following further f o.is_tree.0 (on_second (many p) after u following o.is_tree.1 o.follows) o.goes o.agrees) in
      l u following further
      (record { is_tree = o.is_tree.1; follows = o.follows; goes = o.goes; agrees = rest_agrees a c (yield u) prefix following further same o.agrees })
  none_later p after tokens between prefix rest a e f h t d k l _ following further o = o.is_tree

  pub only : {part : Part C N} {tokens : List (C × D)} {found : Found (C × D)} → Reads production ahead part tokens found → (after : C → Bool) → IsDecided ahead part after → Only part after found
  only (taken {test = test} {token = token} h) after d = λ other following further o. only_one test token other following further o.is_tree o.agrees
  only (refused {test = test} {tokens = tokens} h) after d = λ other following further o. none_one test after tokens other following further h o
  only (entered {n = n} {rest = rest} {tree = tree} r) after d = only_the n after tree rest d (only r (ahead.follow n) (ok.decided n))
  only (entered_stuck {n = n} {prefix = prefix} {rest = rest} r) after d = none_the n after prefix rest d (only r (ahead.follow n) (ok.decided n))
  only (both {p = p} {q = q} {between = between} {rest = rest} {a = a} {b = b} r s) after d =
      only_both p q after a b between rest (sound production ahead s).1 (only r _ d.0) (only s after d.1)
  only (first_stuck {p = p} {q = q} {prefix = prefix} {rest = rest} r) after d = none_first p q after prefix rest (only r _ d.0)
  only (second_stuck {p = p} {q = q} {between = between} {prefix = prefix} {rest = rest} {a = a} r s) after d =
      none_second p q after a between prefix rest (sound production ahead s) (only r _ d.0) (only s after d.1)
  only (in_left {p = p} {q = q} {tokens = tokens} {rest = rest} {tree = tree} h r) after d =
      only_left p q after tokens rest tree (sound production ahead r).1 h (took production ahead ok r after d.3) d (only r after d.3)
  only (in_left_stuck {p = p} {q = q} {tokens = tokens} {prefix = prefix} {rest = rest} h r) after d =
      none_left p q after tokens prefix rest (sound production ahead r) h (λ e. (took production ahead ok r after d.3 e).0) d (only r after d.3)
  only (in_right {p = p} {q = q} {tokens = tokens} {rest = rest} {tree = tree} g h r) after d =
      only_right p q after tokens rest tree (sound production ahead r).1 h (took production ahead ok r after d.4) d (only r after d.4)
  only (in_right_stuck {p = p} {q = q} {tokens = tokens} {prefix = prefix} {rest = rest} g h r) after d =
      none_right p q after tokens prefix rest (sound production ahead r) h (λ e. (took production ahead ok r after d.4 e).0) d (only r after d.4)
  only (in_neither {p = p} {q = q} {tokens = tokens} h k) after d = none_neither p q after tokens h k d
  only (left_out {p = p} {tokens = tokens} h) after d = only_left_out p after tokens h d
  only (there {p = p} {tokens = tokens} {rest = rest} {tree = tree} h r) after d =
      only_there p after tokens rest tree (sound production ahead r).1 h (took production ahead ok r after d.2) d (only r after d.2)
  only (there_stuck {p = p} {tokens = tokens} {prefix = prefix} {rest = rest} h r) after d =
      none_there p after tokens prefix rest (sound production ahead r) h (λ e. (took production ahead ok r after d.2 e).0) d (only r after d.2)
  only (no_more {p = p} {tokens = tokens} h) after d = only_no_more p after tokens h d
  only (again {p = p} {tokens = tokens} {between = between} {rest = rest} {a = a} {b = b} h r s) after d =
      only_again p after tokens between rest a b (sound production ahead r).1 (sound production ahead s).1 h (took production ahead ok r _ d.2) d (only r _ d.2) (only s after d)
  only (again_stuck {p = p} {tokens = tokens} {prefix = prefix} {rest = rest} h r) after d =
      none_again p after tokens prefix rest (sound production ahead r) h (λ e. (took production ahead ok r _ d.2 e).0) d (only r _ d.2)
  only (later_stuck {p = p} {tokens = tokens} {between = between} {prefix = prefix} {rest = rest} {a = a} h r s) after d =
      none_later p after tokens between prefix rest a (sound production ahead r).1 (sound production ahead s) h (took production ahead ok r _ d.2) d (only r _ d.2) (only s after d)
