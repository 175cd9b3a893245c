-- A reader finds something in all tokens.
use Rattle.std.proofs.Common.{◌≡◌, ◌⊎◌, inl, inr, ℕ, zero, suc, ◌<◌, ◌≤◌, max, Bool, true, not, List, [], ◌∷◌, ◌++◌, length, refl, ap, subst, arith, ltb-true, lt-ltb, length-append}
use Rattle.std.proofs.lemmas.Bool.{cases_Bool, and_parts}
use Rattle.gms_grammar.specs.Grammar.{Part, one, the, ◌·◌, ◌∣◌, opt, many, DerivationTree, yield}
use Rattle.gms_grammar.specs.LookAhead.{LookAhead, may_be_empty, IsDecided, DecidesEach, ranks_below}
use Rattle.gms_grammar.specs.Reading.{Found, read, stuck, leads, Reads, taken, refused, entered, entered_stuck, both, first_stuck, second_stuck, in_left, in_left_stuck, in_right, in_right_stuck, in_neither, left_out, there, there_stuck, no_more, again, again_stuck, later_stuck}
use Rattle.gms_grammar.proofs.Basics.{both_ways, and_both, or_right}
use Rattle.gms_grammar.proofs.Starts.{Starts, starts}
use Rattle.gms_grammar.proofs.Sound.{sound}
use Rattle.gms_grammar.proofs.Checks.{implied, right_and}

module _ {C N : Type 0} (ahead : LookAhead C N) where
  -- a number above the ranks of the nonterminals of a part
  abbrev above : Part C N → ℕ
  above (one test) = 0
  above (the n) = suc (ahead.rank n)
  above (p · q) = max (above p) (above q)
  above (p ∣ q) = max (above p) (above q)
  above (opt p) = above p
  above (many p) = above p

  ranks_above : (limit : ℕ) (p : Part C N) → above p ≤ limit → ranks_below ahead limit p ≡ true
  ranks_above limit (one test) h = refl
  ranks_above limit (the n) h = lt-ltb (ahead.rank n) limit (omega arith)
  ranks_above limit (p · q) h =
      and_both _ _ (ranks_above limit p (omega arith)) (or_right (not (may_be_empty ahead p)) _ (ranks_above limit q (omega arith)))
  ranks_above limit (p ∣ q) h = and_both _ _ (ranks_above limit p (omega arith)) (ranks_above limit q (omega arith))
  ranks_above limit (opt p) h = ranks_above limit p h
  ranks_above limit (many p) h = ranks_above limit p h

module _ {C N : Type 0} (D : Type 0) (production : N → Part C N) (ahead : LookAhead C N) (ok : DecidesEach ahead production) where
  -- A reader finds something.
  pub record Finds (part : Part C N) (tokens : List (C × D)) : Type 0 where
    pub found : Found (C × D)
    pub reads : Reads production ahead part tokens found

  -- what a reader of `p` finds in shorter tokens than these, whatever may follow
  abbrev pub Shorter : ℕ → Type 0
  Shorter bound = (p : Part C N) (after : C → Bool) → IsDecided ahead p after → (tokens : List (C × D)) → length tokens < bound → Finds p tokens

  by : {part : Part C N} {tokens : List (C × D)} {found : Found (C × D)} → Reads production ahead part tokens found → Finds part tokens
  by {found = found} r = record { found = found; reads = r }

  -- what follows from a tree that is found, and from where a reader is stuck
  each : {X : Type 0} {p : Part C N} {tokens : List (C × D)} → Finds p tokens → ((tree : DerivationTree (C × D)) (rest : List (C × D)) → Reads production ahead p tokens (read tree rest) → X) → ((prefix rest : List (C × D)) → Reads production ahead p tokens (stuck prefix rest) → X) → X
  each {X = X} {p = p} {tokens = tokens} f at_tree at_stuck = go f.found f.reads
    where
      go : (found : Found (C × D)) → Reads production ahead p tokens found → X
      go (read tree rest) r = at_tree tree rest r
      go (stuck prefix rest) r = at_stuck prefix rest r

  finds_the : (n : N) (tokens : List (C × D)) → Finds (production n) tokens → Finds (the n) tokens
  finds_the n tokens f = each f (λ tree rest r. by (entered r)) (λ prefix rest r. by (entered_stuck r))

  finds_pair : (p q : Part C N) (tokens : List (C × D)) → Finds p tokens → ((a : DerivationTree (C × D)) (between : List (C × D)) → Reads production ahead p tokens (read a between) → Finds q between) → Finds (p · q) tokens
  finds_pair p q tokens f then =
      each f (λ a between r. each (then a between r) (λ b rest s. by (both r s)) (λ prefix rest s. by (second_stuck r s)))
      (λ prefix rest r. by (first_stuck r))

  finds_either : (p q : Part C N) (tokens : List (C × D)) → Finds p tokens → Finds q tokens → Finds (p ∣ q) tokens
  finds_either p q tokens f g =
      elim (cases_Bool (leads production ahead p tokens)) [
        | inl h ↦ each f (λ tree rest r. by (in_left h r)) (λ prefix rest r. by (in_left_stuck h r))
        | inr h ↦ elim (cases_Bool (leads production ahead q tokens)) [
          | inl k ↦ each g (λ tree rest r. by (in_right h k r)) (λ prefix rest r. by (in_right_stuck h k r))
          | inr k ↦ by (in_neither h k)
        ]
      ]

  finds_opt : (p : Part C N) (tokens : List (C × D)) → Finds p tokens → Finds (opt p) tokens
  finds_opt p tokens f =
      elim (cases_Bool (leads production ahead p tokens)) [ inl h ↦ each f (λ tree rest r. by (there h r)) (λ prefix rest r. by (there_stuck h r)) | inr h ↦ by (left_out h) ]

  finds_many : (p : Part C N) (tokens : List (C × D)) → Finds p tokens → ((a : DerivationTree (C × D)) (between : List (C × D)) → Reads production ahead p tokens (read a between) → Finds (many p) between) → Finds (many p) tokens
  finds_many p tokens f then =
      elim (cases_Bool (leads production ahead p tokens)) [
        | inl h ↦ each f (λ a between r. each (then a between r) (λ b rest s. by (again h r s)) (λ prefix rest s. by (later_stuck h r s)))
            (λ prefix rest r. by (again_stuck h r))
        | inr h ↦ by (no_more h)
      ]

  -- after a part, the tokens are the same, and the part may be empty, or they are fewer
  left_over : (p : Part C N) (tokens : List (C × D)) (a : DerivationTree (C × D)) (between : List (C × D)) → Reads production ahead p tokens (read a between) → ((tokens ≡ between) × (may_be_empty ahead p ≡ true)) ⊎ (length between < length tokens)
  left_over p tokens a between r =
      let s = sound production ahead r in
      go (yield a) s.1 (starts production ahead ok p a s.0)
    where
      go : (u : List (C × D)) → tokens ≡ u ++ between → Starts production ahead ok p u → ((tokens ≡ between) × (may_be_empty ahead p ≡ true)) ⊎ (length between < length tokens)
      go [] e h = inl (e, h)
      go (x ∷ u) e h = inr (omega (arith, ap length e, length-append u between))

  -- in tokens of at most this length, if the nonterminals that may come first are of less rank
  finds_part : (bound : ℕ) (limit : ℕ) → Shorter bound → ((n : N) (tokens : List (C × D)) → ahead.rank n < limit → length tokens ≤ bound → Finds (the n) tokens) → (p : Part C N) (after : C → Bool) → IsDecided ahead p after → ranks_below ahead limit p ≡ true → (tokens : List (C × D)) → length tokens ≤ bound → Finds p tokens
  finds_part bound limit shorter below (one test) after d h [] l = by (refused refl)
  finds_part bound limit shorter below (one test) after d h (token ∷ rest) l = elim (cases_Bool (test token.0)) [ inl e ↦ by (taken e) | inr e ↦ by (refused e) ]
  finds_part bound limit shorter below (the n) after d h tokens l = below n tokens (ltb-true (ahead.rank n) limit h) l
  finds_part bound limit shorter below (p · q) after d h tokens l =
      finds_pair p q tokens (finds_part bound limit shorter below p _ d.0 ((and_parts _ _ h).0) tokens l)
      (next (finds_part bound limit shorter below q after d.1))
    where
      next : (ranks_below ahead limit q ≡ true → (tokens : List (C × D)) → length tokens ≤ bound → Finds q tokens) → (a : DerivationTree (C × D)) (between : List (C × D)) → Reads production ahead p tokens (read a between) → Finds q between
      next same a between r =
          elim (left_over p tokens a between r) [
            | inl k ↦ same (implied (may_be_empty ahead p) _ (right_and (ranks_below ahead limit p) _ h) k.1) between (subst (λ w. length w ≤ bound) k.0 l)
            | inr k ↦ shorter q after d.1 between (omega arith)
          ]
  finds_part bound limit shorter below (p ∣ q) after d h tokens l =
      finds_either p q tokens (finds_part bound limit shorter below p after d.3 ((and_parts _ _ h).0) tokens l)
      (finds_part bound limit shorter below q after d.4 (right_and (ranks_below ahead limit p) _ h) tokens l)
  finds_part bound limit shorter below (opt p) after d h tokens l = finds_opt p tokens (finds_part bound limit shorter below p after d.2 h tokens l)
  finds_part bound limit shorter below (many p) after d h tokens l =
      finds_many p tokens (finds_part bound limit shorter below p _ d.2 h tokens l) next
    where
      next : (a : DerivationTree (C × D)) (between : List (C × D)) → Reads production ahead p tokens (read a between) → Finds (many p) between
      next a between r = elim (left_over p tokens a between r) [ inl k ↦ absurd (both_ways _ k.1 d.0) | inr k ↦ shorter (many p) after d between (omega arith) ]

  finds_ranked : (bound limit : ℕ) → Shorter bound → (n : N) (tokens : List (C × D)) → ahead.rank n < limit → length tokens ≤ bound → Finds (the n) tokens
  finds_ranked bound zero shorter n tokens h l = absurd (omega arith)
  finds_ranked bound (suc limit) shorter n tokens h l =
      finds_the n tokens
      (finds_part bound (ahead.rank n) shorter (λ m inner k w. finds_ranked bound limit shorter m inner (omega arith) w) (production n) (ahead.follow n) (ok.decided n) (ok.descends n) tokens l)

  shorter_all : (bound : ℕ) → Shorter bound
  shorter_all zero p after d tokens h = absurd (omega arith)
  shorter_all (suc bound) p after d tokens h =
      finds_part bound (above ahead p) (shorter_all bound) (finds_ranked bound (above ahead p) (shorter_all bound)) p after d (ranks_above ahead (above ahead p) p (omega arith)) tokens (omega arith)

  -- a reader finds something in all tokens
  pub finds : (p : Part C N) (after : C → Bool) → IsDecided ahead p after → (tokens : List (C × D)) → Finds p tokens
  finds p after d tokens = shorter_all (suc (length tokens)) p after d tokens (omega arith)
