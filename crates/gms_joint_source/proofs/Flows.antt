-- In which states a reader may be after what a grammar derives, as far as single tokens determine
-- it: claimed of each nonterminal, and checked by computing.
use Rattle.std.proofs.lemmas.Bool.{and_parts, or_cases, or_left, or_right}
use Rattle.std.proofs.Common.{◌≡◌, ℕ, zero, suc, Bool, true, false, not, ◌&&◌, ◌||◌, if◌then◌else◌, List, [], ◌∷◌, ◌++◌, filter, refl, sym, ap, ◌∙◌, subst, append-nil, ◌⊎◌, inl, inr}
use Rattle.std.specs.List.{list_any}
use Rattle.gms_grammar.proofs.LineLemmas.{true_or_false}
use Rattle.gms_grammar.specs.Grammar.{Part, one, the, ◌·◌, ◌∣◌, opt, many, DerivationTree, leaf, pair, left, right, none, some, more, node, yield, IsTree}

and_right : (a b : Bool) → (a && b) ≡ true → b ≡ true
and_right true b h = h
and_right false b h = cc

-- a kind is among some
abbrev pub In : {C : Type 0} → C → List C → Type 0
In c [] = ⊥
In c (x ∷ xs) = (x ≡ c) ⊎ In c xs

module _ {S : Type 0} (same : S → S → Bool) (same_is : (a b : S) → same a b ≡ true → a ≡ b) where
  -- a state is one of some
  abbrev pub has : List S → S → Bool
  has states s = list_any (λ t. same t s) states

  -- states, and those of others that are none of them
  abbrev pub merge : List S → List S → List S
  merge states others = states ++ filter (λ s. not (has states s)) others

  -- each of some states is one of others
  abbrev pub within : List S → List S → Bool
  within [] others = true
  within (s ∷ states) others = has others s && within states others

  has_append : (xs ys : List S) (s : S) → has (xs ++ ys) s ≡ (has xs s || has ys s)
  has_append [] ys s = refl
  has_append (x ∷ xs) ys s = ap (λ v. same x s || v) (has_append xs ys s) ∙ regroup (same x s) (has xs s) (has ys s)
    where
      regroup : (a b c : Bool) → (a || (b || c)) ≡ ((a || b) || c)
      regroup true b c = refl
      regroup false b c = refl

  has_filter : (xs ys : List S) (s : S) → has xs s ≡ false → has ys s ≡ true → has (filter (λ t. not (has xs t)) ys) s ≡ true
  has_filter xs [] s f h = cc
  has_filter xs (y ∷ ys) s f h = elim (true_or_false (same y s)) [
    | inl e ↦
        let is : y ≡ s = same_is y s e in
        let kept : not (has xs y) ≡ true = ap (λ t. not (has xs t)) is ∙ ap not f in
        subst (λ v. has (if v then y ∷ filter (λ t. not (has xs t)) ys else filter (λ t. not (has xs t)) ys) s ≡ true) (sym kept) (or_left (same y s) _ e)
    | inr d ↦
        let later : has (filter (λ t. not (has xs t)) ys) s ≡ true = has_filter xs ys s f (sym (ap (λ v. v || has ys s) d) ∙ h) in
        elim (true_or_false (not (has xs y))) [
          | inl k ↦ subst (λ v. has (if v then y ∷ filter (λ t. not (has xs t)) ys else filter (λ t. not (has xs t)) ys) s ≡ true) (sym k) (or_right (same y s) _ later)
          | inr k ↦ subst (λ v. has (if v then y ∷ filter (λ t. not (has xs t)) ys else filter (λ t. not (has xs t)) ys) s ≡ true) (sym k) later
        ]
  ]

  merge_left : (xs ys : List S) (s : S) → has xs s ≡ true → has (merge xs ys) s ≡ true
  merge_left xs ys s h = has_append xs (filter (λ t. not (has xs t)) ys) s ∙ or_left _ _ h

  merge_right : (xs ys : List S) (s : S) → has ys s ≡ true → has (merge xs ys) s ≡ true
  merge_right xs ys s h = elim (true_or_false (has xs s)) [
    | inl t ↦ merge_left xs ys s t
    | inr f ↦ has_append xs (filter (λ t. not (has xs t)) ys) s ∙ or_right (has xs s) _ (has_filter xs ys s f h)
  ]

  pub within_has : (xs ys : List S) (s : S) → within xs ys ≡ true → has xs s ≡ true → has ys s ≡ true
  within_has [] ys s w h = cc
  within_has (x ∷ xs) ys s w h = elim (or_cases (same x s) (has xs s) h) [
    | inl e ↦ ap (has ys) (sym (same_is x s e)) ∙ (and_parts (has ys x) (within xs ys) w).0
    | inr k ↦ within_has xs ys s (and_right (has ys x) (within xs ys) w) k
  ]

  -- what adds nothing
  filter_none : (xs ys : List S) → within ys xs ≡ true → filter (λ t. not (has xs t)) ys ≡ []
  filter_none xs [] w = refl
  filter_none xs (y ∷ ys) w =
      ap (λ v. if not v then y ∷ filter (λ t. not (has xs t)) ys else filter (λ t. not (has xs t)) ys) ((and_parts (has xs y) (within ys xs) w).0)
      ∙ filter_none xs ys (and_right (has xs y) (within ys xs) w)

  merge_none : (xs ys : List S) → within ys xs ≡ true → merge xs ys ≡ xs
  merge_none xs ys w = ap (λ zs. xs ++ zs) (filter_none xs ys w) ∙ append-nil xs

  -- states that a step from some may lead to, step by step
  abbrev pub grow : (List S → List S) → ℕ → List S → List S
  grow step zero states = states
  grow step (suc n) states = grow step n (merge states (step states))

  grow_first : (step : List S → List S) (n : ℕ) (states : List S) (s : S) → has states s ≡ true → has (grow step n states) s ≡ true
  grow_first step zero states s h = h
  grow_first step (suc n) states s h = grow_first step n (merge states (step states)) s (merge_left states (step states) s h)

  grow_closed : (step : List S → List S) (n : ℕ) (states : List S) → within (step states) states ≡ true → grow step n states ≡ states
  grow_closed step zero states w = refl
  grow_closed step (suc n) states w = ap (grow step n) (merge_none states (step states) w) ∙ grow_closed step n states w

  -- Over a grammar, with its kinds of tokens, and the states that a token of a kind may lead to
  -- from a state.
  module _ {C N : Type 0} (production : N → Part C N) (kinds : List C) (every_kind : (c : C) → In c kinds) (next : S → C → List S) (entry exit : N → List S) where
    abbrev pub by_kind : List S → C → List S
    by_kind [] c = []
    by_kind (s ∷ states) c = merge (next s c) (by_kind states c)

    abbrev pub by_test : (C → Bool) → List C → List S → List S
    by_test test [] states = []
    by_test test (c ∷ cs) states = if test c then merge (by_kind states c) (by_test test cs states) else by_test test cs states

    -- the states after a part that is begun in these states
    abbrev pub flow : Part C N → List S → List S
    flow (one test) states = by_test test kinds states
    flow (the n) states = exit n
    flow (p · q) states = flow q (flow p states)
    flow (p ∣ q) states = merge (flow p states) (flow q states)
    flow (opt p) states = merge states (flow p states)
    flow (many p) states = grow (flow p) 3 states

    -- whether each nonterminal of a part that is begun in these states is begun in states that are
    -- claimed of it
    abbrev pub is_claimed : Part C N → List S → Bool
    is_claimed (one test) states = true
    is_claimed (the n) states = within states (entry n)
    is_claimed (p · q) states = is_claimed p states && is_claimed q (flow p states)
    is_claimed (p ∣ q) states = is_claimed p states && is_claimed q states
    is_claimed (opt p) states = is_claimed p states
    is_claimed (many p) states = is_claimed p (grow (flow p) 3 states) && within (flow p (grow (flow p) 3 states)) (grow (flow p) 3 states)

    -- what is claimed of a nonterminal is so
    abbrev pub is_right : N → Bool
    is_right n = is_claimed (production n) (entry n) && within (flow (production n) (entry n)) (exit n)

    kind_has : (states : List S) (c : C) (s t : S) → has states s ≡ true → has (next s c) t ≡ true → has (by_kind states c) t ≡ true
    kind_has [] c s t h k = cc
    kind_has (x ∷ states) c s t h k = elim (or_cases (same x s) (has states s) h) [
      | inl e ↦ merge_left (next x c) (by_kind states c) t (ap (λ y. has (next y c) t) (same_is x s e) ∙ k)
      | inr o ↦ merge_right (next x c) (by_kind states c) t (kind_has states c s t o k)
    ]

    test_has : (test : C → Bool) (cs : List C) (states : List S) (c : C) (t : S) → In c cs → test c ≡ true → has (by_kind states c) t ≡ true → has (by_test test cs states) t ≡ true
    test_has test [] states c t i p h = absurd i
    test_has test (x ∷ cs) states c t (inl e) p h =
        subst (λ v. has (if v then merge (by_kind states x) (by_test test cs states) else by_test test cs states) t ≡ true) (sym (ap test e ∙ p))
        (merge_left (by_kind states x) (by_test test cs states) t (ap (λ y. has (by_kind states y) t) e ∙ h))
    test_has test (x ∷ cs) states c t (inr i) p h = by (test x) (test_has test cs states c t i p h)
      where
        by : (v : Bool) → has (by_test test cs states) t ≡ true → has (if v then merge (by_kind states x) (by_test test cs states) else by_test test cs states) t ≡ true
        by true k = merge_right (by_kind states x) (by_test test cs states) t k
        by false k = k

    module _ {D : Type 0} (claims : (n : N) → is_right n ≡ true) where
      -- tokens may lead from a state to another
      abbrev pub Leads : S → List (C × D) → S → Type 0
      Leads s [] last = last ≡ s
      Leads s (token ∷ tokens) last = (t : S) × (has (next s token.0) t ≡ true) × Leads t tokens last

      leads_append : (u v : List (C × D)) (s last : S) → Leads s (u ++ v) last → (t : S) × Leads s u t × Leads t v last
      leads_append [] v s last l = (s, refl, l)
      leads_append (token ∷ u) v s last l = let r = leads_append u v l.0 last l.2 in (r.0, (l.0, l.1, r.1), r.2)

      -- what is derived leads where it is claimed
      pub flows : (p : Part C N) (tree : DerivationTree (C × D)) → IsTree production p tree → (states : List S) → is_claimed p states ≡ true → (s last : S) → has states s ≡ true → Leads s (yield tree) last → has (flow p states) last ≡ true
      flows (one test) (leaf token) is_tree states ok s last h l =
          test_has test kinds states token.0 last (every_kind token.0) is_tree (ap (has (by_kind states token.0)) l.2 ∙ kind_has states token.0 s l.0 h l.1)
      flows (the n) (node tree) is_tree states ok s last h l =
          within_has (flow (production n) (entry n)) (exit n) last (and_right (is_claimed (production n) (entry n)) _ (claims n))
          (flows (production n) tree is_tree (entry n) ((and_parts (is_claimed (production n) (entry n)) _ (claims n)).0) s last (within_has states (entry n) s ok h) l)
      flows (p · q) (pair a b) is_tree states ok s last h l =
          let between = leads_append (yield a) (yield b) s last l in
          flows q b is_tree.1 (flow p states) (and_right (is_claimed p states) _ ok) between.0 last
          (flows p a is_tree.0 states ((and_parts (is_claimed p states) _ ok).0) s between.0 h between.1) between.2
      flows (p ∣ q) (left tree) is_tree states ok s last h l = merge_left (flow p states) (flow q states) last (flows p tree is_tree states ((and_parts (is_claimed p states) _ ok).0) s last h l)
      flows (p ∣ q) (right tree) is_tree states ok s last h l = merge_right (flow p states) (flow q states) last (flows q tree is_tree states (and_right (is_claimed p states) _ ok) s last h l)
      flows (opt p) none is_tree states ok s last h l = merge_left states (flow p states) last (ap (has states) l ∙ h)
      flows (opt p) (some tree) is_tree states ok s last h l = merge_right states (flow p states) last (flows p tree is_tree states ok s last h l)
      flows (many p) none is_tree states ok s last h l = ap (has (grow (flow p) 3 states)) l ∙ grow_first (flow p) 3 states s h
      flows (many p) (more a b) is_tree states ok s last h l =
          let all : List S = grow (flow p) 3 states in
          let closed : within (flow p all) all ≡ true = and_right (is_claimed p all) _ ok in
          let once : is_claimed p all ≡ true = (and_parts (is_claimed p all) (within (flow p all) all) ok).0 in
          let still : grow (flow p) 3 all ≡ all = grow_closed (flow p) 3 all closed in
          let between = leads_append (yield a) (yield b) s last l in
          let following : has all between.0 ≡ true = within_has (flow p all) all between.0 closed (flows p a is_tree.0 all once s between.0 (grow_first (flow p) 3 states s h) between.1) in
          ap (λ (xs : List S). has xs last) (sym still)
          ∙ flows (many p) b is_tree.1 all (ap (λ (xs : List S). is_claimed p xs && within (flow p xs) xs) still ∙ ok) between.0 last following between.2
      flows _ _ is_tree states ok s last h l = absurd is_tree
