-- What a part derives, determined by its parts, without a tree: the form in which two parts are
-- best compared.
use Rattle.std.proofs.Common.{◌≡◌, ◌↔◌, Bool, true, List, [], ◌∷◌, ◌++◌, refl, ap₂, subst}
use Rattle.gms_grammar.specs.Grammar.{Part, one, the, ◌·◌, ◌∣◌, opt, many, DerivationTree, leaf, pair, left, right, none, some, more, node, yield, IsTree, Derives}

module _ {C N D : Type 0} (production : N → Part C N) where
  -- A part derives the tokens.
  pub data Has : Part C N → List (C × D) → Type 0 where
    single : {test : C → Bool} {token : C × D} → test token.0 ≡ true → Has (one test) (token ∷ [])
    whole : {n : N} {tokens : List (C × D)} → Has (production n) tokens → Has (the n) tokens
    both : {p q : Part C N} {u v : List (C × D)} → Has p u → Has q v → Has (p · q) (u ++ v)
    first : {p q : Part C N} {tokens : List (C × D)} → Has p tokens → Has (p ∣ q) tokens
    second : {p q : Part C N} {tokens : List (C × D)} → Has q tokens → Has (p ∣ q) tokens
    absent : {p : Part C N} → Has (opt p) []
    present : {p : Part C N} {tokens : List (C × D)} → Has p tokens → Has (opt p) tokens
    over : {p : Part C N} → Has (many p) []
    again : {p : Part C N} {u v : List (C × D)} → Has p u → Has (many p) v → Has (many p) (u ++ v)

  has : (part : Part C N) (t : DerivationTree (C × D)) → IsTree production part t → Has part (yield t)
  has (one test) (leaf token) h = single h
  has (the n) (node t) h = whole (has (production n) t h)
  has (p · q) (pair a b) h = both (has p a h.0) (has q b h.1)
  has (p ∣ q) (left t) h = first (has p t h)
  has (p ∣ q) (right t) h = second (has q t h)
  has (opt p) none h = absent
  has (opt p) (some t) h = present (has p t h)
  has (many p) none h = over
  has (many p) (more a b) h = again (has p a h.0) (has (many p) b h.1)
  has _ _ h = absurd h

  derives : {part : Part C N} {tokens : List (C × D)} → Has part tokens → Derives production part tokens
  derives (single {token = token} h) = record { tree = leaf token; is_tree = h; yields = refl }
  derives (whole h) = record { tree = node (derives h).tree; is_tree = (derives h).is_tree; yields = (derives h).yields }
  derives (both h k) =
      record {
        tree = pair (derives h).tree (derives k).tree;
        is_tree = ((derives h).is_tree, (derives k).is_tree);
        yields = ap₂ (λ u v. u ++ v) (derives h).yields (derives k).yields;
      }
  derives (first h) = record { tree = left (derives h).tree; is_tree = (derives h).is_tree; yields = (derives h).yields }
  derives (second h) = record { tree = right (derives h).tree; is_tree = (derives h).is_tree; yields = (derives h).yields }
  derives absent = record { tree = none; is_tree = tt; yields = refl }
  derives (present h) = record { tree = some (derives h).tree; is_tree = (derives h).is_tree; yields = (derives h).yields }
  derives over = record { tree = none; is_tree = tt; yields = refl }
  derives (again h k) =
      record {
        tree = more (derives h).tree (derives k).tree;
        is_tree = ((derives h).is_tree, (derives k).is_tree);
        yields = ap₂ (λ u v. u ++ v) (derives h).yields (derives k).yields;
      }

  -- what is derived, with its tokens in other words
  pub same : {part : Part C N} {u v : List (C × D)} → Has part u → u ≡ v → Has part v
  same {part = part} h e = subst (λ w. Has part w) e h

  -- two parts derive the same, where each has what the other has
  pub derive_alike : (part other : Part C N) → ((tokens : List (C × D)) → Has part tokens → Has other tokens) → ((tokens : List (C × D)) → Has other tokens → Has part tokens) → (tokens : List (C × D)) → Derives production part tokens ↔ Derives production other tokens
  derive_alike part other there back tokens =
      (λ d. derives (there tokens (same (has part d.tree d.is_tree) d.yields)), λ d. derives (back tokens (same (has other d.tree d.is_tree) d.yields)))
