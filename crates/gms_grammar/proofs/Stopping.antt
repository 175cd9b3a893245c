-- Tokens cease to begin anything at one place.
use Rattle.std.proofs.Common.{◌≡◌, List, [], ◌∷◌, ◌++◌, refl, sym, ap, subst, ◌∙◌, append_assoc}
use Rattle.gms_grammar.specs.Grammar.{Part, IsUnexpected, Begins, Stops}
use Rattle.gms_grammar.proofs.Basics.{after_same, end_nil}

-- How two prefixes of the same list compare: they are equal, or one is longer.
data Compared {T : Type 0} (prefix other : List T) : Type 0 where
  same : prefix ≡ other → Compared prefix other
  shorter : (x : T) (w : List T) → other ≡ prefix ++ (x ∷ w) → Compared prefix other
  longer : (x : T) (w : List T) → prefix ≡ other ++ (x ∷ w) → Compared prefix other

compare : {T : Type 0} (prefix rest other following : List T) → prefix ++ rest ≡ other ++ following → Compared prefix other
compare [] rest [] following e = same refl
compare [] rest (x ∷ other) following e = shorter x other refl
compare (x ∷ prefix) rest [] following e = longer x prefix refl
compare (x ∷ prefix) rest (y ∷ other) following e = go (compare prefix rest other following cc)
  where
    equal : x ≡ y
    equal = cc

    go : Compared prefix other → Compared (x ∷ prefix) (y ∷ other)
    go (same h) = same cc
    go (shorter z w h) = shorter z w cc
    go (longer z w h) = longer z w cc

module _ {C N D : Type 0} (production : N → Part C N) where
  -- what begins with more tokens begins with fewer
  begins_less : (part : Part C N) (prefix w : List (C × D)) → Begins production part (prefix ++ w) → Begins production part prefix
  begins_less part prefix w b =
      record {
        further = w ++ b.further;
        derives = record {
          tree = b.derives.tree;
          is_tree = b.derives.is_tree;
          yields = b.derives.yields ∙ append_assoc prefix w b.further;
        };
      }

  -- a prefix does not stop if a longer one begins something
  not_shorter : (part : Part C N) (tokens prefix rest other following : List (C × D)) (x : C × D) (w : List (C × D)) → Stops production part tokens prefix rest → tokens ≡ other ++ following → Begins production part other → other ≡ prefix ++ (x ∷ w) → ⊥
  not_shorter part tokens prefix rest other following x w s parts b e =
      go rest s.ends (after_same prefix rest ((x ∷ w) ++ following) (sym s.parts ∙ parts ∙ ap (λ u. u ++ following) e ∙ append_assoc prefix (x ∷ w) following))
    where
      begins : Begins production part (prefix ++ (x ∷ []))
      begins = begins_less part (prefix ++ (x ∷ [])) w (subst (λ u. Begins production part u) (e ∙ sym (append_assoc prefix (x ∷ []) w)) b)

      go : (rest : List (C × D)) → IsUnexpected production part prefix rest → rest ≡ x ∷ (w ++ following) → ⊥
      go [] u h = cc
      go (y ∷ rest) u h =
          let equal : x ≡ y = cc in
          u (subst (λ z. Begins production part (prefix ++ (z ∷ []))) equal begins)

  -- what begins a part is no longer than the prefix at which tokens cease to begin it
  pub prefix_begins : (part : Part C N) (tokens prefix rest other following : List (C × D)) → Stops production part tokens prefix rest → tokens ≡ other ++ following → Begins production part other → (more : List (C × D)) × (prefix ≡ other ++ more)
  prefix_begins part tokens prefix rest other following s e b = go (compare prefix rest other following (sym s.parts ∙ e))
    where
      go : Compared prefix other → (more : List (C × D)) × (prefix ≡ other ++ more)
      go (same h) = ([], h ∙ sym (end_nil other))
      go (shorter x w h) = absurd (not_shorter part tokens prefix rest other following x w s e b h)
      go (longer x w h) = (x ∷ w, h)

  -- tokens stop at one place
  pub stops_once : (part : Part C N) (tokens prefix rest other following : List (C × D)) → Stops production part tokens prefix rest → Stops production part tokens other following → prefix ≡ other
  stops_once part tokens prefix rest other following s t = go (compare prefix rest other following (sym s.parts ∙ t.parts))
    where
      go : Compared prefix other → prefix ≡ other
      go (same h) = h
      go (shorter x w h) = absurd (not_shorter part tokens prefix rest other following x w s t.parts t.begins h)
      go (longer x w h) = absurd (not_shorter part tokens other following prefix rest x w t s.parts s.begins h)
