-- The tree of tokens by a grammar that one token of look-ahead decides, computed.
use Rattle.std.proofs.Common.{◌≡◌, ℕ, zero, suc, Bool, true, false, List, [], ◌∷◌, ◌++◌, Option, Some, None, refl, sym, ap, ◌∙◌, append_assoc}
use Rattle.gms_grammar.specs.Grammar.{Part, one, the, ◌·◌, ◌∣◌, opt, many, DerivationTree, leaf, pair, left, right, none, some, more, node, yield, IsTree}
use Rattle.gms_grammar.specs.LookAhead.{LookAhead}
use Rattle.gms_grammar.specs.Reading.{leads}

-- a tree and the tokens after it, or none
abbrev pub Taken : Type 0 → Type 0
Taken T = Option (DerivationTree T × List T)

abbrev changed : {T : Type 0} → (DerivationTree T → DerivationTree T) → Taken T → Taken T
changed change None = None
changed change (Some found) = Some (change found.0, found.1)

abbrev joined : {T : Type 0} → (DerivationTree T → DerivationTree T → DerivationTree T) → DerivationTree T → Taken T → Taken T
joined join a None = None
joined join a (Some found) = Some (join a found.0, found.1)

abbrev then_read : {T : Type 0} → (DerivationTree T → DerivationTree T → DerivationTree T) → Taken T → (List T → Taken T) → Taken T
then_read join None next = None
then_read join (Some found) next = joined join found.0 (next found.1)

module _ {C N D : Type 0} (production : N → Part C N) (ahead : LookAhead C N) where
  -- a reader of parts, by one that has less fuel
  abbrev read_with : (Part C N → List (C × D) → Taken (C × D)) → Part C N → List (C × D) → Taken (C × D)
  read_with next (one test) [] = None
  read_with next (one test) (token ∷ tokens) = elim (test token.0) [ true ↦ Some (leaf token, tokens) | false ↦ None ]
  read_with next (the n) tokens = changed (λ tree. node tree) (next (production n) tokens)
  read_with next (p · q) tokens = then_read (λ a b. pair a b) (read_with next p tokens) (read_with next q)
  read_with next (p ∣ q) tokens =
      elim (leads production ahead p tokens) [ true ↦ changed (λ tree. left tree) (read_with next p tokens) | false ↦ changed (λ tree. right tree) (read_with next q tokens) ]
  read_with next (opt p) tokens =
      elim (leads production ahead p tokens) [ true ↦ changed (λ tree. some tree) (read_with next p tokens) | false ↦ Some (none, tokens) ]
  read_with next (many p) tokens =
      elim (leads production ahead p tokens) [ true ↦ then_read (λ a b. more a b) (read_with next p tokens) (next (many p)) | false ↦ Some (none, tokens) ]

  -- the tree of a part with which tokens begin, as far as the fuel lasts
  abbrev pub read_part : ℕ → Part C N → List (C × D) → Taken (C × D)
  read_part zero part tokens = None
  read_part (suc fuel) part tokens = read_with (read_part fuel) part tokens

  -- the tree is one of the part, and the tokens are its own and those after it
  abbrev pub IsTaken : Part C N → List (C × D) → Taken (C × D) → Type 0
  IsTaken part tokens None = Unit {0}
  IsTaken part tokens (Some found) = IsTree production part found.0 × (tokens ≡ yield found.0 ++ found.1)

  one_taken : (test : C → Bool) (token : C × D) (tokens : List (C × D)) (b : Bool) → test token.0 ≡ b → IsTaken (one test) (token ∷ tokens) (elim b [ true ↦ Some (leaf token, tokens) | false ↦ None ])
  one_taken test token tokens true e = (e, refl)
  one_taken test token tokens false e = tt

  either : (part : Part C N) (tokens : List (C × D)) (b : Bool) (first second : Taken (C × D)) → IsTaken part tokens first → IsTaken part tokens second → IsTaken part tokens (elim b [ true ↦ first | false ↦ second ])
  either part tokens true first second h k = h
  either part tokens false first second h k = k

  within : (p q : Part C N) (tokens : List (C × D)) (change : DerivationTree (C × D) → DerivationTree (C × D)) → ((tree : DerivationTree (C × D)) → IsTree production p tree → IsTree production q (change tree)) → ((tree : DerivationTree (C × D)) → yield (change tree) ≡ yield tree) → (found : Taken (C × D)) → IsTaken p tokens found → IsTaken q tokens (changed change found)
  within p q tokens change is yields None h = tt
  within p q tokens change is yields (Some found) h =
      (is found.0 h.0, h.1 ∙ ap (λ (us : List (C × D)). us ++ found.1) (sym (yields found.0)))

  both : (p q part : Part C N) (tokens : List (C × D)) (join : DerivationTree (C × D) → DerivationTree (C × D) → DerivationTree (C × D)) → ((a b : DerivationTree (C × D)) → IsTree production p a → IsTree production q b → IsTree production part (join a b)) → ((a b : DerivationTree (C × D)) → yield (join a b) ≡ yield a ++ yield b) → (next : List (C × D) → Taken (C × D)) → ((us : List (C × D)) → IsTaken q us (next us)) → (found : Taken (C × D)) → IsTaken p tokens found → IsTaken part tokens (then_read join found next)
  both p q part tokens join is yields next then None h = tt
  both p q part tokens join is yields next then (Some a) h = go (next a.1) (then a.1)
    where
      go : (o : Taken (C × D)) → IsTaken q a.1 o → IsTaken part tokens (joined join a.0 o)
      go None k = tt
      go (Some b) k = (
        is a.0 b.0 h.0 k.0,
        h.1 ∙ ap (λ (us : List (C × D)). yield a.0 ++ us) k.1 ∙ sym (append_assoc (yield a.0) (yield b.0) b.1) ∙ ap (λ (us : List (C × D)). us ++ b.1) (sym (yields a.0 b.0)),
      )

  taken_with : (next : Part C N → List (C × D) → Taken (C × D)) → ((part : Part C N) (tokens : List (C × D)) → IsTaken part tokens (next part tokens)) → (part : Part C N) (tokens : List (C × D)) → IsTaken part tokens (read_with next part tokens)
  taken_with next sound (one test) [] = tt
  taken_with next sound (one test) (token ∷ tokens) = one_taken test token tokens (test token.0) refl
  taken_with next sound (the n) tokens = within (production n) (the n) tokens (λ tree. node tree) (λ tree h. h) (λ tree. refl) (next (production n) tokens) (sound (production n) tokens)
  taken_with next sound (p · q) tokens =
      both p q (p · q) tokens (λ a b. pair a b) (λ a b h k. (h, k)) (λ a b. refl) (read_with next q) (taken_with next sound q) (read_with next p tokens) (taken_with next sound p tokens)
  taken_with next sound (p ∣ q) tokens =
      either (p ∣ q) tokens (leads production ahead p tokens) _ _
      (within p (p ∣ q) tokens (λ tree. left tree) (λ tree h. h) (λ tree. refl) (read_with next p tokens) (taken_with next sound p tokens))
      (within q (p ∣ q) tokens (λ tree. right tree) (λ tree h. h) (λ tree. refl) (read_with next q tokens) (taken_with next sound q tokens))
  taken_with next sound (opt p) tokens =
      either (opt p) tokens (leads production ahead p tokens) _ _
      (within p (opt p) tokens (λ tree. some tree) (λ tree h. h) (λ tree. refl) (read_with next p tokens) (taken_with next sound p tokens))
      (tt, refl)
  taken_with next sound (many p) tokens =
      either (many p) tokens (leads production ahead p tokens) _ _
      (both p (many p) (many p) tokens (λ a b. more a b) (λ a b h k. (h, k)) (λ a b. refl) (next (many p)) (sound (many p)) (read_with next p tokens) (taken_with next sound p tokens))
      (tt, refl)

  pub taken : (fuel : ℕ) (part : Part C N) (tokens : List (C × D)) → IsTaken part tokens (read_part fuel part tokens)
  taken zero part tokens = tt
  taken (suc fuel) part tokens = taken_with (read_part fuel) (taken fuel) part tokens
