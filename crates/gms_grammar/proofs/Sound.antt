-- A reader's result is right: the tree is one of the part, and the tokens are those of the tree, or
-- those read, and the rest.
use Rattle.std.proofs.Common.{◌≡◌, Bool, false, List, [], ◌∷◌, ◌++◌, refl, sym, ap, ◌∙◌}
use Rattle.gms_grammar.specs.Grammar.{Part, the, ◌·◌, ◌∣◌, opt, many, yield, IsTree}
use Rattle.gms_grammar.specs.LookAhead.{LookAhead, may_be_empty, may_begin, IsDecided, DecidesEach}
use Rattle.gms_grammar.specs.Reading.{Found, read, stuck, leads, Reads, taken, refused, entered, entered_stuck, both, first_stuck, second_stuck, in_left, in_left_stuck, in_right, in_right_stuck, in_neither, left_out, there, there_stuck, no_more, again, again_stuck, later_stuck}
use Rattle.gms_grammar.proofs.Basics.{or_both, and_first, and_second, both_ways, first_empty, second_empty, regrouped}

module _ {C N D : Type 0} (production : N → Part C N) (ahead : LookAhead C N) where
  -- the tokens are those of what was found
  abbrev pub IsFound : Part C N → List (C × D) → Found (C × D) → Type 0
  IsFound part tokens (read tree rest) = IsTree production part tree × (tokens ≡ yield tree ++ rest)
  IsFound part tokens (stuck prefix rest) = tokens ≡ prefix ++ rest

  pub sound : {part : Part C N} {tokens : List (C × D)} {found : Found (C × D)} → Reads production ahead part tokens found → IsFound part tokens found
  sound (taken h) = (h, refl)
  sound (refused h) = refl
  sound (entered r) = sound r
  sound (entered_stuck r) = sound r
  sound (both r s) = (((sound r).0, (sound s).0), regrouped _ _ _ _ _ (sound r).1 (sound s).1)
  sound (first_stuck r) = sound r
  sound (second_stuck r s) = regrouped _ _ _ _ _ (sound r).1 (sound s)
  sound (in_left h r) = sound r
  sound (in_left_stuck h r) = sound r
  sound (in_right h k r) = sound r
  sound (in_right_stuck h k r) = sound r
  sound (in_neither h k) = refl
  sound (left_out h) = (tt, refl)
  sound (there h r) = sound r
  sound (there_stuck h r) = sound r
  sound (no_more h) = (tt, refl)
  sound (again h r s) = (((sound r).0, (sound s).0), regrouped _ _ _ _ _ (sound r).1 (sound s).1)
  sound (again_stuck h r) = sound r
  sound (later_stuck h r s) = regrouped _ _ _ _ _ (sound r).1 (sound s)

  -- the tokens do not lead into a part that begins as another into which they do not lead
  leads_as : (p q : Part C N) (tokens : List (C × D)) → ((c : C) → may_begin ahead q c ≡ may_begin ahead p c) → leads production ahead p tokens ≡ false → leads production ahead q tokens ≡ false
  leads_as p q [] same h = refl
  leads_as p q (x ∷ tokens) same h = same x.0 ∙ h

  leads_either : (p q : Part C N) (tokens : List (C × D)) → leads production ahead p tokens ≡ false → leads production ahead q tokens ≡ false → leads production ahead (p ∣ q) tokens ≡ false
  leads_either p q [] h k = refl
  leads_either p q (x ∷ tokens) h k = or_both _ _ h k

  leads_pair : (p q : Part C N) (tokens : List (C × D)) → leads production ahead p tokens ≡ false → leads production ahead q tokens ≡ false → leads production ahead (p · q) tokens ≡ false
  leads_pair p q [] h k = refl
  leads_pair p q (x ∷ tokens) h k = or_both _ _ h (and_second (may_be_empty ahead p) _ k)

  leads_first : (p q : Part C N) (tokens : List (C × D)) → leads production ahead p tokens ≡ false → may_be_empty ahead p ≡ false → leads production ahead (p · q) tokens ≡ false
  leads_first p q [] h k = refl
  leads_first p q (x ∷ tokens) h k = or_both _ _ h (and_first _ _ k)

module _ {C N D : Type 0} (production : N → Part C N) (ahead : LookAhead C N) (ok : DecidesEach ahead production) where
  -- where nothing is taken, the first token does not lead into the part
  abbrev pub Took : Part C N → List (C × D) → Found (C × D) → Type 0
  Took part tokens (read tree rest) = yield tree ≡ [] → leads production ahead part tokens ≡ false
  Took part tokens (stuck prefix rest) = prefix ≡ [] → (leads production ahead part tokens ≡ false) × (may_be_empty ahead part ≡ false)

  pub took : {part : Part C N} {tokens : List (C × D)} {found : Found (C × D)} → Reads production ahead part tokens found → (after : C → Bool) → IsDecided ahead part after → Took part tokens found
  took (taken h) after d = λ e. cc
  took (refused h) after d = λ e. (h, refl)
  took (entered {n = n} r) after d = λ e. leads_as production ahead (production n) (the n) _ (λ c. sym (ok.first_is n c)) (took r (ahead.follow n) (ok.decided n) e)
  took (entered_stuck {n = n} r) after d = λ e. let u = took r (ahead.follow n) (ok.decided n) e in (leads_as production ahead (production n) (the n) _ (λ c. sym (ok.first_is n c)) u.0, sym (ok.empty_is n) ∙ u.1)
  took (both {p = p} {q = q} {tokens = tokens} {between = between} {a = a} {b = b} r s) after d = λ e.
      let none_a : yield a ≡ [] = first_empty _ _ e in
      let same : tokens ≡ between = (sound production ahead r).1 ∙ ap (λ w. w ++ between) none_a in
      leads_pair production ahead p q _ (took r _ d.0 none_a) (ap (leads production ahead q) same ∙ took s _ d.1 (second_empty _ _ e))
  took (first_stuck {p = p} {q = q} r) after d = λ e. let u = took r _ d.0 e in (leads_first production ahead p q _ u.0 u.1, and_first _ _ u.1)
  took (second_stuck {p = p} {q = q} {tokens = tokens} {between = between} {a = a} r s) after d = λ e.
      let none_a : yield a ≡ [] = first_empty _ _ e in
      let same : tokens ≡ between = (sound production ahead r).1 ∙ ap (λ w. w ++ between) none_a in
      let u = took s _ d.1 (second_empty _ _ e) in
      (leads_pair production ahead p q _ (took r _ d.0 none_a) (ap (leads production ahead q) same ∙ u.0), and_second (may_be_empty ahead p) _ u.1)
  took (in_left h r) after d = λ e. absurd (both_ways _ h (took r after d.3 e))
  took (in_left_stuck h r) after d = λ e. absurd (both_ways _ h (took r after d.3 e).0)
  took (in_right h k r) after d = λ e. absurd (both_ways _ k (took r after d.4 e))
  took (in_right_stuck h k r) after d = λ e. absurd (both_ways _ k (took r after d.4 e).0)
  took (in_neither {p = p} {q = q} h k) after d = λ e. (leads_either production ahead p q _ h k, or_both _ _ d.0 d.1)
  took (left_out {p = p} h) after d = λ e. leads_as production ahead p (opt p) _ (λ c. refl) h
  took (there h r) after d = λ e. absurd (both_ways _ h (took r after d.2 e))
  took (there_stuck h r) after d = λ e. absurd (both_ways _ h (took r after d.2 e).0)
  took (no_more {p = p} h) after d = λ e. leads_as production ahead p (many p) _ (λ c. refl) h
  took (again h r s) after d = λ e. absurd (both_ways _ h (took r _ d.2 (first_empty _ _ e)))
  took (again_stuck h r) after d = λ e. absurd (both_ways _ h (took r _ d.2 e).0)
  took (later_stuck h r s) after d = λ e. absurd (both_ways _ h (took r _ d.2 (first_empty _ _ e)))
