-- What an assignment that gives no element twice leaves at an element.
use Rattle.std.proofs.Common.{◌≡◌, ◌⊎◌, ◌∙◌, ℕ, Bool, true, false, List, [], ◌∷◌, ◌++◌, cond, reverse, Option, Some, None, option_map, refl, sym, ap, subst, inl, inr, true≢false}
use Rattle.std.specs.List.{AllByRecursion, IsDistinct, find}
use Rattle.std.specs.Option.{option_or}
use Rattle.std.proofs.lemmas.List.{reverse-append}
use Rattle.gq_extended.specs.Extended.{Extended}
use Rattle.gms_tuple.specs.TupleOrder.{same_tuple}
use Rattle.gms_tuple.proofs.Ordered.{same_tuple-Decides, same_tuple_refl}
use Rattle.gms_exec.specs.Given.{Given, member, value_is, AllGiven, members_given, values_given}
use Rattle.gms_exec.specs.Once.{IsOnce}
use Rattle.gms_exec.specs.Reads.{last_at, membership_at, given_value}

-- an element of a list
abbrev pub In : {A : Type 0} → A → List A → Type 0
In x [] = ⊥
In x (y ∷ ys) = (y ≡ x) ⊎ In x ys

-- ---- the last of pairs at a tuple

module _ {A : Type 0} (t : List ℕ) where
  abbrev first : List (List ℕ × A) → Option A
  first pairs = option_map (λ (p : List ℕ × A). p.1) (find (λ (p : List ℕ × A). same_tuple p.0 t) pairs)

  abbrev one : List ℕ × A → Option A
  one p = cond (same_tuple p.0 t) (Some p.1) None

  found_after : (pairs : List (List ℕ × A)) (last : List ℕ × A) → first (pairs ++ last ∷ []) ≡ option_or (first pairs) (one last)
  found_after [] last = elim (same_tuple last.0 t) as (λ b. option_map (λ (p : List ℕ × A). p.1) (cond b (Some last) None) ≡ cond b (Some last.1) None) [ true ↦ refl | false ↦ refl ]
  found_after (p ∷ pairs) last = by_test (found_after pairs last) (same_tuple p.0 t)
    where
      by_test : first (pairs ++ last ∷ []) ≡ option_or (first pairs) (one last) → (b : Bool)
          → option_map (λ (q : List ℕ × A). q.1) (cond b (Some p) (find (λ (q : List ℕ × A). same_tuple q.0 t) (pairs ++ last ∷ [])))
          ≡ option_or (option_map (λ (q : List ℕ × A). q.1) (cond b (Some p) (find (λ (q : List ℕ × A). same_tuple q.0 t) pairs))) (cond (same_tuple last.0 t) (Some last.1) None)
      by_test later true = refl
      by_test later false = later

  -- a later pair at the tuple, or this one
  last_cons : (p : List ℕ × A) (pairs : List (List ℕ × A)) → last_at (p ∷ pairs) t ≡ option_or (last_at pairs t) (cond (same_tuple p.0 t) (Some p.1) None)
  last_cons p pairs = ap first (reverse-append (p ∷ []) pairs) ∙ found_after (reverse pairs) p

-- ---- what elements are given

apart : (u t : List ℕ) → (u ≡ t → ⊥) → same_tuple u t ≡ false
apart u t other = by (same_tuple u t) refl
  where
    by : (b : Bool) → same_tuple u t ≡ b → same_tuple u t ≡ false
    by true same = absurd (other ((same_tuple-Decides u t).0 same))
    by false same = same

-- where nothing is given to a tuple
pub value-none : (all : AllGiven) (t : List ℕ) → ((given : Given) → In (t, given) all → ⊥) → given_value all t ≡ None
value-none [] t none = refl
value-none ((u, member on) ∷ rest) t none = value-none rest t (λ given there. none given (inr there))
value-none ((u, value_is y) ∷ rest) t none =
    last_cons t (u, y) (values_given rest)
    ∙ ap (λ (o : Option Extended). option_or o (cond (same_tuple u t) (Some y) None)) (value-none rest t (λ given there. none given (inr there)))
    ∙ ap (λ (b : Bool). cond b (Some y) None) (apart u t (λ same. none (value_is y) (inl (ap (λ (w : List ℕ). (w, value_is y)) same))))

-- of elements whose tuples differ from one, none has it
not_among : (t : List ℕ) (all : AllGiven) → AllByRecursion (λ (b : List ℕ × Given). same_tuple t b.0 ≡ false) all → (given : Given) → In (t, given) all → ⊥
not_among t [] differ given there = there
not_among t (one ∷ rest) differ given (inl is) =
    true≢false (sym (same_tuple_refl t) ∙ ap (λ (g : List ℕ × Given). same_tuple t g.0) (sym is) ∙ differ.0)
not_among t (one ∷ rest) differ given (inr there) = not_among t rest differ.1 given there

-- where a tuple is given a value, and nothing is given twice
pub value-once : (all : AllGiven) (t : List ℕ) (x : Extended) → IsOnce all → In (t, value_is x) all → given_value all t ≡ Some x
unfolding IsDistinct
value-once [] t x once there = absurd there
value-once ((u, member on) ∷ rest) t x once (inl is) =
    absurd (let differ : member on ≡ value_is x = ap (λ (g : List ℕ × Given). g.1) is in let none : ⊥ = cc in none)
value-once ((u, member on) ∷ rest) t x once (inr there) = value-once rest t x once.1 there
value-once ((u, value_is y) ∷ rest) t x once (inl is) =
    let tuple : u ≡ t = ap (λ (g : List ℕ × Given). g.0) is in
    let given : value_is y ≡ value_is x = ap (λ (g : List ℕ × Given). g.1) is in
    let value : y ≡ x = cc in
    last_cons t (u, y) (values_given rest)
    ∙ ap (λ (o : Option Extended). option_or o (cond (same_tuple u t) (Some y) None)) (value-none rest t (not_among t rest (subst (λ (w : List ℕ). AllByRecursion (λ (b : List ℕ × Given). same_tuple w b.0 ≡ false) rest) tuple once.0)))
    ∙ ap (λ (b : Bool). cond b (Some y) None) (ap (λ (w : List ℕ). same_tuple w t) tuple ∙ same_tuple_refl t)
    ∙ ap Some value
value-once ((u, value_is y) ∷ rest) t x once (inr there) =
    last_cons t (u, y) (values_given rest)
    ∙ ap (λ (o : Option Extended). option_or o (cond (same_tuple u t) (Some y) None)) (value-once rest t x once.1 there)

-- the same of membership
pub member-none : (all : AllGiven) (t : List ℕ) → ((given : Given) → In (t, given) all → ⊥) → membership_at all t ≡ None
member-none [] t none = refl
member-none ((u, value_is y) ∷ rest) t none = member-none rest t (λ given there. none given (inr there))
member-none ((u, member on) ∷ rest) t none =
    last_cons t (u, on) (members_given rest)
    ∙ ap (λ (o : Option Bool). option_or o (cond (same_tuple u t) (Some on) None)) (member-none rest t (λ given there. none given (inr there)))
    ∙ ap (λ (b : Bool). cond b (Some on) None) (apart u t (λ same. none (member on) (inl (ap (λ (w : List ℕ). (w, member on)) same))))

pub member-once : (all : AllGiven) (t : List ℕ) (on : Bool) → IsOnce all → In (t, member on) all → membership_at all t ≡ Some on
unfolding IsDistinct
member-once [] t on once there = absurd there
member-once ((u, value_is y) ∷ rest) t on once (inl is) =
    absurd (let differ : value_is y ≡ member on = ap (λ (g : List ℕ × Given). g.1) is in let none : ⊥ = cc in none)
member-once ((u, value_is y) ∷ rest) t on once (inr there) = member-once rest t on once.1 there
member-once ((u, member other) ∷ rest) t on once (inl is) =
    let tuple : u ≡ t = ap (λ (g : List ℕ × Given). g.0) is in
    let given : member other ≡ member on = ap (λ (g : List ℕ × Given). g.1) is in
    let answer : other ≡ on = cc in
    last_cons t (u, other) (members_given rest)
    ∙ ap (λ (o : Option Bool). option_or o (cond (same_tuple u t) (Some other) None)) (member-none rest t (not_among t rest (subst (λ (w : List ℕ). AllByRecursion (λ (b : List ℕ × Given). same_tuple w b.0 ≡ false) rest) tuple once.0)))
    ∙ ap (λ (b : Bool). cond b (Some other) None) (ap (λ (w : List ℕ). same_tuple w t) tuple ∙ same_tuple_refl t)
    ∙ ap Some answer
member-once ((u, member other) ∷ rest) t on once (inr there) =
    last_cons t (u, other) (members_given rest)
    ∙ ap (λ (o : Option Bool). option_or o (cond (same_tuple u t) (Some other) None)) (member-once rest t on once.1 there)

-- two elements that are given something at one tuple are at one place
pub once-apart : (one : List ℕ × Given) (rest : AllGiven) → IsOnce (one ∷ rest) → (given : Given) → In (one.0, given) rest → ⊥
unfolding IsDistinct
once-apart one rest once given there = not_among one.0 rest once.0 given there
