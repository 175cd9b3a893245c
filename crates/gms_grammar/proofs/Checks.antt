-- The check that one token decides a grammar, computed over lists of the kinds that come first and
-- that follow.
use Rattle.std.proofs.Common.{◌≡◌, ℕ, zero, suc, ◌<◌, if◌then◌else◌, Bool, true, false, not, ◌||◌, ◌&&◌, List, [], ◌∷◌, ◌++◌, length, get_or, refl, sym, ap, ◌∙◌, inl, inr, arith}
use Rattle.std.specs.List.{list_any}
use Rattle.std.proofs.lemmas.Bool.{cases_Bool, false≢true, not-true, or_cases, and_parts}
use Rattle.gms_grammar.specs.Grammar.{Part, one, the, ◌·◌, ◌∣◌, opt, many}
use Rattle.gms_grammar.specs.LookAhead.{LookAhead, may_be_empty, may_begin, may_come_next, IsDecided, DecidesEach, ends_below, ranks_below}
use Rattle.gms_grammar.proofs.Basics.{and_both, both_ways}

-- each element passes the test
abbrev pub every : {C : Type 0} → List C → (C → Bool) → Bool
every [] test = true
every (x ∷ xs) test = test x && every xs test

-- two truth values are the same
abbrev pub alike : Bool → Bool → Bool
alike true b = b
alike false b = not b

pub is_alike : (a b : Bool) → alike a b ≡ true → a ≡ b
is_alike true b h = sym h
is_alike false true h = cc
is_alike false false h = refl

pub right_and : (a b : Bool) → (a && b) ≡ true → b ≡ true
right_and true b h = h
right_and false b h = cc

pub every_at : {C : Type 0} (xs : List C) (test : C → Bool) (k : ℕ) (d : C) → every xs test ≡ true → k < length xs → test (get_or xs k d) ≡ true
every_at [] test k d h l = absurd (omega arith)
every_at (x ∷ xs) test zero d h l = (and_parts _ _ h).0
every_at (x ∷ xs) test (suc k) d h l = every_at xs test k d (right_and (test x) _ h) (omega arith)

pub any_at : {C : Type 0} (xs : List C) (test : C → Bool) → list_any test xs ≡ true → (c : C) × (test c ≡ true)
any_at [] test h = cc
any_at (x ∷ xs) test h =
    elim (cases_Bool (test x)) [ inl e ↦ (x, e) | inr e ↦ any_at xs test (ap (λ b. b || list_any test xs) (sym e) ∙ h) ]

-- what holds of each element of a list holds of what passes the test
abbrev pub Covers : {C : Type 0} → (C → Bool) → List C → Type 0
Covers {C = C} test xs = (other : C → Bool) → every xs other ≡ true → (c : C) → test c ≡ true → other c ≡ true

-- those of the elements that pass the test
abbrev pub passing : {C : Type 0} → (C → Bool) → List C → List C
passing test [] = []
passing test (x ∷ xs) = if test x then x ∷ passing test xs else passing test xs

-- the elements, or none
abbrev pub where_so : {C : Type 0} → Bool → List C → List C
where_so true xs = xs
where_so false xs = []

pub implied : (a b : Bool) → (not a || b) ≡ true → a ≡ true → b ≡ true
implied true b h k = h
implied false b h k = cc

pub either_way : (a b : Bool) → (a ≡ true → b ≡ true) → (b ≡ true → a ≡ true) → a ≡ b
either_way true b f g = sym (f refl)
either_way false true f g = g refl
either_way false false f g = refl

module _ {C : Type 0} where
  every_parts : (xs ys : List C) (test : C → Bool) → every (xs ++ ys) test ≡ true → (every xs test ≡ true) × (every ys test ≡ true)
  every_parts [] ys test h = (refl, h)
  every_parts (x ∷ xs) ys test h = let k = every_parts xs ys test (right_and (test x) _ h) in (and_both _ _ ((and_parts _ _ h).0) k.0, k.1)

  pub covers_either : (f g : C → Bool) (xs ys : List C) → Covers f xs → Covers g ys → Covers (λ c. f c || g c) (xs ++ ys)
  covers_either f g xs ys of_f of_g test h c k =
      let parts = every_parts xs ys test h in
      elim (or_cases (f c) (g c) k) [ inl a ↦ of_f test parts.0 c a | inr b ↦ of_g test parts.1 c b ]

  covers_where : (b : Bool) (g : C → Bool) (ys : List C) → Covers g ys → Covers (λ c. b && g c) (where_so b ys)
  covers_where true g ys of_g = of_g
  covers_where false g ys of_g = λ test h c k. absurd (false≢true k)

  passing_every : (test other : C → Bool) (xs : List C) → every (passing test xs) other ≡ true → every xs (λ c. not (test c) || other c) ≡ true
  passing_every test other [] h = refl
  passing_every test other (x ∷ xs) h = go (test x) (passing_every test other xs) h
    where
      go : (b : Bool) → (every (passing test xs) other ≡ true → every xs (λ c. not (test c) || other c) ≡ true) → every (if b then x ∷ passing test xs else passing test xs) other ≡ true → ((not b || other x) && every xs (λ c. not (test c) || other c)) ≡ true
      go true later h = and_both _ _ ((and_parts _ _ h).0) (later (right_and (other x) _ h))
      go false later h = later h

-- Below, `firsts` and `follows` are lists of the kinds that are claimed to come first in a
-- nonterminal, and to follow it.
module _ {C N : Type 0} (kinds : List C) (production : N → Part C N) (ahead : LookAhead C N) (firsts follows : N → List C) where
  -- the kinds of tokens that may come first in a part
  abbrev pub firsts_of : Part C N → List C
  firsts_of (one test) = passing test kinds
  firsts_of (the n) = firsts n
  firsts_of (p · q) = firsts_of p ++ where_so (may_be_empty ahead p) (firsts_of q)
  firsts_of (p ∣ q) = firsts_of p ++ firsts_of q
  firsts_of (opt p) = firsts_of p
  firsts_of (many p) = firsts_of p

  -- one token decides a part, which those kinds follow
  abbrev pub is_decided : Part C N → List C → Bool
  is_decided (one test) after = list_any test kinds
  is_decided (the n) after = every after (ahead.follow n)
  is_decided (p · q) after = is_decided p (firsts_of q ++ where_so (may_be_empty ahead q) after) && is_decided q after
  is_decided (p ∣ q) after =
      not (may_be_empty ahead p) && (not (may_be_empty ahead q) && (every (firsts_of p) (λ c. not (may_begin ahead q c)) && (is_decided p after && is_decided q after)))
  is_decided (opt p) after = not (may_be_empty ahead p) && (every after (λ c. not (may_begin ahead p c)) && is_decided p after)
  is_decided (many p) after =
      not (may_be_empty ahead p) && (every after (λ c. not (may_begin ahead p c)) && is_decided p (firsts_of p ++ after))

  -- the kinds that are claimed to come first are those that do
  abbrev pub begins_right : N → Bool
  begins_right n = every (firsts_of (production n)) (ahead.first n) && every (firsts n) (may_begin ahead (production n))

  -- what is claimed of a nonterminal is so, and one token decides its production
  abbrev pub IsRight : N → Type 0
  IsRight n =
      (begins_right n ≡ true) × (may_be_empty ahead (production n) ≡ ahead.empty n) × (is_decided (production n) (follows n) ≡ true) × (ends_below ahead (ahead.depth n) (production n) ≡ true) × (ranks_below ahead (ahead.rank n) (production n) ≡ true)

  module _ (all : (test : C → Bool) → every kinds test ≡ true → (c : C) → test c ≡ true) (of_firsts : (n : N) → Covers (ahead.first n) (firsts n)) (of_follows : (n : N) → Covers (ahead.follow n) (follows n)) where
    covers_first : (p : Part C N) → Covers (may_begin ahead p) (firsts_of p)
    covers_first (one test) other h c k = implied (test c) _ (all (λ c. not (test c) || other c) (passing_every test other kinds h) c) k
    covers_first (the n) other h c k = of_firsts n other h c k
    covers_first (p · q) other h c k =
        covers_either (may_begin ahead p) (λ c. may_be_empty ahead p && may_begin ahead q c) (firsts_of p) _ (covers_first p) (covers_where (may_be_empty ahead p) (may_begin ahead q) (firsts_of q) (covers_first q)) other h c k
    covers_first (p ∣ q) other h c k =
        covers_either (may_begin ahead p) (may_begin ahead q) (firsts_of p) (firsts_of q) (covers_first p) (covers_first q) other h c k
    covers_first (opt p) other h c k = covers_first p other h c k
    covers_first (many p) other h c k = covers_first p other h c k

    covers_on : (q : Part C N) (f : C → Bool) (after : List C) → Covers f after → Covers (may_come_next ahead q f) (firsts_of q ++ where_so (may_be_empty ahead q) after)
    covers_on q f after of_f =
        covers_either (may_begin ahead q) (λ c. may_be_empty ahead q && f c) (firsts_of q) _ (covers_first q) (covers_where (may_be_empty ahead q) f after of_f)

    decided_by : (p : Part C N) (f : C → Bool) (after : List C) → Covers f after → is_decided p after ≡ true → IsDecided ahead p f
    decided_by (one test) f after of_f h = any_at kinds test h
    decided_by (the n) f after of_f h = λ c k. of_f (ahead.follow n) h c k
    decided_by (p · q) f after of_f h =
        (decided_by p (may_come_next ahead q f) _ (covers_on q f after of_f) ((and_parts _ _ h).0), decided_by q f after of_f (right_and (is_decided p (firsts_of q ++ where_so (may_be_empty ahead q) after)) _ h))
    decided_by (p ∣ q) f after of_f h =
        let h1 = right_and (not (may_be_empty ahead p)) _ h in
        let h2 = right_and (not (may_be_empty ahead q)) _ h1 in
        let h3 = right_and (every (firsts_of p) (λ c. not (may_begin ahead q c))) _ h2 in
        (not-true _ ((and_parts _ _ h).0), not-true _ ((and_parts _ _ h1).0), λ c k l. both_ways _ l (not-true _ (covers_first p (λ c. not (may_begin ahead q c)) ((and_parts _ _ h2).0) c k)), decided_by p f after of_f ((and_parts _ _ h3).0), decided_by q f after of_f (right_and (is_decided p after) _ h3))
    decided_by (opt p) f after of_f h =
        let h1 = right_and (not (may_be_empty ahead p)) _ h in
        (not-true _ ((and_parts _ _ h).0), λ c k l. both_ways _ k (not-true _ (of_f (λ c. not (may_begin ahead p c)) ((and_parts _ _ h1).0) c l)), decided_by p f after of_f (right_and (every after (λ c. not (may_begin ahead p c))) _ h1))
    decided_by (many p) f after of_f h =
        let h1 = right_and (not (may_be_empty ahead p)) _ h in
        (not-true _ ((and_parts _ _ h).0), λ c k l. both_ways _ k (not-true _ (of_f (λ c. not (may_begin ahead p c)) ((and_parts _ _ h1).0) c l)), decided_by p (λ c. may_begin ahead p c || f c) _ (covers_either (may_begin ahead p) f (firsts_of p) after (covers_first p) of_f) (right_and (every after (λ c. not (may_begin ahead p c))) _ h1))

    begins_as : (n : N) → begins_right n ≡ true → (c : C) → may_begin ahead (production n) c ≡ ahead.first n c
    begins_as n h c =
        either_way _ _
        (covers_first (production n) (ahead.first n) ((and_parts _ _ h).0) c)
        (of_firsts n (may_begin ahead (production n)) (right_and (every (firsts_of (production n)) (ahead.first n)) _ h) c)

    -- where the check holds of each nonterminal, one token decides
    pub decides_each : ((n : N) → IsRight n) → DecidesEach ahead production
    decides_each check = record {
      first_is = λ n. begins_as n (check n).0;
      empty_is = λ n. (check n).1;
      decided = λ n. decided_by (production n) (ahead.follow n) (follows n) (of_follows n) (check n).2;
      ends = λ n. (check n).3;
      descends = λ n. (check n).4;
    }
