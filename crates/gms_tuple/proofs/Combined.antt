-- Two ordered lists side by side: the next tuple of both, and what an operation makes of the rest.
use Rattle.std.proofs.Common.{◌≡◌, ℕ, ◌+◌, ◌<◌, ◌≤◌, Result, Ok, Err, IfOk, Bool, true, false, not, ◌||◌, ◌&&◌, List, [], ◌∷◌, ◌++◌, length, get_or, drop, suc, zero, refl, sym, ap, subst, ◌∙◌, cond, arith}
use Rattle.std.specs.declared.cmp.Ordering.{Ordering}
use Rattle.std.specs.declared.cmp.Ordering.TheVariants.{Less, Equal, Greater}
use Rattle.std.specs.Ordering.{is_lt, is_gt}
use Rattle.std.specs.List.{All}
use Rattle.std.proofs.lemmas.List.{append_assoc, append-nil, drop_all, drop-drop, length-drop, get_or_read, get_or-drop}
use Rattle.std.proofs.lemmas.List.Elements.{All-nil, All-cons, All-weaker}
use Rattle.std.proofs.lemmas.Cmp.{tied_itself}
use Rattle.gms_tuple.specs.declared.merge.Operation.{Operation}
use Rattle.gms_tuple.specs.declared.merge.Operation.TheVariants.{Union, Difference, Intersection}
use Rattle.gms_tuple.specs.TupleOrder.{tuple_cmp, same_tuple, IsOrdered}
use Rattle.gms_tuple.specs.OrderLaws.{tuple_cmp-total}
use Rattle.gms_tuple.specs.TupleSet.{has, set_difference, intersection}
use Rattle.gms_tuple.specs.InnerOperations.{takes, turn}
use Rattle.gms_tuple.proofs.Ordered.{same_tuple-Decides, same_tuple_refl, tuple_cmp-Equal, tuple_cmp-flip, first-before, rest-ordered, ordered-cons, ordered-nil}
use Rattle.gms_tuple.proofs.Members.{joined, has-joined, has-difference, has-intersection, IsOrdered-joined, IsOrdered-filter, same_from_members, not-after, after-first}

-- the result of an operation on two lists
abbrev pub combine : Operation → List (List ℕ) → List (List ℕ) → List (List ℕ)
combine Union xs ys = joined xs ys
combine Difference xs ys = set_difference xs ys
combine Intersection xs ys = intersection xs ys

pub has-combine : (op : Operation) (xs ys : List (List ℕ)) (t : List ℕ) → has (combine op xs ys) t ≡ takes op (has xs t) (has ys t)
has-combine Union xs ys t = has-joined xs ys t
has-combine Difference xs ys t = has-difference xs ys t
has-combine Intersection xs ys t = has-intersection xs ys t

pub IsOrdered-combine : (op : Operation) (xs ys : List (List ℕ)) → IsOrdered xs → IsOrdered (combine op xs ys)
IsOrdered-combine Union xs ys ordered = IsOrdered-joined xs ys ordered
IsOrdered-combine Difference xs ys ordered = IsOrdered-filter (λ member. not (has ys member)) xs ordered
IsOrdered-combine Intersection xs ys ordered = IsOrdered-filter (λ member. has ys member) xs ordered

pub combine-none : (op : Operation) → combine op [] [] ≡ []
combine-none Union = refl
combine-none Difference = refl
combine-none Intersection = refl

takes-neither : (op : Operation) → takes op false false ≡ false
takes-neither Union = refl
takes-neither Difference = refl
takes-neither Intersection = refl

takes-some : (op : Operation) (a b : Bool) → takes op a b ≡ true → (a || b) ≡ true
takes-some Union a b e = e
takes-some Difference true b e = refl
takes-some Difference false b e = absurd cc
takes-some Intersection true b e = refl
takes-some Intersection false b e = absurd cc

-- The next tuple of two lists, for one of them: whether it is the first of that list, and what
-- comes after it in that list.
pub record IsNext (next : List ℕ) (own : Bool) (xs rest : List (List ℕ)) : Type 0 where
  pub members : (t : List ℕ) → has xs t ≡ ((own && same_tuple next t) || has rest t)
  pub after : All (λ z. tuple_cmp next z ≡ Less) rest
  pub ordered : IsOrdered rest

-- what comes after a tuple does not have it
lacks : (next : List ℕ) (rest : List (List ℕ)) (t : List ℕ) → All (λ z. tuple_cmp next z ≡ Less) rest → same_tuple next t ≡ true → has rest t ≡ false
lacks next rest t after same =
    let e : next ≡ t = (same_tuple-Decides next t).0 same in
    let equal : tuple_cmp next t ≡ Equal = ap (tuple_cmp next) (sym e) ∙ tied_itself tuple_cmp-total next in
    not-after next rest t after Equal equal refl

-- where each member comes after a tuple, all do
all-after : (next : List ℕ) (zs : List (List ℕ)) → ((t : List ℕ) → has zs t ≡ true → tuple_cmp next t ≡ Less) → All (λ z. tuple_cmp next z ≡ Less) zs
all-after next [] each = All-nil (λ z. tuple_cmp next z ≡ Less)
all-after next (z ∷ zs) each =
    All-cons (λ z. tuple_cmp next z ≡ Less) z zs (each z (rw (same_tuple_refl z) refl)) (all-after next zs (λ t there. each t (rw there (or-true (same_tuple z t)))))
  where
    or-true : (b : Bool) → (b || true) ≡ true
    or-true true = refl
    or-true false = refl

-- what an operation makes of two lists is the next tuple, if it takes it, followed by what it makes
-- of the rest
module _ (op : Operation) (next : List ℕ) (a b : Bool) (xs xs' ys ys' : List (List ℕ)) (first : IsNext next a xs xs') (second : IsNext next b ys ys') where
  made-members : (c : Bool) → takes op a b ≡ c → (t : List ℕ) → has (combine op xs ys) t ≡ has (cond c (next ∷ combine op xs' ys') (combine op xs' ys')) t
  made-members c e t = has-combine op xs ys t ∙ rw (first.members t, second.members t) (by (same_tuple next t) refl c e)
    where
      other : (a b : Bool) → takes op ((a && false) || has xs' t) ((b && false) || has ys' t) ≡ takes op (has xs' t) (has ys' t)
      other true true = refl
      other true false = refl
      other false true = refl
      other false false = refl

      own : (a b : Bool) → takes op ((a && true) || false) ((b && true) || false) ≡ takes op a b
      own true true = refl
      own true false = refl
      own false true = refl
      own false false = refl

      by : (s : Bool) → same_tuple next t ≡ s → (c : Bool) → takes op a b ≡ c → takes op ((a && s) || has xs' t) ((b && s) || has ys' t) ≡ has (cond c (next ∷ combine op xs' ys') (combine op xs' ys')) t
      by true same true e = rw (lacks next xs' t first.after same, lacks next ys' t second.after same, same) (own a b ∙ e)
      by true same false e =
          let none : has (combine op xs' ys') t ≡ false = has-combine op xs' ys' t ∙ rw (lacks next xs' t first.after same, lacks next ys' t second.after same) (takes-neither op) in
          rw (lacks next xs' t first.after same, lacks next ys' t second.after same, none) (own a b ∙ e)
      by false differs true e = rw differs (other a b ∙ sym (has-combine op xs' ys' t))
      by false differs false e = other a b ∙ sym (has-combine op xs' ys' t)

  made-after : All (λ z. tuple_cmp next z ≡ Less) (combine op xs' ys')
  made-after = all-after next (combine op xs' ys') (λ t there. by t (has xs' t) refl (takes-some op (has xs' t) (has ys' t) (sym (has-combine op xs' ys' t) ∙ there)))
    where
      by : (t : List ℕ) (b : Bool) → has xs' t ≡ b → (b || has ys' t) ≡ true → tuple_cmp next t ≡ Less
      by t true e _ = after-first next xs' t first.after e
      by t false _ e = after-first next ys' t second.after e

  made-ordered : (c : Bool) → IsOrdered (cond c (next ∷ combine op xs' ys') (combine op xs' ys'))
  made-ordered true = ordered-cons next (combine op xs' ys') made-after (IsOrdered-combine op xs' ys' first.ordered)
  made-ordered false = IsOrdered-combine op xs' ys' first.ordered

  pub combine-next : IsOrdered xs → combine op xs ys ≡ cond (takes op a b) (next ∷ combine op xs' ys') (combine op xs' ys')
  combine-next ordered =
      same_from_members (combine op xs ys) (cond (takes op a b) (next ∷ combine op xs' ys') (combine op xs' ys')) (IsOrdered-combine op xs ys ordered) (made-ordered (takes op a b)) (made-members (takes op a b) refl)

-- ---- turns

own-next : (x : List ℕ) (xs : List (List ℕ)) → IsOrdered (x ∷ xs) → IsNext x true (x ∷ xs) xs
own-next x xs ordered = record { members = λ t. refl; after = first-before x xs ordered; ordered = rest-ordered x xs ordered }

no-next : (x : List ℕ) → IsNext x false [] []
no-next x = record { members = λ t. refl; after = All-nil (λ z. tuple_cmp x z ≡ Less); ordered = ordered-nil }

later-next : (x y : List ℕ) (ys : List (List ℕ)) → IsOrdered (y ∷ ys) → tuple_cmp x y ≡ Less → IsNext x false (y ∷ ys) (y ∷ ys)
later-next x y ys ordered less = record {
  members = λ t. refl;
  after = All-cons (λ z. tuple_cmp x z ≡ Less) y ys less (All-weaker (λ z. tuple_cmp y z ≡ Less) (λ z. tuple_cmp x z ≡ Less) (λ z later. tuple_cmp-total.trans x y z less later) ys (first-before y ys ordered));
  ordered = ordered;
}

-- how many tuples of a list a turn takes
abbrev pub one_if : Bool → ℕ
one_if true = 1
one_if false = 0

-- The result of a turn of two ordered lists, not both empty.
pub record IsTurn (xs ys : List (List ℕ)) (a b : Bool) (next : List ℕ) : Type 0 where
  pub first : IsNext next a xs (drop (one_if a) xs)
  pub second : IsNext next b ys (drop (one_if b) ys)

pub IsTurn-is : (xs ys : List (List ℕ)) → IsOrdered xs → IsOrdered ys → 0 < length xs + length ys → IsTurn xs ys (turn xs ys).0 (turn xs ys).1 (cond (turn xs ys).0 (get_or xs 0 []) (get_or ys 0 []))
IsTurn-is [] [] ordered others some = absurd (omega arith)
IsTurn-is (x ∷ xs) [] ordered others some = record { first = own-next x xs ordered; second = no-next x }
IsTurn-is [] (y ∷ ys) ordered others some = record { first = no-next y; second = own-next y ys others }
IsTurn-is (x ∷ xs) (y ∷ ys) ordered others some = by (tuple_cmp x y) refl
  where
    by : (o : Ordering) → tuple_cmp x y ≡ o → IsTurn (x ∷ xs) (y ∷ ys) (not (is_gt o)) (not (is_lt o)) (cond (not (is_gt o)) x y)
    by Less e = record { first = own-next x xs ordered; second = later-next x y ys others e }
    by Equal e =
        let same : y ≡ x = sym (tuple_cmp-Equal x y e) in
        record { first = own-next x xs ordered; second = subst (λ z. IsNext z true (y ∷ ys) ys) same (own-next y ys others) }
    by Greater e = record { first = later-next y x xs ordered (tuple_cmp-flip x y Greater e); second = own-next y ys others }

-- ---- the loop

pub ordered-drop : (n : ℕ) (xs : List (List ℕ)) → IsOrdered xs → IsOrdered (drop n xs)
ordered-drop zero xs ordered = ordered
ordered-drop (suc n) [] ordered = ordered-nil
ordered-drop (suc n) (x ∷ xs) ordered = ordered-drop n xs (rest-ordered x xs ordered)

-- How far two lists are merged: what is made, followed by what the operation makes of the rest, is
-- what it makes of the whole.
pub record IsTraversed (op : Operation) (first second made : List (List ℕ)) (i j : ℕ) : Type 0 where
  pub first_in : i ≤ length first
  pub second_in : j ≤ length second
  pub whole : made ++ combine op (drop i first) (drop j second) ≡ combine op first second

push-if : (c : Bool) (made rest : List (List ℕ)) (next : List ℕ) → made ++ cond c (next ∷ rest) rest ≡ cond c (made ++ next ∷ []) made ++ rest
push-if true made rest next = sym (append_assoc made (next ∷ []) rest)
push-if false made rest next = refl

module _ (op : Operation) (first second made : List (List ℕ)) (i j : ℕ) (next : List ℕ) (a b : Bool) (turned : IsTurn (drop i first) (drop j second) a b next) where
  pub IsTraversed-more : IsOrdered first → i + one_if a ≤ length first → j + one_if b ≤ length second → IsTraversed op first second made i j → IsTraversed op first second (cond (takes op a b) (made ++ next ∷ []) made) (i + one_if a) (j + one_if b)
  IsTraversed-more ordered first_in second_in traversed =
      let xs' = drop (one_if a) (drop i first) in
      let ys' = drop (one_if b) (drop j second) in
      let step : combine op (drop i first) (drop j second) ≡ cond (takes op a b) (next ∷ combine op xs' ys') (combine op xs' ys') = combine-next op next a b (drop i first) xs' (drop j second) ys' turned.first turned.second (ordered-drop i first ordered) in
      record {
        first_in = first_in;
        second_in = second_in;
        whole = rw (sym (drop-drop (one_if a) i first), sym (drop-drop (one_if b) j second)) (sym (push-if (takes op a b) made (combine op xs' ys') next) ∙ ap (λ rest. made ++ rest) (sym step) ∙ traversed.whole);
      }

pub IsTraversed-all : (op : Operation) (first second made : List (List ℕ)) (i j : ℕ) → length first ≤ i → length second ≤ j → IsTraversed op first second made i j → made ≡ combine op first second
IsTraversed-all op first second made i j l k traversed =
    sym (append-nil made) ∙ ap (λ rest. made ++ rest) (sym (rw (drop_all i first l, drop_all j second k) (combine-none op))) ∙ traversed.whole

pub turn-within : (xs ys : List (List ℕ)) → (one_if (turn xs ys).0 ≤ length xs) × (one_if (turn xs ys).1 ≤ length ys)
turn-within [] [] = (omega arith, omega arith)
turn-within (x ∷ xs) [] = (omega arith, omega arith)
turn-within [] (y ∷ ys) = (omega arith, omega arith)
turn-within (x ∷ xs) (y ∷ ys) = (at-most (not (is_gt (tuple_cmp x y))) (length xs), at-most (not (is_lt (tuple_cmp x y))) (length ys))
  where
    at-most : (b : Bool) (n : ℕ) → one_if b ≤ suc n
    at-most true n = omega arith
    at-most false n = omega arith

-- one turn of the loop
pub IsTraversed-turn : (op : Operation) (first second made : List (List ℕ)) (i j : ℕ) (turns : Bool × Bool) (next : List ℕ) (made' : List (List ℕ)) (i' j' : ℕ) → IsOrdered first → IsOrdered second → IsTraversed op first second made i j → 0 < length (drop i first) + length (drop j second) → turns ≡ turn (drop i first) (drop j second) → next ≡ cond turns.0 (get_or (drop i first) 0 []) (get_or (drop j second) 0 []) → made' ≡ cond (takes op turns.0 turns.1) (made ++ next ∷ []) made → i' ≡ i + one_if turns.0 → j' ≡ j + one_if turns.1 → IsTraversed op first second made' i' j'
IsTraversed-turn op first second made i j turns next made' i' j' ordered others traversed some turned is pushed up across =
    let xs = drop i first in
    let ys = drop j second in
    let within = turn-within xs ys in
    let t = IsTurn-is xs ys (ordered-drop i first ordered) (ordered-drop j second others) some in
    let n = length-drop i first in
    let m = length-drop j second in
    let l = traversed.first_in in
    let k = traversed.second_in in
    let a : i + one_if (turn xs ys).0 ≤ length first = let w = within.0 in omega arith in
    let b : j + one_if (turn xs ys).1 ≤ length second = let w = within.1 in omega arith in
    rw (pushed, up, across, is, turned) (IsTraversed-more op first second made i j (cond (turn xs ys).0 (get_or xs 0 []) (get_or ys 0 [])) (turn xs ys).0 (turn xs ys).1 t ordered a b traversed)

-- where the next tuple is not the first of the first list, the second has some
pub turn-other : (xs ys : List (List ℕ)) → 0 < length xs + length ys → (turn xs ys).0 ≡ false → 0 < length ys
turn-other [] [] some other = absurd (omega arith)
turn-other (x ∷ xs) [] some other = absurd cc
turn-other [] (y ∷ ys) some other = omega arith
turn-other (x ∷ xs) (y ∷ ys) some other = omega arith

-- what is read at a place is the first of the rest
pub first-of-rest : (xs : List (List ℕ)) (i : ℕ) (x : List ℕ) → i < length xs → x ≡ get_or xs i x → x ≡ get_or (drop i xs) 0 []
first-of-rest xs i x l is = get_or_read xs i x l is [] ∙ sym (get_or-drop i xs 0 [] ∙ ap (λ n. get_or xs n []) (let e : i + 0 ≡ i = omega arith in e))

-- ---- the result

module _ {E : Type 0} (op : Operation) (first second : List (List ℕ)) where
  -- no other list in order has the members of the result
  pub only-result : (r : Result (List (List ℕ)) E) → IfOk r (λ set. (t : List ℕ) → has set t ≡ takes op (has first t) (has second t)) → IfOk r IsOrdered → IfOk r (λ set. (other : List (List ℕ)) → IsOrdered other → ((t : List ℕ) → has other t ≡ takes op (has first t) (has second t)) → other ≡ set)
  only-result (Ok set) members ordered = λ other others same. same_from_members other set others ordered (λ t. same t ∙ sym (members t))
  only-result (Err e) members ordered = tt

  pub result-is : IsOrdered first → (r : Result (List (List ℕ)) E) → IfOk r (λ set. (t : List ℕ) → has set t ≡ takes op (has first t) (has second t)) → IfOk r IsOrdered → IfOk r (λ set. set ≡ combine op first second)
  result-is own (Ok set) members ordered = same_from_members set (combine op first second) ordered (IsOrdered-combine op first second own) (λ t. members t ∙ sym (has-combine op first second t))
  result-is own (Err e) members ordered = tt
