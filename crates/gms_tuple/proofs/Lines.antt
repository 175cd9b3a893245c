-- A list in two parts, of which the second follows the first, and how many of its tuples pass a
-- test.
use Rattle.std.proofs.Common.{◌≡◌, ◌⊎◌, inl, inr, ℕ, ◌+◌, ◌<◌, ◌≤◌, Bool, true, false, List, [], ◌∷◌, ◌++◌, length, take, drop, subst, get_or, slice_get, Some, ◌-◌, sym, ap, ◌∙◌, arith, append_assoc, add-one, zero, suc}
use Rattle.std.specs.List.{count_by}
use Rattle.std.specs.List.Sorted.{IsPartitionedBy, IsPartitionPoint}
use Rattle.std.proofs.Math.Seq.{take-suc}
use Rattle.std.proofs.lemmas.List.{take_all, length-append}
use Rattle.std.proofs.lemmas.Option.{slice_get_within, get_or_from_slice_get}
use Rattle.std.specs.declared.cmp.Ordering.TheVariants.{Less}
use Rattle.std.proofs.lemmas.Bool.{cases_lt}
use Rattle.std.proofs.lemmas.List.Elements.{All-get_or}
use Rattle.gms_tuple.specs.TupleOrder.{tuple_cmp, IsOrdered}
use Rattle.gms_tuple.proofs.Ordered.{first-before, rest-ordered}
use Rattle.gms_tuple.specs.TupleSet.{is_within}
use Rattle.gms_tuple.proofs.Forks.{IsClosed, is_within-closed, ordered-left, count-passes, count-fails}

-- one more is pushed of a list that is copied
pub pushed : {X : Type 0} (before old ts : List X) (i : ℕ) (x : X) → before ≡ old ++ take i ts → i < length ts → x ≡ get_or ts i x → before ++ x ∷ [] ≡ old ++ take (i + 1) ts
pushed before old ts i x is here at =
    let more : take (i + 1) ts ≡ take i ts ++ x ∷ [] = rw (add-one) (take-suc ts i x here ∙ ap (λ y. take i ts ++ y ∷ []) (sym at)) in
    ap (λ l. l ++ x ∷ []) is ∙ append_assoc old (take i ts) (x ∷ []) ∙ ap (λ l. old ++ l) (sym more)

-- the second part of a list in order
second-ordered : (l m : List (List ℕ)) → IsOrdered (l ++ m) → IsOrdered m
second-ordered [] m ordered = ordered
second-ordered (y ∷ l) m ordered = second-ordered l m (rest-ordered y (l ++ m) ordered)

-- of two tuples the one at the lesser place comes first
less-at : (xs : List (List ℕ)) (i j : ℕ) (d : List ℕ) → IsOrdered xs → i < j → j < length xs → tuple_cmp (get_or xs i d) (get_or xs j d) ≡ Less
less-at [] i j d ordered below within = absurd (omega (arith, within))
less-at (x ∷ xs) i zero d ordered below within = absurd (omega (arith, below))
less-at (x ∷ xs) zero (suc j) d ordered below within = All-get_or (λ y. tuple_cmp x y ≡ Less) xs j d (omega (arith, within)) (first-before x xs ordered)
less-at (x ∷ xs) (suc i) (suc j) d ordered below within = less-at xs i j d (rest-ordered x xs ordered) (omega (arith, below)) (omega (arith, within))

module _ (p : List ℕ → Bool) (closed : IsClosed p) where
  -- where the first of the second part passes, so do all of the first
  pub count-following : (l : List (List ℕ)) (x : List ℕ) (r : List (List ℕ)) → IsOrdered (l ++ x ∷ r) → p x ≡ true → count_by p (l ++ x ∷ r) ≡ length l + count_by p (x ∷ r)
  count-following l x r ordered passes =
      let both = count-passes p closed l x r ordered passes in
      let second : IsOrdered (x ∷ r) = second-ordered l (x ∷ r) ordered in
      let own = count-passes p closed [] x r second passes in
      omega (arith, both, own)

  -- where the last passes, so do all
  pub count-all : (l : List (List ℕ)) (x : List ℕ) → IsOrdered (l ++ x ∷ []) → p x ≡ true → count_by p (l ++ x ∷ []) ≡ length l + 1
  count-all l x ordered passes = let both = count-passes p closed l x [] ordered passes in omega (arith, both)

  -- if exactly the tuples before a place pass, their number is that place
  pub count-partitioned : (xs : List (List ℕ)) (i : ℕ) → IsOrdered xs → i ≤ length xs → ((k : ℕ) (d : List ℕ) → k < i → p (get_or xs k d) ≡ true) → ((k : ℕ) (d : List ℕ) → i ≤ k → k < length xs → p (get_or xs k d) ≡ false) → count_by p xs ≡ i
  count-partitioned [] i ordered within passes fails = omega (arith, within)
  count-partitioned (x ∷ xs) zero ordered within passes fails = count-fails p closed [] x xs ordered (fails 0 x (omega arith) (omega arith))
  count-partitioned (x ∷ xs) (suc i) ordered within passes fails =
      let own = count-passes p closed [] x xs ordered (passes 0 x (omega arith)) in
      let rest = count-partitioned xs i (rest-ordered x xs ordered) (omega (arith, within)) (λ k d less. passes (suc k) d (omega (arith, less))) (λ k d from less. fails (suc k) d (omega (arith, from)) (omega (arith, less))) in
      omega (arith, own, rest)

-- the place where a list in order parts counts those before it
pub counted-point : (through : Bool) (prefix : List ℕ) (xs : List (List ℕ)) (i : ℕ) → IsOrdered xs → IsPartitionPoint (λ y. is_within through prefix y ≡ true) (λ y. is_within through prefix y ≡ false) xs i → i ≤ length xs → count_by (is_within through prefix) xs ≡ i
counted-point through prefix xs i ordered point most =
    count-partitioned (is_within through prefix) (is_within-closed through prefix) xs i ordered most (λ k d below. point.0 k d (omega arith) below) (λ k d from below. point.1 k d from below)

-- ---- a list in two parts

pub first-ordered : (l m : List (List ℕ)) → IsOrdered (l ++ m) → IsOrdered l
first-ordered l m ordered = ordered-left l m ordered

-- the last of a list that is not empty ends it
pub ends-with : {X : Type 0} (xs : List X) (x : X) → slice_get xs (length xs - 1) ≡ Some x → xs ≡ take (length xs - 1) xs ++ x ∷ []
ends-with xs x is =
    let within : length xs - 1 < length xs = slice_get_within xs (length xs - 1) x is in
    let all : take (suc (length xs - 1)) xs ≡ xs = take_all (suc (length xs - 1)) xs (omega arith) in
    sym all ∙ take-suc xs (length xs - 1) x within ∙ ap (λ y. take (length xs - 1) xs ++ y ∷ []) (get_or_from_slice_get xs (length xs - 1) x x is)

-- and the first begins it
pub begins-with : {X : Type 0} (xs : List X) (x : X) → slice_get xs 0 ≡ Some x → xs ≡ x ∷ drop 1 xs
begins-with [] x is = let within : 0 < 0 = slice_get_within [] 0 x is in absurd (omega (arith, within))
begins-with (y ∷ ys) x is = ap (λ z. z ∷ ys) (get_or_from_slice_get (y ∷ ys) 0 x x is)

module _ (through : Bool) (prefix : List ℕ) (whole l m : List (List ℕ)) (x : List ℕ) (is : l ++ m ≡ whole) (ordered : IsOrdered whole) where
  -- where the last is within, all are
  pub all-pass : slice_get m (length m - 1) ≡ Some x → is_within through prefix x ≡ true → count_by (is_within through prefix) whole ≡ length whole
  all-pass last passes =
      let beginning : List (List ℕ) = l ++ take (length m - 1) m in
      let e : whole ≡ beginning ++ x ∷ [] = sym is ∙ ap (λ r. l ++ r) (ends-with m x last) ∙ sym (append_assoc l (take (length m - 1) m) (x ∷ [])) in
      ap (count_by (is_within through prefix)) e ∙ count-all (is_within through prefix) (is_within-closed through prefix) beginning x (subst IsOrdered e ordered) passes ∙ sym (ap length e ∙ length-append beginning (x ∷ []))

  -- where the first of the second part is not within, those within are of the first part
  pub none-pass : slice_get m 0 ≡ Some x → is_within through prefix x ≡ false → count_by (is_within through prefix) whole ≡ count_by (is_within through prefix) l
  none-pass first fails =
      let e : whole ≡ l ++ x ∷ drop 1 m = sym is ∙ ap (λ r. l ++ r) (begins-with m x first) in
      ap (count_by (is_within through prefix)) e ∙ count-fails (is_within through prefix) (is_within-closed through prefix) l x (drop 1 m) (subst IsOrdered e ordered) fails

  -- if it is within, so is all of the first part, and of the second part as many as come before the
  -- first that is not
  pub some-pass : slice_get m 0 ≡ Some x → is_within through prefix x ≡ true → (i : ℕ) → IsPartitionPoint (λ y. is_within through prefix y ≡ true) (λ y. is_within through prefix y ≡ false) m i → i ≤ length m → length l + i ≡ count_by (is_within through prefix) whole
  some-pass first passes i point most =
      let p : List ℕ → Bool = is_within through prefix in
      let e : whole ≡ l ++ x ∷ drop 1 m = sym is ∙ ap (λ r. l ++ r) (begins-with m x first) in
      let own : count_by p m ≡ i = count-partitioned p (is_within-closed through prefix) m i (second-ordered l m (subst IsOrdered (sym is) ordered)) most (λ k d below. point.0 k d (omega arith) below) (λ k d from below. point.1 k d from below) in
      sym (ap (count_by p) e ∙ count-following p (is_within-closed through prefix) l x (drop 1 m) (subst IsOrdered e ordered) passes ∙ ap (λ r. length l + count_by p r) (sym (begins-with m x first)) ∙ ap (λ n. length l + n) own)

  -- in the second part those that are within come first
  pub partitioned : IsPartitionedBy (is_within through prefix) m
  partitioned i j d le less within = by (cases_lt i j)
    where
      by : (i < j) ⊎ (j ≤ i) → is_within through prefix (get_or m i d) ≡ true
      by (inl below) = is_within-closed through prefix (get_or m i d) (get_or m j d) (less-at m i j d (second-ordered l m (subst IsOrdered (sym is) ordered)) below less) within
      by (inr from) = let same : i ≡ j = omega arith in subst (λ k. is_within through prefix (get_or m k d) ≡ true) (sym same) within
