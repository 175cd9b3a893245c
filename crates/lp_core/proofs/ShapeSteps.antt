-- The steps of the test whether a program is well formed.
use Rattle.std.proofs.Common.{◌≡◌, ◌≢◌, ◌↔◌, ℕ, zero, suc, ◌+◌, ◌-◌, ◌<◌, ◌≤◌, Bool, true, false, not, ◌&&◌, ℤ, pos, negsuc, nat_abs, ◌==◌, nat_le, nat_lt, List, [], ◌∷◌, length, get_or, take, drop, refl, sym, ap, ◌∙◌, subst, arith, length-drop}
use Rattle.std.specs.Prelude.{IsTrue, sum_by}
use Rattle.std.specs.List.{All, AllPairs}
use Rattle.std.proofs.lemmas.List.{take_all, drop_all, take_more}
use Rattle.std.proofs.lemmas.List.Elements.{All-head, All-tail, All-nil, All-cons, All-more, All-weaker, All-get_or}
use Rattle.std.proofs.lemmas.List.Kept.{AllPairs-cons}
use Rattle.std.proofs.lemmas.List.Sums.{sum_by_push}
use Rattle.std.proofs.lemmas.Bool.{both_ways, and_parts}
use Rattle.std.proofs.lemmas.Bool.Decides.{nat_tests}
use Rattle.gq_number.specs.Number.{Number, whole}
use Rattle.lp_core.specs.WellFormed.{AreRowEntries}
use Rattle.gq_number.proofs.Quotients.{zero_from_numerator}
use Rattle.lp_core.specs.InnerEntries.{is_zero_number, are_in_order}
use Rattle.lp_core.proofs.Points.{AllPairs-first, AllPairs-rest}
use Rattle.lp_form.proofs.LoopSteps.{drop_item}

module _ {X : Type 0} (P : X → Type 0) (xs : List X) (i : ℕ) (x : X) where
  -- an element that fails
  pub all_stops : i < length xs → x ≡ get_or xs i x → ¬ (P x) → IsTrue false ↔ All P xs
  all_stops here is fails = (λ e. absurd (cc), λ all. absurd (fails (subst P (sym is) (All-get_or P xs i x here all))))

  -- one more that holds
  pub all_more : i < length xs → x ≡ get_or xs i x → All P (take i xs) → P x → All P (take (i + 1) xs)
  all_more here is all holds = All-more P xs i x here all (subst P is holds)

-- all of them
pub all_end : {X : Type 0} (P : X → Type 0) (xs : List X) (i : ℕ) → length xs ≤ i → All P (take i xs) → IsTrue true ↔ All P xs
all_end P xs i end all = let whole_list = subst (All P) (take_all i xs end) all in (λ e. whole_list, λ _. refl)

module _ {X : Type 0} (R : X → X → Type 0) (xs : List X) (i : ℕ) (x : X) (here : i < length xs) (is : x ≡ get_or xs i x) where
  later : drop i xs ≡ x ∷ drop (i + 1) xs
  later = drop_item xs i x here is

  rest_of : take (length xs - (i + 1)) (drop (i + 1) xs) ≡ drop (i + 1) xs
  rest_of = take_all (length xs - (i + 1)) (drop (i + 1) xs) (omega (arith, length-drop (i + 1) xs))

  -- an element that some later one does not go with
  pub pairs_stop : (AllPairs R xs ↔ AllPairs R (drop i xs)) → ¬ (All (R x) (take (length xs - (i + 1)) (drop (i + 1) xs))) → IsTrue false ↔ AllPairs R xs
  pairs_stop so_far fails =
      (λ e. absurd (cc), λ pairs. absurd (fails (subst (All (R x)) (sym rest_of) (AllPairs-first R x (drop (i + 1) xs) (subst (AllPairs R) later (so_far.0 pairs))))))

  -- one that all later ones go with
  pub pairs_go : (AllPairs R xs ↔ AllPairs R (drop i xs)) → All (R x) (take (length xs - (i + 1)) (drop (i + 1) xs)) → AllPairs R xs ↔ AllPairs R (drop (i + 1) xs)
  pairs_go so_far all =
      (λ pairs. AllPairs-rest R x (drop (i + 1) xs) (subst (AllPairs R) later (so_far.0 pairs)), λ pairs. so_far.1 (subst (AllPairs R) (sym later) (AllPairs-cons R x (drop (i + 1) xs) (subst (All (R x)) rest_of all) pairs)))

pub pairs_end : {X : Type 0} (R : X → X → Type 0) (xs : List X) (i : ℕ) → length xs ≤ i → (AllPairs R xs ↔ AllPairs R (drop i xs)) → IsTrue true ↔ AllPairs R xs
pairs_end R xs i end so_far =
    let none : AllPairs R (drop i xs) = subst (AllPairs R) (sym (drop_all i xs end)) (λ a b d less h. absurd (omega arith)) in
    (λ e. so_far.1 none, λ _. refl)

-- one more counted
pub counted_more : {X : Type 0} (f : X → ℕ) (xs : List X) (i : ℕ) (x : X) → i < length xs → x ≡ get_or xs i x → sum_by f (take (i + 1) xs) ≡ sum_by f (take i xs) + f x
counted_more f xs i x here is = ap (sum_by f) (take_more xs i x here) ∙ sum_by_push f (take i xs) (get_or xs i x) ∙ ap (λ y. sum_by f (take i xs) + f y) (sym is)

pub counted_all : {X : Type 0} (f : X → ℕ) (xs : List X) (i : ℕ) → length xs ≤ i → sum_by f (take i xs) ≡ sum_by f xs
counted_all f xs i end = ap (sum_by f) (take_all i xs end)

-- ---- entries in order

le_from_test : (a b : ℕ) → nat_le a b ≡ true → a ≤ b
le_from_test a b e = grind (arith, nat_tests)

lt_from_test : (a b : ℕ) → nat_lt a b ≡ true → a < b
lt_from_test a b e = grind (arith, nat_tests)

test_from_le : (a b : ℕ) → a ≤ b → nat_le a b ≡ true
test_from_le a b h = grind (arith, nat_tests)

test_from_lt : (a b : ℕ) → a < b → nat_lt a b ≡ true
test_from_lt a b h = grind (arith, nat_tests)

zero_by_test : (x : Number) → is_zero_number x ≡ true → x ≡ whole (pos 0)
zero_by_test x e = zero_from_numerator x (zero_from_abs x.numerator e)
  where
    zero_from_abs : (n : ℤ) → (nat_abs n == 0) ≡ true → n ≡ pos 0
    zero_from_abs (pos zero) e = refl
    zero_from_abs (pos (suc n)) e = let none : suc n ≡ 0 = grind (arith, nat_tests) in absurd (omega arith)
    zero_from_abs (negsuc n) e = let none : suc n ≡ 0 = grind (arith, nat_tests) in absurd (omega arith)

test_of_zero : (x : Number) → x ≡ whole (pos 0) → is_zero_number x ≡ true
unfolding whole
test_of_zero x e = rw e refl

not_zero_from_test : (x : Number) → not (is_zero_number x) ≡ true → x ≢ whole (pos 0)
not_zero_from_test x e zero_is = by (is_zero_number x) (test_of_zero x zero_is) e
  where
    by : (b : Bool) → b ≡ true → not b ≡ true → ⊥
    by true _ f = absurd (cc)
    by false f _ = absurd (cc)

test_from_not_zero : (x : Number) → x ≢ whole (pos 0) → not (is_zero_number x) ≡ true
test_from_not_zero x some = by (is_zero_number x) refl
  where
    by : (b : Bool) → is_zero_number x ≡ b → not b ≡ true
    by true e = absurd (some (zero_by_test x e))
    by false e = refl

module _ {F : Type 0} (value : F → Number) (n : ℕ) where
  -- what the loop over the entries decides
  pub in_order-tells : (least : ℕ) (entries : List (ℕ × F)) → (are_in_order value n least entries ≡ true) ↔ (AreRowEntries value n entries × All (λ (e : ℕ × F). least ≤ e.0) entries)
  in_order-tells least [] =
      (λ _. (record { ascending = λ i j d less h. absurd (omega arith); there = All-nil (λ (e : ℕ × F). e.0 < n); not_zero = All-nil (λ (e : ℕ × F). value e.1 ≢ whole (pos 0)) }, All-nil (λ (e : ℕ × F). least ≤ e.0)), λ _. refl)
  in_order-tells least (e ∷ entries) =
      let rest = in_order-tells (e.0 + 1) entries in
      let l = nat_le least e.0 in
      let t = nat_lt e.0 n in
      let z = not (is_zero_number (value e.1)) in (
        λ is.
            let first = and_parts (l && t && z) (are_in_order value n (e.0 + 1) entries) is in
            let second = and_parts (l && t) z first.0 in
            let third = and_parts l t second.0 in
            let later = rest.0 first.1 in
            let low : least ≤ e.0 = le_from_test least e.0 third.0 in
            let high : e.0 < n = lt_from_test e.0 n third.1 in (
              record {
                ascending = AllPairs-cons (λ (a b : ℕ × F). a.0 < b.0) e entries (All-weaker (λ (b : ℕ × F). e.0 + 1 ≤ b.0) (λ (b : ℕ × F). e.0 < b.0) (λ b h. omega arith) entries later.1) later.0.ascending;
                there = All-cons (λ (b : ℕ × F). b.0 < n) e entries high later.0.there;
                not_zero = All-cons (λ (b : ℕ × F). value b.1 ≢ whole (pos 0)) e entries (not_zero_from_test (value e.1) second.1) later.0.not_zero;
              },
              All-cons (λ (b : ℕ × F). least ≤ b.0) e entries low (All-weaker (λ (b : ℕ × F). e.0 + 1 ≤ b.0) (λ (b : ℕ × F). least ≤ b.0) (λ b h. omega arith) entries later.1),
            ),
        λ both.
            let kept = both.0 in
            let low = test_from_le least e.0 (All-head (λ (b : ℕ × F). least ≤ b.0) e entries both.1) in
            let high = test_from_lt e.0 n (All-head (λ (b : ℕ × F). b.0 < n) e entries kept.there) in
            let some = test_from_not_zero (value e.1) (All-head (λ (b : ℕ × F). value b.1 ≢ whole (pos 0)) e entries kept.not_zero) in
            let later = rest.1 (
              record {
                ascending = AllPairs-rest (λ (a b : ℕ × F). a.0 < b.0) e entries kept.ascending;
                there = All-tail (λ (b : ℕ × F). b.0 < n) e entries kept.there;
                not_zero = All-tail (λ (b : ℕ × F). value b.1 ≢ whole (pos 0)) e entries kept.not_zero;
              },
              All-weaker (λ (b : ℕ × F). e.0 < b.0) (λ (b : ℕ × F). e.0 + 1 ≤ b.0) (λ b h. omega arith) entries (AllPairs-first (λ (a b : ℕ × F). a.0 < b.0) e entries kept.ascending),
            ) in
            rw (low, high, some, later) refl,
      )

  -- the test of all entries, from what it says at the start
  pub order_fails : (entries : List (ℕ × F)) → are_in_order value n 0 entries ≡ false → IsTrue false ↔ AreRowEntries value n entries
  order_fails entries e =
      (λ is. absurd (cc), λ kept. absurd (both_ways (are_in_order value n 0 entries) e ((in_order-tells 0 entries).1 (kept, λ k d h. omega arith))))

  pub order_holds : (entries : List (ℕ × F)) → are_in_order value n 0 entries ≡ true → IsTrue true ↔ AreRowEntries value n entries
  order_holds entries e = (λ is. ((in_order-tells 0 entries).0 e).0, λ kept. refl)

  module _ (entries : List (ℕ × F)) (i least : ℕ) (e : ℕ × F) (here : i < length entries) (is : e ≡ get_or entries i e) where
    order_here : are_in_order value n least (drop i entries) ≡ (nat_le least e.0 && nat_lt e.0 n && not (is_zero_number (value e.1)) && are_in_order value n (e.0 + 1) (drop (i + 1) entries))
    order_here = ap (are_in_order value n least) (drop_item entries i e here is)

    pub low_stops : e.0 < least → are_in_order value n least (drop i entries) ≡ false
    low_stops low = let test : nat_le least e.0 ≡ false = grind (arith, nat_tests) in order_here ∙ rw test refl

    pub high_stops : least ≤ e.0 → n ≤ e.0 → are_in_order value n least (drop i entries) ≡ false
    high_stops low high = let test : nat_lt e.0 n ≡ false = grind (arith, nat_tests) in order_here ∙ rw (test_from_le least e.0 low, test) refl

    pub zero_stops : least ≤ e.0 → e.0 < n → value e.1 ≡ whole (pos 0) → are_in_order value n least (drop i entries) ≡ false
    zero_stops low high none = order_here ∙ rw (test_from_le least e.0 low, test_from_lt e.0 n high, test_of_zero (value e.1) none) refl

    pub order_goes : least ≤ e.0 → e.0 < n → value e.1 ≢ whole (pos 0) → are_in_order value n least (drop i entries) ≡ are_in_order value n (e.0 + 1) (drop (i + 1) entries)
    order_goes low high some = order_here ∙ rw (test_from_le least e.0 low, test_from_lt e.0 n high, test_from_not_zero (value e.1) some) refl

  pub order_ends : (entries : List (ℕ × F)) (i least : ℕ) → length entries ≤ i → are_in_order value n least (drop i entries) ≡ true
  order_ends entries i least end = ap (are_in_order value n least) (drop_all i entries end)
