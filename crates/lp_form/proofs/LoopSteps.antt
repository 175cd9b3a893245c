-- The steps of the loops, as the code runs them: the result so far, followed by whatever the rest
-- gives.
use Rattle.std.proofs.Common.{◌≡◌, ◌≢◌, ◌-◌, slice_get, ℕ, suc, ◌⊎◌, inl, inr, ◌+◌, ◌<◌, ◌≤◌, Bool, true, false, pos, List, [], ◌∷◌, ◌++◌, length, get_or, drop, take, Option, Some, None, Result, Ok, Err, refl, sym, ap, ◌∙◌, subst, arith, append_assoc, drop-cons, add-one, length-drop}
use Rattle.std.specs.declared.cmp.Ordering.TheVariants.{Less, Equal}
use Rattle.std.specs.List.{All}
use Rattle.std.proofs.lemmas.List.Elements.{All-cons, All-weaker, All-nil, All-get_or}
use Rattle.std.proofs.lemmas.Option.{get_or_from_slice_get}
use Rattle.std.proofs.lemmas.List.{drop_all, take_all, append-nil, get_or_default}
use Rattle.std.specs.declared.cmp.Ordering.TheVariants.{Greater}
use Rattle.gq_number.specs.Number.{Number, whole, ◌+ℚ◌}
use Rattle.gq_field.specs.Fits.{sum_fits, Answers}
use Rattle.lp_form.specs.declared.key.Key.{Key}
use Rattle.lp_form.specs.declared.terms.Turn.{Turn}
use Rattle.lp_form.specs.declared.terms.Turn.TheVariants as turn
use Rattle.std.specs.declared.cmp.Ordering.{Ordering}
use Rattle.std.specs.Ordering.{is_lt}
use Rattle.lp_form.specs.Keys.{key_cmp, AreOrdered}
use Rattle.lp_form.specs.Forms.{Step}
use Rattle.lp_form.specs.InnerMerging.{IsBeforeFirst, Comes, Outcome, values_first, after, Merges, done, left, right, both, gone, stopped, Changes, no_more, kept, dropped, halted, PushesUnlessZero, IsFaultAt, OnOutcome}
use Rattle.lp_form.specs.declared.fault.FormFault.{FormFault}
use Rattle.lp_form.specs.declared.fault.FormFault.TheVariants as fault
use Rattle.lp_form.specs.declared.terms.Terms.{Terms}
use Rattle.gq_field.specs.declared.field.Limit.{Limit}
use Rattle.std.specs.Result.{IsErr}
use Rattle.lp_form.proofs.KeyOrder.{first-before, rest-ordered, key_cmp-total, key_cmp-flip}

-- a list from a place on, by its element there
pub drop_item : {X : Type 0} (xs : List X) (i : ℕ) (x : X) → i < length xs → x ≡ get_or xs i x → drop i xs ≡ x ∷ drop (i + 1) xs
drop_item xs i x h e = rw (add-one) (drop-cons xs i x h ∙ ap (λ y. y ∷ drop (suc i) xs) (sym e))

-- an element that is there does not depend on the default
pub get_or_itself : {X : Type 0} (xs : List X) (i : ℕ) (d : X) → i < length xs → get_or xs i d ≡ get_or xs i (get_or xs i d)
get_or_itself xs i d h = get_or_default xs i d (get_or xs i d) h

pub after_push : {F : Type 0} (keys : List Key) (numbers : List F) (k : Key) (x : F) (r : Outcome F) → after (keys ++ k ∷ []) (numbers ++ x ∷ []) r ≡ after keys numbers (values_first k x r)
after_push keys numbers k x (Ok made) = λ i. Ok (record { keys = append_assoc keys (k ∷ []) made.keys i; numbers = append_assoc numbers (x ∷ []) made.numbers i })
after_push keys numbers k x (Err key) = refl

-- ---- whose turn it is

pub comes-left_some : (ks ls : List Key) → Comes ks ls (Some turn.Left) → 0 < length ks
comes-left_some [] [] h = absurd h
comes-left_some [] (l ∷ ls) h = absurd h
comes-left_some (k ∷ ks) ls h = omega arith

pub comes-right_some : (ks ls : List Key) → Comes ks ls (Some turn.Right) → 0 < length ls
comes-right_some [] [] h = absurd h
comes-right_some (k ∷ ks) [] h = absurd h
comes-right_some ks (l ∷ ls) h = omega arith

pub comes-both_some : (ks ls : List Key) → Comes ks ls (Some turn.Both) → (0 < length ks) × (0 < length ls)
comes-both_some [] [] h = absurd h
comes-both_some [] (l ∷ ls) h = absurd h
comes-both_some (k ∷ ks) [] h = absurd h
comes-both_some (k ∷ ks) (l ∷ ls) h = (omega arith, omega arith)

pub comes-none : (ks ls : List Key) → Comes ks ls None → (ks ≡ []) × (ls ≡ [])
comes-none [] [] h = (refl, refl)
comes-none [] (l ∷ ls) h = absurd h
comes-none (k ∷ ks) [] h = absurd h
comes-none (k ∷ ks) (l ∷ ls) h = absurd h

pub comes_after : (ks ls : List Key) (k l : Key) → slice_get ks 0 ≡ Some k → slice_get ls 0 ≡ Some l → key_cmp k l ≡ Greater → Comes ks ls (Some turn.Right)
comes_after [] ls k l e f h = absurd (cc)
comes_after (j ∷ ks) [] k l e f h = absurd (cc)
comes_after (j ∷ ks) (i ∷ ls) k l e f h =
    let first : j ≡ k = cc in
    let second : i ≡ l = cc in
    rw (first, second) (key_cmp-flip k l Greater h)

-- what comes before the last of keys in order, or is it
up_to_last : (k : Key) (ks : List Key) (last : Key) → slice_get (k ∷ ks) (length (k ∷ ks) - 1) ≡ Some last → AreOrdered (k ∷ ks) → All (λ j. (key_cmp j last ≡ Less) ⊎ (j ≡ last)) (k ∷ ks)
up_to_last k [] last e ordered =
    All-cons (λ j. (key_cmp j last ≡ Less) ⊎ (j ≡ last)) k [] (inr (cc)) (All-nil (λ j. (key_cmp j last ≡ Less) ⊎ (j ≡ last)))
up_to_last k (j ∷ ks) last e ordered =
    let here : length (k ∷ j ∷ ks) - 1 ≡ suc (length ks) = omega arith in
    let there : length (j ∷ ks) - 1 ≡ length ks = omega arith in
    let at_end : slice_get (j ∷ ks) (length (j ∷ ks) - 1) ≡ Some last = rw there (subst (λ n. slice_get (k ∷ j ∷ ks) n ≡ Some last) here e) in
    let found : get_or (j ∷ ks) (length ks) last ≡ last = get_or_from_slice_get (j ∷ ks) (length ks) last last (subst (λ n. slice_get (j ∷ ks) n ≡ Some last) there at_end) in
    let before : key_cmp k last ≡ Less = subst (λ l. key_cmp k l ≡ Less) found (All-get_or (λ l. key_cmp k l ≡ Less) (j ∷ ks) (length ks) last (omega arith) (first-before k (j ∷ ks) ordered)) in
    let rest = up_to_last j ks last at_end (rest-ordered k (j ∷ ks) ordered) in
    All-cons (λ j. (key_cmp j last ≡ Less) ⊎ (j ≡ last)) k (j ∷ ks) (inl before) rest

-- keys whose last comes before another key all do
pub all-before : (ks : List Key) (last l : Key) → slice_get ks (length ks - 1) ≡ Some last → AreOrdered ks → key_cmp last l ≡ Less → All (λ k. key_cmp k l ≡ Less) ks
all-before [] last l e ordered less = All-nil (λ k. key_cmp k l ≡ Less)
all-before (k ∷ ks) last l e ordered less =
    All-weaker (λ j. (key_cmp j last ≡ Less) ⊎ (j ≡ last)) (λ j. key_cmp j l ≡ Less) (λ j h. elim h [ inl before ↦ key_cmp-total.trans j last l before less | inr is ↦ rw is less ]) (k ∷ ks) (up_to_last k ks last e ordered)

-- keys whose last comes before the first of others
pub following-before : (ls ks : List Key) (first last : Key) → slice_get ls 0 ≡ Some first → slice_get ks (length ks - 1) ≡ Some last → AreOrdered ks → key_cmp last first ≡ Less → All (λ k. IsBeforeFirst k ls) ks
following-before [] ks first last e f ordered less = absurd (cc)
following-before (l ∷ ls) ks first last e f ordered less =
    let is : l ≡ first = cc in
    rw is (all-before ks last first f ordered less)

comes-left_at : (k : Key) (ks ls : List Key) → Comes (k ∷ ks) ls (Some turn.Left) → IsBeforeFirst k ls
comes-left_at k ks [] h = h
comes-left_at k ks (l ∷ ls) h = h

comes-right_at : (l : Key) (ks ls : List Key) → Comes ks (l ∷ ls) (Some turn.Right) → IsBeforeFirst l ks
comes-right_at l [] ls h = h
comes-right_at l (k ∷ ks) ls h = h

-- the rest of a list, as a slice from a place to the end has it
rest_taken : {X : Type 0} (xs : List X) (i : ℕ) → take (length xs - i) (drop i xs) ≡ drop i xs
rest_taken xs i = take_all (length xs - i) (drop i xs) (omega (arith, length-drop i xs))

pub comes_rests : (ks ls : List Key) (i j : ℕ) (t : Option Turn) → Comes (take (length ks - i) (drop i ks)) (take (length ls - j) (drop j ls)) t → Comes (drop i ks) (drop j ls) t
comes_rests ks ls i j t h = rw (rest_taken ks i, rest_taken ls j) at h

-- what comes before by the test
pub Less-from_test : (o : Ordering) → is_lt o ≡ true → o ≡ Less
Less-from_test Less e = refl
Less-from_test Equal e = absurd (cc)
Less-from_test Greater e = absurd (cc)

-- a place before the end, where something is left
pub before_end : {X : Type 0} (xs : List X) (i : ℕ) → 0 < length (drop i xs) → i < length xs
before_end xs i h = omega (arith, length-drop i xs)

module _ {F : Type 0} (value : F → Number) (limit : ℕ) (ks : List Key) (xs : List F) (ls : List Key) (ys : List F) where
  -- the result so far, followed by the merge of the rests, is the merge of the lists
  abbrev pub Merging : ℕ → ℕ → List Key → List F → Type 0
  Merging i j keys numbers = (r : Outcome F) → Merges value limit (drop i ks) (drop i xs) (drop j ls) (drop j ys) r → Merges value limit ks xs ls ys (after keys numbers r)

  pub turn_left : (i j : ℕ) (keys : List Key) (numbers : List F) (k : Key) (x : F) → Merging i j keys numbers → length xs ≡ length ks → Comes (drop i ks) (drop j ls) (Some turn.Left) → k ≡ get_or ks i k → x ≡ get_or xs i x → Merging (i + 1) j (keys ++ k ∷ []) (numbers ++ x ∷ [])
  turn_left i j keys numbers k x so_far paired comes k_is x_is r m =
      let here : i < length ks = before_end ks i (comes-left_some (drop i ks) (drop j ls) comes) in
      let there : i < length xs = omega arith in
      let keys_from = drop_item ks i k here k_is in
      let numbers_from = drop_item xs i x there x_is in
      let before = comes-left_at k (drop (i + 1) ks) (drop j ls) (subst (λ zs. Comes zs (drop j ls) (Some turn.Left)) keys_from comes) in
      rw (after_push keys numbers k x r) (so_far (values_first k x r) (rw (keys_from, numbers_from) (left before m)))

  pub turn_right : (i j : ℕ) (keys : List Key) (numbers : List F) (l : Key) (y : F) → Merging i j keys numbers → length ys ≡ length ls → Comes (drop i ks) (drop j ls) (Some turn.Right) → l ≡ get_or ls j l → y ≡ get_or ys j y → Merging i (j + 1) (keys ++ l ∷ []) (numbers ++ y ∷ [])
  turn_right i j keys numbers l y so_far paired comes l_is y_is r m =
      let here : j < length ls = before_end ls j (comes-right_some (drop i ks) (drop j ls) comes) in
      let there : j < length ys = omega arith in
      let keys_from = drop_item ls j l here l_is in
      let numbers_from = drop_item ys j y there y_is in
      let before = comes-right_at l (drop i ks) (drop (j + 1) ls) (subst (λ zs. Comes (drop i ks) zs (Some turn.Right)) keys_from comes) in
      rw (after_push keys numbers l y r) (so_far (values_first l y r) (rw (keys_from, numbers_from) (right before m)))

  -- both lists, each from its element on
  module _ (i j : ℕ) (keys : List Key) (numbers : List F) (k l : Key) (x y : F) (so_far : Merging i j keys numbers) (paired : length xs ≡ length ks) (others_paired : length ys ≡ length ls) (comes : Comes (drop i ks) (drop j ls) (Some turn.Both)) (k_is : k ≡ get_or ks i k) (x_is : x ≡ get_or xs i x) (y_is : y ≡ get_or ys j y) (l_is : l ≡ get_or ls j l) where
    here : i < length ks
    here = before_end ks i (comes-both_some (drop i ks) (drop j ls) comes).0

    there : j < length ls
    there = before_end ls j (comes-both_some (drop i ks) (drop j ls) comes).1

    keys_from : drop i ks ≡ k ∷ drop (i + 1) ks
    keys_from = drop_item ks i k here k_is

    others_from : drop j ls ≡ l ∷ drop (j + 1) ls
    others_from = drop_item ls j l there l_is

    numbers_from : drop i xs ≡ x ∷ drop (i + 1) xs
    numbers_from = drop_item xs i x (omega (arith, here)) x_is

    other_numbers_from : drop j ys ≡ y ∷ drop (j + 1) ys
    other_numbers_from = drop_item ys j y (omega (arith, there)) y_is

    same : key_cmp k l ≡ Equal
    same = subst (λ zs. Comes zs (l ∷ drop (j + 1) ls) (Some turn.Both)) keys_from (subst (λ zs. Comes (drop i ks) zs (Some turn.Both)) others_from comes)

    pub turn_both : (z : F) → sum_fits limit (value x) (value y) ≡ true → value z ≡ value x +ℚ value y → value z ≢ whole (pos 0) → Merging (i + 1) (j + 1) (keys ++ k ∷ []) (numbers ++ z ∷ [])
    turn_both z fits sum some r m =
        rw (after_push keys numbers k z r) (so_far (values_first k z r) (rw (keys_from, numbers_from, others_from, other_numbers_from) (both same fits sum some m)))

    pub turn_gone : sum_fits limit (value x) (value y) ≡ true → value x +ℚ value y ≡ whole (pos 0) → Merging (i + 1) (j + 1) keys numbers
    turn_gone fits sum r m = so_far r (rw (keys_from, numbers_from, others_from, other_numbers_from) (gone same fits sum m))

    pub turn_stopped : sum_fits limit (value x) (value y) ≡ false → Merges value limit ks xs ls ys (Err k)
    turn_stopped none = so_far (Err k) (rw (keys_from, numbers_from, others_from, other_numbers_from) (stopped same none))

  -- where both lists are at their ends, what is made is all
  pub merging-end : (i j : ℕ) (keys : List Key) (numbers : List F) → Merging i j keys numbers → length xs ≡ length ks → length ys ≡ length ls → Comes (drop i ks) (drop j ls) None → Merges value limit ks xs ls ys (Ok (record { keys = keys; numbers = numbers }))
  merging-end i j keys numbers so_far paired others_paired comes =
      let ends = comes-none (drop i ks) (drop j ls) comes in
      let no_number : drop i xs ≡ [] = drop_all i xs (omega (arith, ap length ends.0, length-drop i ks)) in
      let no_other : drop j ys ≡ [] = drop_all j ys (omega (arith, ap length ends.1, length-drop j ls)) in
      let all = so_far (Ok (record { keys = []; numbers = [] })) (rw (ends.0, ends.1, no_number, no_other) done) in
      rw (append-nil keys, append-nil numbers) at all

-- ---- what the code's pieces answer

-- where a step failed its test does not hold
pub answered_err : {F : Type 0} (value : F → Number) (r : Result F Limit) (test : Bool) (x : Number) → Answers value r test x → IsErr r → test ≡ false
answered_err value (Ok y) test x h e = absurd (cc)
answered_err value (Err y) test x h e = h

pub answered_ok : {F : Type 0} (value : F → Number) (r : Result F Limit) (test : Bool) (x : Number) (y : F) → Answers value r test x → r ≡ Ok y → (test ≡ true) × (value y ≡ x)
answered_ok value (Ok z) test x y h e = let same : z ≡ y = cc in rw (← same) h
answered_ok value (Err z) test x y h e = absurd (cc)

-- a fault at a key is an outcome
pub on_fault : {F : Type 0} (P : Outcome F → Type 0) (k : Key) (fault : FormFault) → IsFaultAt k fault → P (Err k) → OnOutcome P (Err fault)
on_fault P k (fault.Limit at) e h = rw e h
on_fault P k fault.Memory e h = tt

module _ {F : Type 0} (value : F → Number) (step : Number → Step) (ks : List Key) (xs : List F) where
  -- the result so far, followed by the changed rest, is the changed list
  abbrev pub Changing : ℕ → List Key → List F → Type 0
  Changing i keys numbers = (r : Outcome F) → Changes value step (drop i ks) (drop i xs) r → Changes value step ks xs (after keys numbers r)

  pub turn_changed : (i : ℕ) (before now : Terms F) (k : Key) (x z : F) → Changing i before.keys.items before.numbers.items → i < length ks → length xs ≡ length ks → k ≡ get_or ks i k → x ≡ get_or xs i x → (step (value x)).fits ≡ true → value z ≡ (step (value x)).number → PushesUnlessZero value k z before now → Changing (i + 1) now.keys.items now.numbers.items
  turn_changed i before now k x z so_far here paired k_is x_is fits is pushed r m =
      let there : i < length xs = omega arith in
      let keys_from = drop_item ks i k here k_is in
      let numbers_from = drop_item xs i x there x_is in
      elim pushed [
        | inl p ↦ rw (p.1, p.2, after_push before.keys.items before.numbers.items k z r) (so_far (values_first k z r) (rw (keys_from, numbers_from) (kept fits is p.0 m)))
        | inr p ↦ rw (p.1, p.2) (so_far r (rw (keys_from, numbers_from) (dropped fits (sym is ∙ p.0) m)))
      ]

  pub turn_unchanged : (i : ℕ) (keys : List Key) (numbers : List F) (k : Key) (x : F) → Changing i keys numbers → i < length ks → length xs ≡ length ks → k ≡ get_or ks i k → x ≡ get_or xs i x → (step (value x)).fits ≡ false → Changes value step ks xs (Err k)
  turn_unchanged i keys numbers k x so_far here paired k_is x_is none =
      let there : i < length xs = omega arith in
      so_far (Err k) (rw (drop_item ks i k here k_is, drop_item xs i x there x_is) (halted none))

  pub changing-end : (i : ℕ) (keys : List Key) (numbers : List F) → Changing i keys numbers → length ks ≤ i → length xs ≡ length ks → Changes value step ks xs (Ok (record { keys = keys; numbers = numbers }))
  changing-end i keys numbers so_far end paired =
      let no_key : drop i ks ≡ [] = drop_all i ks end in
      let no_number : drop i xs ≡ [] = drop_all i xs (omega arith) in
      let all = so_far (Ok (record { keys = []; numbers = [] })) (rw (no_key, no_number) no_more) in
      rw (append-nil keys, append-nil numbers) at all

-- a turn of both lists, with the sum put at the end unless it is 0
pub turn_summed : {F : Type 0} (value : F → Number) (limit : ℕ) (ks : List Key) (xs : List F) (ls : List Key) (ys : List F) (i j : ℕ) (before now : Terms F) (k : Key) (x y z : F) → Merging value limit ks xs ls ys i j before.keys.items before.numbers.items → length xs ≡ length ks → length ys ≡ length ls → Comes (drop i ks) (drop j ls) (Some turn.Both) → k ≡ get_or ks i k → x ≡ get_or xs i x → y ≡ get_or ys j y → sum_fits limit (value x) (value y) ≡ true → value z ≡ value x +ℚ value y → PushesUnlessZero value k z before now → Merging value limit ks xs ls ys (i + 1) (j + 1) now.keys.items now.numbers.items
turn_summed value limit ks xs ls ys i j before now k x y z so_far paired others_paired comes k_is x_is y_is fits sum pushed r m =
    let l = get_or ls j k in
    let l_is : l ≡ get_or ls j l = get_or_itself ls j k (before_end ls j (comes-both_some (drop i ks) (drop j ls) comes).1) in
    elim pushed [
      | inl p ↦ rw (p.1, p.2) (turn_both value limit ks xs ls ys i j before.keys.items before.numbers.items k l x y so_far paired others_paired comes k_is x_is y_is l_is z fits sum p.0 r m)
      | inr p ↦ rw (p.1, p.2) (turn_gone value limit ks xs ls ys i j before.keys.items before.numbers.items k l x y so_far paired others_paired comes k_is x_is y_is l_is fits (sym sum ∙ p.0) r m)
    ]

pub turn_unsummed : {F : Type 0} (value : F → Number) (limit : ℕ) (ks : List Key) (xs : List F) (ls : List Key) (ys : List F) (i j : ℕ) (keys : List Key) (numbers : List F) (k : Key) (x y : F) → Merging value limit ks xs ls ys i j keys numbers → length xs ≡ length ks → length ys ≡ length ls → Comes (drop i ks) (drop j ls) (Some turn.Both) → k ≡ get_or ks i k → x ≡ get_or xs i x → y ≡ get_or ys j y → sum_fits limit (value x) (value y) ≡ false → Merges value limit ks xs ls ys (Err k)
turn_unsummed value limit ks xs ls ys i j keys numbers k x y so_far paired others_paired comes k_is x_is y_is none =
    let l = get_or ls j k in
    let l_is : l ≡ get_or ls j l = get_or_itself ls j k (before_end ls j (comes-both_some (drop i ks) (drop j ls) comes).1) in
    turn_stopped value limit ks xs ls ys i j keys numbers k l x y so_far paired others_paired comes k_is x_is y_is l_is none
