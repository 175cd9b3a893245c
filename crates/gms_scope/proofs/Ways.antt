-- Ways up from a node: what is above what.
use Rattle.std.proofs.Common.{◌≡◌, ◌<◌, ◌≤◌, ℕ, zero, suc, Bool, true, false, ◌==◌, ◌&&◌, ◌||◌, List, [], ◌∷◌, ◌++◌, length, refl, sym, ap, ◌∙◌, arith, eq-eqb}
use Rattle.std.specs.Prelude.{nat_lt}
use Rattle.std.proofs.lemmas.Bool.{ltb-true, lt-ltb, eqb-true}
use Rattle.std.proofs.lemmas.Bool.Decides.{nat_tests}
use Rattle.std.proofs.Math.ListN.{get_or-append}
use Rattle.std.proofs.Math.Seq.{get_or-append_seam}
use Rattle.gms_scope.specs.declared.order.Node.{Node}
use Rattle.gms_scope.specs.Order.{IsNodeStep, is_under, is_under_within, node_at}

pub within-self : (n : ℕ) (nodes : List Node) (i : ℕ) → is_under_within n nodes i i ≡ true
within-self zero nodes i = eq-eqb i i refl
within-self (suc n) nodes i = rw (eq-eqb i i refl) refl

-- a way has at most as many steps as its first place
pub within-same : (n m : ℕ) (nodes : List Node) (i j : ℕ) → i ≤ n → i ≤ m → is_under_within n nodes i j ≡ is_under_within m nodes i j
within-same zero zero nodes i j a b = refl
within-same zero (suc m) nodes i j a b = by (nat_lt (node_at nodes i).above i) refl
  where
    by : (t : Bool) → nat_lt (node_at nodes i).above i ≡ t → (i == j) ≡ ((i == j) || (t && is_under_within m nodes (node_at nodes i).above j))
    by true less = let l = ltb-true (node_at nodes i).above i less in absurd (omega arith)
    by false _ = grind arith
within-same (suc n) zero nodes i j a b = by (nat_lt (node_at nodes i).above i) refl
  where
    by : (t : Bool) → nat_lt (node_at nodes i).above i ≡ t → ((i == j) || (t && is_under_within n nodes (node_at nodes i).above j)) ≡ (i == j)
    by true less = let l = ltb-true (node_at nodes i).above i less in absurd (omega arith)
    by false _ = grind arith
within-same (suc n) (suc m) nodes i j a b =
    by (nat_lt (node_at nodes i).above i) refl (λ l. within-same n m nodes (node_at nodes i).above j (omega arith) (omega arith))
  where
    by : (t : Bool) → nat_lt (node_at nodes i).above i ≡ t → ((node_at nodes i).above < i → is_under_within n nodes (node_at nodes i).above j ≡ is_under_within m nodes (node_at nodes i).above j) → ((i == j) || (t && is_under_within n nodes (node_at nodes i).above j)) ≡ ((i == j) || (t && is_under_within m nodes (node_at nodes i).above j))
    by true less rest = ap (λ u. (i == j) || u) (rest (ltb-true (node_at nodes i).above i less))
    by false _ _ = refl

-- one step of a way
pub under-step : (nodes : List Node) (i j : ℕ) → is_under nodes i j ≡ ((i == j) || (nat_lt (node_at nodes i).above i && is_under nodes (node_at nodes i).above j))
under-step nodes i j = within-same i (suc i) nodes i j (omega arith) (omega arith) ∙ by (nat_lt (node_at nodes i).above i) refl
  where
    by : (t : Bool) → nat_lt (node_at nodes i).above i ≡ t → ((i == j) || (t && is_under_within i nodes (node_at nodes i).above j)) ≡ ((i == j) || (t && is_under nodes (node_at nodes i).above j))
    by true less =
        let l = ltb-true (node_at nodes i).above i less in
        ap (λ u. (i == j) || u) (within-same i (node_at nodes i).above nodes (node_at nodes i).above j (omega arith) (omega arith))
    by false _ = refl

pub under-self : (nodes : List Node) (i : ℕ) → is_under nodes i i ≡ true
under-self nodes i = within-self i nodes i

within-le : (n : ℕ) (nodes : List Node) (i j : ℕ) → is_under_within n nodes i j ≡ true → j ≤ i
within-le zero nodes i j h = let e = eqb-true i j h in omega arith
within-le (suc n) nodes i j h = by (i == j) refl (nat_lt (node_at nodes i).above i) refl (within-le n nodes (node_at nodes i).above j) h
  where
    by : (s : Bool) → (i == j) ≡ s → (t : Bool) → nat_lt (node_at nodes i).above i ≡ t → (is_under_within n nodes (node_at nodes i).above j ≡ true → j ≤ (node_at nodes i).above) → (s || (t && is_under_within n nodes (node_at nodes i).above j)) ≡ true → j ≤ i
    by true same t _ _ _ = let e = eqb-true i j same in omega arith
    by false _ true less rest h =
        let l = ltb-true (node_at nodes i).above i less in
        let k = rest h in omega arith
    by false _ false _ rest h = absurd cc

-- what is above has an earlier place
pub under-le : (nodes : List Node) (i j : ℕ) → is_under nodes i j ≡ true → j ≤ i
under-le nodes i j h = within-le i nodes i j h

-- what is above a node on the path up is the same from each node of the path
step_over : (n : ℕ) (nodes : List Node) (i k j : ℕ) → i ≤ n → is_under nodes i k ≡ true → j ≤ k → is_under nodes i j ≡ is_under nodes k j
step_over zero nodes i k j most way below =
    let l = under-le nodes i k way in
    ap (λ p. is_under nodes p j) (omega arith)
step_over (suc n) nodes i k j most way below =
    by (i == k) refl (nat_lt (node_at nodes i).above i) refl (λ l above. step_over n nodes (node_at nodes i).above k j (omega arith) above below) (sym (under-step nodes i k) ∙ way)
  where
    by : (s : Bool) → (i == k) ≡ s → (t : Bool) → nat_lt (node_at nodes i).above i ≡ t → ((node_at nodes i).above < i → is_under nodes (node_at nodes i).above k ≡ true → is_under nodes (node_at nodes i).above j ≡ is_under nodes k j) → (s || (t && is_under nodes (node_at nodes i).above k)) ≡ true → is_under nodes i j ≡ is_under nodes k j
    by true same t _ _ _ = ap (λ p. is_under nodes p j) (eqb-true i k same)
    by false _ true less rest above =
        let l = ltb-true (node_at nodes i).above i less in
        let m = under-le nodes (node_at nodes i).above k above in
        let other : (i == j) ≡ false = grind (arith, nat_tests) in
        under-step nodes i j ∙ rw (other, less) (rest l above)
    by false _ false _ _ h = absurd cc

pub under-over : (nodes : List Node) (i k j : ℕ) → is_under nodes i k ≡ true → j ≤ k → is_under nodes i j ≡ is_under nodes k j
under-over nodes i k j way below = step_over i nodes i k j (omega arith) way below

pub under-trans : (nodes : List Node) (i k j : ℕ) → is_under nodes i k ≡ true → is_under nodes k j ≡ true → is_under nodes i j ≡ true
under-trans nodes i k j a b = under-over nodes i k j a (under-le nodes k j b) ∙ b

-- past a node whose place is later
pub under-skip : (nodes : List Node) (i j : ℕ) → j < i → (node_at nodes i).above < i → is_under nodes (node_at nodes i).above j ≡ is_under nodes i j
under-skip nodes i j later less =
    let other : (i == j) ≡ false = grind (arith, nat_tests) in
    let l = lt-ltb (node_at nodes i).above i less in
    sym (under-step nodes i j ∙ rw (other, l) refl)

-- at the end of a way
pub under-end : (nodes : List Node) (i j : ℕ) → i ≤ (node_at nodes i).above → is_under nodes i j ≡ (i == j)
under-end nodes i j most =
    let l : nat_lt (node_at nodes i).above i ≡ false = grind (arith, nat_tests) in
    under-step nodes i j ∙ rw l (by (i == j))
  where
    by : (s : Bool) → (s || false) ≡ s
    by true = refl
    by false = refl

pub under-there : (nodes : List Node) (i j : ℕ) → i ≤ j → is_under nodes i j ≡ (i == j)
under-there nodes i j most = by (is_under nodes i j) refl
  where
    by : (b : Bool) → is_under nodes i j ≡ b → is_under nodes i j ≡ (i == j)
    by true way = let l = under-le nodes i j way in way ∙ sym (eq-eqb i j (omega arith))
    by false not_so = not_so ∙ sym (differs (i == j) refl)
      where
        differs : (s : Bool) → (i == j) ≡ s → (i == j) ≡ false
        differs true same = absurd (let e = ap (λ p. is_under nodes i p) (eqb-true i j same) in let t = under-self nodes i in cc)
        differs false e = e

-- a node's own steps
pub under-above : (nodes : List Node) (i : ℕ) → (node_at nodes i).above ≤ i → is_under nodes i (node_at nodes i).above ≡ true
under-above nodes i most = by (nat_lt (node_at nodes i).above i) refl
  where
    by : (t : Bool) → nat_lt (node_at nodes i).above i ≡ t → is_under nodes i (node_at nodes i).above ≡ true
    by true less =
        under-step nodes i (node_at nodes i).above ∙ rw (less, under-self nodes (node_at nodes i).above) (or_so (i == (node_at nodes i).above))
      where
        or_so : (s : Bool) → (s || true) ≡ true
        or_so true = refl
        or_so false = refl
    by false not_so =
        let l : i ≤ (node_at nodes i).above = grind (arith, nat_tests) in
        let e : (node_at nodes i).above ≡ i = omega arith in
        ap (λ p. is_under nodes i p) e ∙ under-self nodes i

pub under-far : (nodes : List Node) (i : ℕ) → IsNodeStep nodes i (node_at nodes i) → is_under nodes i (node_at nodes i).far ≡ true
under-far nodes i step =
    under-trans nodes i (node_at nodes i).above (node_at nodes i).far (under-above nodes i step.above) step.under

-- two far steps
pub under-farther : (nodes : List Node) (i : ℕ) → ((place : ℕ) → place < length nodes → IsNodeStep nodes place (node_at nodes place)) → i < length nodes → is_under nodes i (node_at nodes (node_at nodes i).far).far ≡ true
under-farther nodes i steps there =
    let near = steps i there in
    let a = near.above in
    let f = near.far in
    under-trans nodes i (node_at nodes i).far _ (under-far nodes i near) (under-far nodes (node_at nodes i).far (steps (node_at nodes i).far (omega arith)))

-- ---- one node more

pub node_at-old : (nodes : List Node) (node : Node) (i : ℕ) → i < length nodes → node_at (nodes ++ node ∷ []) i ≡ node_at nodes i
node_at-old nodes node i there = get_or-append nodes (node ∷ []) _ i there

pub node_at-new : (nodes : List Node) (node : Node) → node_at (nodes ++ node ∷ []) (length nodes) ≡ node
node_at-new nodes node = get_or-append_seam nodes node [] _

within-more : (n : ℕ) (nodes : List Node) (node : Node) (i j : ℕ) → i < length nodes → is_under_within n (nodes ++ node ∷ []) i j ≡ is_under_within n nodes i j
within-more zero nodes node i j there = refl
within-more (suc n) nodes node i j there =
    rw (node_at-old nodes node i there) (by (nat_lt (node_at nodes i).above i) refl (λ l. within-more n nodes node (node_at nodes i).above j (omega arith)))
  where
    by : (t : Bool) → nat_lt (node_at nodes i).above i ≡ t → ((node_at nodes i).above < i → is_under_within n (nodes ++ node ∷ []) (node_at nodes i).above j ≡ is_under_within n nodes (node_at nodes i).above j) → ((i == j) || (t && is_under_within n (nodes ++ node ∷ []) (node_at nodes i).above j)) ≡ ((i == j) || (t && is_under_within n nodes (node_at nodes i).above j))
    by true less rest = ap (λ u. (i == j) || u) (rest (ltb-true (node_at nodes i).above i less))
    by false _ _ = refl

pub under-more : (nodes : List Node) (node : Node) (i j : ℕ) → i < length nodes → is_under (nodes ++ node ∷ []) i j ≡ is_under nodes i j
under-more nodes node i j there = within-more i nodes node i j there
