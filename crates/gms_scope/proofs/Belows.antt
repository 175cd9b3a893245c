-- What is below what, by names and by places.
use mathlib.Core.Bool.{or-false}
use Rattle.std.proofs.Common.{◌≡◌, ◌<◌, ◌≤◌, ℕ, zero, suc, ◌-◌, Bool, true, false, ◌==◌, ◌&&◌, ◌||◌, List, [], ◌∷◌, length, refl, sym, ap, ◌∙◌, arith, eq-eqb, subst, if◌then◌else◌, Option, Some, None}
use Rattle.std.specs.Prelude.{nat_lt, slice_index_or}
use Rattle.std.proofs.lemmas.Bool.{lt-ltb, eqb-true}
use Rattle.std.proofs.lemmas.Bool.Decides.{nat_tests}
use Rattle.gms_scope.specs.declared.order.Node.{Node}
use Rattle.gms_scope.specs.Below.{bounds, is_below_within, is_met_before, is_some_with}
use Rattle.gms_scope.specs.Names.{is_index_set}
use Rattle.gms_store.specs.State.{State, base_of}
use Rattle.gms_scope.specs.Entries.{above_of, among, is_entered, names_of_entries}
use Rattle.gms_scope.specs.Order.{IsAbove, IsNodeStep, entries_of_nodes, is_under, is_under_within, later, names_of_nodes, node_at, order_of}
use Rattle.gms_scope.proofs.Ways.{within-same}
use Rattle.gms_scope.proofs.Orders.{names-length, order-most, order-name}

-- the set above a name is that of its first node
below-at : (nodes : List Node) (name place : ℕ) (d : Node) → order_of (names_of_nodes nodes) name ≡ suc place → above_of (entries_of_nodes nodes) name ≡ (slice_index_or nodes place d).below
below-at [] name place d e = absurd (omega arith)
below-at (node ∷ nodes) name place d e =
    by (node.name == name) (order_of (names_of_nodes nodes) name) (λ p. below-at nodes name p d) place e
  where
    by : (s : Bool) (o : ℕ) → ((p : ℕ) → o ≡ suc p → above_of (entries_of_nodes nodes) name ≡ (slice_index_or nodes p d).below) → (place : ℕ) → (if s then 1 else later o) ≡ suc place → (if s then node.below else above_of (entries_of_nodes nodes) name) ≡ (slice_index_or (node ∷ nodes) place d).below
    by true o _ zero e = refl
    by true o _ (suc place) e = absurd (omega arith)
    by false zero _ place e = absurd (omega arith)
    by false (suc o) _ zero e = absurd (omega arith)
    by false (suc o) rest (suc place) e = rest place (omega arith)

above-at : (nodes : List Node) (name place : ℕ) → order_of (names_of_nodes nodes) name ≡ suc place → above_of (entries_of_nodes nodes) name ≡ (node_at nodes place).below
above-at nodes name place e = below-at nodes name place _ e

-- a name that is not declared is below nothing
above-none : (nodes : List Node) (name : ℕ) → order_of (names_of_nodes nodes) name ≡ 0 → above_of (entries_of_nodes nodes) name ≡ None
above-none [] name e = refl
above-none (node ∷ nodes) name e = by (node.name == name) (order_of (names_of_nodes nodes) name) (above-none nodes name) e
  where
    by : (s : Bool) (o : ℕ) → (o ≡ 0 → above_of (entries_of_nodes nodes) name ≡ None) → (if s then 1 else later o) ≡ 0 → (if s then node.below else above_of (entries_of_nodes nodes) name) ≡ None
    by true o _ e = absurd (omega arith)
    by false zero rest e = rest refl
    by false (suc o) _ e = absurd (omega arith)

-- two names are one where their orders are
same-order : (names : List ℕ) (a b i j : ℕ) → order_of names a ≡ suc i → order_of names b ≡ suc j → (a == b) ≡ (i == j)
same-order names a b i j p q = by (a == b) refl (i == j) refl
  where
    by : (s : Bool) → (a == b) ≡ s → (t : Bool) → (i == j) ≡ t → s ≡ t
    by true e true f = refl
    by false e false f = refl
    by true e false f =
        let same = ap (order_of names) (eqb-true a b e) in
        let k : i ≡ j = omega arith in
        absurd (let t = eq-eqb i j k in cc)
    by false e true f =
        let k = eqb-true i j f in
        let same : a ≡ b = sym (order-name names a i p) ∙ ap (λ n. slice_index_or names n 0) k ∙ order-name names b j q in
        absurd (let t = eq-eqb a b same in cc)

module _ (nodes : List Node) (steps : (place : ℕ) → place < length nodes → IsNodeStep nodes place (node_at nodes place)) where
  step_at : (name place : ℕ) → order_of (names_of_nodes nodes) name ≡ suc place → IsAbove (names_of_nodes nodes) (above_of (entries_of_nodes nodes) name) place (node_at nodes place).above
  step_at name place e =
      let m = order-most (names_of_nodes nodes) name in
      let l = names-length nodes in
      let s = steps place (omega arith) in
      subst (λ b. IsAbove (names_of_nodes nodes) b place (node_at nodes place).above) (sym (above-at nodes name place e)) s.below

  -- nothing but itself is below a name that is not declared
  pub below-none : (n a b : ℕ) → order_of (names_of_nodes nodes) b ≡ 0 → is_below_within n (above_of (entries_of_nodes nodes)) a b ≡ (a == b)
  below-none zero a b none = refl
  below-none (suc n) a b none =
      ap (λ r. (a == b) || r) (by (order_of (names_of_nodes nodes) a) refl (above_of (entries_of_nodes nodes) a) refl (λ c. below-none n c b none)) ∙ or-false (a == b)
    where
      differs : (c i : ℕ) → order_of (names_of_nodes nodes) c ≡ suc i → (c == b) ≡ false
      differs c i e = at (c == b) refl
        where
          at : (s : Bool) → (c == b) ≡ s → s ≡ false
          at true same = let f = ap (order_of (names_of_nodes nodes)) (eqb-true c b same) in absurd (omega arith)
          at false same = refl

      by : (o : ℕ) → order_of (names_of_nodes nodes) a ≡ o → (above : Option ℕ) → above_of (entries_of_nodes nodes) a ≡ above → ((c : ℕ) → is_below_within n (above_of (entries_of_nodes nodes)) c b ≡ (c == b)) → is_some_with above (λ c. is_below_within n (above_of (entries_of_nodes nodes)) c b) ≡ false
      by o e None is rest = refl
      by zero e (Some c) is rest = let f = above-none nodes a e in absurd cc
      by (suc i) e (Some c) is rest =
          let s = subst (λ x. IsAbove (names_of_nodes nodes) x i (node_at nodes i).above) is (step_at a i e) in
          rest c ∙ differs c (node_at nodes i).above s.0

  pub none-below : (n a b : ℕ) → order_of (names_of_nodes nodes) a ≡ 0 → is_below_within n (above_of (entries_of_nodes nodes)) a b ≡ (a == b)
  none-below zero a b none = refl
  none-below (suc n) a b none = rw (above-none nodes a none) (or-false (a == b))

  pub below-under : (n a b i j : ℕ) → order_of (names_of_nodes nodes) a ≡ suc i → order_of (names_of_nodes nodes) b ≡ suc j → i ≤ n → is_below_within n (above_of (entries_of_nodes nodes)) a b ≡ is_under_within n nodes i j
  below-under zero a b i j p q l = same-order (names_of_nodes nodes) a b i j p q
  below-under (suc n) a b i j p q l =
      ap (λ s. s || is_some_with (above_of (entries_of_nodes nodes) a) (λ c. is_below_within n (above_of (entries_of_nodes nodes)) c b)) (same-order (names_of_nodes nodes) a b i j p q) ∙ ap (λ r. (i == j) || r) (by (above_of (entries_of_nodes nodes) a) (step_at a i p) (λ c e l. below-under n c b (node_at nodes i).above j e q l))
    where
      by : (above : Option ℕ) → IsAbove (names_of_nodes nodes) above i (node_at nodes i).above → ((c : ℕ) → order_of (names_of_nodes nodes) c ≡ suc (node_at nodes i).above → (node_at nodes i).above ≤ n → is_below_within n (above_of (entries_of_nodes nodes)) c b ≡ is_under_within n nodes (node_at nodes i).above j) → is_some_with above (λ c. is_below_within n (above_of (entries_of_nodes nodes)) c b) ≡ (nat_lt (node_at nodes i).above i && is_under_within n nodes (node_at nodes i).above j)
      by None s rest =
          let f : nat_lt (node_at nodes i).above i ≡ false = grind (arith, nat_tests) in
          rw f refl
      by (Some c) s rest =
          let k = s.1 in
          rw (lt-ltb (node_at nodes i).above i s.1) (rest c s.0 (omega arith))

  -- what is below a declared name, by places
  pub below-places : (a b o p : ℕ) → o ≡ order_of (names_of_nodes nodes) a → p ≡ order_of (names_of_nodes nodes) b → (o ≡ 0 → ⊥) → (p ≡ 0 → ⊥) → is_under nodes (o - 1) (p - 1) ≡ is_below_within (length nodes) (above_of (entries_of_nodes nodes)) a b
  below-places a b zero p e f g h = absurd (g refl)
  below-places a b (suc i) zero e f g h = absurd (h refl)
  below-places a b (suc i) (suc j) e f g h =
      let m = order-most (names_of_nodes nodes) a in
      let l = names-length nodes in
      let t : i ≤ length nodes = omega arith in
      ap (λ k. is_under nodes k (suc j - 1)) (one_less i) ∙ ap (is_under nodes i) (one_less j) ∙ within-same i (length nodes) nodes i j (omega arith) t ∙ sym (below-under (length nodes) a b i j (sym e) (sym f) t)
    where
      one_less : (k : ℕ) → suc k - 1 ≡ k
      one_less k = omega arith

-- whether an order is one
abbrev pub some_order : ℕ → Bool
some_order zero = false
some_order (suc order) = true

-- a name is entered where it has an order
pub entered-order : (nodes : List Node) (name : ℕ) → is_entered (entries_of_nodes nodes) name ≡ some_order (order_of (names_of_nodes nodes) name)
entered-order [] name = refl
entered-order (node ∷ nodes) name = by (node.name == name) (order_of (names_of_nodes nodes) name) (entered-order nodes name)
  where
    by : (s : Bool) (o : ℕ) → is_entered (entries_of_nodes nodes) name ≡ some_order o → (s || is_entered (entries_of_nodes nodes) name) ≡ some_order (if s then 1 else later o)
    by true o e = refl
    by false zero e = e
    by false (suc o) e = e

pub among-none : (nodes : List Node) (above : Option ℕ) (name order : ℕ) → above ≡ Some name → order ≡ order_of (names_of_nodes nodes) name → order ≡ 0 → among (entries_of_nodes nodes) above ≡ None
among-none nodes above name order is e none =
    ap (among (entries_of_nodes nodes)) is ∙ ap (λ (s : Bool). if s then Some name else None) (entered-order nodes name ∙ ap some_order (sym e ∙ none))

pub among-some : (nodes : List Node) (above : Option ℕ) (name order : ℕ) → above ≡ Some name → order ≡ order_of (names_of_nodes nodes) name → (order ≡ 0 → ⊥) → among (entries_of_nodes nodes) above ≡ above
among-some nodes above name order is e some =
    ap (among (entries_of_nodes nodes)) is ∙ ap (λ (s : Bool). if s then Some name else None) (entered-order nodes name ∙ ap some_order (sym e) ∙ at order some) ∙ sym is
  where
    at : (o : ℕ) → (o ≡ 0 → ⊥) → some_order o ≡ true
    at zero some = absurd (some refl)
    at (suc o) some = refl

pub above-some : (nodes : List Node) (above : Option ℕ) (name order place : ℕ) → above ≡ Some name → order ≡ order_of (names_of_nodes nodes) name → (order ≡ 0 → ⊥) → order - 1 < place → IsAbove (names_of_nodes nodes) above place (order - 1)
above-some nodes above name order place is e some less =
    subst (λ a. IsAbove (names_of_nodes nodes) a place (order - 1)) (sym is) (sym e ∙ omega arith, less)

pub entry-names : (nodes : List Node) → names_of_entries (entries_of_nodes nodes) ≡ names_of_nodes nodes
entry-names [] = refl
entry-names (node ∷ nodes) = ap (λ names. node.name ∷ names) (entry-names nodes)

pub bounds-by : (state : State) (nodes : List Node) (name domain_set base : ℕ) (r : Bool) → true ≡ is_index_set state domain_set → base ≡ base_of state name → r ≡ is_met_before (names_of_nodes nodes) domain_set base → r ≡ bounds state (names_of_entries (entries_of_nodes nodes)) name domain_set
bounds-by state nodes name domain_set base r one is so =
    so ∙ ap (is_met_before (names_of_nodes nodes) domain_set) is ∙ ap (λ names. is_met_before names domain_set (base_of state name)) (sym (entry-names nodes)) ∙ ap (λ b. b && is_met_before (names_of_entries (entries_of_nodes nodes)) domain_set (base_of state name)) one
