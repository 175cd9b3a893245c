-- The orders of names.
use Rattle.std.proofs.Common.{◌≡◌, ◌≢◌, ◌<◌, ◌≤◌, ℕ, zero, suc, ◌+◌, ◌-◌, Bool, true, false, ◌==◌, List, [], ◌∷◌, ◌++◌, length, refl, sym, ap, ◌∙◌, arith, eq-eqb, subst, if◌then◌else◌, Option, Some, None}
use Rattle.std.specs.Prelude.{nat_lt, slice_index_or}
use Rattle.std.proofs.lemmas.Bool.{ltb-true, eqb-true}
use Rattle.std.proofs.lemmas.Bool.Decides.{nat_tests}
use Rattle.gms_scope.specs.Below.{is_met_before}
use Rattle.std.proofs.lemmas.List.{get_or_past, map-append, length-map, length-append, get_or-set_same, get_or-set_other}
use Rattle.std.proofs.Math.ListN.{set}
use Rattle.gms_scope.specs.declared.order.Node.{Node}
use Rattle.gms_scope.specs.Order.{IsAbove, IsNodeStep, is_under, is_earlier, later, names_of_nodes, new_order, node_at, order_of}
use Rattle.gms_scope.proofs.Ways.{node_at-new, node_at-old, under-end, under-more, under-self}

later-earlier : (o p : ℕ) → is_earlier (later o) (later p) ≡ is_earlier o p
later-earlier zero p = refl
later-earlier (suc o) zero = refl
later-earlier (suc o) (suc p) = grind (arith, nat_tests)

-- a name is met before another where its order is before
pub met-earlier : (names : List ℕ) (a b : ℕ) → is_met_before names a b ≡ is_earlier (order_of names a) (order_of names b)
met-earlier [] a b = refl
met-earlier (first ∷ names) a b = by (first == b) (first == a) (met-earlier names a b)
  where
    by : (s t : Bool) → is_met_before names a b ≡ is_earlier (order_of names a) (order_of names b) → (if s then false else if t then true else is_met_before names a b) ≡ is_earlier (if t then 1 else later (order_of names a)) (if s then 1 else later (order_of names b))
    by true true e = refl
    by true false e = none (order_of names a)
      where
        none : (o : ℕ) → false ≡ is_earlier (later o) 1
        none zero = refl
        none (suc o) = grind (arith, nat_tests)
    by false true e = some (order_of names b)
      where
        some : (p : ℕ) → true ≡ is_earlier 1 (later p)
        some zero = refl
        some (suc p) = grind (arith, nat_tests)
    by false false e = e ∙ sym (later-earlier (order_of names a) (order_of names b))

-- the test of two orders
pub earlier-none : (names : List ℕ) (a b o p : ℕ) → o ≡ order_of names a → p ≡ order_of names b → 0 < o → p ≡ 0 → (p == 0) ≡ is_met_before names a b
earlier-none names a b o p is by l e = at o p l e ∙ ap (λ o. is_earlier o p) is ∙ ap (is_earlier (order_of names a)) by ∙ sym (met-earlier names a b)
  where
    at : (o p : ℕ) → 0 < o → p ≡ 0 → (p == 0) ≡ is_earlier o p
    at zero p l e = absurd (omega arith)
    at (suc o) zero l e = refl
    at (suc o) (suc p) l e = absurd (omega arith)

pub earlier-both : (names : List ℕ) (a b o p : ℕ) → o ≡ order_of names a → p ≡ order_of names b → 0 < o → (p ≡ 0 → ⊥) → nat_lt o p ≡ is_met_before names a b
earlier-both names a b o p is by l e = at o p l e ∙ ap (λ o. is_earlier o p) is ∙ ap (is_earlier (order_of names a)) by ∙ sym (met-earlier names a b)
  where
    at : (o p : ℕ) → 0 < o → (p ≡ 0 → ⊥) → nat_lt o p ≡ is_earlier o p
    at zero p l e = absurd (omega arith)
    at (suc o) zero l e = absurd (e refl)
    at (suc o) (suc p) l e = grind (arith, nat_tests)

pub earlier-not : (names : List ℕ) (a b o p : ℕ) → o ≡ order_of names a → p ≡ order_of names b → o ≤ 0 → nat_lt 0 o ≡ is_met_before names a b
earlier-not names a b o p is by l = at o p l ∙ ap (λ o. is_earlier o p) is ∙ ap (is_earlier (order_of names a)) by ∙ sym (met-earlier names a b)
  where
    at : (o p : ℕ) → o ≤ 0 → nat_lt 0 o ≡ is_earlier o p
    at zero p l = refl
    at (suc o) p l = absurd (omega arith)

-- an order is at most the number of names
pub order-most : (names : List ℕ) (name : ℕ) → order_of names name ≤ length names
order-most [] name = omega arith
order-most (first ∷ names) name = by (first == name) (order_of names name) (order-most names name)
  where
    by : (s : Bool) (o : ℕ) → o ≤ length names → (if s then 1 else later o) ≤ suc (length names)
    by true o l = omega arith
    by false zero l = omega arith
    by false (suc o) l = omega arith

-- the name at an order is the name
pub order-name : (names : List ℕ) (name place : ℕ) → order_of names name ≡ suc place → slice_index_or names place 0 ≡ name
order-name [] name place e = absurd (omega arith)
order-name (first ∷ names) name place e =
    by (first == name) refl (order_of names name) (order-name names name) place e
  where
    by : (s : Bool) → (first == name) ≡ s → (o : ℕ) → ((place : ℕ) → o ≡ suc place → slice_index_or names place 0 ≡ name) → (place : ℕ) → (if s then 1 else later o) ≡ suc place → slice_index_or (first ∷ names) place 0 ≡ name
    by true same o _ zero e = eqb-true first name same
    by true same o _ (suc place) e = absurd (omega arith)
    by false _ zero _ place e = absurd (omega arith)
    by false _ (suc o) _ zero e = absurd (omega arith)
    by false _ (suc o) rest (suc place) e = rest place (omega arith)

-- one name more
pub order-more : (names : List ℕ) (name other : ℕ) → order_of (names ++ name ∷ []) other ≡ new_order (order_of names other) (name == other) (length names)
order-more [] name other = by (name == other)
  where
    by : (s : Bool) → (if s then 1 else 0) ≡ new_order 0 s 0
    by true = refl
    by false = refl
order-more (first ∷ names) name other =
    by (first == other) (order_of names other) (order_of (names ++ name ∷ []) other) (name == other) (order-more names name other)
  where
    by : (s : Bool) (o p : ℕ) (t : Bool) → p ≡ new_order o t (length names) → (if s then 1 else later p) ≡ new_order (if s then 1 else later o) t (suc (length names))
    by true o p t e = refl
    by false zero p true e = rw e refl
    by false zero p false e = rw e refl
    by false (suc o) p t e = rw e refl

pub names-more : (nodes : List Node) (node : Node) → names_of_nodes (nodes ++ node ∷ []) ≡ names_of_nodes nodes ++ node.name ∷ []
names-more nodes node = map-append (λ (node : Node). node.name) nodes (node ∷ [])

pub names-length : (nodes : List Node) → length (names_of_nodes nodes) ≡ length nodes
names-length nodes = length-map nodes (λ (node : Node). node.name)

-- where an order is one, its place is that of a node
pub order-there : (nodes : List Node) (name order : ℕ) → order ≡ order_of (names_of_nodes nodes) name → (order ≡ 0 → ⊥) → order - 1 < length nodes
order-there nodes name order e some =
    let m = order-most (names_of_nodes nodes) name in let l = names-length nodes in omega arith

-- ---- the invariant after one more name

-- the first places after one name more, where it is new
pub places-new : (first names : List ℕ) (name : ℕ) → ((other : ℕ) → slice_index_or first other 0 ≡ order_of names other) → name < length first → slice_index_or first name 0 ≡ 0 → (other : ℕ) → slice_index_or (set first name (length names + 1)) other 0 ≡ order_of (names ++ name ∷ []) other
places-new first names name kept there none other = by (name == other) refl
  where
    by : (s : Bool) → (name == other) ≡ s → slice_index_or (set first name (length names + 1)) other 0 ≡ order_of (names ++ name ∷ []) other
    by true same =
        let e = eqb-true name other same in
        let old : order_of names name ≡ 0 = sym (kept name) ∙ none in
        ap (λ n. slice_index_or (set first name (length names + 1)) n 0) (sym e)
        ∙ get_or-set_same first name (length names + 1) 0 there
        ∙ sym (ap (order_of (names ++ name ∷ [])) (sym e) ∙ order-more names name name ∙ ap (λ o. new_order o (name == name) (length names)) old ∙ ap (λ b. new_order 0 b (length names)) (eq-eqb name name refl) ∙ omega arith)
    by false differs =
        let ne : other ≢ name = λ e. absurd (let t = eq-eqb name other (sym e) in cc) in
        get_or-set_other first name other (length names + 1) 0 ne ∙ kept other ∙ sym (order-more names name other ∙ ap (λ b. new_order (order_of names other) b (length names)) differs ∙ unchanged (order_of names other))
      where
        unchanged : (o : ℕ) → new_order o false (length names) ≡ o
        unchanged zero = refl
        unchanged (suc o) = refl

-- the same where it is declared again
pub places-again : (first names : List ℕ) (name : ℕ) → ((other : ℕ) → slice_index_or first other 0 ≡ order_of names other) → (slice_index_or first name 0 ≡ 0 → ⊥) → (other : ℕ) → slice_index_or first other 0 ≡ order_of (names ++ name ∷ []) other
places-again first names name kept some other = by (name == other) refl
  where
    unchanged : (o : ℕ) → new_order o false (length names) ≡ o
    unchanged zero = refl
    unchanged (suc o) = refl

    again : (o : ℕ) (s : Bool) → (o ≡ 0 → ⊥) → new_order o s (length names) ≡ o
    again zero s some = absurd (some refl)
    again (suc o) s some = refl

    by : (s : Bool) → (name == other) ≡ s → slice_index_or first other 0 ≡ order_of (names ++ name ∷ []) other
    by true same =
        let e = eqb-true name other same in
        kept other ∙ sym (order-more names name other ∙ again (order_of names other) (name == other) (λ none. some (ap (λ n. slice_index_or first n 0) e ∙ kept other ∙ none)))
    by false differs =
        kept other ∙ sym (order-more names name other ∙ ap (λ b. new_order (order_of names other) b (length names)) differs ∙ unchanged (order_of names other))

-- the steps after one node more
pub steps-more : (nodes : List Node) (node : Node) → ((place : ℕ) → place < length nodes → IsNodeStep nodes place (node_at nodes place)) → IsNodeStep nodes (length nodes) node → (place : ℕ) → place < length (nodes ++ node ∷ []) → IsNodeStep (nodes ++ node ∷ []) place (node_at (nodes ++ node ∷ []) place)
steps-more nodes node steps step place there = by (nat_lt place (length nodes)) refl
  where
    root : (above far : ℕ) → above ≡ length nodes → is_under nodes above far ≡ true → far ≡ length nodes
    root above far e way =
        let past : (node_at nodes (length nodes)).above ≡ length nodes = ap (λ (n : Node). n.above) (get_or_past nodes (length nodes) _ (omega arith)) in
        sym (eqb-true (length nodes) far (sym (under-end nodes (length nodes) far (omega arith)) ∙ ap (λ p. is_under nodes p far) (sym e) ∙ way))

    kept : (place : ℕ) (below : Option ℕ) (above : ℕ) → IsAbove (names_of_nodes nodes) below place above → IsAbove (names_of_nodes (nodes ++ node ∷ [])) below place above
    kept place None above a = a
    kept place (Some name) above a =
        (ap (λ names. order_of names name) (names-more nodes node) ∙ order-more (names_of_nodes nodes) node.name name ∙ ap (λ o. new_order o (node.name == name) (length (names_of_nodes nodes))) a.0, a.1)

    moved : (place : ℕ) (n : Node) → place ≤ length nodes → IsNodeStep nodes place n → IsNodeStep (nodes ++ node ∷ []) place n
    moved place n most s = by (nat_lt n.above (length nodes)) refl
      where
        by : (b : Bool) → nat_lt n.above (length nodes) ≡ b → IsNodeStep (nodes ++ node ∷ []) place n
        by true less = record { above = s.above; below = kept place n.below n.above s.below; far = s.far; under = under-more nodes node n.above n.far (ltb-true n.above (length nodes) less) ∙ s.under }
        by false not_so =
            let l : length nodes ≤ n.above = grind (arith, nat_tests) in
            let a = s.above in
            let e : n.above ≡ length nodes = omega arith in
            let far : n.far ≡ length nodes = root n.above n.far e s.under in
            record { above = s.above; below = kept place n.below n.above s.below; far = s.far; under = ap (λ p. is_under (nodes ++ node ∷ []) p n.far) e ∙ ap (is_under (nodes ++ node ∷ []) (length nodes)) far ∙ under-self (nodes ++ node ∷ []) (length nodes) }

    by : (b : Bool) → nat_lt place (length nodes) ≡ b → IsNodeStep (nodes ++ node ∷ []) place (node_at (nodes ++ node ∷ []) place)
    by true less =
        let l = ltb-true place (length nodes) less in
        subst (IsNodeStep (nodes ++ node ∷ []) place) (sym (node_at-old nodes node place l)) (moved place (node_at nodes place) (omega arith) (steps place l))
    by false not_so =
        let l : length nodes ≤ place = grind (arith, nat_tests) in
        let m : place < length nodes + 1 = subst (λ n. place < n) (length-append nodes (node ∷ [])) there in
        let e : length nodes ≡ place = omega arith in
        subst (λ p. IsNodeStep (nodes ++ node ∷ []) p (node_at (nodes ++ node ∷ []) p)) e (subst (IsNodeStep (nodes ++ node ∷ []) (length nodes)) (sym (node_at-new nodes node)) (moved (length nodes) node (omega arith) step))
