-- The places where controlled sets are first.
use Rattle.std.proofs.Common.{◌≡◌, ℕ, zero, suc, ◌+◌, ◌<◌, Bool, true, false, not, ◌||◌, ◌==◌, if◌then◌else◌, List, [], ◌∷◌, ◌++◌, length, refl, sym, ap, subst, ◌∙◌, arith}
use Rattle.std.specs.Prelude.{slice_index_or}
use Rattle.std.proofs.Math.ListN.{set}
use Rattle.std.proofs.lemmas.Bool.{eqb-true, eqb-false, eq-eqb}
use Rattle.std.proofs.lemmas.List.{get_or-set_same, get_or-set_other}
use Rattle.std.proofs.lemmas.Bool.Decides.{nat_tests}
use Rattle.gms_scope.specs.Order.{later, new_order, order_of}
use Rattle.gms_scope.proofs.Orders.{order-more, order-most}
use Rattle.gms_check.specs.Past.{is_among}

-- a name is among names where its order is not 0
pub among-order : (names : List ℕ) (name : ℕ) → not (order_of names name == 0) ≡ is_among names name
among-order [] name = refl
among-order (first ∷ names) name = by (first == name) (order_of names name) (among-order names name)
  where
    some : (o : ℕ) → not (suc o == 0) ≡ true
    some o = grind (arith, nat_tests)

    by : (b : Bool) (o : ℕ) → not (o == 0) ≡ is_among names name → not ((if b then 1 else later o) == 0) ≡ (b || is_among names name)
    by true o e = refl
    by false zero e = e
    by false (suc o) e = some (suc o) ∙ sym (some o) ∙ e

same_order : (o last : ℕ) → new_order o false last ≡ o
same_order zero last = refl
same_order (suc o) last = refl

module _ (firsts names : List ℕ) (name : ℕ) (kept : (other : ℕ) → slice_index_or firsts other 0 ≡ order_of (names ++ name ∷ []) other) where
  -- the last was the first of its name: no place of it is left
  pub fewer-first : name < length firsts → slice_index_or firsts name 0 ≡ length names + 1 → (other : ℕ) → slice_index_or (set firsts name 0) other 0 ≡ order_of names other
  fewer-first there last other = by (name == other) refl
    where
      none : (o : ℕ) → order_of names name ≡ o → slice_index_or firsts name 0 ≡ new_order o (name == name) (length names) → o ≡ 0
      none zero e k = refl
      none (suc o) e k = let most = order-most names name in absurd (omega (arith, most, e, k, last))

      by : (b : Bool) → (name == other) ≡ b → slice_index_or (set firsts name 0) other 0 ≡ order_of names other
      by true e =
          let is = eqb-true name other e in
          ap (λ n. slice_index_or (set firsts name 0) n 0) (sym is) ∙ get_or-set_same firsts name 0 0 there
          ∙ sym (ap (order_of names) (sym is) ∙ none (order_of names name) refl (kept name ∙ order-more names name name))
      by false e =
          get_or-set_other firsts name other 0 0 (λ s. eqb-false name other e (sym s)) ∙ kept other ∙ order-more names name other
          ∙ ap (λ b. new_order (order_of names other) b (length names)) e ∙ same_order (order_of names other) (length names)

  -- the last name occurs before, too: its place stays
  pub fewer-later : (slice_index_or firsts name 0 ≡ length names + 1 → ⊥) → (other : ℕ) → slice_index_or firsts other 0 ≡ order_of names other
  fewer-later before other = kept other ∙ order-more names name other ∙ by (name == other) refl
    where
      some : (o : ℕ) → order_of names name ≡ o → new_order o true (length names) ≡ o
      some zero e =
          absurd (before (kept name ∙ order-more names name name ∙ ap (λ o. new_order o (name == name) (length names)) e ∙ ap (λ b. new_order 0 b (length names)) (eq-eqb name name refl) ∙ omega arith))
      some (suc o) e = refl

      by : (b : Bool) → (name == other) ≡ b → new_order (order_of names other) b (length names) ≡ order_of names other
      by true e = let is = eqb-true name other e in subst (λ n. new_order (order_of names n) true (length names) ≡ order_of names n) is (some (order_of names name) refl)
      by false e = same_order (order_of names other) (length names)
