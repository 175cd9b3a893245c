-- A traversal may leave out elements for which the test does not hold.
use Rattle.std.proofs.Common.{◌≡◌, ℕ, Bool, true, false, ◌&&◌, cond, filter, List, [], ◌∷◌, get_or, Ok, Err, if◌then◌else◌, refl, sym, ap, ◌∙◌}
use Rattle.std.specs.List.{All}
use Rattle.std.proofs.lemmas.List.Elements.{All-head, All-tail, Contains-get_or}
use Rattle.gms_tuple.specs.TupleOrder.{IsOrdered}
use Rattle.gms_tuple.specs.TupleSet.{has}
use Rattle.gms_tuple.proofs.Members.{has-filter, has-Contains, IsOrdered-filter, same_from_members}
use Rattle.gms_eval.specs.Domain.{those_where}
use Rattle.gms_eval.specs.Faults.{Answer, ◌and_then◌}

module _ (test : List ℕ → Answer Bool) where
  others_alone : (a : Answer (List (List ℕ))) → (a and_then λ others. Ok others) ≡ a
  others_alone (Ok others) = refl
  others_alone (Err fault) = refl

  left_out : (x : List ℕ) (xs : List (List ℕ)) → test x ≡ Ok false → those_where test (x ∷ xs) ≡ those_where test xs
  left_out x xs e =
      ap (λ a. a and_then λ holds. those_where test xs and_then λ others. Ok (if holds then x ∷ others else others)) e
      ∙ others_alone (those_where test xs)

  module _ (kept : List ℕ → Bool) where
    thinned : (xs : List (List ℕ)) → All (λ x. kept x ≡ false → test x ≡ Ok false) xs → those_where test (filter kept xs) ≡ those_where test xs
    thinned [] out = refl
    thinned (x ∷ xs) out =
        let rest = thinned xs (All-tail (λ x. kept x ≡ false → test x ≡ Ok false) x xs out) in
        elim (kept x) as (λ b. kept x ≡ b → those_where test (cond b (x ∷ filter kept xs) (filter kept xs)) ≡ those_where test (x ∷ xs)) [
          | true ↦ λ _.
              ap (λ a. test x and_then λ holds. a and_then λ others. Ok (if holds then x ∷ others else others)) rest
          | false ↦ λ e.
              rest ∙ sym (left_out x xs (All-head (λ x. kept x ≡ false → test x ≡ Ok false) x xs out e))
        ] refl

  -- traversing only some elements in order finds the same, where they include all for which the
  -- test may hold
  pub traversal-thinned : (xs among : List (List ℕ)) → IsOrdered xs → IsOrdered among → ((t : List ℕ) → has among t ≡ true → has xs t ≡ true) → ((x : List ℕ) → has xs x ≡ true → has among x ≡ false → test x ≡ Ok false) → those_where test among ≡ those_where test xs
  traversal-thinned xs among in_order among_in_order within out =
      ap (those_where test) (same_from_members among (filter (has among) xs) among_in_order (IsOrdered-filter (has among) xs in_order) (λ t. both t ∙ sym (has-filter (has among) xs t)))
      ∙ thinned (has among) xs (λ k d l. out (get_or xs k d) (has-Contains xs (get_or xs k d) (Contains-get_or xs k d l)))
    where
      and_false : (b : Bool) → (b && false) ≡ false
      and_false true = refl
      and_false false = refl

      both : (t : List ℕ) → has among t ≡ (has xs t && has among t)
      both t =
          elim (has among t) as (λ b. has among t ≡ b → b ≡ (has xs t && b)) [
            | true ↦ λ e. ap (λ b. b && true) (sym (within t e))
            | false ↦ λ _. sym (and_false (has xs t))
          ] refl
