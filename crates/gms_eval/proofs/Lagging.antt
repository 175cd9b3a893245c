-- The label that a lag reaches, by the place to which it goes.
use Rattle.std.proofs.Common.{◌≡◌, ℕ, zero, suc, ◌<◌, ◌≤◌, ℤ, pos, negsuc, ◌+ℤ◌, neg_ℤ, List, [], ◌∷◌, map, get_or, length, slice_get, Option, Some, None, option_map, option_and_then, if◌then◌else◌, refl, sym, ap, ◌∙◌, inl, inr, lt-ltb, le-ltb, arith}
use Rattle.std.proofs.lemmas.Bool.{cases_lt}
use Rattle.std.specs.Int.{int_rem_euclid}
use Rattle.gms_ast.specs.declared.expression.LagOp.{LagOp}
use Rattle.gms_ast.specs.declared.expression.LagOp.TheVariants.{Lead, Lag, CircularLead, CircularLag}
use Rattle.gms_tuple.specs.TupleSet.{place_of_tuple}
use Rattle.gms_eval.specs.Lag.{label_of_element, label_at, moved, lagged_label}
use Rattle.gms_eval.specs.InnerContracts.{within, moved_place}

-- the label at a place
abbrev pub labelled : List (List ℕ) → ℕ → ℕ
labelled members place = get_or (map label_of_element members) place 0

there : (members : List (List ℕ)) (n : ℕ) → n < length members → option_map label_of_element (slice_get members n) ≡ Some (labelled members n)
there [] n below = absurd (omega arith)
there (x ∷ xs) zero below = refl
there (x ∷ xs) (suc n) below = there xs n (omega arith)

not_there : (members : List (List ℕ)) (n : ℕ) → length members ≤ n → option_map label_of_element (slice_get members n) ≡ None
not_there [] n past = refl
not_there (x ∷ xs) zero past = absurd (omega arith)
not_there (x ∷ xs) (suc n) past = not_there xs n (omega arith)

inside : (members : List (List ℕ)) (n : ℕ) → option_map label_of_element (slice_get members n) ≡ option_map (labelled members) (within (length members) (pos n))
inside members n =
    elim (cases_lt n (length members)) [
      | inl below ↦
          there members n below
          ∙ sym (ap (λ b. option_map (labelled members) (if b then Some n else None)) (lt-ltb n (length members) below))
      | inr past ↦
          not_there members n past
          ∙ sym (ap (λ b. option_map (labelled members) (if b then Some n else None)) (le-ltb n (length members) past))
    ]

-- the label at a place that is a whole number
pub label_at-within : (members : List (List ℕ)) (place : ℤ) → label_at members place ≡ option_map (labelled members) (within (length members) place)
label_at-within members (pos n) = inside members n
label_at-within members (negsuc n) = refl

moved-label : (members : List (List ℕ)) (op : LagOp) (amount place : ℤ) → moved members op amount place ≡ option_map (labelled members) (moved_place (length members) op amount place)
moved-label members Lead amount place = label_at-within members (place +ℤ amount)
moved-label members Lag amount place = label_at-within members (place +ℤ neg_ℤ amount)
moved-label members CircularLead amount place = label_at-within members (int_rem_euclid (place +ℤ amount) (pos (length members)))
moved-label members CircularLag amount place =
    label_at-within members (int_rem_euclid (place +ℤ neg_ℤ amount) (pos (length members)))

-- from a label that the set does not have a lag reaches none
pub lagged-nowhere : (members : List (List ℕ)) (op : LagOp) (amount : ℤ) (label : ℕ) → None ≡ place_of_tuple members (label ∷ []) → None ≡ lagged_label members op amount label
lagged-nowhere members op amount label e = ap (option_and_then (λ place. moved members op amount (pos place))) e

-- from any other label it reaches the one at the place to which it goes
pub lagged-there : (members : List (List ℕ)) (op : LagOp) (amount : ℤ) (label n : ℕ) (o : Option ℕ) → Some n ≡ place_of_tuple members (label ∷ []) → o ≡ moved_place (length members) op amount (pos n) → option_map (labelled members) o ≡ lagged_label members op amount label
lagged-there members op amount label n o e is =
    ap (option_map (labelled members)) is
    ∙ sym (moved-label members op amount (pos n))
    ∙ ap (option_and_then (λ place. moved members op amount (pos place))) e
