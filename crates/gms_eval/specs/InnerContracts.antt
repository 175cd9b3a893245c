-- The contracts of elements and of indices.
use Rattle.std.specs.Prelude.{◌≡◌, ℕ, ℤ, pos, negsuc, ◌+ℤ◌, neg_ℤ, nat_lt, Bool, ◌++◌, List, [], ◌∷◌, length, Option, Some, None, if◌then◌else◌}
use Rattle.std.specs.Int.{int_rem_euclid}
use Rattle.gms_ast.specs.declared.expression.LagOp.{LagOp}
use Rattle.gms_ast.specs.declared.expression.LagOp.TheVariants.{Lead, Lag, CircularLead, CircularLag}
use Rattle.gms_store.specs.State.{State}
use Rattle.gms_eval.specs.Domain.{elements}
use Rattle.gms_eval.specs.declared.elements.Elements.{Elements}
use Rattle.gms_eval.specs.declared.elements.Elements.TheVariants.{Every, Those}

-- the elements that are tested
abbrev pub those_of : State → List ℕ → Elements → List (List ℕ)
those_of state sets (Every count) = elements state sets
those_of state sets (Those those) = those.items

-- the count of the elements is right
abbrev pub IsCounted : State → List ℕ → Elements → Type 0
IsCounted state sets (Every count) = count ≡ length (elements state sets)
IsCounted state sets (Those those) = Unit {0}

-- elements, and one more if a condition holds for it
abbrev pub with_element : List (List ℕ) → List ℕ → Bool → List (List ℕ)
with_element done element holds = if holds then done ++ element ∷ [] else done

-- a place, if it is below the count
abbrev pub within : ℕ → ℤ → Option ℕ
within count (pos place) = if nat_lt place count then Some place else None
within count (negsuc n) = None

-- the place to which a lead or a lag goes
abbrev pub moved_place : ℕ → LagOp → ℤ → ℤ → Option ℕ
moved_place count Lead amount place = within count (place +ℤ amount)
moved_place count Lag amount place = within count (place +ℤ neg_ℤ amount)
moved_place count CircularLead amount place = within count (int_rem_euclid (place +ℤ amount) (pos count))
moved_place count CircularLag amount place = within count (int_rem_euclid (place +ℤ neg_ℤ amount) (pos count))

-- a tuple with one more label, if both exist and it has fewer than 10
abbrev pub with_label : Option (List ℕ) → Option ℕ → Option (List ℕ)
with_label (Some tuple) (Some label) = if nat_lt (length tuple) 10 then Some (tuple ++ label ∷ []) else None
with_label tuple label = None
