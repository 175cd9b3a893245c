-- Domains that are compared position by position.
use mathlib.Core.Bool.{and-false}
use Rattle.std.proofs.Common.{◌≡◌, ◌<◌, ◌+◌, ◌&&◌, ℕ, false, suc, List, [], ◌∷◌, length, drop, get_or, Option, None, refl, ap, ◌∙◌}
use Rattle.std.specs.Prelude.{option_map}
use Rattle.std.proofs.lemmas.List.{at_drop_more}
use Rattle.gms_ast.specs.declared.word.Named.{Named}
use Rattle.gms_store.specs.State.{State}
use Rattle.gms_store.specs.Declarations.{names_of}
use Rattle.gms_check.specs.Names.{same_domain, same_position}

abbrev pub set_in : Option Named → Option ℕ
set_in position = option_map (λ (named : Named). named.name) position

-- domains of different lengths
pub unequal : (state : State) (xs ys : List (Option ℕ)) → (length xs ≡ length ys → ⊥) → same_domain state xs ys ≡ false
unequal state [] [] ne = absurd (ne refl)
unequal state [] (y ∷ ys) ne = refl
unequal state (x ∷ xs) [] ne = refl
unequal state (x ∷ xs) (y ∷ ys) ne =
    ap (λ b. same_position state x y && b) (unequal state xs ys (λ e. ne (ap suc e))) ∙ and-false (same_position state x y)

-- the rest of two domains, at positions that exist
pub same-at : (state : State) (written : List (Option Named)) (domain : List (Option ℕ)) (i : ℕ) → i < length written → i < length domain → same_domain state (names_of (drop i written)) (drop i domain) ≡ (same_position state (set_in (get_or written i None)) (get_or domain i None) && same_domain state (names_of (drop (i + 1) written)) (drop (i + 1) domain))
same-at state written domain i l m =
    at_drop_more (λ ps. same_domain state (names_of ps) (drop i domain)) written i None l ∙ at_drop_more (same_domain state (set_in (get_or written i None) ∷ names_of (drop (i + 1) written))) domain i None m
