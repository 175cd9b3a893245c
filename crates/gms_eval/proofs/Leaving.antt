-- Operands that `and` and `or` do not evaluate, and steps that return a fault as it is.
use Rattle.std.proofs.lemmas.Bool.{not-false, not-true}
use Rattle.std.proofs.Common.{◌≡◌, ℕ, ◌+◌, ◌<◌, Bool, true, false, List, drop, get_or, length, Option, Some, None, Ok, Err, if◌then◌else◌, refl, sym, ap, ◌∙◌}
use Rattle.gms_labels.specs.declared.place.Place.{Place}
use Rattle.gq_extended.specs.Extended.{Extended}
use Rattle.gms_ast.specs.Trees as tree
use Rattle.gms_eval.specs.Nodes.{is_so, truth, exclusive_or, all_step, one_step, signed_step}
use Rattle.gms_eval.specs.Bindings.{Pairs}
use Rattle.gms_eval.specs.Faults.{Answer, Fault, nothing, ◌and_then◌}
use Rattle.gms_eval.specs.InnerSteps.{is_left_by_and, is_left_by_or}
use Rattle.gms_eval.specs.declared.steps.Signed.{Signed}
use Rattle.gms_eval.specs.declared.steps.Signed.TheVariants.{Sum, Product}
use Rattle.gms_eval.proofs.Chains.{from_here, chain-left}

pub signed-takes : (limit : ℕ) (b : Pairs) (kind : Signed) (at : Place) (inverse : Bool) (fault : Fault) (y : Extended) → signed_step limit b kind (tree.signed at inverse) y (Err fault) ≡ Err fault
signed-takes limit b Sum at inverse fault y = refl
signed-takes limit b Product at inverse fault y = refl

-- `and` takes it where it does not leave its right operand
pub and-takes : (o : Option Extended) → is_left_by_and o ≡ false → (fault : Fault) (y : Extended) → o ≡ Some y → all_step tree.plain y (Err fault) ≡ Err fault
and-takes o stays fault y is =
    ap (λ b. if b then Err fault else Ok (truth false)) (not-false (is_so y) (ap is_left_by_and (sym is) ∙ stays))

-- and so does `or`
pub or-takes : (exclusive : Bool) (o : Option Extended) → is_left_by_or exclusive o ≡ false → (fault : Fault) (y : Extended) → o ≡ Some y → one_step (tree.chosen exclusive) y (Err fault) ≡ Err fault
or-takes exclusive o stays fault y is =
    ap (λ b. if b then Ok (truth true) else Err fault) (ap (is_left_by_or exclusive) (sym is) ∙ stays)

module _ {X : Type 0} (mark : X → tree.Mark) (answer : X → Answer Extended) where
  -- a part that `and` does not evaluate
  pub and-left : (o : Option Extended) (xs : List X) (i : ℕ) (x : X) → i < length xs → x ≡ get_or xs i x → is_left_by_and o ≡ true → from_here all_step (Ok nothing) mark answer o (drop i xs) ≡ from_here all_step (Ok nothing) mark answer (Some nothing) (drop (i + 1) xs)
  and-left None xs i x l at left = absurd (cc)
  and-left (Some y) xs i x l at left =
      chain-left all_step (Ok nothing) mark answer (Some y) xs i x y nothing l at refl (ap (λ b. if b then answer x and_then (λ z. Ok (truth (is_so z))) else Ok (truth false)) (not-true (is_so y) left))

  -- a part that `or` does not evaluate
  pub or-left : (exclusive : Bool) (o : Option Extended) (xs : List X) (i : ℕ) (x : X) → mark x ≡ tree.chosen exclusive → i < length xs → x ≡ get_or xs i x → is_left_by_or exclusive o ≡ true → from_here one_step (Ok nothing) mark answer o (drop i xs) ≡ from_here one_step (Ok nothing) mark answer (Some (truth true)) (drop (i + 1) xs)
  or-left exclusive None xs i x is l at left = absurd (cc)
  or-left exclusive (Some y) xs i x is l at left =
      chain-left one_step (Ok nothing) mark answer (Some y) xs i x y (truth true) l at refl (ap (λ m. one_step m y (answer x)) is ∙ ap (λ b. if b then Ok (truth true) else (answer x and_then λ z. Ok (truth (exclusive_or y z)))) left)
