-- Parts joined in sequence: a step of the loop, its end, and its faults.
use Rattle.std.proofs.Common.{◌≡◌, ℕ, ◌+◌, ◌<◌, ◌≤◌, List, [], ◌∷◌, map, drop, get_or, length, Option, Some, None, Ok, Err, refl, sym, ap, ◌∙◌}
use Rattle.std.proofs.lemmas.List.{at_drop_more, at_drop_all}
use Rattle.gq_number.specs.Number.{Number}
use Rattle.gq_extended.specs.Extended.{Extended}
use Rattle.gms_ast.specs.Trees.{Mark}
use Rattle.gms_eval.specs.declared.stop.ExecStopOrMemory.{ExecStopOrMemory}
use Rattle.gms_eval.specs.declared.stop.ExecStopOrMemory.TheVariants.{Memory, Fault as Stop}
use Rattle.gms_eval.specs.Nodes.{Marked, ValueStep, joined}
use Rattle.gms_eval.specs.Faults.{Answer, Fault, ◌and_then◌}
use Rattle.gms_eval.specs.Gives.{fault_of, ShowsStop}
use Rattle.gms_eval.specs.InnerSteps.{after}

module _ (step : ValueStep) (empty : Answer Extended) where
  -- the next part has a value, and the step gives one
  part_joined : (o : Option Extended) (mark : Mark) (a : Answer Extended) (parts : Marked) (y z : Extended) → a ≡ Ok y → after step mark o y ≡ Ok z → joined step empty o ((mark, a) ∷ parts) ≡ joined step empty (Some z) parts
  part_joined None mark a parts y z e s =
      ap (λ b. b and_then λ x. joined step empty (Some x) parts) e ∙ ap (λ b. b and_then λ x. joined step empty (Some x) parts) s
  part_joined (Some x) mark a parts y z e s =
      ap (λ b. step mark x b and_then λ y. joined step empty (Some y) parts) e ∙ ap (λ b. b and_then λ y. joined step empty (Some y) parts) s

  -- the next part has a value, and the step is a fault
  part_faulted : (o : Option Extended) (mark : Mark) (a : Answer Extended) (parts : Marked) (y : Extended) (fault : Fault) → a ≡ Ok y → after step mark o y ≡ Err fault → joined step empty o ((mark, a) ∷ parts) ≡ Err fault
  part_faulted None mark a parts y fault e s = absurd (cc)
  part_faulted (Some x) mark a parts y fault e s =
      ap (λ b. step mark x b and_then λ y. joined step empty (Some y) parts) e ∙ ap (λ b. b and_then λ y. joined step empty (Some y) parts) s

  -- the next part is a fault, and the step takes it
  part_stopped : (o : Option Extended) (mark : Mark) (a : Answer Extended) (parts : Marked) (fault : Fault) → a ≡ Err fault → ((x : Extended) → o ≡ Some x → step mark x (Err fault) ≡ Err fault) → joined step empty o ((mark, a) ∷ parts) ≡ Err fault
  part_stopped None mark a parts fault e s = ap (λ b. b and_then λ x. joined step empty (Some x) parts) e
  part_stopped (Some x) mark a parts fault e s =
      ap (λ b. step mark x b and_then λ y. joined step empty (Some y) parts) e ∙ ap (λ b. b and_then λ y. joined step empty (Some y) parts) (s x refl)

  -- one step with the next part
  part_left : (x : Extended) (mark : Mark) (a : Answer Extended) (parts : Marked) (z : Extended) → step mark x a ≡ Ok z → joined step empty (Some x) ((mark, a) ∷ parts) ≡ joined step empty (Some z) parts
  part_left x mark a parts z s = ap (λ b. b and_then λ y. joined step empty (Some y) parts) s

  module _ {X : Type 0} (mark : X → Mark) (answer : X → Answer Extended) where
    -- the parts from here on, joined to the value so far
    abbrev pub from_here : Option Extended → List X → Answer Extended
    from_here o xs = joined step empty o (map (λ x. (mark x, answer x)) xs)

    next_part : (o : Option Extended) (xs : List X) (i : ℕ) (x : X) → i < length xs → x ≡ get_or xs i x → from_here o (drop i xs) ≡ from_here o (x ∷ drop (i + 1) xs)
    next_part o xs i x l at =
        at_drop_more (from_here o) xs i x l ∙ ap (λ z. from_here o (z ∷ drop (i + 1) xs)) (sym at)

    pub chain-more : (o : Option Extended) (xs : List X) (i : ℕ) (x : X) (y z : Extended) → i < length xs → x ≡ get_or xs i x → answer x ≡ Ok y → after step (mark x) o y ≡ Ok z → from_here o (drop i xs) ≡ from_here (Some z) (drop (i + 1) xs)
    chain-more o xs i x y z l at e s =
        next_part o xs i x l at ∙ part_joined o (mark x) (answer x) (map (λ x. (mark x, answer x)) (drop (i + 1) xs)) y z e s

    pub chain-left : (o : Option Extended) (xs : List X) (i : ℕ) (x : X) (y z : Extended) → i < length xs → x ≡ get_or xs i x → o ≡ Some y → step (mark x) y (answer x) ≡ Ok z → from_here o (drop i xs) ≡ from_here (Some z) (drop (i + 1) xs)
    chain-left o xs i x y z l at is s =
        ap (λ o. from_here o (drop i xs)) is
        ∙ next_part (Some y) xs i x l at
        ∙ part_left y (mark x) (answer x) (map (λ x. (mark x, answer x)) (drop (i + 1) xs)) z s

    pub chain-part-fault : (o : Option Extended) (xs : List X) (i : ℕ) (x : X) (fault : Fault) → i < length xs → x ≡ get_or xs i x → answer x ≡ Err fault → ((y : Extended) → o ≡ Some y → step (mark x) y (Err fault) ≡ Err fault) → from_here o (drop i xs) ≡ Err fault
    chain-part-fault o xs i x fault l at e s =
        next_part o xs i x l at ∙ part_stopped o (mark x) (answer x) (map (λ x. (mark x, answer x)) (drop (i + 1) xs)) fault e s

    pub chain-step-fault : (o : Option Extended) (xs : List X) (i : ℕ) (x : X) (y : Extended) (fault : Fault) → i < length xs → x ≡ get_or xs i x → answer x ≡ Ok y → after step (mark x) o y ≡ Err fault → from_here o (drop i xs) ≡ Err fault
    chain-step-fault o xs i x y fault l at e s =
        next_part o xs i x l at ∙ part_faulted o (mark x) (answer x) (map (λ x. (mark x, answer x)) (drop (i + 1) xs)) y fault e s

    pub chain-end : (o : Option Extended) (xs : List X) (i : ℕ) → length xs ≤ i → from_here o (drop i xs) ≡ joined step empty o []
    chain-end o xs i all = at_drop_all (from_here o) xs i all

    -- the same of stops

    module _ {F : Type 0} (v : F → Number) where
      pub chain-part-stops : (stop : ExecStopOrMemory F) (whole : Answer Extended) (o : Option Extended) (xs : List X) (i : ℕ) (x : X) → whole ≡ from_here o (drop i xs) → i < length xs → x ≡ get_or xs i x → ((fault : Fault) (y : Extended) → o ≡ Some y → step (mark x) y (Err fault) ≡ Err fault) → ShowsStop v stop (answer x) → ShowsStop v stop whole
      chain-part-stops Memory whole o xs i x so l at takes s = tt
      chain-part-stops (Stop stop) whole o xs i x so l at takes s =
          so ∙ chain-part-fault o xs i x (fault_of v stop) l at s (takes (fault_of v stop))

      pub chain-step-stops : (stop : ExecStopOrMemory F) (whole : Answer Extended) (o : Option Extended) (xs : List X) (i : ℕ) (x : X) (y : Extended) → whole ≡ from_here o (drop i xs) → i < length xs → x ≡ get_or xs i x → answer x ≡ Ok y → ShowsStop v stop (after step (mark x) o y) → ShowsStop v stop whole
      chain-step-stops Memory whole o xs i x y so l at e s = tt
      chain-step-stops (Stop stop) whole o xs i x y so l at e s =
          so ∙ chain-step-fault o xs i x y (fault_of v stop) l at e s
