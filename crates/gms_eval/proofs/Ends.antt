-- What the loops of the code give at their ends.
use Rattle.std.proofs.Common.{◌≡◌, ℕ, ◌<◌, ◌≤◌, List, [], drop, get_or, length, Option, Some, None, option_map, unwrap_or, Ok, refl, sym, ap, ◌∙◌}
use Rattle.std.proofs.lemmas.List.{get_or_default}
use Rattle.gq_number.specs.Number.{Number}
use Rattle.gq_extended.specs.Extended.{Extended}
use Rattle.gq_extended.specs.declared.extended.Ext.{Ext}
use Rattle.gq_extended.specs.Meaning.{extended}
use Rattle.gms_ast.specs.Trees.{Mark}
use Rattle.gms_eval.specs.Nodes.{ValueStep, joined}
use Rattle.gms_eval.specs.Faults.{Answer, nothing}
use Rattle.gms_eval.proofs.Chains.{from_here, chain-end}
use Rattle.gms_eval.proofs.Marks.{value_or}

joined-none : (step : ValueStep) (o : Option Extended) → joined step (Ok nothing) o [] ≡ Ok (unwrap_or o nothing)
joined-none step None = refl
joined-none step (Some x) = refl

joined-some : (step : ValueStep) (empty : Answer Extended) (o : Option Extended) (x : Extended) → o ≡ Some x → joined step empty o [] ≡ Ok x
joined-some step empty o x e = ap (λ p. joined step empty p []) e

joined-empty : (step : ValueStep) (empty : Answer Extended) (o : Option Extended) → o ≡ None → joined step empty o [] ≡ empty
joined-empty step empty o e = ap (λ p. joined step empty p []) e

module _ {F X : Type 0} (v : F → Number) (step : ValueStep) (mark : X → Mark) (answer : X → Answer Extended) where
  -- the value of a chain at its end
  pub chain-result : (whole : Answer Extended) (so_far : Option (Ext F)) (z : Ext F) (xs : List X) (i : ℕ) → whole ≡ from_here step (Ok nothing) mark answer (option_map (extended v) so_far) (drop i xs) → length xs ≤ i → extended v z ≡ nothing → whole ≡ Ok (extended v (unwrap_or so_far z))
  chain-result whole so_far z xs i so all zero =
      so
      ∙ chain-end step (Ok nothing) mark answer (option_map (extended v) so_far) xs i all
      ∙ joined-none step (option_map (extended v) so_far)
      ∙ ap Ok (sym (value_or v so_far z zero))

  -- the value of a fold at its end, and the fault of one without a value
  pub fold-result : (empty : Answer Extended) (whole : Answer Extended) (so_far : Option (Ext F)) (x : Ext F) (xs : List X) (i : ℕ) → whole ≡ from_here step empty mark answer (option_map (extended v) so_far) (drop i xs) → length xs ≤ i → so_far ≡ Some x → whole ≡ Ok (extended v x)
  fold-result empty whole so_far x xs i so all is =
      so
      ∙ chain-end step empty mark answer (option_map (extended v) so_far) xs i all
      ∙ joined-some step empty (option_map (extended v) so_far) (extended v x) (ap (option_map (extended v)) is)

  pub fold-empty : (empty : Answer Extended) (whole : Answer Extended) (so_far : Option (Ext F)) (xs : List X) (i : ℕ) → whole ≡ from_here step empty mark answer (option_map (extended v) so_far) (drop i xs) → length xs ≤ i → so_far ≡ None → whole ≡ empty
  fold-empty empty whole so_far xs i so all is =
      so
      ∙ chain-end step empty mark answer (option_map (extended v) so_far) xs i all
      ∙ joined-empty step empty (option_map (extended v) so_far) (ap (option_map (extended v)) is)

-- an element of a list, read with itself as the default
pub at_itself : {X : Type 0} (xs : List X) (i : ℕ) (d x : X) → i < length xs → x ≡ get_or xs i d → x ≡ get_or xs i x
at_itself xs i d x l e = e ∙ get_or_default xs i d x l
