-- The number of a list of entries at a key.
use Rattle.std.proofs.Common.{◌≡◌, pos, cond, List, [], ◌∷◌, refl, ap, ◌∙◌}
use Rattle.std.specs.declared.cmp.Ordering.TheVariants.{Less}
use Rattle.std.specs.List.{All}
use Rattle.std.proofs.lemmas.List.Elements.{All-head, All-tail}
use Rattle.gq_number.specs.Number.{Number, whole}
use Rattle.lp_form.specs.declared.key.Key.{Key}
use Rattle.lp_form.specs.Keys.{key_cmp}
use Rattle.lp_form.specs.Forms.{number_at}
use Rattle.lp_form.proofs.KeyOrder.{same_key_refl, same_key-Greater, key_cmp-flip}

module _ {F : Type 0} (value : F → Number) where
  -- the number of the first key
  pub number_at_first : (k : Key) (x : F) (ks : List Key) (xs : List F) → number_at value (k ∷ ks) (x ∷ xs) k ≡ value x
  number_at_first k x ks xs = ap (λ b. cond b (value x) (number_at value ks xs k)) (same_key_refl k)

  -- a key before all has 0
  pub number_at_before : (ks : List Key) (xs : List F) (key : Key) → All (λ k. key_cmp key k ≡ Less) ks → number_at value ks xs key ≡ whole (pos 0)
  number_at_before [] xs key before = refl
  number_at_before (k ∷ ks) [] key before = refl
  number_at_before (k ∷ ks) (x ∷ xs) key before =
      ap (λ b. cond b (value x) (number_at value ks xs key)) (same_key-Greater k key (key_cmp-flip key k Less (All-head (λ k. key_cmp key k ≡ Less) k ks before)))
      ∙ number_at_before ks xs key (All-tail (λ k. key_cmp key k ≡ Less) k ks before)
