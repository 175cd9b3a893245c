-- Whether the parts of a sum or a product have variables, part by part.
use Rattle.std.proofs.Common.{◌≡◌, ℕ, ◌+◌, ◌<◌, ◌≤◌, Bool, true, false, ◌||◌, if◌then◌else◌, List, ◌∷◌, drop, length, get_or, sym, ap, ◌∙◌}
use Rattle.std.proofs.lemmas.List.{at_drop_more, at_drop_all}
use Rattle.gms_labels.specs.declared.place.Place.{Place}
use Rattle.gms_ast.specs.declared.expression.Expr.{Expr}
use Rattle.gms_ast.specs.TreeView.{tree_of}
use Rattle.gms_store.specs.State.{State}
use Rattle.gms_rows.specs.Affine.{has_variables, some_has_variables, values_first}
use Rattle.gms_rows.specs.InnerContracts.{parts_in}

module _ {F : Type 0} (state : State) (parts : List (Place × Bool × Expr F)) (i : ℕ) where
  -- the next part has some, or a later one
  next : (p : Place × Bool × Expr F) → i < length parts → p ≡ get_or parts i p → some_has_variables state (parts_in (drop i parts)) ≡ (has_variables state (tree_of p.2) || some_has_variables state (parts_in (drop (i + 1) parts)))
  next p here is =
      at_drop_more (λ ps. some_has_variables state (parts_in ps)) parts i p here
      ∙ ap (λ (z : Place × Bool × Expr F). some_has_variables state (parts_in (z ∷ drop (i + 1) parts))) (sym is)

  pub next-has : (p : Place × Bool × Expr F) → i < length parts → p ≡ get_or parts i p → has_variables state (tree_of p.2) ≡ true → some_has_variables state (parts_in (drop i parts)) ≡ true
  next-has p here is has = next p here is ∙ ap (λ b. b || some_has_variables state (parts_in (drop (i + 1) parts))) has

  pub next-has_none : (p : Place × Bool × Expr F) → i < length parts → p ≡ get_or parts i p → has_variables state (tree_of p.2) ≡ false → some_has_variables state (parts_in (drop i parts)) ≡ some_has_variables state (parts_in (drop (i + 1) parts))
  next-has_none p here is has = next p here is ∙ ap (λ b. b || some_has_variables state (parts_in (drop (i + 1) parts))) has

  pub none-left : length parts ≤ i → some_has_variables state (parts_in (drop i parts)) ≡ false
  none-left all = at_drop_all (λ ps. some_has_variables state (parts_in ps)) parts i all

  -- ---- how many parts come before the first with variables

  next_prefix : (p : Place × Bool × Expr F) → i < length parts → p ≡ get_or parts i p → (has : Bool) → has_variables state (tree_of p.2) ≡ has → values_first state (parts_in (drop i parts)) ≡ (if has then 0 else values_first state (parts_in (drop (i + 1) parts)) + 1)
  next_prefix p here is has so =
      at_drop_more (λ ps. values_first state (parts_in ps)) parts i p here
      ∙ ap (λ (z : Place × Bool × Expr F). values_first state (parts_in (z ∷ drop (i + 1) parts))) (sym is)
      ∙ ap (λ h. if h then 0 else values_first state (parts_in (drop (i + 1) parts)) + 1) so

  pub prefix-ends : (p : Place × Bool × Expr F) → i < length parts → p ≡ get_or parts i p → has_variables state (tree_of p.2) ≡ true → values_first state (parts_in (drop i parts)) ≡ 0
  prefix-ends p here is so = next_prefix p here is true so

  pub prefix-more : (p : Place × Bool × Expr F) → i < length parts → p ≡ get_or parts i p → has_variables state (tree_of p.2) ≡ false → values_first state (parts_in (drop i parts)) ≡ values_first state (parts_in (drop (i + 1) parts)) + 1
  prefix-more p here is so = next_prefix p here is false so

  pub prefix-over : length parts ≤ i → values_first state (parts_in (drop i parts)) ≡ 0
  prefix-over all = at_drop_all (λ ps. values_first state (parts_in ps)) parts i all
