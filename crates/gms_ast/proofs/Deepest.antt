-- The greatest nesting of parts in a list, and of a node's parts and indices.
use Rattle.std.proofs.Common.{◌≡◌, ℕ, ◌+◌, ◌<◌, max, List, [], ◌∷◌, ◌++◌, map, take, get_or, length, Some, None, refl, sym, ap, ◌∙◌, arith}
use Rattle.std.proofs.lemmas.List.{map_more}
use Rattle.gms_ast.specs.declared.expression.Index.{Index}
use Rattle.gms_ast.specs.declared.expression.Expr.TheOpen.{Index-F}
use Rattle.gms_ast.specs.declared.expression.Expr.TheFolds.{fold_out-Index}
use Rattle.gms_ast.specs.InnerGreatest.{greatest}
use Rattle.gms_ast.specs.Nesting.{capped, nesting, deepest, deepest_amount}
use Rattle.gms_ast.specs.Trees.{Mark, Tree, Indices, no_index, Control}
use Rattle.gms_ast.specs.TreeView.{parts_of, indices_of, tree_step, index_step, control_step, index_tree}

-- one more number at the end
pub greatest-push : (ns : List ℕ) (n : ℕ) → greatest (ns ++ n ∷ []) ≡ max (greatest ns) n
greatest-push [] n = omega arith
greatest-push (m ∷ ns) n = omega (arith, greatest-push ns n)

-- one more part, of which the number is known as far as it is capped
pub capped-more : {X : Type 0} (f : X → ℕ) (xs : List X) (i : ℕ) (x : X) (most : ℕ) → i < length xs → x ≡ get_or xs i x → most ≡ capped (greatest (map f (take i xs))) → max (capped (f x)) most ≡ capped (greatest (map f (take (i + 1) xs)))
capped-more f xs i x most l at e =
    let step : greatest (map f (take (i + 1) xs)) ≡ max (greatest (map f (take i xs))) (f x) = ap greatest (map_more f xs i x l) ∙ greatest-push (map f (take i xs)) (f (get_or xs i x)) ∙ ap (λ y. max (greatest (map f (take i xs))) (f y)) (sym at) in
    omega (arith, step)

-- the deepest of the parts of a node is the greatest nesting of them
pub deepest-parts_of : {F X : Type 0} (mark : X → Mark) (tree : X → Tree F) (xs : List X) → deepest (parts_of (map (λ x. (mark x, tree x)) xs)) ≡ greatest (map (λ x. nesting (tree x)) xs)
deepest-parts_of mark tree [] = refl
deepest-parts_of mark tree (x ∷ xs) = ap (max (nesting (tree x))) (deepest-parts_of mark tree xs)

-- the nesting of indices is the greater of an index's amount and the indices after it
step-more : {F : Type 0} (index : Index-F F (Tree F) (Indices F → Indices F) (Control F)) (rest : Indices F) → deepest_amount (index_step index rest) ≡ max (deepest_amount (index_step index no_index)) (deepest_amount rest)
step-more (Index-F.Label n) rest = omega arith
step-more (Index-F.Set name None) rest = omega arith
step-more (Index-F.Set name (Some lag)) rest = omega arith

pub index-more : {F : Type 0} (index : Index F) (rest : Indices F) → deepest_amount (index_tree index rest) ≡ max (deepest_amount (index_tree index no_index)) (deepest_amount rest)
index-more {F} index rest = rw (fold_out-Index F (Tree F) (Indices F → Indices F) (Control F) tree_step index_step control_step index) (step-more _ rest)

-- the deepest of the amounts of indices is the greatest of theirs
pub deepest_amount-indices_of : {F : Type 0} (indices : List (Index F)) → deepest_amount (indices_of (map index_tree indices)) ≡ greatest (map (λ index. deepest_amount (index_tree index no_index)) indices)
deepest_amount-indices_of [] = refl
deepest_amount-indices_of (index ∷ indices) =
    index-more index (indices_of (map index_tree indices)) ∙ ap (max (deepest_amount (index_tree index no_index))) (deepest_amount-indices_of indices)
