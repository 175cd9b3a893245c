-- Nodes that are made of a first part and others.
use Rattle.std.proofs.Common.{◌≡◌, List, [], ◌∷◌, ◌++◌, map, refl, ap, ◌∙◌}
use Rattle.std.proofs.lemmas.List.{map_push}
use Rattle.gq_number.specs.Number.{Number}
use Rattle.gms_ast.specs.Trees.{Mark, Tree as Syntax, part}
use Rattle.gms_ast.specs.TreeView.{parts_of}
use Rattle.gms_ast.specs.Numbers.{in_numbers, parts_in_numbers}

module _ {F X : Type 0} (value : F → Number) (mark : X → Mark) (tree : X → Syntax F) where
  -- the numbers in parts are those of each
  pub numbers_in_parts : (xs : List X) → parts_in_numbers value (parts_of (map (λ x. (mark x, tree x)) xs)) ≡ parts_of (map (λ x. (mark x, in_numbers value (tree x))) xs)
  numbers_in_parts [] = refl
  numbers_in_parts (x ∷ xs) = ap (part (mark x) (in_numbers value (tree x))) (numbers_in_parts xs)

-- what one more element shows
pub views_push : {X Y : Type 0} (f : X → Y) {now : List X} (was : List X) (x : X) → now ≡ was ++ x ∷ [] → map f now ≡ map f was ++ f x ∷ []
views_push f {now} was x e = ap (map f) e ∙ map_push f was x
