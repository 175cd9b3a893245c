-- The loop over conditions.
use Rattle.std.proofs.Common.{◌≡◌, ℕ, Bool, true, false, List, [], ◌∷◌, ◌++◌, map, refl, sym, subst}
use Rattle.gq_number.specs.Number.{Number}
use Rattle.gms_ast.specs.declared.expression.Expr.{Expr}
use Rattle.gms_expressions.specs.declared.reader.Reader.{Reader}
use Rattle.gms_expressions.specs.declared.reader.Tables.{Tables}
use Rattle.gms_expressions.specs.InnerNodes.{view, plain_views}
use Rattle.gms_expressions.proofs.Sums.{Guards}

pub not_begun : {X : Type 0} (xs : List X) (x : X) → xs ++ x ∷ [] ≡ [] → ⊥
not_begun [] x e = cc
not_begun (y ∷ xs) x e = cc

-- some conditions were read
pub some_begun : {X Y : Type 0} (f : X → Y) (xs : List X) {b : Bool} → (xs ≡ [] → b ≡ true) → b ≡ false → map f xs ≡ [] → ⊥
some_begun f [] led unled none = let yes = led refl in cc
some_begun f (x ∷ xs) led unled none = cc

-- the operand in an allocation, without conditions so far
pub guards_begin : {F : Type 0} {Led : Type 0} (value : F → Number) {limit : ℕ} {reader : Reader} {start : ℕ} {old new : Tables} {at : ℕ} {e boxed : Expr F} {items : List (Expr F)} → Guards limit (view value e) [] reader start old new at → boxed ≡ e → items ≡ [] → Led →
    Guards limit (view value boxed) (plain_views value items) reader start old new at × (items ≡ [] → Led)
guards_begin {F = F} value {limit} {reader} {start} {old} {new} {at} {e} {boxed} {items} l same none led =
    (subst (λ (y : Expr F). Guards limit (view value y) (plain_views value items) reader start old new at) (sym same) (subst (λ (xs : List (Expr F)). Guards limit (view value e) (plain_views value xs) reader start old new at) (sym none) l), λ _. led)
