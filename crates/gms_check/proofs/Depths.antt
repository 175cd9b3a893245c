-- The parts of an expression that are less deep than it, where more than one function looks at
-- them.
use Rattle.std.proofs.Common.{◌≡◌, ℕ, ◌+◌, ◌*◌, ◌<◌, Vec, arith}
use Rattle.std.proofs.lemmas.Grind.{common_steps}
use denote.Param.Weighed.{most}
use Rattle.std.specs.declared.alloc.Global.{Global}
use Rattle.gms_labels.specs.declared.place.Place.{Place}
use Rattle.gms_ast.specs.declared.expression.Suffix.{Suffix}
use Rattle.gms_ast.specs.declared.expression.Expr.{Ref, size-Expr, the_lemmas}
use Rattle.gms_ast.specs.declared.expression.Index.{Index, size-Index}

-- the indices of a reference
pub indices-less_deep : {F : Type 0} (at : Place) (name : ℕ) (suffix : Suffix) (indices : Vec (Index F) Global) → most (size-Index F) indices.items < size-Expr F (Ref at name suffix indices)
indices-less_deep at name suffix indices = grind (the_lemmas, arith, common_steps)

-- ---- the measures of functions that call one another

pub indices-fall : (whole node deepest found t : ℕ) → deepest < node → whole ≡ node → found ≡ deepest → 3 * whole + 0 ≡ t → 3 * found + 2 < t
indices-fall whole node deepest found t less is e d = omega arith
