-- The body of a loop is less deep than the loop.
use Rattle.std.proofs.Common.{◌≡◌, ℕ, ◌+◌, ◌*◌, ◌<◌, Vec, arith}
use Rattle.std.proofs.lemmas.Grind.{common_steps}
use denote.Param.Weighed.{most}
use Rattle.std.specs.declared.alloc.Global.{Global}
use Rattle.gms_ast.specs.declared.expression.Control.{Control}
use Rattle.gms_ast.specs.declared.program.Act.{Loop, size-Act, the_lemmas}
use Rattle.gms_ast.specs.declared.program.Stmt.{Stmt, size-Stmt}

-- the statements of a loop
pub body-less_deep : {F : Type 0} (control : Control F) (body : Vec (Stmt F) Global) → most (size-Stmt F) body.items < size-Act F (Loop control body)
body-less_deep control body = grind (the_lemmas, arith, common_steps)

-- the measures of two functions that call one another
pub body-falls : (whole node deepest found t : ℕ) → deepest < node → whole ≡ node → found ≡ deepest → 2 * whole + 0 ≡ t → 2 * found + 1 < t
body-falls whole node deepest found t less is e d = omega arith
