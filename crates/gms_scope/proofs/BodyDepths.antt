-- The body of a loop is less deep than the statement of the loop.
use Rattle.std.proofs.Common.{◌≡◌, ◌<◌, Vec, sym, subst, arith}
use Rattle.std.proofs.lemmas.Grind.{common_steps}
use denote.Param.Weighed.{most}
use Rattle.std.specs.declared.alloc.Global.{Global}
use Rattle.gms_labels.specs.declared.place.Place.{Place}
use Rattle.gms_ast.specs.declared.expression.Control.{Control}
use Rattle.gms_ast.specs.declared.program.Act.{Act, Loop, the_lemmas}
use Rattle.gms_ast.specs.declared.program.Stmt.{Stmt, size-Stmt}
use Rattle.gms_ast.specs.declared.program.Stmt as statements

-- the body of a statement that is a loop
pub body-less_deep : {F : Type 0} (s : Stmt F) (control : Control F) (body : Vec (Stmt F) Global) → s.act ≡ Loop control body → most (size-Stmt F) body.items < size-Stmt F s
body-less_deep {F} s control body is =
    subst (λ (act : Act F). most (size-Stmt F) body.items < size-Stmt F (record { at = s.at; act = act })) (sym is) (loop-less_deep s.at)
  where
    loop-less_deep : (at : Place) → most (size-Stmt F) body.items < size-Stmt F (record { at = at; act = Loop control body })
    loop-less_deep at = grind (the_lemmas, statements.the_lemmas, arith, common_steps)
