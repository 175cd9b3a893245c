-- A statement of a loop's body is less deep than the statement of the loop.
use Rattle.std.proofs.Common.{◌≡◌, ℕ, ◌<◌, ◌≤◌, Vec, length, get_or, ap, sym, subst, arith}
use Rattle.std.proofs.lemmas.Grind.{common_steps}
use denote.Param.Weighed.{most, at_most}
use Rattle.std.specs.declared.alloc.Global.{Global}
use Rattle.gms_labels.specs.declared.place.Place.{Place}
use Rattle.gms_ast.specs.declared.expression.Control.{Control}
use Rattle.gms_ast.specs.declared.program.Act.{Act, Loop, the_lemmas}
use Rattle.gms_ast.specs.declared.program.Stmt.{Stmt, size-Stmt}
use Rattle.gms_ast.specs.declared.program.Stmt as statements

-- the body of a statement that is a loop
body-less_deep : {F : Type 0} (s : Stmt F) (control : Control F) (body : Vec (Stmt F) Global) → s.act ≡ Loop control body → most (size-Stmt F) body.items < size-Stmt F s
body-less_deep {F} s control body is =
    subst (λ (act : Act F). most (size-Stmt F) body.items < size-Stmt F (record { at = s.at; act = act })) (sym is) (loop-less_deep s.at)
  where
    loop-less_deep : (at : Place) → most (size-Stmt F) body.items < size-Stmt F (record { at = at; act = Loop control body })
    loop-less_deep at = grind (the_lemmas, statements.the_lemmas, arith, common_steps)

-- a statement of the body
pub item-less_deep : {F : Type 0} (s : Stmt F) (control : Control F) (body : Vec (Stmt F) Global) (k : ℕ) (item : Stmt F) → s.act ≡ Loop control body → k < length body.items → item ≡ get_or body.items k item → size-Stmt F item < size-Stmt F s
item-less_deep {F} s control body k item loop in_it is =
    let less : most (size-Stmt F) body.items < size-Stmt F s = body-less_deep s control body loop in
    let within : size-Stmt F (get_or body.items k item) ≤ most (size-Stmt F) body.items = at_most (size-Stmt F) body.items k item in_it in
    let same : size-Stmt F item ≡ size-Stmt F (get_or body.items k item) = ap (size-Stmt F) is in
    omega arith
