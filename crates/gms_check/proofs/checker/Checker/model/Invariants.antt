use Rattle.std.proofs.Common.{◌≡◌, take, map, ◌∷◌}
use Rattle.gms_ast.specs.declared.word.Named.{Named}
use Rattle.gms_check.specs.InnerChecking.{noted, seen}
use Rattle.gms_check.specs.Uses.{listing, modelling}
use Rattle.gms_check.proofs.checker.Checker.model.Given as goal

abbrev pub invariant-loop-equation : goal.invariant-loop-equation
invariant-loop-equation g l =
    seen l.self ≡ noted g.F.ExactField.value (seen l.fn.self) ((l.model.named.at, modelling l.model.named.name) ∷ map (λ (equation : Named). (equation.at, listing equation.name)) (take l.equation-index l.equation-items))
