use Rattle.std.proofs.Common.{◌∙◌, ap, get_or, List, map, [], ◌∷◌}
use Rattle.std.proofs.lemmas.List.{get_or_default, take_all}
use Rattle.gms_ast.specs.declared.word.Named.{Named}
use Rattle.gms_check.specs.InnerChecking.{noted, seen}
use Rattle.gms_check.specs.Uses.{listing, modelling}
use Rattle.gms_check.proofs.Noting.{noted-mapped}
use Rattle.gms_check.proofs.checker.Checker.model.Goals as goal

pub loop-equation-preserved : goal.loop-equation-preserved
loop-equation-preserved g c =
    let equations = c.as_slice-equation-items.result.now in
    let i = c.loop-equation.equation-index in
    let nothing : Named = record { at = record { line = 0; column = 0 }; name = 0 } in
    let model = c.args.model.now in
    noted-mapped g.F.ExactField.value ((model.named.at, modelling model.named.name) ∷ []) (λ (equation : Named). (equation.at, listing equation.name)) equations i (get_or equations i nothing) (seen c.args.self.now) (seen c.loop-equation.self) _ c.loop-equation-test.true (get_or_default equations i nothing (get_or equations i nothing) c.loop-equation-test.true) c.loop-equation.invariant c.listed_equation.ensures

pub returns : goal.returns
returns g c =
    let model = c.args.model.now in
    c.loop-equation.invariant ∙ ap (λ (equations : List Named). noted g.F.ExactField.value (seen c.args.self.now) ((model.named.at, modelling model.named.name) ∷ map (λ (equation : Named). (equation.at, listing equation.name)) equations)) (take_all c.loop-equation.equation-index c.as_slice-equation-items.result.now c.loop-equation-test.false ∙ c.as_slice-equation-items.ensures)
