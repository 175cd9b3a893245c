use Rattle.std.proofs.Common.{◌≡◌, ◌∙◌, ap, refl, [], ◌∷◌, ◌++◌}
use Rattle.gms_scope.specs.Facts.{marked}
use Rattle.gms_scope.specs.Names.{is_equation, declared_kind}
use Rattle.gms_check.specs.InnerChecking.{faulted, known_of, seen}
use Rattle.gms_check.specs.InnerFaults.{index_faults}
use Rattle.gms_check.specs.StatementUses.{index_list}
use Rattle.gms_check.specs.Uses.{defining}
use Rattle.gms_check.specs.declared.error.ErrorKind.TheVariants.{DefinedTwice}
use Rattle.gms_check.proofs.Noting.{faulted-then, noted-by, not-not}
use Rattle.gms_check.proofs.checker.Checker.defined_equation.Goals as goal

pub returns : goal.returns
returns g c =
    let value = g.F.ExactField.value in
    let facts = c.args.self.now.known in
    let s = seen c.args.self.now in
    let at = c.args.equation.at in
    let name = c.args.equation.name in
    let xs = index_list c.args.indices.now in
    let occurs : c.is_equation-occurs.result ≡ is_equation (declared_kind facts.state name) = c.is_equation-occurs.ensures ∙ ap is_equation c.kind.ensures in
    let faults = index_faults (known_of value s) name (is_equation (declared_kind facts.state name)) xs in
    noted-by value s _ at (defining name xs) (faults ++ (marked facts.defined name, DefinedTwice) ∷ []) refl
    (faulted-then at s _ _ faults ((marked facts.defined name, DefinedTwice) ∷ [])
    (c.in_ok-named.ensures ∙ ap (λ b. faulted s at (index_faults (known_of value s) name b xs)) occurs)
    (c.require.ensures ∙ ap (λ b. faulted (seen c.named.new.self) at ((b, DefinedTwice) ∷ [])) (not-not c.is_defined-defined.result ∙ c.is_defined-defined.ensures)))
