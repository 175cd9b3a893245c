use Rattle.std.proofs.Common.{◌∙◌, ap, [], ◌∷◌, not}
use Rattle.gms_check.specs.InnerChecking.{faulted, seen}
use Rattle.gms_scope.specs.Names.{is_equation, has_no_declaration, declared_kind}
use Rattle.gms_check.specs.declared.error.ErrorKind.TheVariants.{UnknownName, WrongKind}
use Rattle.gms_check.specs.Uses.{listing}
use Rattle.gms_check.proofs.Noting.{alone, chain-2, noted-by}
use Rattle.gms_check.proofs.checker.Checker.listed_equation.Goals as goal

pub returns : goal.returns
returns g c =
    let facts = c.args.self.now.known in
    let s = seen c.args.self.now in
    let at = c.args.named.at in
    let unknown = has_no_declaration facts.state c.args.named.name in
    let wrong = not (is_equation (declared_kind facts.state c.args.named.name)) in
    noted-by g.F.ExactField.value s _ at (listing c.args.named.name) ((unknown, UnknownName) ∷ (wrong, WrongKind) ∷ []) (alone at unknown UnknownName ((wrong, WrongKind) ∷ []))
    (chain-2 at s _ _ _ _ c.require_known.ensures (c.require.ensures ∙ ap (λ b. faulted (seen c.require_known.new.self) at ((not b, WrongKind) ∷ [])) (c.is_equation-equation.ensures ∙ ap is_equation c.kind.ensures)))
