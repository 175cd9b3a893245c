use Rattle.std.proofs.Common.{◌∙◌, ap, [], ◌∷◌, not}
use Rattle.gms_check.specs.InnerChecking.{faulted, known_of, seen}
use Rattle.gms_scope.specs.Names.{has_no_declaration, declared_kind}
use Rattle.gms_check.specs.declared.error.ErrorKind.TheVariants.{UnknownName, WrongKind, Endogenous}
use Rattle.gms_check.specs.Linearity.{is_variable_by}
use Rattle.gms_check.specs.Contexts.{as_condition, may_occur}
use Rattle.gms_check.specs.Uses.{showing}
use Rattle.gms_check.proofs.Noting.{alone, chain-3, not-not, noted-by}
use Rattle.gms_check.proofs.checker.Checker.symbol.Goals as goal

pub returns : goal.returns
returns g c =
    let facts = c.args.self.now.known in
    let s = seen c.args.self.now in
    let at = c.args.named.at in
    let unknown = has_no_declaration facts.state c.args.named.name in
    let wrong = not (may_occur as_condition (declared_kind facts.state c.args.named.name) c.args.suffix) in
    let variable = is_variable_by (known_of g.F.ExactField.value s) c.args.named.name c.args.suffix in
    noted-by g.F.ExactField.value s _ at (showing c.args.named.name c.args.suffix) ((unknown, UnknownName) ∷ (wrong, WrongKind) ∷ (variable, Endogenous) ∷ []) (alone at unknown UnknownName ((wrong, WrongKind) ∷ (variable, Endogenous) ∷ []))
    (chain-3 at s _ _ _ _ _ _ c.require_known.ensures
    (c.require.ensures ∙ ap (λ b. faulted (seen c.require_known.new.self) at ((not b, WrongKind) ∷ [])) (c.admits-occurs.ensures ∙ ap (λ k. may_occur as_condition k c.args.suffix) c.kind-kind.ensures))
    (c.require-2.ensures ∙ ap (λ b. faulted (seen c.require.new.self) at ((b, Endogenous) ∷ [])) (not-not c.is_variable-variable.result ∙ c.is_variable-variable.ensures)))
