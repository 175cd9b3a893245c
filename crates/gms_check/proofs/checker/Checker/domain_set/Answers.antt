use Rattle.std.proofs.Common.{◌∙◌, ap, [], ◌∷◌, not}
use Rattle.gms_check.specs.InnerChecking.{faulted, seen}
use Rattle.gms_scope.specs.Facts.{is_known_dynamic}
use Rattle.gms_scope.specs.Names.{is_index_set, has_no_declaration}
use Rattle.gms_check.specs.declared.error.ErrorKind.TheVariants.{UnknownName, WrongKind, DynamicDomain}
use Rattle.gms_check.specs.Uses.{bounding}
use Rattle.gms_check.proofs.Noting.{alone, chain-3, not-not, noted-by}
use Rattle.gms_check.proofs.checker.Checker.domain_set.Goals as goal

pub returns : goal.returns
returns g c =
    let facts = c.args.self.now.known in
    let s = seen c.args.self.now in
    let at = c.args.named.at in
    let unknown = has_no_declaration facts.state c.args.named.name in
    let wrong = not (is_index_set facts.state c.args.named.name) in
    let dynamic = is_known_dynamic facts c.args.named.name in
    noted-by g.F.ExactField.value s _ at (bounding c.args.named.name) ((unknown, UnknownName) ∷ (wrong, WrongKind) ∷ (dynamic, DynamicDomain) ∷ []) (alone at unknown UnknownName ((wrong, WrongKind) ∷ (dynamic, DynamicDomain) ∷ []))
    (chain-3 at s _ _ _ _ _ _ c.require_known.ensures
    (c.require.ensures ∙ ap (λ b. faulted (seen c.require_known.new.self) at ((not b, WrongKind) ∷ [])) c.is_index_set-index_set.ensures)
    (c.require-2.ensures ∙ ap (λ b. faulted (seen c.require.new.self) at ((b, DynamicDomain) ∷ [])) (not-not c.is_dynamic-dynamic.result ∙ c.is_dynamic-dynamic.ensures)))
