use Rattle.std.proofs.Common.{◌∙◌, ap, [], ◌∷◌, not}
use Rattle.gms_check.specs.InnerChecking.{faulted, seen}
use Rattle.gms_scope.specs.Facts.{Facts, has_undefined}
use Rattle.gms_scope.specs.Names.{is_model, has_no_declaration, declared_kind}
use Rattle.gms_check.specs.declared.error.ErrorKind.TheVariants.{UnknownName, WrongKind, NotDefined}
use Rattle.gms_check.specs.Uses.{solving}
use Rattle.gms_check.proofs.Noting.{alone, chain-3, not-not, noted-by}
use Rattle.gms_check.proofs.checker.Checker.solved_model.Goals as goal

pub returns : goal.returns
returns g c =
    let facts = c.args.self.now.known in
    let s = seen c.args.self.now in
    let at = c.args.model.at in
    let unknown = has_no_declaration facts.state c.args.model.name in
    let wrong = not (is_model (declared_kind facts.state c.args.model.name)) in
    let missing = has_undefined facts c.args.model.name in
    noted-by g.F.ExactField.value s _ at (solving c.args.model.name) ((unknown, UnknownName) ∷ (wrong, WrongKind) ∷ (missing, NotDefined) ∷ []) (alone at unknown UnknownName ((wrong, WrongKind) ∷ (missing, NotDefined) ∷ []))
    (chain-3 at s _ _ _ _ _ _ (c.require_known.ensures ∙ ap (λ (facts : Facts). faulted (record s { facts = facts }) at ((has_no_declaration facts.state c.args.model.name, UnknownName) ∷ [])) c.all_defined-defined.ensures.unchanged)
    (c.require.ensures ∙ ap (λ b. faulted (seen c.require_known.new.self) at ((not b, WrongKind) ∷ [])) (c.is_model-occurs.ensures ∙ ap is_model c.kind.ensures))
    (c.require-2.ensures ∙ ap (λ b. faulted (seen c.require.new.self) at ((b, NotDefined) ∷ [])) (ap not c.all_defined-defined.ensures.answer ∙ not-not missing)))
