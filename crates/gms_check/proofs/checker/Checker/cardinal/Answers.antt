use Rattle.std.proofs.Common.{◌≡◌, ◌∙◌, ap, [], ◌∷◌, not, ◌&&◌, ◌||◌}
use Rattle.gms_check.specs.InnerChecking.{faulted, seen}
use Rattle.gms_scope.specs.Names.{is_set_name, has_no_declaration}
use Rattle.gms_check.specs.declared.error.ErrorKind.TheVariants.{UnknownName, WrongKind}
use Rattle.gms_check.specs.Uses.{cardinal}
use Rattle.gms_check.proofs.Noting.{alone, and-false, and-true, chain-2, not-and, noted-by}
use Rattle.gms_check.proofs.checker.Checker.cardinal.Goals as goal
use Rattle.gms_check.proofs.checker.Checker.cardinal.Goals.{then-context, else-context}

pub returns-clause-noted : goal.returns-clause-noted
returns-clause-noted g c =
    let facts = c.args.self.now.known in
    let s = seen c.args.self.now in
    let set = is_set_name facts.state c.args.set in
    let unknown = has_no_declaration facts.state c.args.set in
    let wrong = not c.args.context.numbers || not set in
    let occurs : c.if-context.occurs ≡ (c.args.context.numbers && set) = elim c.if-context.branch [
      | then-context w ↦ and-true c.args.context.numbers set _ _ w.occurs-is w.is_set-occurs.ensures w.if-context.true
      | else-context w ↦ and-false c.args.context.numbers set _ w.occurs-is w.if-context.false
    ] in
    noted-by g.F.ExactField.value s _ c.args.at (cardinal c.args.context c.args.set) ((unknown, UnknownName) ∷ (wrong, WrongKind) ∷ []) (alone c.args.at unknown UnknownName ((wrong, WrongKind) ∷ []))
    (chain-2 c.args.at s _ _ _ _ c.require_known.ensures (c.require.ensures ∙ ap (λ b. faulted (seen c.require_known.new.self) c.args.at ((b, WrongKind) ∷ [])) (ap not occurs ∙ not-and c.args.context.numbers set)))
