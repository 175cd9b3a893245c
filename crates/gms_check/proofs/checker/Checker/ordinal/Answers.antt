use Rattle.std.proofs.Common.{◌∙◌, ap, sym, [], ◌∷◌, not, ◌||◌}
use Rattle.gms_check.specs.InnerChecking.{faulted, seen}
use Rattle.gms_scope.specs.Facts.{is_known_ordered}
use Rattle.gms_scope.specs.Names.{is_set_name, has_no_declaration}
use Rattle.gms_check.specs.declared.error.ErrorKind.TheVariants.{UnknownName, WrongKind, Uncontrolled, NotOrdered}
use Rattle.gms_check.specs.Past.{is_among}
use Rattle.gms_check.specs.Uses.{cardinal, ordinal}
use Rattle.gms_check.proofs.Noting.{alone, faulted-by, faulted-then, noted-by}
use Rattle.gms_check.proofs.checker.Checker.ordinal.Goals as goal

pub returns-clause-noted : goal.returns-clause-noted
returns-clause-noted g c =
    let facts = c.args.self.now.known in
    let s = seen c.args.self.now in
    let at = c.args.at in
    let unknown = has_no_declaration facts.state c.args.set in
    let wrong = not c.args.context.numbers || not (is_set_name facts.state c.args.set) in
    let free = not (is_among s.controlled c.args.set) in
    let unordered = not (is_known_ordered facts c.args.set) in
    noted-by g.F.ExactField.value s _ at (ordinal c.args.context s.controlled c.args.set) ((unknown, UnknownName) ∷ (wrong, WrongKind) ∷ (free, Uncontrolled) ∷ (unordered, NotOrdered) ∷ []) (alone at unknown UnknownName ((wrong, WrongKind) ∷ (free, Uncontrolled) ∷ (unordered, NotOrdered) ∷ []))
    (faulted-then at s _ _ ((unknown, UnknownName) ∷ (wrong, WrongKind) ∷ (free, Uncontrolled) ∷ []) ((unordered, NotOrdered) ∷ [])
    (faulted-then at s _ _ ((unknown, UnknownName) ∷ (wrong, WrongKind) ∷ []) ((free, Uncontrolled) ∷ [])
    (faulted-by g.F.ExactField.value s _ at (cardinal c.args.context c.args.set) ((unknown, UnknownName) ∷ (wrong, WrongKind) ∷ []) (sym (alone at unknown UnknownName ((wrong, WrongKind) ∷ []))) c.cardinal-variable.ensures.noted)
    (c.require.ensures ∙ ap (λ b. faulted (seen c.cardinal-variable.new.self) at ((not b, Uncontrolled) ∷ [])) c.has-controlled.ensures))
    (c.require-2.ensures ∙ ap (λ b. faulted (seen c.require.new.self) at ((not b, NotOrdered) ∷ [])) c.is_ordered-ordered.ensures))
