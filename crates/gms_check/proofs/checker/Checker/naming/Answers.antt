use Rattle.std.proofs.Common.{◌≡◌, ◌∙◌, ap, sym, refl, length, [], ◌∷◌, not, ◌&&◌, ◌||◌}
use Rattle.std.specs.Prelude.{nat_lt}
use Rattle.gms_store.specs.Declarations.{names_of, positions_of}
use Rattle.gms_scope.specs.Names.{has_no_declaration}
use Rattle.gms_check.specs.InnerChecking.{faulted, known_of, seen}
use Rattle.gms_check.specs.Names.{may_be_typed}
use Rattle.gms_check.specs.Uses.{naming}
use Rattle.gms_check.specs.declared.error.ErrorKind.TheVariants.{Redeclared, WrongArity}
use Rattle.gms_check.proofs.Noting.{chain-2, noted-by, not-or, not-within, or-right, or-true}
use Rattle.gms_check.proofs.checker.Checker.naming.Goals as goal
use Rattle.gms_check.proofs.checker.Checker.naming.Goals.{then-new, else-new}

pub returns : goal.returns
returns g c =
    let value = g.F.ExactField.value in
    let s = seen c.args.self.now in
    let at = c.args.named.at in
    let name = c.args.named.name in
    let domain = names_of c.args.domain.now in
    let new = has_no_declaration s.facts.state name in
    let typed = may_be_typed (known_of value s) c.args.kind name domain in
    let many = nat_lt 10 (length (positions_of c.args.kind domain)) in
    let allowed : c.if-new.allowed ≡ (new || typed) = elim c.if-new.branch [
      | then-new w ↦ or-true _ _ _ (w.allowed-is ∙ c.is_unknown-new.ensures) (sym c.is_unknown-new.ensures ∙ w.if-new.true)
      | else-new w ↦ or-right _ _ _ (w.allowed-is ∙ w.may_be_typed-allowed.ensures) (sym c.is_unknown-new.ensures ∙ w.if-new.false)
    ] in
    noted-by value s _ at (naming c.args.kind name domain) ((not new && not typed, Redeclared) ∷ (many, WrongArity) ∷ []) refl
    (chain-2 at s _ _ _ _
    (c.require.ensures ∙ ap (λ b. faulted s at ((b, Redeclared) ∷ [])) (ap not allowed ∙ not-or new typed))
    (c.require-2.ensures ∙ ap (λ b. faulted (seen c.require.new.self) at ((b, WrongArity) ∷ [])) (not-within c.args.positions 10 ∙ ap (nat_lt 10) c.requires)))
