use Rattle.std.proofs.Common.{◌≡◌, ◌∙◌, ap, sym, refl, [], ◌∷◌, not, ◌&&◌, ◌||◌}
use Rattle.gms_scope.specs.Names.{is_set_name, has_no_declaration}
use Rattle.gms_check.specs.InnerChecking.{Checking, faulted, seen}
use Rattle.gms_check.specs.Uses.{first_alias, second_alias}
use Rattle.gms_check.specs.declared.error.ErrorKind.TheVariants.{UnknownName, Redeclared, WrongKind}
use Rattle.gms_check.proofs.Noting.{chain-2, noted-by, noted-then, not-either, not-or, or-right, or-true}
use Rattle.gms_check.proofs.checker.Checker.alias.Goals as goal
use Rattle.gms_check.proofs.checker.Checker.alias.Goals.{then-first_new, else-first_new, then-second_new, else-second_new, then-not-first_new, else-not-first_new, then-first_new-2, else-first_new-2}

pub returns : goal.returns
returns g c =
    let value = g.F.ExactField.value in
    let state = c.args.self.now.known.state in
    let s = seen c.args.self.now in
    let first = c.args.first in
    let second = c.args.second in
    let new = has_no_declaration state first.name in
    let other = has_no_declaration state second.name in
    let set = is_set_name state first.name in
    let other_set = is_set_name state second.name in
    let first_new : c.is_unknown-first_new.result ≡ new = c.is_unknown-first_new.ensures in
    let second_new : c.is_unknown-second_new.result ≡ other = c.is_unknown-second_new.ensures in
    let first_occurs : c.if-first_new.first_occurs ≡ (new || set) = elim c.if-first_new.branch [
      | then-first_new w ↦ or-true _ _ _ (w.first_occurs-is ∙ first_new) (sym first_new ∙ w.if-first_new.true)
      | else-first_new w ↦ or-right _ _ _ (w.first_occurs-is ∙ w.is_set-first_occurs.ensures) (sym first_new ∙ w.if-first_new.false)
    ] in
    let second_occurs : c.if-second_new.second_occurs ≡ (other || other_set) = elim c.if-second_new.branch [
      | then-second_new w ↦ or-true _ _ _ (w.second_occurs-is ∙ second_new) (sym second_new ∙ w.if-second_new.true)
      | else-second_new w ↦ or-right _ _ _ (w.second_occurs-is ∙ w.is_set-second_occurs.ensures) (sym second_new ∙ w.if-second_new.false)
    ] in
    let one_known : c.if-not-first_new.require ≡ (not new || not other) = elim c.if-not-first_new.branch [
      | then-not-first_new w ↦ or-true _ _ _ (w.require-is ∙ ap not first_new) (ap not (sym first_new ∙ w.if-not-first_new.true))
      | else-not-first_new w ↦ or-right _ _ _ (w.require-is ∙ ap not second_new) (ap not (sym first_new ∙ w.if-not-first_new.false))
    ] in
    let one_new : c.if-first_new-2.require ≡ (new || other) = elim c.if-first_new-2.branch [
      | then-first_new-2 w ↦ or-true _ _ _ (w.require-is ∙ first_new) (sym first_new ∙ w.if-first_new-2.true)
      | else-first_new-2 w ↦ or-right _ _ _ (w.require-is ∙ second_new) (sym first_new ∙ w.if-first_new-2.false)
    ] in
    let faults = (new && other, UnknownName) ∷ (not new && not set, WrongKind) ∷ [] in
    let more = (not new && not other, Redeclared) ∷ (not other && not other_set, WrongKind) ∷ [] in
    let t = faulted s first.at faults in
    let after : seen c.require-2.new.self ≡ t = chain-2 first.at s _ _ _ _
    (c.require.ensures ∙ ap (λ b. faulted s first.at ((b, UnknownName) ∷ [])) (ap not one_known ∙ not-either new other))
    (c.require-2.ensures ∙ ap (λ b. faulted (seen c.require.new.self) first.at ((b, WrongKind) ∷ [])) (ap not first_occurs ∙ not-or new set)) in
    noted-then value s t _ ((first.at, first_alias first.name second.name) ∷ []) ((second.at, second_alias first.name second.name) ∷ [])
    (noted-by value s t first.at (first_alias first.name second.name) faults refl refl)
    (noted-by value t _ second.at (second_alias first.name second.name) more refl
    (chain-2 second.at t _ _ _ _
    (c.require-3.ensures ∙ ap (λ (u : Checking). faulted u second.at ((not c.if-first_new-2.require, Redeclared) ∷ [])) after ∙ ap (λ b. faulted t second.at ((b, Redeclared) ∷ [])) (ap not one_new ∙ not-or new other))
    (c.require-4.ensures ∙ ap (λ b. faulted (seen c.require-3.new.self) second.at ((b, WrongKind) ∷ [])) (ap not second_occurs ∙ not-or other other_set))))
