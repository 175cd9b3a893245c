use Rattle.std.proofs.Common.{◌∙◌, ap, refl, ℕ, length, [], ◌∷◌, not}
use Rattle.std.specs.Prelude.{nat_lt}
use Rattle.std.specs.List.{list_any}
use Rattle.gms_scope.specs.Names.{is_index_set, has_no_declaration}
use Rattle.gms_check.specs.InnerChecking.{Checking, faulted, seen, with_controlled}
use Rattle.gms_check.specs.Controls.{is_controlled_twice}
use Rattle.gms_check.specs.Uses.{controlling}
use Rattle.gms_check.specs.declared.error.ErrorKind.TheVariants.{UnknownName, WrongKind, WrongArity, ControlledTwice}
use Rattle.gms_check.proofs.Noting.{chain-4, noted-by, not-not, not-within}
use Rattle.gms_check.proofs.checker.Checker.control_sets.Goals as goal

pub returns : goal.returns
returns g c =
    let value = g.F.ExactField.value in
    let facts = c.args.self.now.known in
    let s = seen c.args.self.now in
    let at = c.args.at in
    let sets = c.args.sets.now in
    let t = with_controlled s sets in
    let unknown = list_any (has_no_declaration facts.state) sets in
    let wrong = list_any (λ (set : ℕ). not (is_index_set facts.state set)) sets in
    let many = nat_lt 10 (length sets) in
    let twice = is_controlled_twice s.controlled sets in
    let faults = (unknown, UnknownName) ∷ (wrong, WrongKind) ∷ (many, WrongArity) ∷ (twice, ControlledTwice) ∷ [] in
    chain-4 at t _ _ _ _ _ _ _ _
    (c.require.ensures ∙ ap (λ (u : Checking). faulted u at ((not (not c.has_unknown-unknown.result), UnknownName) ∷ [])) c.in_ok-twice.ensures.controlled ∙ ap (λ b. faulted t at ((b, UnknownName) ∷ [])) (not-not c.has_unknown-unknown.result ∙ c.has_unknown-unknown.ensures))
    (c.require-2.ensures ∙ ap (λ b. faulted (seen c.require.new.self) at ((b, WrongKind) ∷ [])) (not-not c.has_wrong_set-wrong.result ∙ c.has_wrong_set-wrong.ensures))
    (c.require-3.ensures ∙ ap (λ b. faulted (seen c.require-2.new.self) at ((b, WrongArity) ∷ [])) (not-within (length sets) 10))
    (c.require-4.ensures ∙ ap (λ b. faulted (seen c.require-3.new.self) at ((b, ControlledTwice) ∷ [])) (not-not c.in_ok-twice.twice ∙ c.in_ok-twice.ensures.twice))
    ∙ ap (λ (u : Checking). with_controlled u sets) (noted-by value s (faulted s at faults) at (controlling s.controlled sets) faults refl refl)
