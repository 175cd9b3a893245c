use Rattle.std.proofs.Common.{◌≡◌, ◌∙◌, ap, sym, refl, List, length, arith, ◌==◌, [], ◌∷◌, not, ◌&&◌}
use Rattle.gms_check.specs.InnerChecking.{faulted, seen}
use Rattle.std.proofs.lemmas.Bool.Decides.{nat_tests}
use Rattle.gms_store.specs.State.{State, symbol_at}
use Rattle.gms_store.specs.Declarations.{is_free}
use Rattle.gms_scope.specs.Names.{has_no_declaration, declared_kind, positions}
use Rattle.gms_check.specs.declared.error.ErrorKind.TheVariants.{UnknownName, WrongKind, Objective}
use Rattle.gms_check.specs.Kinds.{is_variable_kind, is_without_positions}
use Rattle.gms_check.specs.Uses.{optimizing}
use Rattle.gms_check.proofs.Noting.{alone, and-false, and-true, chain-3, noted-by}
use Rattle.gms_check.proofs.checker.Checker.objective.Goals as goal
use Rattle.gms_check.proofs.checker.Checker.objective.Goals.{then-is_free, else-is_free}

no_positions : {X : Type 0} (xs : List X) → (length xs == 0) ≡ is_without_positions xs
no_positions [] = refl
no_positions (x ∷ xs) = grind (arith, nat_tests)

pub returns : goal.returns
returns g c =
    let facts = c.args.self.now.known in
    let s = seen c.args.self.now in
    let at = c.args.objective.at in
    let unknown = has_no_declaration facts.state c.args.objective.name in
    let wrong = not (is_variable_kind (declared_kind facts.state c.args.objective.name)) in
    let open_type = is_free (symbol_at facts.state c.args.objective.name).content in
    let bare = is_without_positions (positions facts.state c.args.objective.name) in
    let typed : is_free (symbol_at c.store.result.now c.args.objective.name).content ≡ open_type = ap (λ (state : State). is_free (symbol_at state c.args.objective.name).content) c.store.ensures in
    let free : c.if-is_free.free ≡ (open_type && bare) = elim c.if-is_free.branch [
      | then-is_free w ↦ and-true open_type bare _ _ w.free-is (ap (λ n. n == 0) w.position_count.ensures ∙ no_positions (positions facts.state c.args.objective.name)) (sym (w.if-is_free.ensures ∙ typed))
      | else-is_free w ↦ and-false open_type bare _ (w.free-is ∙ c.is_free.ensures ∙ typed) (sym (w.if-is_free.ensures ∙ typed))
    ] in
    noted-by g.F.ExactField.value s _ at (optimizing c.args.objective.name) ((unknown, UnknownName) ∷ (wrong, WrongKind) ∷ (not (open_type && bare), Objective) ∷ []) (alone at unknown UnknownName ((wrong, WrongKind) ∷ (not (open_type && bare), Objective) ∷ []))
    (chain-3 at s _ _ _ _ _ _ c.require_known.ensures
    (c.require.ensures ∙ ap (λ b. faulted (seen c.require_known.new.self) at ((not b, WrongKind) ∷ [])) (c.is_variable-occurs.ensures ∙ ap is_variable_kind c.kind.ensures))
    (c.require-2.ensures ∙ ap (λ b. faulted (seen c.require.new.self) at ((not b, Objective) ∷ [])) free))
