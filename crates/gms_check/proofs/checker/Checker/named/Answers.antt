use Rattle.std.proofs.Common.{◌≡◌, ◌∙◌, ap, sym, ℕ, length, [], ◌∷◌, not, ◌||◌}
use Rattle.std.specs.List.{list_any}
use Rattle.gms_scope.specs.Facts.{is_known_ordered}
use Rattle.gms_scope.specs.Names.{is_index_set, has_no_declaration, positions}
use Rattle.gms_check.specs.InnerChecking.{faulted, seen}
use Rattle.gms_check.specs.Controls.{lagged_sets}
use Rattle.gms_check.specs.Domains.{index_count, is_wrong_count}
use Rattle.gms_check.specs.StatementUses.{index_list}
use Rattle.gms_check.specs.Uses.{index_sets}
use Rattle.gms_check.specs.declared.error.ErrorKind.TheVariants.{UnknownName, WrongKind, WrongArity, DomainOfSet, DomainOfLabel, NotOrdered}
use Rattle.gms_check.proofs.IndexLists.{count-indices}
use Rattle.gms_check.proofs.Noting.{chain-6, not-not, or-right, or-true}
use Rattle.gms_check.proofs.checker.Checker.named.Goals as goal
use Rattle.gms_check.proofs.checker.Checker.named.Goals.{then-is_unknown, else-is_unknown, then-not-occurs, else-not-occurs}

pub returns : goal.returns
returns g c =
    let facts = c.args.self.now.known in
    let s = seen c.args.self.now in
    let at = c.args.named.at in
    let name = c.args.named.name in
    let domain = positions facts.state name in
    let xs = index_list c.args.indices.now in
    let sets : c.in_ok-sets.sets.items ≡ index_sets xs = c.in_ok-sets.ensures in
    let lagged : c.in_ok-lagged.lagged.items ≡ lagged_sets xs = c.in_ok-lagged.ensures in
    let unknown : c.if-is_unknown.unknown ≡ (has_no_declaration facts.state name || list_any (has_no_declaration facts.state) (index_sets xs)) = elim c.if-is_unknown.branch [
      | then-is_unknown w ↦ or-true _ _ _ (w.unknown-is ∙ c.is_unknown.ensures) (sym c.is_unknown.ensures ∙ w.if-is_unknown.true)
      | else-is_unknown w ↦ or-right _ _ _ (w.unknown-is ∙ w.has_unknown-unknown.ensures ∙ ap (list_any (has_no_declaration facts.state)) (w.deref.ensures.value ∙ sets)) (sym c.is_unknown.ensures ∙ w.if-is_unknown.false)
    ] in
    let wrong : c.if-not-occurs.wrong ≡ (not c.args.occurs || list_any (λ (set : ℕ). not (is_index_set facts.state set)) (index_sets xs)) = elim c.if-not-occurs.branch [
      | then-not-occurs w ↦ or-true _ _ _ w.wrong-is (ap not w.if-not-occurs.true)
      | else-not-occurs w ↦ or-right _ _ _ (w.wrong-is ∙ w.has_wrong_set-wrong.ensures ∙ ap (list_any (λ (set : ℕ). not (is_index_set facts.state set))) (w.deref-else-not-occurs.ensures.value ∙ sets)) (ap not w.if-not-occurs.false)
    ] in
    let miscounted : c.is_wrong_count-miscounted.result ≡ is_wrong_count (length domain) (index_count xs) = c.is_wrong_count-miscounted.ensures ∙ ap (λ expected. is_wrong_count expected (length c.args.indices.now)) c.position_count.ensures ∙ ap (is_wrong_count (length domain)) (sym (count-indices c.args.indices.now)) in
    let unordered : c.has_unordered-unordered.result ≡ list_any (λ (set : ℕ). not (is_known_ordered facts set)) (lagged_sets xs) = c.has_unordered-unordered.ensures ∙ ap (list_any (λ (set : ℕ). not (is_known_ordered facts set))) (c.deref-2.ensures.value ∙ lagged) in
    chain-6 at s _ _ _ _ _ _ _ _ _ _ _ _
    (c.require.ensures ∙ ap (λ b. faulted s at ((b, UnknownName) ∷ [])) (not-not c.if-is_unknown.unknown ∙ unknown))
    (c.require-2.ensures ∙ ap (λ b. faulted (seen c.require.new.self) at ((b, WrongKind) ∷ [])) (not-not c.if-not-occurs.wrong ∙ wrong))
    (c.require-3.ensures ∙ ap (λ b. faulted (seen c.require-2.new.self) at ((b, WrongArity) ∷ [])) (not-not c.is_wrong_count-miscounted.result ∙ miscounted))
    (c.require-4.ensures ∙ ap (λ b. faulted (seen c.require-3.new.self) at ((b, DomainOfSet) ∷ [])) (not-not c.has_unfit_set-unfit.result ∙ c.has_unfit_set-unfit.ensures))
    (c.require-5.ensures ∙ ap (λ b. faulted (seen c.require-4.new.self) at ((b, DomainOfLabel) ∷ [])) (not-not c.in_ok-outside.outside ∙ c.in_ok-outside.ensures))
    (c.require-6.ensures ∙ ap (λ b. faulted (seen c.require-5.new.self) at ((b, NotOrdered) ∷ [])) (not-not c.has_unordered-unordered.result ∙ unordered))
