use Rattle.std.proofs.Common.{◌≡◌, ◌∙◌, ap, ℕ, length, [], ◌∷◌, ◌++◌, not, ◌&&◌, ◌||◌}
use Rattle.std.specs.List.{list_any}
use Rattle.gms_scope.specs.Names.{has_no_declaration, declared_kind, positions}
use Rattle.gms_check.specs.InnerChecking.{faulted, known_of, seen}
use Rattle.gms_check.specs.Controls.{lagged_sets, is_ordered}
use Rattle.gms_check.specs.Domains.{has_unfit_label, has_unfit_set, index_count, is_wrong_count}
use Rattle.gms_check.specs.InnerFaults.{index_faults}
use Rattle.gms_check.specs.Kinds.{has_wrong_set}
use Rattle.gms_check.specs.Linearity.{is_variable_by}
use Rattle.gms_check.specs.Past.{is_among}
use Rattle.gms_check.specs.Contexts.{may_occur}
use Rattle.gms_check.specs.StatementUses.{index_list}
use Rattle.gms_check.specs.Uses.{index_sets, reading}
use Rattle.gms_check.specs.declared.error.ErrorKind.TheVariants.{UnknownName, WrongKind, WrongArity, DomainOfSet, DomainOfLabel, Uncontrolled, NotOrdered, Endogenous}
use Rattle.gms_check.proofs.Noting.{faulted-then, noted-by, not-not, not-or, or-right, or-true, turned}
use Rattle.gms_check.proofs.checker.Checker.reference.Goals as goal
use Rattle.gms_check.proofs.checker.Checker.reference.Goals.{then-context, else-context}

pub returns-clause-noted : goal.returns-clause-noted
returns-clause-noted g c =
    let value = g.F.ExactField.value in
    let facts = c.args.self.now.known in
    let s = seen c.args.self.now in
    let at = c.args.named.at in
    let name = c.args.named.name in
    let xs = index_list c.args.indices.now in
    let may = may_occur c.args.context (declared_kind facts.state name) c.args.suffix in
    let faults = index_faults (known_of value s) name may xs in
    let free = list_any (λ (set : ℕ). not (is_among s.controlled set)) (index_sets xs) in
    let variable = is_variable_by (known_of value s) name c.args.suffix in
    let misplaced = not c.args.context.variables && variable in
    let sets : c.in_ok-sets.sets.items ≡ index_sets xs = c.in_ok-sets.ensures in
    let occurs : c.admits.result ≡ may = c.admits.ensures ∙ ap (λ kind. may_occur c.args.context kind c.args.suffix) c.kind-kind.ensures in
    let unruled : c.has_uncontrolled-uncontrolled.result ≡ free = c.has_uncontrolled-uncontrolled.ensures ∙ ap (list_any (λ (set : ℕ). not (is_among s.controlled set))) (c.deref.ensures.value ∙ sets) in
    let admitted : c.if-context.occurs ≡ (c.args.context.variables || not c.is_variable-variable.result) = elim c.if-context.branch [
      | then-context w ↦ or-true _ _ _ w.occurs-is w.if-context.true
      | else-context w ↦ or-right _ _ _ w.occurs-is w.if-context.false
    ] in
    let refused : not c.if-context.occurs ≡ misplaced = ap not admitted ∙ not-or c.args.context.variables (not c.is_variable-variable.result) ∙ ap (λ b. not c.args.context.variables && b) (not-not c.is_variable-variable.result ∙ c.is_variable-variable.ensures) in
    noted-by value s _ at (reading c.args.context s.controlled name c.args.suffix xs) (faults ++ (free, Uncontrolled) ∷ (misplaced, Endogenous) ∷ [])
    (turned at ((has_no_declaration facts.state name || list_any (has_no_declaration facts.state) (index_sets xs), UnknownName) ∷ (not may || has_wrong_set (known_of value s) (index_sets xs), WrongKind) ∷ (is_wrong_count (length (positions facts.state name)) (index_count xs), WrongArity) ∷ (has_unfit_set (known_of value s) name (positions facts.state name) xs, DomainOfSet) ∷ (has_unfit_label (known_of value s) name (positions facts.state name) xs, DomainOfLabel) ∷ []) (list_any (λ (set : ℕ). not (is_ordered (known_of value s) set)) (lagged_sets xs), NotOrdered) (free, Uncontrolled) ((misplaced, Endogenous) ∷ []))
    (faulted-then at s _ _ (faults ++ (free, Uncontrolled) ∷ []) ((misplaced, Endogenous) ∷ [])
    (faulted-then at s _ _ faults ((free, Uncontrolled) ∷ [])
    (c.in_ok-named.ensures ∙ ap (λ b. faulted s at (index_faults (known_of value s) name b xs)) occurs)
    (c.require.ensures ∙ ap (λ b. faulted (seen c.named.new.self) at ((b, Uncontrolled) ∷ [])) (not-not c.has_uncontrolled-uncontrolled.result ∙ unruled)))
    (c.require-2.ensures ∙ ap (λ b. faulted (seen c.require.new.self) at ((b, Endogenous) ∷ [])) refused))
