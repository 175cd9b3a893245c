use Rattle.std.proofs.Common.{◌≡◌, ◌∙◌, Ok, sym, ap, subst}
use Rattle.gms_ast.specs.TreeView.{tree_of}
use Rattle.gms_tuple.specs.TupleSet.{has}
use Rattle.gms_store.specs.Declarations.{is_undeclared}
use Rattle.gms_store.specs.State.{State, attributes_of, members_of, symbol_of, value_of}
use Rattle.gms_exec.specs.Membership.{membership}
use Rattle.gms_exec.proofs.Assigned.{symbol-not_given}
use Rattle.gms_laws.specs.Assignments.{IsRight, element_binding}
use Rattle.gms_laws.proofs.AssignedEntries.{attribute-taken, member-taken, nothing-given, one-taken, value-taken}
use Rattle.gms_laws.proofs.Executions.{attributes-within, content-within, parameter-plain, settle}
use Rattle.gms_laws.proofs.KeptEntries.{attributes-kept, member-kept, value-kept}
use Rattle.gms_laws.proofs.assignments.assigned_entries.Goals as goal

pub returns-clause-one : goal.returns-clause-one
returns-clause-one g c e element other tuple done k l =
    let v = g.F.ExactField.value in
    let limit = g.F.ExactField.limit in
    let s = settle v limit e done in
    one-taken v limit e s.simple s.few s.short s.all s.gives s.once element other tuple k l

pub returns-clause-value : goal.returns-clause-value
returns-clause-value g c e entries element tuple done is k =
    let v = g.F.ExactField.value in
    let limit = g.F.ExactField.limit in
    let s = settle v limit e done in
    subst (λ (after : State). IsRight v limit e element (value_of after e.target.name tuple)) s.after_is (value-taken v limit e s.simple s.few s.short s.all s.gives s.once (content-within e.before e.target.name (ap is_undeclared is)) s.long element tuple k entries is (parameter-plain e.before e.target.name e.target.suffix entries is s.may))

pub returns-clause-member : goal.returns-clause-member
returns-clause-member g c e members element tuple done is k =
    let v = g.F.ExactField.value in
    let limit = g.F.ExactField.limit in
    let s = settle v limit e done in
    subst (λ (after : State). membership v limit e.before (element_binding e element) (tree_of e.right) ≡ Ok (has (members_of after e.target.name) tuple)) s.after_is (member-taken v limit e s.simple s.few s.short s.all s.gives s.once (content-within e.before e.target.name (ap is_undeclared is)) s.long element tuple k members is)

pub returns-clause-attribute : goal.returns-clause-attribute
returns-clause-attribute g c e element tuple done has k =
    let v = g.F.ExactField.value in
    let limit = g.F.ExactField.limit in
    let s = settle v limit e done in
    let x = attribute-taken v limit e s.simple s.few s.short s.all s.gives s.once (attributes-within e.before e.target.name has) s.long element tuple k has in
    record { x = x.0; is = x.1; given = sym (ap (λ (after : State). attributes_of after e.target.name tuple) s.after_is) ∙ x.2 }

pub returns-clause-kept : goal.returns-clause-kept
returns-clause-kept g c e tuple done nothing =
    let v = g.F.ExactField.value in
    let limit = g.F.ExactField.limit in
    let s = settle v limit e done in
    let none = nothing-given v limit e s.simple s.few s.short s.all s.gives s.once tuple nothing in
    record {
      value = sym (ap (λ (after : State). value_of after e.target.name tuple) s.after_is) ∙ value-kept e.before e.target.name e.target.suffix s.all tuple none;
      member = sym (ap (λ (after : State). has (members_of after e.target.name) tuple) s.after_is) ∙ member-kept e.before e.target.name e.target.suffix s.all tuple none;
      attributes = sym (ap (λ (after : State). attributes_of after e.target.name tuple) s.after_is) ∙ attributes-kept e.before e.target.name e.target.suffix s.all tuple none;
    }

pub returns-clause-others : goal.returns-clause-others
returns-clause-others g c e other done apart =
    let s = settle g.F.ExactField.value g.F.ExactField.limit e done in
    sym (ap (λ (after : State). symbol_of after other) s.after_is) ∙ symbol-not_given e.before e.target.name e.target.suffix s.all other apart

pub returns-clause-settings : goal.returns-clause-settings
returns-clause-settings g c e done =
    let s = settle g.F.ExactField.value g.F.ExactField.limit e done in
    sym (ap (λ (after : State). after.settings) s.after_is)
