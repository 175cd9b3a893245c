use Rattle.std.proofs.Common.{◌≡◌, ◌∙◌, ap, refl, List, []}
use Rattle.gms_ast.specs.declared.expression.Index.{Index}
use Rattle.gms_scope.specs.Names.{declared_kind}
use Rattle.gms_check.specs.InnerChecking.{faulted, known_of, seen}
use Rattle.gms_check.specs.InnerFaults.{index_faults}
use Rattle.gms_check.specs.Contexts.{may_be_assigned}
use Rattle.gms_check.specs.StatementUses.{index_list}
use Rattle.gms_check.specs.Uses.{assigning}
use Rattle.gms_check.proofs.Noting.{noted-by}
use Rattle.gms_check.proofs.checker.Checker.target.Goals as goal

pub returns : goal.returns
returns g c =
    let value = g.F.ExactField.value in
    let facts = c.args.self.now.known in
    let s = seen c.args.self.now in
    let target = c.args.target.now in
    let occurs : c.may_be_assigned-occurs.result ≡ may_be_assigned (declared_kind facts.state target.name) target.suffix = c.may_be_assigned-occurs.ensures ∙ ap (λ kind. may_be_assigned kind target.suffix) c.kind-kind.ensures in
    noted-by value s _ target.at (assigning target.name target.suffix (index_list target.indices)) (index_faults (known_of value s) target.name (may_be_assigned (declared_kind facts.state target.name) target.suffix) (index_list target.indices)) refl
    (c.in_ok-named.ensures ∙ ap (λ b. faulted s target.at (index_faults (known_of value s) target.name b (index_list c.as_slice.result.now))) occurs ∙ ap (λ (indices : List (Index _)). faulted s target.at (index_faults (known_of value s) target.name (may_be_assigned (declared_kind facts.state target.name) target.suffix) (index_list indices))) c.as_slice.ensures)
