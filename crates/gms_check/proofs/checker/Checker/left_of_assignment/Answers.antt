use Rattle.std.proofs.Common.{◌∙◌, ap, List, [], ◌∷◌, option_map}
use Rattle.std.proofs.lemmas.Result.{on_ok_weaker}
use Rattle.gms_ast.specs.declared.expression.Index.{Index}
use Rattle.gms_ast.specs.TreeView.{tree_of}
use Rattle.gms_check.specs.InnerChecking.{noted, seen, with_controlled}
use Rattle.gms_check.specs.StatementUses.{index_list}
use Rattle.gms_check.specs.Uses.{assigning, condition_uses, index_sets, shift_uses}
use Rattle.gms_check.proofs.StatementParts.{parts-under}
use Rattle.gms_check.proofs.checker.Checker.left_of_assignment.Goals as goal

pub returns : goal.returns
returns g c =
    let value = g.F.ExactField.value in
    let target = c.args.target.now in
    let indices = index_list target.indices in
    let after = seen c.control_indices.new.self in
    on_ok_weaker c.condition.result (λ e. parts-under value (seen c.args.self.now) (seen c.target.new.self) (seen c.control_indices.new.self) (seen c.left_amounts.new.self) (seen c.condition.new.self) ((target.at, assigning target.name target.suffix indices) ∷ []) (index_sets indices) (λ sets. shift_uses sets indices) (λ sets. condition_uses c.args.at sets (option_map tree_of c.args.condition.now)) c.in_ok-target.ensures (c.in_ok-control_indices.ensures ∙ ap (λ (xs : List (Index _)). with_controlled (seen c.target.new.self) (index_sets (index_list xs))) c.as_slice.ensures) (c.in_ok-left_amounts.ensures ∙ ap (λ (xs : List (Index _)). noted value after (shift_uses after.controlled (index_list xs))) c.as_slice-2.ensures) e) c.condition.ensures
