use Rattle.std.proofs.Common.{[], ◌∷◌, option_map}
use Rattle.std.proofs.lemmas.Result.{on_ok_weaker}
use Rattle.gms_ast.specs.TreeView.{tree_of}
use Rattle.gms_check.specs.InnerChecking.{seen}
use Rattle.gms_check.specs.StatementUses.{index_list}
use Rattle.gms_check.specs.Uses.{condition_uses, defining, index_sets, shift_uses}
use Rattle.gms_check.proofs.StatementParts.{parts-under}
use Rattle.gms_check.proofs.checker.Checker.left_of_definition.Goals as goal

pub returns : goal.returns
returns g c =
    let value = g.F.ExactField.value in
    let indices = index_list c.args.indices.now in
    on_ok_weaker c.condition.result (λ e. parts-under value (seen c.args.self.now) (seen c.defined_equation.new.self) (seen c.control_indices.new.self) (seen c.left_amounts.new.self) (seen c.condition.new.self) ((c.args.equation.at, defining c.args.equation.name indices) ∷ []) (index_sets indices) (λ sets. shift_uses sets indices) (λ sets. condition_uses c.args.at sets (option_map tree_of c.args.condition.now)) c.in_ok-defined_equation.ensures c.in_ok-control_indices.ensures c.in_ok-left_amounts.ensures e) c.condition.ensures
