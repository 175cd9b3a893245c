use Rattle.std.proofs.Common.{◌≡◌, ◌++◌, take}
use Rattle.std.specs.Prelude.{flat_map}
use Rattle.gms_ast.specs.TreeView.{control_tree}
use Rattle.gms_check.specs.InnerChecking.{noted, seen, with_controlled}
use Rattle.gms_check.specs.StatementUses.{statement_uses}
use Rattle.gms_check.specs.Uses.{control_uses, sets_of_control}
use Rattle.gms_check.proofs.checker.Checker.+statement.Given as goal

abbrev pub invariant-repetition-loop-statement : goal.invariant-repetition-loop-statement
invariant-repetition-loop-statement g l =
    seen l.self ≡ with_controlled (noted g.F.ExactField.value (seen l.fn.self) (control_uses l.fn.at (seen l.fn.self).controlled (control_tree l.control) ++ flat_map (λ statement. statement_uses statement (seen l.fn.self).facts.state ((seen l.fn.self).controlled ++ sets_of_control (control_tree l.control))) (take l.statement-index l.body))) (sets_of_control (control_tree l.control))
