use Rattle.std.proofs.Common.{ap, sym, ◌∙◌}
use Rattle.gms_ast.specs.Trees.{no_index}
use Rattle.gms_ast.specs.TreeView.{index_tree}
use Rattle.gms_exec.specs.InnerContracts.{first_set}
use Rattle.gms_exec.proofs.LeftSides.{first-Label, first-Set}
use Rattle.gms_exec.proofs.assignment.index_set.Goals as goal

pub returns-in-Label : goal.returns-in-Label
returns-in-Label g c = sym (ap (λ i. first_set (index_tree i no_index)) c.in-Label.is ∙ first-Label g.row.F.Denot _)

pub returns-in-Set : goal.returns-in-Set
returns-in-Set g c = sym (ap (λ i. first_set (index_tree i no_index)) c.in-Set.is ∙ first-Set g.row.F.Denot c.in-Set.name _)
