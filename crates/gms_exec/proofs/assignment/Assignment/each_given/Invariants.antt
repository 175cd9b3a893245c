use Rattle.std.proofs.Common.{◌≡◌, drop, length, take}
use Rattle.gms_ast.specs.TreeView.{tree_of}
use Rattle.gms_eval.specs.Bindings.{controlled}
use Rattle.gms_exec.specs.Assignment.{target_of, element_under}
use Rattle.gms_exec.specs.InnerContracts.{all_given_in}
use Rattle.gms_exec.proofs.Assigning.{each_of}
use Rattle.gms_exec.proofs.LeftSides.{finding}
use Rattle.gms_exec.proofs.assignment.Assignment.each_given.Given as goal

abbrev pub invariant-loop-element : goal.invariant-loop-element
invariant-loop-element g l =
    (each_of g.F.ExactField.value g.F.ExactField.limit l.store l.self.target.now l.self.right_at (tree_of l.self.right.now) l.b l.sets l.elements ≡ finding g.F.ExactField.value g.F.ExactField.limit l.store (λ element. element_under g.F.ExactField.value g.F.ExactField.limit l.store (target_of l.self.target.now) l.self.right_at (tree_of l.self.right.now) (controlled l.b l.sets element)) (all_given_in g.F.ExactField.value l.all.items) (drop l.element-index l.elements))
    × (take (length l.b) l.inner ≡ l.b)
