use Rattle.std.proofs.Common.{◌∙◌, Ok, map}
use Rattle.gms_ast.specs.TreeView.{tree_of}
use Rattle.gms_eval.specs.Nodes.{in_order}
use Rattle.gms_eval.specs.Faults.{◌and_then◌}
use Rattle.gms_eval.specs.References.{tuple_of}
use Rattle.gms_eval.specs.Value.{label_answer}
use Rattle.gms_eval.proofs.Answering.{stops-same, stops-then, handed_on, gives-same, then-value}
use Rattle.gms_exec.specs.Assignment.{target_of, given_under, element_under}
use Rattle.gms_exec.specs.InnerContracts.{found_in, found_at}
use Rattle.gms_exec.proofs.Assigning.{element-by}
use Rattle.gms_exec.proofs.assignment.Assignment.element.Goals as goal

pub returns-in_err-t : goal.returns-in_err-t
returns-in_err-t g c =
    handed_on g.F.ExactField.value (found_in g.F.ExactField.value) c.from_residual.result c.in_err-t.field-0.0 _ c.from_residual.ensures.1 (stops-same g.F.ExactField.value c.in_err-t.field-0.0 (element_under g.F.ExactField.value g.F.ExactField.limit c.args.store.now (target_of c.args.self.now.target.now) c.args.self.now.right_at (tree_of c.args.self.now.right.now) c.args.b.now) _ (element-by g.F.ExactField.value g.F.ExactField.limit c.args.store.now c.args.self.now.target.now c.args.self.now.right_at (tree_of c.args.self.now.right.now) c.args.b.now c.as_slice-indices.result.now c.as_slice-indices.ensures) (stops-then g.F.ExactField.value c.in_err-t.field-0.0 (in_order (map (label_answer g.F.ExactField.value g.F.ExactField.limit c.args.store.now c.args.b.now) c.as_slice-indices.result.now) and_then (λ those. Ok (tuple_of those))) (found_at (given_under g.F.ExactField.value g.F.ExactField.limit c.args.store.now (target_of c.args.self.now.target.now) c.args.self.now.right_at (tree_of c.args.self.now.right.now) c.args.b.now)) c.in_err-t.ensures))

pub returns : goal.returns
returns g c =
    gives-same g.F.ExactField.value (found_in g.F.ExactField.value) c.given_at.result (element_under g.F.ExactField.value g.F.ExactField.limit c.args.store.now (target_of c.args.self.now.target.now) c.args.self.now.right_at (tree_of c.args.self.now.right.now) c.args.b.now) _ (element-by g.F.ExactField.value g.F.ExactField.limit c.args.store.now c.args.self.now.target.now c.args.self.now.right_at (tree_of c.args.self.now.right.now) c.args.b.now c.as_slice-indices.result.now c.as_slice-indices.ensures ∙ then-value (in_order (map (label_answer g.F.ExactField.value g.F.ExactField.limit c.args.store.now c.args.b.now) c.as_slice-indices.result.now) and_then (λ those. Ok (tuple_of those))) c.in_ok-t.t (found_at (given_under g.F.ExactField.value g.F.ExactField.limit c.args.store.now (target_of c.args.self.now.target.now) c.args.self.now.right_at (tree_of c.args.self.now.right.now) c.args.b.now)) c.in_ok-t.ensures) c.given_at.ensures
