use Rattle.std.proofs.Common.{ap, sym, ◌∙◌}
use Rattle.gms_ast.specs.TreeView.{tree_of}
use Rattle.gms_eval.proofs.Answering.{stops-same, stops-then, handed_on, gives-same}
use Rattle.gms_exec.specs.InnerContracts.{all_given_in}
use Rattle.gms_exec.proofs.Assigning.{each_of, given-by-sets, given-by-found}
use Rattle.gms_exec.proofs.assignment.Assignment.all_given.Goals as goal

pub returns-in_err-found : goal.returns-in_err-found
returns-in_err-found g c =
    handed_on g.F.ExactField.value (λ all. all_given_in g.F.ExactField.value all.items) c.from_residual-in_err-found.result c.in_err-found.field-0.0 _ c.from_residual-in_err-found.ensures.1 (stops-same g.F.ExactField.value c.in_err-found.field-0.0 _ _ (given-by-sets g.F.ExactField.value g.F.ExactField.limit c.args.store.now c.args.self.now.target.now c.args.self.now.right_at (tree_of c.args.self.now.right.now) c.args.b.now c.args.at _ c.as_slice-indices.result.now c.in_ok-sets.sets.items c.deref.result.now c.as_slice-indices.ensures c.in_ok-sets.ensures c.deref.ensures.value) (stops-then g.F.ExactField.value c.in_err-found.field-0.0 _ (each_of g.F.ExactField.value g.F.ExactField.limit c.args.store.now c.args.self.now.target.now c.args.self.now.right_at (tree_of c.args.self.now.right.now) c.args.b.now c.deref.result.now) c.in_err-found.ensures))

pub returns : goal.returns
returns g c =
    gives-same g.F.ExactField.value (λ all. all_given_in g.F.ExactField.value all.items) c.each_given.result _ _ (given-by-found g.F.ExactField.value g.F.ExactField.limit c.args.store.now c.args.self.now.target.now c.args.self.now.right_at (tree_of c.args.self.now.right.now) c.args.b.now c.args.at _ c.as_slice-indices.result.now c.in_ok-sets.sets.items c.deref.result.now c.as_slice-those.result.now c.in_ok-found.found.items c.as_slice-indices.ensures c.in_ok-sets.ensures c.deref.ensures.value c.as_slice-those.ensures.value c.in_ok-found.ensures ∙ ap (each_of g.F.ExactField.value g.F.ExactField.limit c.args.store.now c.args.self.now.target.now c.args.self.now.right_at (tree_of c.args.self.now.right.now) c.args.b.now c.as_slice-those.result.now) (sym c.as_slice-elements.ensures.value)) c.each_given.ensures
