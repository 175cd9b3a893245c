use Rattle.std.proofs.Common.{◌∙◌, ap, Ok, Some}
use Rattle.gms_ast.specs.TreeView.{tree_of}
use Rattle.gms_eval.proofs.Answering.{stops-same, stops-then, handed_on, then-value}
use Rattle.gms_exec.specs.Assignment.{target_of, given_under}
use Rattle.gms_exec.specs.InnerContracts.{given_in, found_in, found_at}
use Rattle.gms_exec.proofs.assignment.Assignment.given_at.Goals as goal

pub returns-in_err-given-in-Some : goal.returns-in_err-given-in-Some
returns-in_err-given-in-Some g c =
    handed_on g.F.ExactField.value (found_in g.F.ExactField.value) c.from_residual.result c.in_err-given-in-Some.field-0.0 _ c.from_residual.ensures.1 (stops-same g.F.ExactField.value c.in_err-given-in-Some.field-0.0 (found_at (given_under g.F.ExactField.value g.F.ExactField.limit c.args.store.now (target_of c.args.self.now.target.now) c.args.self.now.right_at (tree_of c.args.self.now.right.now) c.args.b.now) c.args.t) _ (ap (found_at (given_under g.F.ExactField.value g.F.ExactField.limit c.args.store.now (target_of c.args.self.now.target.now) c.args.self.now.right_at (tree_of c.args.self.now.right.now) c.args.b.now)) c.in-Some.is) (stops-then g.F.ExactField.value c.in_err-given-in-Some.field-0.0 (given_under g.F.ExactField.value g.F.ExactField.limit c.args.store.now (target_of c.args.self.now.target.now) c.args.self.now.right_at (tree_of c.args.self.now.right.now) c.args.b.now) (λ one. Ok (Some (c.in-Some.t, one))) c.in_err-given-in-Some.ensures))

pub returns-in_ok-given-in-Some : goal.returns-in_ok-given-in-Some
returns-in_ok-given-in-Some g c =
    ap (found_at (given_under g.F.ExactField.value g.F.ExactField.limit c.args.store.now (target_of c.args.self.now.target.now) c.args.self.now.right_at (tree_of c.args.self.now.right.now) c.args.b.now)) c.in-Some.is ∙ then-value (given_under g.F.ExactField.value g.F.ExactField.limit c.args.store.now (target_of c.args.self.now.target.now) c.args.self.now.right_at (tree_of c.args.self.now.right.now) c.args.b.now) (given_in g.F.ExactField.value c.in_ok-given-in-Some.given) (λ one. Ok (Some (c.in-Some.t, one))) c.in_ok-given-in-Some.ensures

pub returns-in-None : goal.returns-in-None
returns-in-None g c = ap (found_at (given_under g.F.ExactField.value g.F.ExactField.limit c.args.store.now (target_of c.args.self.now.target.now) c.args.self.now.right_at (tree_of c.args.self.now.right.now) c.args.b.now)) c.in-None.is
