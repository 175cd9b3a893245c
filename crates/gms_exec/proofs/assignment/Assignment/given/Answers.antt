use Rattle.std.proofs.Common.{◌∙◌, Ok}
use Rattle.gq_extended.specs.Meaning.{extended}
use Rattle.gms_ast.specs.TreeView.{tree_of}
use Rattle.gms_eval.specs.Value.{value}
use Rattle.gms_eval.proofs.Answering.{stops-same, stops-then, handed_on, gives-same, then-value}
use Rattle.gms_exec.specs.Given.{member}
use Rattle.gms_exec.specs.Membership.{membership}
use Rattle.gms_exec.specs.Assignment.{target_of, given_under, where_taken}
use Rattle.gms_exec.specs.InnerContracts.{given_in}
use Rattle.gms_exec.proofs.Assigning.{given-of-set, given-of-value}
use Rattle.gms_exec.proofs.assignment.Assignment.given.Goals as goal

pub returns-in_err-membership : goal.returns-in_err-membership
returns-in_err-membership g c =
    handed_on g.F.ExactField.value (given_in g.F.ExactField.value) c.from_residual.result c.in_err-membership.field-0.0 _ c.from_residual.ensures.1 (stops-same g.F.ExactField.value c.in_err-membership.field-0.0 (given_under g.F.ExactField.value g.F.ExactField.limit c.args.store.now (target_of c.args.self.now.target.now) c.args.self.now.right_at (tree_of c.args.self.now.right.now) c.args.b.now) _ (given-of-set g.F.ExactField.value g.F.ExactField.limit c.args.store.now c.args.self.now.target.now c.args.self.now.right_at (tree_of c.args.self.now.right.now) c.args.b.now c.is_set.result c.is_set.ensures c.if-is_set.true) (stops-then g.F.ExactField.value c.in_err-membership.field-0.0 (membership g.F.ExactField.value g.F.ExactField.limit c.args.store.now c.args.b.now (tree_of c.args.self.now.right.now)) (λ x. Ok (member x)) c.in_err-membership.ensures))

pub returns-then-is_set : goal.returns-then-is_set
returns-then-is_set g c =
    given-of-set g.F.ExactField.value g.F.ExactField.limit c.args.store.now c.args.self.now.target.now c.args.self.now.right_at (tree_of c.args.self.now.right.now) c.args.b.now c.is_set.result c.is_set.ensures c.if-is_set.true ∙ then-value (membership g.F.ExactField.value g.F.ExactField.limit c.args.store.now c.args.b.now (tree_of c.args.self.now.right.now)) c.in_ok-membership.field-0 (λ x. Ok (member x)) c.in_ok-membership.ensures

pub returns-in_err-value : goal.returns-in_err-value
returns-in_err-value g c =
    handed_on g.F.ExactField.value (given_in g.F.ExactField.value) c.from_residual-in_err-value.result c.in_err-value.field-0.0 _ c.from_residual-in_err-value.ensures.1 (stops-same g.F.ExactField.value c.in_err-value.field-0.0 (given_under g.F.ExactField.value g.F.ExactField.limit c.args.store.now (target_of c.args.self.now.target.now) c.args.self.now.right_at (tree_of c.args.self.now.right.now) c.args.b.now) _ (given-of-value g.F.ExactField.value g.F.ExactField.limit c.args.store.now c.args.self.now.target.now c.args.self.now.right_at (tree_of c.args.self.now.right.now) c.args.b.now c.is_set.result c.is_set.ensures c.if-is_set.false) (stops-then g.F.ExactField.value c.in_err-value.field-0.0 (value g.F.ExactField.value g.F.ExactField.limit c.args.store.now c.args.b.now (tree_of c.args.self.now.right.now)) (where_taken c.args.self.now.target.now.suffix c.args.self.now.right_at c.args.b.now) c.in_err-value.ensures))

pub returns : goal.returns
returns g c =
    gives-same g.F.ExactField.value (given_in g.F.ExactField.value) c.where_taken.result (given_under g.F.ExactField.value g.F.ExactField.limit c.args.store.now (target_of c.args.self.now.target.now) c.args.self.now.right_at (tree_of c.args.self.now.right.now) c.args.b.now) _ (given-of-value g.F.ExactField.value g.F.ExactField.limit c.args.store.now c.args.self.now.target.now c.args.self.now.right_at (tree_of c.args.self.now.right.now) c.args.b.now c.is_set.result c.is_set.ensures c.if-is_set.false ∙ then-value (value g.F.ExactField.value g.F.ExactField.limit c.args.store.now c.args.b.now (tree_of c.args.self.now.right.now)) (extended g.F.ExactField.value c.in_ok-value.value) (where_taken c.args.self.now.target.now.suffix c.args.self.now.right_at c.args.b.now) c.in_ok-value.ensures) c.where_taken.ensures
