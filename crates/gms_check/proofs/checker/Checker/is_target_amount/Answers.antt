use Rattle.std.proofs.Common.{◌≡◌, ◌∙◌, ◌&&◌, ◌==◌, ap, sym, map, length, arith}
use Rattle.std.specs.Vec.{vec_len}
use Rattle.gms_ast.specs.declared.expression.Expr.{Expr}
use Rattle.gms_ast.specs.declared.expression.Suffix.{Suffix}
use Rattle.gms_ast.specs.declared.expression.Suffix.TheVariants as suffix
use Rattle.gms_ast.specs.Trees.{reference}
use Rattle.gms_ast.specs.TreeView.{tree_of, index_tree, indices_of}
use Rattle.gms_ast.proofs.TreeEquations.{tree_of-Ref}
use Rattle.gms_scope.specs.Names.{declared_kind, positions}
use Rattle.gms_check.specs.InnerChecking.{known_of, seen}
use Rattle.gms_check.specs.Kinds.{is_target_amount, is_without_positions, may_shift}
use Rattle.gms_check.proofs.IndexLists.{bare-indices}
use Rattle.gms_check.proofs.checker.Checker.is_target_amount.Goals as goal
use Rattle.gms_check.proofs.checker.Checker.is_target_amount.Goals.{in-None, in_default-matches}

pub returns-then-matches : goal.returns-then-matches
returns-then-matches g c =
    let known = known_of g.F.ExactField.value (seen c.args.self.now) in
    let r = c.in-Ref in
    let counted : vec_len r.indices ≡ length r.indices.items = omega (arith, r.indices.ok.0) in
    let none : c.in-Ref.suffix ≡ suffix.None = elim c.match-matches.branch [
      | in-None w ↦ w.in-None.is
      | in_default-matches w ↦ absurd (let a = w.matches-is in let b = c.if-matches.true in cc)
    ] in
    let shape : is_target_amount known (tree_of c.args.amount.now) ≡ is_target_amount known (reference r.at r.name suffix.None (indices_of (map index_tree r.indices.items))) = ap (λ (e : Expr _). is_target_amount known (tree_of e)) r.is ∙ ap (is_target_amount known) (tree_of-Ref r.at r.name r.suffix r.indices) ∙ ap (λ (s : Suffix). is_target_amount known (reference r.at r.name s (indices_of (map index_tree r.indices.items)))) none in
    c.may_shift.ensures ∙ ap (λ b. may_shift (declared_kind known.state r.name) (is_without_positions (positions known.state r.name) && b)) (c.is_empty.ensures ∙ ap (λ n. n == 0) counted ∙ bare-indices r.indices.items) ∙ sym shape
