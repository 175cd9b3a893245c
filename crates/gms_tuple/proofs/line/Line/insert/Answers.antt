use Rattle.std.proofs.Common.{◌<◌, ◌≤◌, ◌++◌, length, insert, ap, sym, subst, ◌∙◌, arith}
use Rattle.std.proofs.lemmas.List.Edits.{insert-append_left, insert-append_right, length-insert}
use Rattle.std.proofs.lemmas.List.{length-append}
use Rattle.std.specs.Vec.{vec_len}
use Rattle.gms_tuple.proofs.Steps.{not_ok, if_err, below_at_most, rest_within, prefix_bound}
use Rattle.gms_tuple.proofs.line.Line.insert.Goals as goal

pub returns-in_ok-insert-2-clause-ok : goal.returns-in_ok-insert-2-clause-ok
returns-in_ok-insert-2-clause-ok c =
    let there = c.self.view_is ∙ c.settle.ensures in
    ap (λ b. c.self.inside.tree ++ b) c.in_ok-insert-2.ensures.items
    ∙ sym (insert-append_right c.self.inside.tree c.self.inside.following.items c.len-before.result c.args.place c.args.tuple (sym c.len-before.ensures) (omega arith))
    ∙ ap (λ l. insert l c.args.place c.args.tuple) there

pub returns-in_err-settle-clause-ok : goal.returns-in_err-settle-clause-ok
returns-in_err-settle-clause-ok c = not_ok c.from_residual.result _ c.from_residual.ensures.0

pub returns-in_err-settle-clause-err : goal.returns-in_err-settle-clause-err
returns-in_err-settle-clause-err c = if_err c.from_residual.result _ c.settle.ensures

pub insert-requires-clause-place : goal.insert-requires-clause-place
insert-requires-clause-place c = below_at_most c.args.place _ (subst (λ n. c.args.place < n) c.len-before.ensures c.if-place-before.true)

pub returns-in_err-insert-clause-ok : goal.returns-in_err-insert-clause-ok
returns-in_err-insert-clause-ok c = not_ok c.from_residual-in_err-insert.result _ c.from_residual-in_err-insert.ensures.0

pub returns-in_err-insert-clause-err : goal.returns-in_err-insert-clause-err
returns-in_err-insert-clause-err c =
    if_err c.from_residual-in_err-insert.result _ (ap (λ tree. tree ++ c.self.inside.following.items) c.in_err-insert.ensures.err ∙ c.self.view_is ∙ c.settle.ensures)

pub returns-in_err-insert-2-clause-ok : goal.returns-in_err-insert-2-clause-ok
returns-in_err-insert-2-clause-ok c = not_ok c.from_residual-in_err-insert-2.result _ c.from_residual-in_err-insert-2.ensures.0

pub returns-in_err-insert-2-clause-err : goal.returns-in_err-insert-2-clause-err
returns-in_err-insert-2-clause-err c =
    if_err c.from_residual-in_err-insert-2.result _ (ap (λ xs. c.self.inside.tree ++ xs) c.in_err-insert-2.ensures.items ∙ c.self.view_is ∙ c.settle.ensures)

pub returns-in_ok-insert-clause-ok : goal.returns-in_ok-insert-clause-ok
returns-in_ok-insert-clause-ok c =
    let within : c.args.place ≤ length c.self.inside.tree = below_at_most c.args.place _ (subst (λ n. c.args.place < n) c.len-before.ensures c.if-place-before.true) in
    ap (λ tree. tree ++ c.self.inside.following.items) c.in_ok-insert.ensures.ok ∙ sym (insert-append_left c.self.inside.tree c.self.inside.following.items c.args.place c.args.tuple within)
    ∙ ap (λ l. insert l c.args.place c.args.tuple) (c.self.view_is ∙ c.settle.ensures)

pub invariant_of-self : goal.invariant_of-self
invariant_of-self c =
    subst (λ n. n < 18446744073709551616) (sym (ap length (returns-in_ok-insert-clause-ok c) ∙ length-insert c.args.self.now c.args.place c.args.tuple c.requires.place)) c.requires.within_bound

pub invariant_of-self-in_err-insert : goal.invariant_of-self-in_err-insert
invariant_of-self-in_err-insert c = subst (λ tree. length (tree ++ c.self.inside.following.items) < 18446744073709551616) (sym c.in_err-insert.ensures.err) c.self.invariant

pub invariant_of-self-in_err-insert-2 : goal.invariant_of-self-in_err-insert-2
invariant_of-self-in_err-insert-2 c = subst (λ xs. length (c.self.inside.tree ++ xs) < 18446744073709551616) (sym c.in_err-insert-2.ensures.items) c.self.invariant

pub insert-requires-clause-within_bound : goal.insert-requires-clause-within_bound
insert-requires-clause-within_bound c =
    let whole = ap length (sym (c.self.view_is ∙ c.settle.ensures)) ∙ length-append c.self.inside.tree c.self.inside.following.items in
    prefix_bound (length c.self.inside.tree) (length c.self.inside.following.items) (length c.args.self.now) whole c.requires.within_bound

pub insert-requires-else-place-before : goal.insert-requires-else-place-before
insert-requires-else-place-before c =
    let whole = ap length (sym (c.self.view_is ∙ c.settle.ensures)) ∙ length-append c.self.inside.tree c.self.inside.following.items in
    rest_within c.args.place c.len-before.result (vec_len c.self.inside.following) (length c.self.inside.tree) (length c.self.inside.following.items) (subst (λ n. c.args.place ≤ n) whole c.requires.place) c.len-before.ensures c.self.inside.following.ok.0
