-- An index of two lists one after the other is one of the first list, or else one of the second.
use Rattle.std.proofs.Common.{◌≡◌, ℕ, ◌+◌, ◌≤◌, ◌++◌, ◌∙◌, length, refl, sym, ap, subst, arith}
use Rattle.std.specs.Vec.{vec_len}
use Rattle.std.proofs.lemmas.List.Edits.{insert-append_left, insert-append_right}
use Rattle.gms_tuple.proofs.Steps.{not_ok, if_err, below_at_most, rest_within}
use Rattle.gms_tuple.proofs.tree.insert_in.Goals as goal

within_more : (n : ℕ) → n ≤ n + 1
within_more n = omega arith

at_most-same : (n m : ℕ) → n ≡ m → n ≤ m
at_most-same n m e = omega arith

pub insert-requires : goal.insert-requires
insert-requires c = subst (λ n. c.args.at ≤ n) c.len-before.ensures c.if-at-before.true

pub returns-in_err-insert : goal.returns-in_err-insert
returns-in_err-insert c = record {
  ok = not_ok c.from_residual.result _ c.from_residual.ensures.0;
  err = if_err c.from_residual.result _ (c.in_err-insert.ensures.items, refl);
  most = within_more (length c.args.second.now.items);
}

pub overflow_sub-at : goal.overflow_sub-at
overflow_sub-at c = below_at_most c.len-before.result c.args.at c.if-at-before.false

pub insert-requires-else-at-before : goal.insert-requires-else-at-before
insert-requires-else-at-before c =
    rest_within c.args.at c.len-before.result (vec_len c.args.second.now) (length c.args.first.now.items) (length c.args.second.now.items) c.requires (c.len-before.ensures ∙ c.args.first.now.ok.0) c.args.second.now.ok.0

pub returns-in_err-insert-2 : goal.returns-in_err-insert-2
returns-in_err-insert-2 c = record {
  ok = not_ok c.from_residual-in_err-insert-2.result _ c.from_residual-in_err-insert-2.ensures.0;
  err = if_err c.from_residual-in_err-insert-2.result _ (refl, c.in_err-insert-2.ensures.items);
  most = subst (λ n. n ≤ length c.args.second.now.items + 1) (sym (ap length c.in_err-insert-2.ensures.items)) (within_more (length c.args.second.now.items));
}

pub returns-in_ok-insert : goal.returns-in_ok-insert
returns-in_ok-insert c =
    let upto : c.args.at ≤ length c.args.first.now.items = subst (λ n. c.args.at ≤ n) (c.len-before.ensures ∙ c.args.first.now.ok.0) c.if-at-before.true in
    record {
      ok = ap (λ xs. xs ++ c.args.second.now.items) c.in_ok-insert.ensures.items ∙ sym (insert-append_left c.args.first.now.items c.args.second.now.items c.args.at c.args.tuple upto);
      err = tt;
      most = within_more (length c.args.second.now.items);
    }

pub returns-in_ok-insert-2 : goal.returns-in_ok-insert-2
returns-in_ok-insert-2 c =
    let before : length c.args.first.now.items ≡ c.len-before.result = sym (c.len-before.ensures ∙ c.args.first.now.ok.0) in
    let more = sym c.insert-else-at-before.new.self.ok.0 ∙ c.in_ok-insert-2.ensures.len ∙ ap (λ n. n + 1) c.args.second.now.ok.0 in
    record {
      ok =
          ap (λ rest. c.args.first.now.items ++ rest) c.in_ok-insert-2.ensures.items
          ∙ sym (insert-append_right c.args.first.now.items c.args.second.now.items c.len-before.result c.args.at c.args.tuple before (below_at_most c.len-before.result c.args.at c.if-at-before.false));
      err = tt;
      most = at_most-same (length c.insert-else-at-before.new.self.items) (length c.args.second.now.items + 1) more;
    }
