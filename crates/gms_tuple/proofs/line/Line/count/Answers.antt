use Rattle.std.proofs.Common.{◌≡◌, ◌++◌, ◌+◌, ◌-◌, ◌<◌, length, slice_get, Some, refl, ap, sym, subst, ◌∙◌, rules, arith}
use Rattle.std.proofs.lemmas.List.Sorted.{IsPartitionPoint-from_clause}
use Rattle.std.proofs.lemmas.Bool.{ltb-true}
use Rattle.std.proofs.lemmas.Option.{slice_get_read}
use Rattle.std.proofs.lemmas.List.{length-append}
use Rattle.gms_tuple.specs.TupleOrder.{IsOrdered}
use Rattle.gms_tuple.specs.TupleSet.{is_within}
use Rattle.gms_tuple.proofs.Lines.{all-pass, none-pass, some-pass, partitioned, first-ordered}
use Rattle.gms_tuple.proofs.Steps.{prefix_fits}
use Rattle.gms_tuple.proofs.line.Line.count.Goals as goal

pub returns-then-is_within : goal.returns-then-is_within
returns-then-is_within c =
    c.len.ensures ∙ sym (all-pass c.args.through c.args.t.now c.args.self.now c.self.inside.tree c.self.inside.following.items c.in-Some.last.now c.self.view_is c.requires (subst (λ s. slice_get s (length s - 1) ≡ Some c.in-Some.last.now) c.deref.ensures.value (slice_get_read c.deref.result.now _ (length c.deref.result.now - 1) c.in-Some.last.now refl (let some : 0 < length c.deref.result.now = (ltb-true 0 (length c.deref.result.now) (sym c.in-Some.ensures.item.0)) in omega (arith, some)) c.in-Some.ensures.item.1)) (sym c.is_within.ensures ∙ c.if-is_within.true))

pub count-requires-then-not-is_within : goal.count-requires-then-not-is_within
count-requires-then-not-is_within c = first-ordered c.self.inside.tree c.self.inside.following.items (subst IsOrdered (sym c.self.view_is) c.requires)

pub returns-then-not-is_within : goal.returns-then-not-is_within
returns-then-not-is_within c =
    c.count-then-not-is_within.ensures ∙ sym (none-pass c.args.through c.args.t.now c.args.self.now c.self.inside.tree c.self.inside.following.items c.index.result.now c.self.view_is c.requires (slice_get_read c.self.inside.following.items _ 0 c.index.result.now refl (subst (λ s. 0 < length s) c.deref.ensures.value (ltb-true 0 (length c.deref.result.now) (sym c.in-Some.ensures.item.0))) c.index.ensures) (sym c.is_within-2.ensures ∙ c.if-not-is_within.true))

pub returns : goal.returns
returns c =
    let slice = c.deref-2.result.now in
    let whole = ap (λ m. c.self.inside.tree ++ m) c.deref-2.ensures.value ∙ c.self.view_is in
    let parted = partitioned c.args.through c.args.t.now c.args.self.now c.self.inside.tree slice c.index.result.now whole c.requires in
    let point = IsPartitionPoint-from_clause (is_within c.args.through c.args.t.now) slice c.partition_point-within.result c.partition_point-within.ensures.partitioned parted (λ a r f k. search rules) in
    ap (λ n. n + c.partition_point-within.result) c.len-2.ensures ∙ some-pass c.args.through c.args.t.now c.args.self.now c.self.inside.tree slice c.index.result.now whole c.requires (subst (λ s. slice_get s 0 ≡ Some c.index.result.now) (sym c.deref-2.ensures.value) (slice_get_read c.self.inside.following.items _ 0 c.index.result.now refl (subst (λ s. 0 < length s) c.deref.ensures.value (ltb-true 0 (length c.deref.result.now) (sym c.in-Some.ensures.item.0))) c.index.ensures)) (sym c.is_within-2.ensures ∙ c.if-not-is_within.false) c.partition_point-within.result point c.partition_point-within.ensures.bound

pub count-requires : goal.count-requires
count-requires c = first-ordered c.self.inside.tree c.self.inside.following.items (subst IsOrdered (sym c.self.view_is) c.requires)

pub index-requires : goal.index-requires
index-requires c =
    let some : 0 < length c.deref.result.now = ltb-true 0 (length c.deref.result.now) (sym c.in-Some.ensures.item.0) in
    subst (λ n. 0 < n) c.deref.ensures.len some

pub overflow_add-result : goal.overflow_add-result
overflow_add-result c =
    let whole = length-append c.self.inside.tree c.self.inside.following.items in
    prefix_fits c.len-2.result c.partition_point-within.result (length c.self.inside.tree) (length c.self.inside.following.items) (length c.deref-2.result.now) _ c.len-2.ensures c.partition_point-within.ensures.bound (ap length c.deref-2.ensures.value) whole c.self.invariant
