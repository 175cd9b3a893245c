use Rattle.std.proofs.Common.{◌≡◌, ◌-◌, ◌≤◌, ◌++◌, ◌∙◌, List, ℕ, take, drop, sym, ap, subst, length, arith, append_assoc, append-nil}
use Rattle.std.proofs.lemmas.List.{take-append-drop, length-append, length-take-le}
use Rattle.gms_tuple.specs.InnerTrees.{listed, IsFork}
use Rattle.gms_tuple.proofs.Forks.{length-block}
use Rattle.gms_tuple.proofs.Steps.{no_value, most_within, later_within, later_fewer, earlier_fewer, most_rest, earlier_rest, less_most, built, half_within}
use Rattle.gms_tuple.proofs.tree.Tree.+build.Goals as goal

-- a list from which the last part, then a block before it, then the part before that are taken
parted : (all first before rest left own right : List (List ℕ)) (n : ℕ) → all ≡ first ++ right → before ≡ take n first → own ≡ drop n first → before ≡ rest ++ left → all ≡ rest ++ (left ++ (own ++ right))
parted all first before rest left own right n whole beginning back again =
    whole ∙ ap (λ xs. xs ++ right) (sym (take-append-drop n first) ∙ ap (λ xs. xs ++ drop n first) (sym beginning ∙ again) ∙ ap (λ xs. (rest ++ left) ++ xs) (sym back))
    ∙ append_assoc (rest ++ left) own right ∙ append_assoc rest left (own ++ right)

pub returns : goal.returns
returns t c =
    let tree : c.of.result ≡ c.in_ok-left.left ++ (c.in_ok-own.own.items ++ c.in_ok-right.right) = c.of.ensures ∙ ap listed c.in_ok-new.ensures.ok in
    let parts = parted c.args.tuples.now.items c.build.new.tuples.items c.split_off.new.self.items c.build-2.new.tuples.items c.in_ok-left.left c.in_ok-own.own.items c.in_ok-right.right _ c.in_ok-right.ensures.0 c.in_ok-own.ensures.items c.in_ok-own.ensures.tail c.in_ok-left.ensures.0 in (
      parts ∙ ap (λ xs. c.build-2.new.tuples.items ++ xs) (sym tree),
      omega (arith, ap length tree, length-block c.in_ok-left.left c.in_ok-own.own.items c.in_ok-right.right, c.in_ok-left.ensures.1, c.in_ok-right.ensures.1, c.in_ok-own.ensures.tail_len, c.in_ok-own.own.ok, c.min-most.ensures, c.len.ensures, ap length c.in_ok-right.ensures.0, length-append c.build.new.tuples.items c.in_ok-right.right, c.build.new.tuples.ok),
    )

pub returns-then-size-eq0 : goal.returns-then-size-eq0
returns-then-size-eq0 t c = (sym (append-nil c.args.tuples.now.items) ∙ ap (λ xs. c.args.tuples.now.items ++ xs) (sym c.new.ensures), ap length c.new.ensures ∙ sym c.if-size-eq0.true)

pub overflow_sub-before : goal.overflow_sub-before
overflow_sub-before t c = most_within c.args.size c.min-most.result c.min-most.ensures

pub overflow_sub-size : goal.overflow_sub-size
overflow_sub-size t c = most_within c.args.size c.min-most.result c.min-most.ensures

pub overflow_sub-size-2 : goal.overflow_sub-size-2
overflow_sub-size-2 t c = half_within (c.args.size - c.min-most.result)

pub build-requires : goal.build-requires
build-requires t c =
    (later_fewer c.args.size c.min-most.result c.min-most.ensures t c.if-size-eq0.false c.decreases, later_within c.args.size c.min-most.result c.min-most.ensures (length c.args.tuples.now.items) c.requires)

pub returns-in_err-right : goal.returns-in_err-right
returns-in_err-right t c = no_value c.from_residual.result _ c.from_residual.ensures.0

pub overflow_sub-len : goal.overflow_sub-len
overflow_sub-len t c =
    let rest = c.build.new.tuples in
    most_rest c.args.size c.min-most.result c.min-most.ensures (length c.args.tuples.now.items) (length rest.items) (length c.in_ok-right.right) c.len.result c.requires (ap length c.in_ok-right.ensures.0 ∙ length-append rest.items c.in_ok-right.right) c.in_ok-right.ensures.1 (c.len.ensures ∙ rest.ok.0)

pub split_off-requires : goal.split_off-requires
split_off-requires t c =
    let rest = c.build.new.tuples in
    subst (λ n. c.len.result - c.min-most.result ≤ n) (sym rest.ok.0) (less_most c.args.size c.min-most.result c.min-most.ensures (length c.args.tuples.now.items) (length rest.items) (length c.in_ok-right.right) c.len.result c.requires (ap length c.in_ok-right.ensures.0 ∙ length-append rest.items c.in_ok-right.right) c.in_ok-right.ensures.1 (c.len.ensures ∙ rest.ok.0))

pub returns-in_err-own : goal.returns-in_err-own
returns-in_err-own t c = no_value c.from_residual-in_err-own.result _ c.from_residual-in_err-own.ensures.0

pub build-requires-2 : goal.build-requires-2
build-requires-2 t c =
    let rest = c.build.new.tuples in
    let whole = ap length c.in_ok-right.ensures.0 ∙ length-append rest.items c.in_ok-right.right in
    let less = less_most c.args.size c.min-most.result c.min-most.ensures (length c.args.tuples.now.items) (length rest.items) (length c.in_ok-right.right) c.len.result c.requires whole c.in_ok-right.ensures.1 (c.len.ensures ∙ rest.ok.0) in
    let first = ap length c.in_ok-own.ensures.items ∙ length-take-le (c.len.result - c.min-most.result) rest.items less in (
      earlier_fewer c.args.size c.min-most.result c.min-most.ensures t c.if-size-eq0.false c.decreases,
      earlier_rest c.args.size c.min-most.result c.min-most.ensures (length c.args.tuples.now.items) (length rest.items) (length c.in_ok-right.right) c.len.result c.requires whole c.in_ok-right.ensures.1 (c.len.ensures ∙ rest.ok.0) (length c.split_off.new.self.items) first,
    )

pub returns-in_err-left : goal.returns-in_err-left
returns-in_err-left t c = no_value c.from_residual-in_err-left.result _ c.from_residual-in_err-left.ensures.0

pub returns-in_err-new : goal.returns-in_err-new
returns-in_err-new t c = no_value c.from_residual-in_err-new.result _ c.from_residual-in_err-new.ensures.0

pub of-requires : goal.of-requires
of-requires t c =
    let rest = c.build.new.tuples in
    let whole = ap length c.in_ok-right.ensures.0 ∙ length-append rest.items c.in_ok-right.right in
    let parts = built c.args.size c.min-most.result c.min-most.ensures (length c.args.tuples.now.items) (length rest.items) (length c.in_ok-right.right) c.len.result c.requires whole c.in_ok-right.ensures.1 (c.len.ensures ∙ rest.ok.0) (length c.in_ok-left.left) (length c.in_ok-own.own.items) _ _ c.if-size-eq0.false c.in_ok-left.ensures.1 c.in_ok-own.ensures.tail_len rest.ok.0 c.in_ok-own.own.ok.0 in
    subst IsFork (sym c.in_ok-new.ensures.ok) (parts.0 ∙ sym (length-block c.in_ok-left.left c.in_ok-own.own.items c.in_ok-right.right), parts.1)
