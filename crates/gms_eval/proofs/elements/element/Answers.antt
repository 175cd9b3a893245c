use Rattle.std.proofs.Common.{◌≡◌, ◌∙◌, ap, sym, ℕ, ◌+◌, ◌/◌, ◌%◌, List, [], ◌∷◌, ◌++◌, map, length, drop, get_or, arith}
use Rattle.std.proofs.lemmas.List.{length_push}
use Rattle.gms_tuple.specs.Products.{tuple_product}
use Rattle.gms_eval.specs.Domain.{labels_of}
use Rattle.gms_eval.specs.Lag.{label_of_element}
use Rattle.gms_eval.proofs.Sizes.{turn, made-start, made-more, made-as, made-here, made-last, made-end, elements-few, few-elements, length-labels}
use Rattle.gms_eval.proofs.elements.element.Goals as goal

pub loop-set-init : goal.loop-set-init
loop-set-init g c =
    let few = few-elements c.args.store.now c.args.sets.now c.args.number c.args.size c.requires.size c.requires.below in
    (made-start (map (labels_of c.args.store.now) c.args.sets.now) c.args.number c.new-element.result c.args.size c.new-element.ensures (c.requires.size ∙ ap length (elements-few c.args.store.now c.args.sets.now few)) c.requires.below, ap length c.new-element.ensures)

pub nonzero_div-size : goal.nonzero_div-size
nonzero_div-size g c =
    let set : ℕ = get_or c.args.sets.now c.loop-set.set-index 0 in
    let n = length-labels c.args.store.now set c.len-size.result c.members-members.result.now c.len-size.ensures.len c.members-members.ensures.value in
    let t = turn (made-here (labels_of c.args.store.now) c.args.sets.now c.loop-set.set-index c.args.number c.loop-set.element c.loop-set.size c.loop-set.number c.loop-set-test.true c.loop-set.invariant.0) in
    omega (arith, n, t.some_labels)

pub nonzero_div-number : goal.nonzero_div-number
nonzero_div-number g c =
    let set : ℕ = get_or c.args.sets.now c.loop-set.set-index 0 in
    let n = length-labels c.args.store.now set c.len-size.result c.members-members.result.now c.len-size.ensures.len c.members-members.ensures.value in
    let t = turn (made-here (labels_of c.args.store.now) c.args.sets.now c.loop-set.set-index c.args.number c.loop-set.element c.loop-set.size c.loop-set.number c.loop-set-test.true c.loop-set.invariant.0) in
    omega (arith, ap (λ k. c.loop-set.size / k) n ∙ t.quotient, t.some_rest)

pub nonzero_rem-number : goal.nonzero_rem-number
nonzero_rem-number g c =
    let set : ℕ = get_or c.args.sets.now c.loop-set.set-index 0 in
    let n = length-labels c.args.store.now set c.len-size.result c.members-members.result.now c.len-size.ensures.len c.members-members.ensures.value in
    let t = turn (made-here (labels_of c.args.store.now) c.args.sets.now c.loop-set.set-index c.args.number c.loop-set.element c.loop-set.size c.loop-set.number c.loop-set-test.true c.loop-set.invariant.0) in
    omega (arith, ap (λ k. c.loop-set.size / k) n ∙ t.quotient, t.some_rest)

pub label_at-requires : goal.label_at-requires
label_at-requires g c =
    let set : ℕ = get_or c.args.sets.now c.loop-set.set-index 0 in
    let n = length-labels c.args.store.now set c.len-size.result c.members-members.result.now c.len-size.ensures.len c.members-members.ensures.value in
    let t = turn (made-here (labels_of c.args.store.now) c.args.sets.now c.loop-set.set-index c.args.number c.loop-set.element c.loop-set.size c.loop-set.number c.loop-set-test.true c.loop-set.invariant.0) in
    omega (arith, ap (λ k. c.loop-set.number / k) (ap (λ k. c.loop-set.size / k) n ∙ t.quotient), t.label_below, n, c.len-size.ensures.len)

pub push-requires : goal.push-requires
push-requires g c =
    omega (arith, few-elements c.args.store.now c.args.sets.now c.args.number c.args.size c.requires.size c.requires.below, c.loop-set.invariant.1, c.loop-set-test.true)

pub loop-set-preserved : goal.loop-set-preserved
loop-set-preserved g c =
    let labels : ℕ → List ℕ = labels_of c.args.store.now in
    let set : ℕ = get_or c.args.sets.now c.loop-set.set-index 0 in
    let size : ℕ = c.loop-set.size / c.len-size.result in
    let rest : ℕ = length (tuple_product (map labels (drop (c.loop-set.set-index + 1) c.args.sets.now))) in
    let n = length-labels c.args.store.now set c.len-size.result c.members-members.result.now c.len-size.ensures.len c.members-members.ensures.value in
    let m = made-here labels c.args.sets.now c.loop-set.set-index c.args.number c.loop-set.element c.loop-set.size c.loop-set.number c.loop-set-test.true c.loop-set.invariant.0 in
    let is : size ≡ rest = ap (λ k. c.loop-set.size / k) n ∙ (turn m).quotient in
    let label : c.label_at.result ≡ get_or (labels set) (c.loop-set.number / rest) 0 = c.label_at.ensures ∙ ap (λ members. get_or (map label_of_element members) (c.loop-set.number / size) 0) c.members-members.ensures.value ∙ ap (λ k. get_or (labels set) (c.loop-set.number / k) 0) is in
    (made-as c.push.new.self size (c.loop-set.number % size) (made-more _ _ _ _ _ _ _ m) (c.in_ok-push.ensures.ok ∙ ap (λ l. c.loop-set.element ++ l ∷ []) label) is (ap (λ k. c.loop-set.number % k) is), ap length c.in_ok-push.ensures.ok ∙ length_push c.loop-set.element c.label_at.result ∙ ap (λ k. k + 1) c.loop-set.invariant.1)

pub returns : goal.returns
returns g c =
    let few = few-elements c.args.store.now c.args.sets.now c.args.number c.args.size c.requires.size c.requires.below in
    made-end (made-last (labels_of c.args.store.now) c.args.sets.now c.loop-set.set-index c.args.number c.loop-set.element c.loop-set.size c.loop-set.number c.loop-set-test.false c.loop-set.invariant.0)
    ∙ ap (λ those. get_or those c.args.number []) (sym (elements-few c.args.store.now c.args.sets.now few))
