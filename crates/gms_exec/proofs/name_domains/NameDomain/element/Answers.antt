use Rattle.std.proofs.Common.{◌≡◌, ◌∙◌, ap, sym, refl, ℕ, ◌+◌, ◌/◌, ◌%◌, List, [], ◌∷◌, ◌++◌, None, map, length, drop, get_or, arith}
use Rattle.std.proofs.lemmas.List.{length_push}
use Rattle.gms_tuple.specs.Products.{tuple_product}
use Rattle.gms_eval.proofs.Sizes.{turn, made-start, made-more, made-as, made-end}
use Rattle.gms_exec.specs.Showing.{labels_at}
use Rattle.gms_exec.proofs.Positions.{made-here, made-last, elements-few, few-elements}
use Rattle.gms_exec.proofs.name_domains.NameDomain.element.Goals as goal

pub loop-position-init : goal.loop-position-init
loop-position-init g c =
    (made-start (map (labels_at c.args.self.now.labels c.args.self.now.store.now) c.args.self.now.positions.now) c.args.number c.new-element.result c.args.size c.new-element.ensures (c.requires.size ∙ ap length (elements-few c.args.self.now.labels c.args.self.now.store.now c.args.self.now.positions.now (few-elements c.args.self.now.labels c.args.self.now.store.now c.args.self.now.positions.now c.args.number c.args.size c.requires.size c.requires.below))) c.requires.below, ap length c.new-element.ensures)

pub nonzero_div-size : goal.nonzero_div-size
nonzero_div-size g c =
    let t = turn (made-here (labels_at c.args.self.now.labels c.args.self.now.store.now) c.args.self.now.positions.now c.loop-position.position-index None (get_or c.args.self.now.positions.now c.loop-position.position-index None) c.args.number c.loop-position.element c.loop-position.size c.loop-position.number c.loop-position-test.true refl c.loop-position.invariant.0) in
    omega (arith, c.count_at-labels.ensures, t.some_labels)

pub nonzero_div-number : goal.nonzero_div-number
nonzero_div-number g c =
    let t = turn (made-here (labels_at c.args.self.now.labels c.args.self.now.store.now) c.args.self.now.positions.now c.loop-position.position-index None (get_or c.args.self.now.positions.now c.loop-position.position-index None) c.args.number c.loop-position.element c.loop-position.size c.loop-position.number c.loop-position-test.true refl c.loop-position.invariant.0) in
    omega (arith, ap (λ k. c.loop-position.size / k) c.count_at-labels.ensures ∙ t.quotient, t.some_rest)

pub nonzero_rem-number : goal.nonzero_rem-number
nonzero_rem-number g c =
    let t = turn (made-here (labels_at c.args.self.now.labels c.args.self.now.store.now) c.args.self.now.positions.now c.loop-position.position-index None (get_or c.args.self.now.positions.now c.loop-position.position-index None) c.args.number c.loop-position.element c.loop-position.size c.loop-position.number c.loop-position-test.true refl c.loop-position.invariant.0) in
    omega (arith, ap (λ k. c.loop-position.size / k) c.count_at-labels.ensures ∙ t.quotient, t.some_rest)

pub label_at-label-requires : goal.label_at-label-requires
label_at-label-requires g c =
    let t = turn (made-here (labels_at c.args.self.now.labels c.args.self.now.store.now) c.args.self.now.positions.now c.loop-position.position-index None (get_or c.args.self.now.positions.now c.loop-position.position-index None) c.args.number c.loop-position.element c.loop-position.size c.loop-position.number c.loop-position-test.true refl c.loop-position.invariant.0) in
    omega (arith, ap (λ k. c.loop-position.number / k) (ap (λ k. c.loop-position.size / k) c.count_at-labels.ensures ∙ t.quotient), t.label_below)

pub push-requires : goal.push-requires
push-requires g c =
    omega (arith, few-elements c.args.self.now.labels c.args.self.now.store.now c.args.self.now.positions.now c.args.number c.args.size c.requires.size c.requires.below, c.loop-position.invariant.1, c.loop-position-test.true)

pub loop-position-preserved : goal.loop-position-preserved
loop-position-preserved g c =
    let here : List ℕ = labels_at c.args.self.now.labels c.args.self.now.store.now (get_or c.args.self.now.positions.now c.loop-position.position-index None) in
    let size : ℕ = c.loop-position.size / c.count_at-labels.result in
    let rest : ℕ = length (tuple_product (map (labels_at c.args.self.now.labels c.args.self.now.store.now) (drop (c.loop-position.position-index + 1) c.args.self.now.positions.now))) in
    let m = made-here (labels_at c.args.self.now.labels c.args.self.now.store.now) c.args.self.now.positions.now c.loop-position.position-index None (get_or c.args.self.now.positions.now c.loop-position.position-index None) c.args.number c.loop-position.element c.loop-position.size c.loop-position.number c.loop-position-test.true refl c.loop-position.invariant.0 in
    let is : size ≡ rest = ap (λ k. c.loop-position.size / k) c.count_at-labels.ensures ∙ (turn m).quotient in
    let label : c.label_at-label.result ≡ get_or here (c.loop-position.number / rest) 0 = c.label_at-label.ensures ∙ ap (λ k. get_or here (c.loop-position.number / k) 0) is in
    (made-as c.push.new.self size (c.loop-position.number % size) (made-more _ _ _ _ _ _ _ m) (c.in_ok-push.ensures.ok ∙ ap (λ l. c.loop-position.element ++ l ∷ []) label) is (ap (λ k. c.loop-position.number % k) is), ap length c.in_ok-push.ensures.ok ∙ length_push c.loop-position.element c.label_at-label.result ∙ ap (λ k. k + 1) c.loop-position.invariant.1)

pub returns : goal.returns
returns g c =
    made-end (made-last (labels_at c.args.self.now.labels c.args.self.now.store.now) c.args.self.now.positions.now c.loop-position.position-index c.args.number c.loop-position.element c.loop-position.size c.loop-position.number c.loop-position-test.false c.loop-position.invariant.0)
    ∙ ap (λ those. get_or those c.args.number []) (sym (elements-few c.args.self.now.labels c.args.self.now.store.now c.args.self.now.positions.now (few-elements c.args.self.now.labels c.args.self.now.store.now c.args.self.now.positions.now c.args.number c.args.size c.requires.size c.requires.below)))
