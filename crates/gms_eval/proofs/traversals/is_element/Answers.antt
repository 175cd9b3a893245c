use Rattle.std.proofs.Common.{◌∙◌, ap, sym, ℕ, ◌+◌, ◌&&◌, [], ◌∷◌, length, get_or, arith}
use Rattle.std.proofs.lemmas.List.Elements.{All-get_or}
use Rattle.gms_tuple.specs.TupleSet.{has}
use Rattle.gms_store.specs.State.{members_of}
use Rattle.gms_eval.specs.Domain.{IsSimple}
use Rattle.gms_eval.proofs.Simple.{no-element, rest_in, rest-start, rest-more}
use Rattle.gms_eval.proofs.traversals.is_element.Goals as goal

pub returns-then-labels-sets : goal.returns-then-labels-sets
returns-then-labels-sets g c =
    sym (no-element c.args.store.now c.args.sets.now c.args.tuple.now (λ same. c.if-labels-sets.true (ap length c.as_slice-labels.ensures.value ∙ same)))

pub loop-place-init : goal.loop-place-init
loop-place-init g c =
    let same = ap length c.as_slice-labels.ensures.value in
    rest-start c.args.store.now c.args.sets.now c.args.tuple.now (sym same ∙ c.if-labels-sets.false) (omega (arith, same, c.as_slice-labels.ensures.most))

pub returns-then-not-branch : goal.returns-then-not-branch
returns-then-not-branch g c =
    let set : ℕ = get_or c.args.sets.now c.loop-place.place 0 in
    let same = ap length c.as_slice-labels.ensures.value in
    sym (c.loop-place.invariant ∙ rest-more c.args.store.now c.args.sets.now c.args.tuple.now c.loop-place.place c.in_ok-has_label.field-0 c.loop-place-test.true (omega (arith, same, c.if-labels-sets.false, c.loop-place-test.true)) (All-get_or (IsSimple c.args.store.now) c.args.sets.now c.loop-place.place 0 c.loop-place-test.true c.requires) (c.in_ok-has_label.ensures ∙ ap (λ members. has members (get_or c.as_slice-labels.result.now c.loop-place.place 0 ∷ [])) c.members.ensures.value ∙ ap (λ labels. has (members_of c.args.store.now set) (get_or labels c.loop-place.place 0 ∷ [])) c.as_slice-labels.ensures.value) ∙ ap (λ b. b && rest_in c.args.store.now c.args.sets.now c.args.tuple.now (c.loop-place.place + 1)) c.if-not-branch.true)

pub loop-place-preserved : goal.loop-place-preserved
loop-place-preserved g c =
    let set : ℕ = get_or c.args.sets.now c.loop-place.place 0 in
    let same = ap length c.as_slice-labels.ensures.value in
    c.loop-place.invariant
    ∙ rest-more c.args.store.now c.args.sets.now c.args.tuple.now c.loop-place.place c.in_ok-has_label.field-0 c.loop-place-test.true (omega (arith, same, c.if-labels-sets.false, c.loop-place-test.true)) (All-get_or (IsSimple c.args.store.now) c.args.sets.now c.loop-place.place 0 c.loop-place-test.true c.requires) (c.in_ok-has_label.ensures ∙ ap (λ members. has members (get_or c.as_slice-labels.result.now c.loop-place.place 0 ∷ [])) c.members.ensures.value ∙ ap (λ labels. has (members_of c.args.store.now set) (get_or labels c.loop-place.place 0 ∷ [])) c.as_slice-labels.ensures.value)
    ∙ ap (λ b. b && rest_in c.args.store.now c.args.sets.now c.args.tuple.now (c.loop-place.place + 1)) c.if-not-branch.false
