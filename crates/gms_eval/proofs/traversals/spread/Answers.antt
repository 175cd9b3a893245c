use Rattle.std.proofs.Common.{◌≡◌, ◌∙◌, ap, sym, ℕ, ◌+◌, ◌++◌, ◌||◌, ◌&&◌, List, [], ◌∷◌, map, take, get_or, arith}
use Rattle.std.proofs.lemmas.List.{map_more, take_all}
use Rattle.gms_tuple.specs.TupleSet.{has}
use Rattle.gms_eval.specs.Domain.{elements}
use Rattle.gms_eval.specs.InnerLeading.{picked}
use Rattle.gms_eval.proofs.Gathering.{gathered-none, gathered-in, gathered-out}
use Rattle.gms_eval.proofs.traversals.spread.Goals as goal

pub loop-number-init : goal.loop-number-init
loop-number-init g c = (c.requires.ordered, λ t. gathered-none c.args.found (elements c.args.store.now c.args.sets.now) t)

pub loop-number-preserved-then-not-branch : goal.loop-number-preserved-then-not-branch
loop-number-preserved-then-not-branch g c =
    let all : List (List ℕ) = elements c.args.store.now c.args.traversal.now.free.items in
    let old : List (List ℕ) = map (λ rest. picked c.args.traversal.now.places.items (c.args.tuple.now ++ rest)) (take c.loop-number.number all) in
    let next : map (λ rest. picked c.args.traversal.now.places.items (c.args.tuple.now ++ rest)) (take (c.loop-number.number + 1) all) ≡ old ++ c.in_ok-element.element ∷ [] = map_more (λ rest. picked c.args.traversal.now.places.items (c.args.tuple.now ++ rest)) all c.loop-number.number [] (omega (arith, c.loop-number-test.true, c.requires.counted)) ∙ ap (λ x. old ++ x ∷ []) (sym (c.in_ok-element.ensures ∙ ap (λ places. picked places (c.args.tuple.now ++ c.in_ok-rest.rest)) c.as_slice-in-loop-number.ensures.value ∙ ap (λ rest. picked c.args.traversal.now.places.items (c.args.tuple.now ++ rest)) (c.in_ok-rest.ensures ∙ ap (λ free. get_or (elements c.args.store.now free) c.loop-number.number []) c.as_slice.ensures.value))) in
    (c.loop-number.invariant.0, λ t. gathered-out old c.in_ok-element.element (elements c.args.store.now c.args.sets.now) c.args.found c.loop-number.more (sym c.if-not-branch.true ∙ c.in_ok-is_element.ensures) c.loop-number.invariant.1 t ∙ ap (λ xs. has c.args.found t || (has xs t && has (elements c.args.store.now c.args.sets.now) t)) (sym next))

pub loop-number-preserved : goal.loop-number-preserved
loop-number-preserved g c =
    let all : List (List ℕ) = elements c.args.store.now c.args.traversal.now.free.items in
    let old : List (List ℕ) = map (λ rest. picked c.args.traversal.now.places.items (c.args.tuple.now ++ rest)) (take c.loop-number.number all) in
    let next : map (λ rest. picked c.args.traversal.now.places.items (c.args.tuple.now ++ rest)) (take (c.loop-number.number + 1) all) ≡ old ++ c.in_ok-element.element ∷ [] = map_more (λ rest. picked c.args.traversal.now.places.items (c.args.tuple.now ++ rest)) all c.loop-number.number [] (omega (arith, c.loop-number-test.true, c.requires.counted)) ∙ ap (λ x. old ++ x ∷ []) (sym (c.in_ok-element.ensures ∙ ap (λ places. picked places (c.args.tuple.now ++ c.in_ok-rest.rest)) c.as_slice-in-loop-number.ensures.value ∙ ap (λ rest. picked c.args.traversal.now.places.items (c.args.tuple.now ++ rest)) (c.in_ok-rest.ensures ∙ ap (λ free. get_or (elements c.args.store.now free) c.loop-number.number []) c.as_slice.ensures.value))) in
    (c.in_ok-insert.ensures.ordered, λ t. gathered-in old c.in_ok-element.element (elements c.args.store.now c.args.sets.now) c.args.found c.loop-number.more c.insert.new.self (sym c.if-not-branch.false ∙ c.in_ok-is_element.ensures) c.loop-number.invariant.1 c.in_ok-insert.ensures.members t ∙ ap (λ xs. has c.args.found t || (has xs t && has (elements c.args.store.now c.args.sets.now) t)) (sym next))

pub returns-clause-members : goal.returns-clause-members
returns-clause-members g c t =
    c.loop-number.invariant.1 t
    ∙ ap (λ xs. has c.args.found t || (has (map (λ rest. picked c.args.traversal.now.places.items (c.args.tuple.now ++ rest)) xs) t && has (elements c.args.store.now c.args.sets.now) t)) (take_all c.loop-number.number (elements c.args.store.now c.args.traversal.now.free.items) (omega (arith, c.loop-number-test.false, c.requires.counted)))
