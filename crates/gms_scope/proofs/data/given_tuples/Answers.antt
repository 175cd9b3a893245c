use Rattle.std.proofs.Common.{◌≡◌, ◌<◌, ◌∙◌, ◌++◌, ◌∷◌, [], sym, ap, subst, List, ℕ, length, get_or, take}
use Rattle.std.proofs.lemmas.List.{take_more}
use Rattle.std.proofs.lemmas.Option.{get_or_from_slice_get}
use Rattle.gms_store.specs.State.{given_of}
use Rattle.gms_scope.proofs.data.given_tuples.Goals as goal

pub loop-place-preserved : goal.loop-place-preserved
loop-place-preserved g c =
    let given = given_of c.args.store.now c.args.name in
    let count : c.len-place-end.result ≡ length given = c.len-place-end.ensures.len ∙ ap length c.given-given.ensures.value in
    let less : c.loop-place.place < length given = subst (λ n. c.loop-place.place < n) count c.loop-place-test.true in
    let got : get_or given c.loop-place.place [] ≡ c.in_ok-tuple.tuple = ap (λ (ts : List (List ℕ)). get_or ts c.loop-place.place []) (sym c.given-given.ensures.value) ∙ get_or_from_slice_get _ c.loop-place.place _ [] c.get.ensures ∙ sym c.in_ok-tuple.ensures in
    c.in_ok-push.ensures.items ∙ ap (λ (ts : List (List ℕ)). ts ++ c.in_ok-tuple.tuple ∷ []) c.loop-place.invariant ∙ ap (λ t. take c.loop-place.place given ++ t ∷ []) (sym got) ∙ sym (take_more given c.loop-place.place [] less)
