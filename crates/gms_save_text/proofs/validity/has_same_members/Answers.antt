use Rattle.std.proofs.Common.{◌≡◌, ◌<◌, ◌∙◌, Bool, true, false, not, List, ℕ, length, slice_get, Some, sym, ap, arith}
use Rattle.gms_tuple.specs.TupleOrder.{same_tuple}
use Rattle.gms_tuple.proofs.Ordered.{same_tuple-Decides}
use Rattle.gms_store.specs.State.{members_of}
use Rattle.gms_save_text.proofs.Sames.{take_same}
use Rattle.gms_save_text.proofs.validity.has_same_members.Goals as goal

-- what is not different is the same
not_other : (b : Bool) → false ≡ not b → b ≡ true
not_other true e = cc
not_other false e = absurd cc

pub loop-place-preserved : goal.loop-place-preserved
loop-place-preserved g c =
    let xs = members_of c.args.store.now c.args.set in
    let ys = members_of c.args.other.now c.args.set in
    let k = c.loop-place.place in
    let first = ap length c.members-members.ensures.value in
    let second = ap length c.members-others.ensures.value in
    let one = c.len.ensures.len in
    let two = c.len-2.ensures.len in
    let differ = c.if-len.false in
    let end = c.len-place-end.ensures.len in
    let test = c.loop-place-test.true in
    let count : length xs ≡ length ys = omega (arith, first, second, one, two, differ) in
    let within : k < length xs = omega (arith, first, end, test) in
    let there : slice_get xs k ≡ Some c.get.result.now = ap (λ (l : List (List ℕ)). slice_get l k) (sym c.members-members.ensures.value) ∙ c.get.ensures in
    let here : slice_get ys k ≡ Some c.get-in-loop-place.result.now = ap (λ (l : List (List ℕ)). slice_get l k) (sym c.members-others.ensures.value) ∙ c.get-in-loop-place.ensures in
    let same = (same_tuple-Decides c.get.result.now c.get-in-loop-place.result.now).0 (not_other (same_tuple c.get.result.now c.get-in-loop-place.result.now) c.if-ne.ensures) in
    take_same xs ys k c.get.result.now c.get-in-loop-place.result.now within count there here same c.loop-place.invariant
