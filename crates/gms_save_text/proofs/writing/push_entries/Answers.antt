use Rattle.std.proofs.Common.{◌≡◌, ◌<◌, ◌∙◌, ◌++◌, List, ℕ, [], length, take, get_or, flat_map, sym, ap, ap₂, subst, append_assoc}
use Rattle.std.proofs.lemmas.Option.{get_or_from_slice_get}
use Rattle.gms_store.specs.State.{Symbol, symbol_at, given_in}
use Rattle.gms_save_text.specs.SavedState.{entry_line}
use Rattle.gms_save_text.proofs.Pieces.{pieces_more}
use Rattle.gms_save_text.proofs.Sorts.{not_alias, own_symbol}
use Rattle.gms_save_text.proofs.writing.push_entries.Goals as goal

pub loop-place-preserved : goal.loop-place-preserved
loop-place-preserved g c =
    let store = c.args.store.now in
    let content = (symbol_at store c.args.name).content in
    let tuples = given_in content in
    let k = c.loop-place.place in
    let given : c.given-given.result.now ≡ tuples = c.given-given.ensures.value ∙ ap (λ (s : Symbol). given_in s.content) (own_symbol store c.args.name (not_alias content c.args.kind c.requires)) in
    let within : k < length tuples = subst (λ n. k < n) (c.len-place-end.ensures.len ∙ ap length given) c.loop-place-test.true in
    let got : c.get.result.now ≡ get_or tuples k [] = sym (get_or_from_slice_get _ k _ [] c.get.ensures) ∙ ap (λ (ts : List (List ℕ)). get_or ts k []) given in
    c.in_ok-push_entry.ensures
    ∙ ap₂ (λ (i t : List ℕ). i ++ entry_line content t) c.loop-place.invariant got
    ∙ append_assoc c.args.into.now.items (flat_map (entry_line content) (take k tuples)) (entry_line content (get_or tuples k []))
    ∙ ap (λ l. c.args.into.now.items ++ l) (sym (pieces_more (entry_line content) tuples k [] within))
