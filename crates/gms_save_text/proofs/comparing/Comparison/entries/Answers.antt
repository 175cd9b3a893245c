use Rattle.std.proofs.Common.{◌≡◌, ◌<◌, ◌≤◌, ◌+◌, ◌∙◌, ◌++◌, List, ℕ, [], length, take, get_or, flat_map, sym, ap, subst}
use Rattle.std.proofs.lemmas.List.{take_all}
use Rattle.std.proofs.lemmas.Option.{get_or_from_slice_get}
use Rattle.gms_store.specs.State.{Symbol, symbol_at, given_in}
use Rattle.gms_save_text.specs.SavedState.{entry_line}
use Rattle.gms_save_text.proofs.Past.{past_as, past_both, past_nothing}
use Rattle.gms_save_text.proofs.Pieces.{pieces_more}
use Rattle.gms_save_text.proofs.Sorts.{not_alias, own_symbol}
use Rattle.gms_save_text.proofs.comparing.Comparison.entries.Goals as goal

pub loop-place-init : goal.loop-place-init
loop-place-init g c = past_nothing c.args.self.now.left

pub loop-place-preserved : goal.loop-place-preserved
loop-place-preserved g c =
    let store = c.args.store.now in
    let content = (symbol_at store c.args.name).content in
    let tuples = given_in content in
    let k = c.loop-place.place in
    let given : c.given-given.result.now ≡ tuples = c.given-given.ensures.value ∙ ap (λ (s : Symbol). given_in s.content) (own_symbol store c.args.name (not_alias content c.args.kind c.requires)) in
    let within : k < length tuples = subst (λ n. k < n) (c.len-place-end.ensures.len ∙ ap length given) c.loop-place-test.true in
    let got : c.get.result.now ≡ get_or tuples k [] = sym (get_or_from_slice_get _ k _ [] c.get.ensures) ∙ ap (λ (ts : List (List ℕ)). get_or ts k []) given in
    let prefix = flat_map (entry_line content) (take k tuples) in
    let more = ap (λ (t : List ℕ). prefix ++ entry_line content t) got ∙ sym (pieces_more (entry_line content) tuples k [] within) in
    past_as (prefix ++ entry_line content c.get.result.now) (flat_map (entry_line content) (take (k + 1) tuples)) c.args.self.now.left c.entry.new.self.left more (past_both prefix (entry_line content c.get.result.now) c.args.self.now.left c.loop-place.self.left c.entry.new.self.left c.loop-place.invariant c.in_ok-entry.ensures)

pub returns : goal.returns
returns g c =
    let store = c.args.store.now in
    let content = (symbol_at store c.args.name).content in
    let tuples = given_in content in
    let k = c.loop-place.place in
    let given : c.given-given.result.now ≡ tuples = c.given-given.ensures.value ∙ ap (λ (s : Symbol). given_in s.content) (own_symbol store c.args.name (not_alias content c.args.kind c.requires)) in
    let following : length tuples ≤ k = subst (λ n. n ≤ k) (c.len-place-end.ensures.len ∙ ap length given) c.loop-place-test.false in
    past_as (flat_map (entry_line content) (take k tuples)) (flat_map (entry_line content) tuples) c.args.self.now.left c.loop-place.self.left (ap (flat_map (entry_line content)) (take_all k tuples following)) c.loop-place.invariant
