use Rattle.std.proofs.Common.{◌∙◌, ◌++◌, List, ℕ, take, sym, ap, append_assoc}
use Rattle.gms_store.specs.State.{symbol_at}
use Rattle.gms_save_text.specs.SavedState.{part, parts_from}
use Rattle.gms_save_text.proofs.Pieces.{parts_more}
use Rattle.gms_save_text.proofs.writing.push_parts.Goals as goal

pub loop-number-preserved : goal.loop-number-preserved
loop-number-preserved g c =
    let store = c.args.store.now in
    let names = c.args.names.now in
    let k = c.loop-number.number in
    let last = part c.text.result.now (symbol_at store k).content in
    c.in_ok-push_part.ensures
    ∙ ap (λ (i : List ℕ). i ++ last) c.loop-number.invariant
    ∙ append_assoc c.args.into.now.items (parts_from store 0 (take k names)) last
    ∙ ap (λ (l : List ℕ). c.args.into.now.items ++ l) (sym (parts_more store names k c.text.result.now c.text.ensures.value))
