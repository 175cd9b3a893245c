use Rattle.std.proofs.Common.{◌≤◌, ◌+◌, ◌++◌, length, take, sym, ap, subst}
use Rattle.std.proofs.lemmas.List.{take_all}
use Rattle.gms_store.specs.State.{symbol_at}
use Rattle.gms_save_text.specs.SavedState.{part, parts_from}
use Rattle.gms_save_text.proofs.Past.{past_as, past_both, past_nothing}
use Rattle.gms_save_text.proofs.Pieces.{parts_more}
use Rattle.gms_save_text.proofs.comparing.Comparison.parts.Goals as goal

pub loop-number-init : goal.loop-number-init
loop-number-init g c = past_nothing c.args.self.now.left

pub loop-number-preserved : goal.loop-number-preserved
loop-number-preserved g c =
    let store = c.args.store.now in
    let names = c.args.names.now in
    let k = c.loop-number.number in
    let last = part c.text.result.now (symbol_at store k).content in
    let prefix = parts_from store 0 (take k names) in
    past_as (prefix ++ last) (parts_from store 0 (take (k + 1) names)) c.args.self.now.left c.part.new.self.left (sym (parts_more store names k c.text.result.now c.text.ensures.value)) (past_both prefix last c.args.self.now.left c.loop-number.self.left c.part.new.self.left c.loop-number.invariant c.in_ok-part.ensures)

pub returns : goal.returns
returns g c =
    let store = c.args.store.now in
    let names = c.args.names.now in
    let k = c.loop-number.number in
    let following : length names ≤ k = subst (λ n. n ≤ k) c.len-number-end.ensures.len c.loop-number-test.false in
    past_as (parts_from store 0 (take k names)) (parts_from store 0 names) c.args.self.now.left c.loop-number.self.left (ap (parts_from store 0) (take_all k names following)) c.loop-number.invariant
