use Rattle.std.proofs.Common.{◌∙◌, ◌++◌, ℕ, codes, decimal, ap}
use Rattle.gms_save_text.specs.SavedState.{switch_text}
use Rattle.gms_save_text.proofs.Finding.{on_success}
use Rattle.gms_save_text.proofs.Pieces.{further, settings_pieces}
use Rattle.gms_save_text.proofs.writing.push_settings.Goals as goal

pub returns : goal.returns
returns c =
    let s = c.args.settings in
    let old = c.args.into.now.items in
    let blank = codes " " in
    let first = further _ _ _ _ c.in_ok-push.ensures c.in_ok-push_item.ensures in
    let second = further _ _ _ _ first c.in_ok-push_item-2.ensures in
    let third = further _ _ _ _ second c.in_ok-push_item-3.ensures in
    let fourth = further _ _ _ _ third (c.in_ok-push_item-4.ensures ∙ ap (λ (n : ℕ). c.push_item-3.new.into.items ++ (decimal n ++ blank)) c.from.ensures) in
    let switch = further _ _ _ _ fourth c.in_ok-push_switch.ensures in
    let following = further _ _ _ _ switch c.in_ok-push-2.ensures in
    let solver = further _ _ _ _ following c.in_ok-push-3.ensures in
    on_success c.push-4.result _ _ (λ last. further _ _ _ _ solver last ∙ settings_pieces old (codes "settings ") (decimal s.limrow) (decimal s.limcol) (decimal s.iterlim) (decimal s.decimals) (switch_text s.solprint) c.args.solver.now (codes "\n") blank) c.push-4.ensures
