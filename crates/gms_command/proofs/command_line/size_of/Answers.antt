use Rattle.std.proofs.Common.{◌≡◌, ◌+◌, ℕ, None, Some, Option, option_map, sym, ap, ◌∙◌, rules, tests, bytes_eq, position}
use Rattle.std.proofs.lemmas.Iterator.{YieldsList-from_slice}
use Rattle.std.proofs.lemmas.Iterator.Search.{position_from_yields_List}
use Rattle.gms_command.proofs.Sizes.{size_by_place, size_texts}
use Rattle.gms_command.proofs.command_line.size_of.Goals as goal

pub returns-in_err-place : goal.returns-in_err-place
returns-in_err-place c =
    let found : c.position.result ≡ position (λ size. bytes_eq size c.args.text.now) size_texts = position_from_yields_List (λ size. bytes_eq size.now c.args.text.now) _ _ c.position.result c.position.ensures.ran (YieldsList-from_slice _ c.iter.ensures.rest) (λ x b q k. search (rules, tests)) in
    let none : c.position.result ≡ None = search rules in
    let gives : c.from_residual.result ≡ None = search rules in
    gives ∙ ap (λ (o : Option ℕ). option_map (λ place. place + 1) o) (sym none ∙ found) ∙ size_by_place c.args.text.now

pub returns : goal.returns
returns c =
    let found : c.position.result ≡ position (λ size. bytes_eq size c.args.text.now) size_texts = position_from_yields_List (λ size. bytes_eq size.now c.args.text.now) _ _ c.position.result c.position.ensures.ran (YieldsList-from_slice _ c.iter.ensures.rest) (λ x b q k. search (rules, tests)) in
    let some : c.position.result ≡ Some c.in_ok-place.place = search rules in
    ap (λ (o : Option ℕ). option_map (λ place. place + 1) o) (sym some ∙ found) ∙ size_by_place c.args.text.now
