use Rattle.std.proofs.Common.{◌≡◌, ◌<◌, [], ◌∷◌, ◌++◌, take, length, get_or, ap, sym, subst, ◌∙◌, arith}
use Rattle.std.proofs.lemmas.List.{take_all}
use Rattle.gms_rows.specs.InnerContracts.{placed_numbers}
use Rattle.gms_rows.proofs.Places.{placed-more}
use Rattle.gms_rows.proofs.columns.entries_of.Goals as goal

pub loop-place-preserved : goal.loop-place-preserved
loop-place-preserved g c =
    let form = c.args.row.now.form in
    let keys-are = c.keys-key-items.ensures.keys in
    let here : c.loop-place.place < length form.keys = omega (arith, c.loop-place-test.true, ap length keys-are) in
    c.in_ok-push.ensures.items
    ∙ ap (λ those. those ++ (c.place_of.result, c.index-numbers-place.result) ∷ []) c.loop-place.invariant
    ∙ ap (λ place. placed_numbers c.args.keys.now (take c.loop-place.place form.keys) (take c.loop-place.place form.numbers) ++ (place, c.index-numbers-place.result) ∷ []) c.place_of.ensures
    ∙ sym (placed-more c.args.keys.now form.keys form.numbers c.loop-place.place c.key-item.result c.index-numbers-place.result c.keys-key-items.ensures.form.paired here (subst (λ keys. c.key-item.result ≡ get_or keys c.loop-place.place c.key-item.result) keys-are c.key-item.is) (subst (λ numbers. c.index-numbers-place.result ≡ get_or numbers c.loop-place.place c.index-numbers-place.result) c.numbers-numbers.ensures.numbers c.index-numbers-place.is))

pub returns-clause-entries : goal.returns-clause-entries
returns-clause-entries g c =
    let form = c.args.row.now.form in
    let size = ap length c.keys-key-items.ensures.keys in
    c.loop-place.invariant
    ∙ ap (λ keys. placed_numbers c.args.keys.now keys (take c.loop-place.place form.numbers)) (take_all c.loop-place.place form.keys (omega (arith, size)))
    ∙ ap (placed_numbers c.args.keys.now form.keys) (take_all c.loop-place.place form.numbers (omega (arith, size, c.keys-key-items.ensures.form.paired)))
