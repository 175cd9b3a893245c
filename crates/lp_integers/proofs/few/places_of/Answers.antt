-- The place that is added is that of the next word.
use Rattle.std.proofs.Common.{◌≡◌, ℕ, ◌+◌, ◌<◌, List, [], ◌∷◌, ◌++◌, length, map, take, sym, ap, ◌∙◌}
use Rattle.std.proofs.lemmas.List.{take_more, take_all, map-append}
use Rattle.lp_integers.specs.declared.few.Word.{Word}
use Rattle.lp_integers.proofs.Each.{no_word, word_at}
use Rattle.std.proofs.lemmas.Result.{IfOk-from_err}
use Rattle.lp_integers.proofs.few.places_of.Goals as goal

places_pushed : (ws : List Word) (i : ℕ) → i < length ws → map (λ (w : Word). w.place) (take (i + 1) ws) ≡ map (λ (w : Word). w.place) (take i ws) ++ (word_at ws i).place ∷ []
places_pushed ws i less = ap (map (λ (w : Word). w.place)) (take_more ws i no_word less) ∙ map-append (λ (w : Word). w.place) (take i ws) (word_at ws i ∷ [])

pub loop-word-preserved : goal.loop-word-preserved
loop-word-preserved c =
    c.in_ok-push.ensures.items ∙ ap (λ (l : List ℕ). l ++ (word_at c.args.words.now c.loop-word.word-index).place ∷ []) c.loop-word.invariant
    ∙ sym (places_pushed c.args.words.now c.loop-word.word-index c.loop-word-test.true)

pub returns : goal.returns
returns c = c.loop-word.invariant ∙ ap (map (λ (w : Word). w.place)) (take_all c.loop-word.word-index c.args.words.now c.loop-word-test.false)

pub returns-in_err-places : goal.returns-in_err-places
returns-in_err-places c = IfOk-from_err c.from_residual.result _ c.from_residual.ensures.0

pub loop-word-init : goal.loop-word-init
loop-word-init c = c.in_ok-places.ensures.items

pub bounds-words-word-index : goal.bounds-words-word-index
bounds-words-word-index c = c.loop-word-test.true

pub returns-in_err-push : goal.returns-in_err-push
returns-in_err-push c = IfOk-from_err c.from_residual-in_err-push.result _ c.from_residual-in_err-push.ensures.0
