use Rattle.std.proofs.Common.{◌≡◌, map, take}
use Rattle.lp_integers.specs.declared.few.Word.{Word}
use Rattle.lp_integers.proofs.few.places_of.Given as goal

abbrev pub invariant-loop-word : goal.invariant-loop-word
invariant-loop-word l = l.places.items ≡ map (λ (w : Word). w.place) (take l.word-index l.words)
