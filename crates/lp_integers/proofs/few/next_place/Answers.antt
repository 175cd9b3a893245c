-- The first words of two lists, and the lesser of their places.
use Rattle.std.proofs.Common.{◌≡◌, ℕ, min, inl, inr, List, [], ◌∷◌, Some, None, refl, sym, ap, ◌∙◌, arith}
use Rattle.std.specs.Prelude.{slice_get}
use Rattle.std.specs.Option.{option_copied}
use Rattle.std.proofs.lemmas.Bool.{cases_lt}
use Rattle.lp_integers.specs.declared.few.Word.{Word}
use Rattle.lp_integers.specs.Words.{IsNextPlace}
use Rattle.lp_integers.proofs.Each.{same_word}
use Rattle.lp_integers.proofs.few.next_place.Goals as goal

next_of_none : (words others : List Word) → slice_get words 0 ≡ None → slice_get others 0 ≡ None → IsNextPlace words others None
next_of_none [] [] h g = (refl, refl)
next_of_none [] (v ∷ vs) h g = absurd (cc)
next_of_none (w ∷ ws) others h g = absurd (cc)

next_of_own : (words others : List Word) (w : Word) → slice_get words 0 ≡ Some w → slice_get others 0 ≡ None → IsNextPlace words others (Some w.place)
next_of_own [] others w h g = absurd (cc)
next_of_own (x ∷ ws) (v ∷ vs) w h g = absurd (cc)
next_of_own (x ∷ ws) [] w h g = let e = ap (λ (u : Word). u.place) (same_word x w h) in (omega arith, tt, inl e)

next_of_other : (words others : List Word) (v : Word) → slice_get words 0 ≡ None → slice_get others 0 ≡ Some v → IsNextPlace words others (Some v.place)
next_of_other words [] v h g = absurd (cc)
next_of_other (w ∷ ws) (x ∷ vs) v h g = absurd (cc)
next_of_other [] (x ∷ vs) v h g = let e = ap (λ (u : Word). u.place) (same_word x v g) in (tt, omega arith, inr e)

next_of_two : (words others : List Word) (w v : Word) (place : ℕ) → slice_get words 0 ≡ Some w → slice_get others 0 ≡ Some v → place ≡ min w.place v.place → IsNextPlace words others (Some place)
next_of_two [] others w v place h g is = absurd (cc)
next_of_two (x ∷ ws) [] w v place h g is = absurd (cc)
next_of_two (x ∷ ws) (y ∷ vs) w v place h g is =
    let e = ap (λ (u : Word). u.place) (same_word x w h) in
    let f = ap (λ (u : Word). u.place) (same_word y v g) in
    (omega arith, omega arith, elim (cases_lt x.place y.place) [ inl less ↦ inl (omega arith) | inr from ↦ inr (omega arith) ])

pub returns-in-None-None : goal.returns-in-None-None
returns-in-None-None c =
    next_of_none c.args.words.now c.args.others.now (sym c.first.ensures.value ∙ ap option_copied c.in-None-None.is-0) (sym c.first-2.ensures.value ∙ ap option_copied c.in-None-None.is-1)

pub returns-in-None-Some : goal.returns-in-None-Some
returns-in-None-Some c =
    next_of_other c.args.words.now c.args.others.now c.in-None-Some.other.now (sym c.first.ensures.value ∙ ap option_copied c.in-None-Some.is-0) (sym c.first-2.ensures.value ∙ ap option_copied c.in-None-Some.is-1)

pub returns-in-Some-None : goal.returns-in-Some-None
returns-in-Some-None c =
    next_of_own c.args.words.now c.args.others.now c.in-Some-None.word.now (sym c.first.ensures.value ∙ ap option_copied c.in-Some-None.is-0) (sym c.first-2.ensures.value ∙ ap option_copied c.in-Some-None.is-1)

pub returns-in-Some-Some : goal.returns-in-Some-Some
returns-in-Some-Some c =
    next_of_two c.args.words.now c.args.others.now c.in-Some-Some.word.now c.in-Some-Some.other.now c.min.result (sym c.first.ensures.value ∙ ap option_copied c.in-Some-Some.is-0)
    (sym c.first-2.ensures.value ∙ ap option_copied c.in-Some-Some.is-1) c.min.ensures
