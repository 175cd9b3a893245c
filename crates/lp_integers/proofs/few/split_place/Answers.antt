-- The first word is at the place, or no first word is.
use Rattle.std.proofs.Common.{rules, ◌≡◌, ◌∷◌, [], ℕ, ℤ, List, length, get_or, FitsSigned, w64, inl, inr, refl, sym, ap, ap₂, ◌∙◌, arith}
use Rattle.std.proofs.lemmas.Int.{to_z-of_z}
use Rattle.lp_integers.specs.declared.few.Word.{Word}
use Rattle.lp_integers.specs.Words.{WordsStartAt}
use Rattle.lp_integers.proofs.few.split_place.Goals as goal
use Rattle.lp_integers.proofs.few.split_place.Goals.{in_default-via-in-Some+else-word-place, in_default-via-in_default}

-- a word of a place and a number
abbrev word_of : ℕ → ℤ → Word
word_of place number = record { place = place; number = number }

starts_not : (words rest : List Word) (w : Word) (place : ℕ) → words ≡ w ∷ rest → (w.place ≡ place → ⊥) → ¬ (WordsStartAt place words)
starts_not [] rest w place is other starts = absurd starts
starts_not (x ∷ xs) rest w place is other starts = other (sym (ap (λ (l : List Word). (get_or l 0 w).place) is) ∙ starts)

starts_none : (words : List Word) (place : ℕ) → length words ≡ 0 → ¬ (WordsStartAt place words)
starts_none [] place none starts = absurd starts
starts_none (x ∷ xs) place none starts = absurd (omega arith)

pub returns-in-Some : goal.returns-in-Some
returns-in-Some c =
    let w : Word = c.in-Some.word.now in
    let fits : FitsSigned w64 w.number = search rules in
    inl (c.in-Some.ensures.cases.0 ∙ ap₂ (λ p z. word_of p z ∷ c.in-Some.rest.now) c.if-word-place.true (sym (to_z-of_z w64 w.number fits)))

pub returns-in_default : goal.returns-in_default
returns-in_default c =
    inr (
      refl,
      elim c.in_default.branch [
        | in_default-via-in-Some+else-word-place w ↦
            starts_not c.args.words.now w.in-Some.rest.now w.in-Some.word.now c.args.place w.in-Some.ensures.cases.0 w.if-word-place.false
        | in_default-via-in_default w ↦ starts_none c.args.words.now c.args.place w.in_default.ensures.cases
      ],
      refl,
    )
