-- The answer of a program that has no standard form.
use Rattle.std.proofs.Common.{◌≡◌, ℕ, ◌+◌, inl, inr, pos, List, [], ◌∷◌, ◌++◌, length, map, Some, Result, Ok, Err, refl, ap, ap₂, ◌∙◌}
use Rattle.std.proofs.lemmas.List.{map-append, replicate-append-replicate}
use Rattle.std.specs.Prelude.{replicate, IfOk}
use Rattle.std.specs.declared.alloc.AllocError.{AllocError}
use Rattle.gq_number.specs.Number.{Number, whole}
use Rattle.lp_core.specs.declared.answer.Pivot.{Pivot}
use Rattle.lp_core.specs.declared.answer.End.{End}
use Rattle.lp_core.specs.declared.answer.End.TheVariants.{Infeasible}
use Rattle.lp_core.specs.declared.answer.Answer.{Answer}
use Rattle.lp_core.specs.declared.program.Lp.{Lp}
use Rattle.lp_core.specs.Dictionary.{Dictionary}
use Rattle.lp_core.specs.Answers.{EndsCrossed, bounds_cross, form_stops, IsAnswerByChoice}
use Rattle.lp_core.specs.Proofs.{FirstCrossed}
use Rattle.lp_simplex.specs.InnerEnds.{EndsFormless}

-- one zero more
pub one_more : {F : Type 0} (value : F → Number) (n : ℕ) (before after : List F) (x : F) → map value before ≡ replicate n (whole (pos 0)) → value x ≡ whole (pos 0) → after ≡ before ++ x ∷ [] → map value after ≡ replicate (n + 1) (whole (pos 0))
one_more value n before after x are is after_is =
    ap (map value) after_is ∙ map-append value before (x ∷ []) ∙ ap₂ (λ l y. l ++ y ∷ []) are is ∙ replicate-append-replicate n 1 (whole (pos 0))

-- the end where bounds cross: all factors of rows are 0
pub crossed_ends : {F : Type 0} (value : F → Number) (lp : Lp F) (j n : ℕ) (duals : List F) → FirstCrossed value lp.columns (Some j) → map value duals ≡ replicate n (whole (pos 0)) → n ≡ length lp.rows → EndsCrossed value lp (Infeasible duals (Some j))
crossed_ends value lp j n duals first duals_are count =
    (duals, j, refl, record { first = first; duals_zero = duals_are ∙ ap (λ m. replicate m (whole (pos 0))) count })

pub crossed_is_formless : {F : Type 0} (value : F → Number) (limit : ℕ) (lp : Lp F) (r : Result (End F) AllocError) → IfOk r (EndsCrossed value lp) → IfOk r (EndsFormless value limit lp)
crossed_is_formless value limit lp (Ok end) h = inl h
crossed_is_formless value limit lp (Err e) h = tt

-- the answer has no pivots
pub formless_answers : {F : Type 0} (value : F → Number) (limit : ℕ) (lp : Lp F) (iterlim : ℕ) (choice : Dictionary → List Pivot → Dictionary → ℕ → Type 0) (answer : Answer F) → answer.pivots ≡ [] → EndsFormless value limit lp answer.end → IsAnswerByChoice value limit lp iterlim choice answer
formless_answers value limit lp iterlim choice answer none ends = elim ends [ inl crossed ↦ bounds_cross none crossed | inr stopped ↦ form_stops none stopped ]
