-- Rows made apart, in order.
use Rattle.std.proofs.Common.{◌≡◌, ℕ, ◌+◌, ◌<◌, inl, inr, List, length, Some, refl, sym, ◌∙◌, subst, arith}
use Rattle.std.specs.Prelude.{slice_get, slice_set}
use Rattle.std.proofs.lemmas.Bool.{cases_eq}
use Rattle.lp_integer_rows.specs.declared.line.Line.{Line}
use Rattle.lp_integer_rows.specs.Form.{IsLowest}
use Rattle.lp_integer_rows.proofs.Plans.{AreReduced, set_same, set_other, same_some}

-- the first n lines are in lowest terms
abbrev pub AreLowestTo : List Line → ℕ → Type 0
AreLowestTo lines n = (k : ℕ) (x : Line) → k < n → slice_get lines k ≡ Some x → IsLowest x

pub lowest_more : (lines : List Line) (n : ℕ) (y : Line) → AreLowestTo lines n → n < length lines → IsLowest y → AreLowestTo (slice_set lines n y) (n + 1)
lowest_more lines n y h within is = λ k x less at.
    elim (cases_eq k n) [
      | inl same ↦ subst IsLowest (same_some y x (sym (set_same lines n y within) ∙ subst (λ j. slice_get (slice_set lines n y) j ≡ Some x) same at)) is
      | inr other ↦ h k x (omega arith) (sym (set_other lines n k y other) ∙ at)
    ]

pub reduced_none : (lines : List Line) → AreReduced lines lines 0
reduced_none lines = record { sized = refl; each = λ i x y less. absurd (omega arith); left = λ i from. refl }
