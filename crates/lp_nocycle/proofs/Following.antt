-- No basis comes back along Bland's pivots, and so they are few.
use Rattle.std.proofs.Common.{◌≡◌, ◌≢◌, ℕ, suc, ◌+◌, ◌-◌, ◌*◌, ◌<◌, ◌≤◌, inl, inr, List, [], ◌∷◌, length, sym, ap, ◌∙◌, subst, arith}
use Rattle.std.specs.Prelude.{◌^◌}
use Rattle.std.proofs.lemmas.Bool.{cases_lt}
use Rattle.gq_number.specs.Number.{Number}
use Rattle.lp_core.specs.declared.answer.Pivot.{Pivot}
use Rattle.lp_core.specs.Pivots.{ByRule, Leads}
use Rattle.lp_core.specs.declared.answer.Rule.TheVariants.{Bland, Legal}
use Rattle.lp_core.specs.declared.program.Lp.{Lp}
use Rattle.lp_core.specs.StandardForm.{standard_form}
use Rattle.lp_core.specs.Dictionary.{Dictionary, IsLegal, first_dictionary}
use Rattle.lp_core.specs.Ends.{IsPhase}
use Rattle.lp_core.specs.WellFormed.{IsWellFormed}
use Rattle.lp_fraction_dict.specs.Pivots.{IsProper}
use Rattle.lp_fraction_dict.proofs.Begins.{first_proper}
use Rattle.lp_fraction_dict.proofs.InForm.{form_in_order}
use Rattle.lp_nocycle.specs.Cycling.{SameBasic, NoneRepeats}
use Rattle.lp_nocycle.specs.PivotCount.{twice_sets}
use Rattle.lp_nocycle.proofs.Runs.{IsRun, AreBlands, proper_at}
use Rattle.lp_nocycle.proofs.Places.{pivot_at, dictionary_at, row_at, first_at, last_at, allowed_at, variables_at, run_of, proper_along}
use Rattle.lp_nocycle.proofs.Fickle.{no_return}
use Rattle.lp_nocycle.proofs.Pigeons.{at_most, code, code_within, same_code}

abbrev pub Blands : List Pivot → Dictionary → Pivot → ℕ → Type 0
Blands = ByRule Bland

bland_is_legal : (done : List Pivot) (d : Dictionary) (p : Pivot) (k : ℕ) → Blands done d p k → IsLegal d p k
bland_is_legal done d p k allowed = allowed.0

legal_is : (done : List Pivot) (d : Dictionary) (p : Pivot) (k : ℕ) → ByRule Legal done d p k → IsLegal d p k
legal_is done d p k allowed = allowed

run_of_bland : (done pivots : List Pivot) (d last : Dictionary) (f : Leads Blands done d pivots last) → IsProper d → IsRun (length pivots) (dictionary_at Blands done pivots d last f) (pivot_at pivots) (row_at Blands done pivots d last f)
run_of_bland = run_of Blands bland_is_legal

are_blands : (done pivots : List Pivot) (d last : Dictionary) (f : Leads Blands done d pivots last) → AreBlands (length pivots) (dictionary_at Blands done pivots d last f) (pivot_at pivots)
are_blands done pivots d last f j less = (allowed_at Blands done pivots d last f j less).1

-- ---- no basis comes back

none_follows : (p : Pivot) (done between : List Pivot) (d e : Dictionary) (phase : ℕ) → IsProper d → Leads Blands done d (p ∷ between) e → IsPhase d phase → IsPhase e phase → ¬ (SameBasic d e)
none_follows p done between d e phase proper f first second same =
    let starts = first_at Blands done (p ∷ between) d e f in
    let ends = last_at Blands done (p ∷ between) d e f in
    let at = dictionary_at Blands done (p ∷ between) d e f in
    no_return (length between) at (pivot_at (p ∷ between)) (row_at Blands done (p ∷ between) d e f) (run_of_bland done (p ∷ between) d e f proper) phase
    (subst (λ c. IsPhase c phase) (sym starts) first)
    (subst (λ c. IsPhase c phase) (sym ends) second)
    (subst (λ c. SameBasic c (at (suc (length between)))) (sym starts) (subst (λ c. SameBasic d c) (sym ends) same))
    (are_blands done (p ∷ between) d e f)

pub none_repeats : {F : Type 0} (value : F → Number) → NoneRepeats value
none_repeats value lp before between p d e phase formed f g first second same =
    none_follows p before between d e phase (proper_along (ByRule Legal) legal_is [] before (first_dictionary (standard_form value lp)) d f (first_proper (standard_form value lp) (form_in_order value lp formed))) g first second same

-- ---- how many pivots there are

-- the run from its i-th place on
pub moved : (m i n : ℕ) (at : ℕ → Dictionary) (pivot : ℕ → Pivot) (row : ℕ → ℕ) → IsRun m at pivot row → i + n ≤ m → IsRun n (λ x. at (i + x)) (λ x. pivot (i + x)) (λ x. row (i + x))
moved m i n at pivot row runs within =
    record {
      proper = proper_at m at pivot row runs (i + 0) (omega arith);
      legal = λ j less. runs.legal (i + j) (omega arith);
      next = λ j less. ap at (let h : i + suc j ≡ suc (i + j) = omega arith in h) ∙ runs.next (i + j) (omega arith);
    }

module _ (m w : ℕ) (at : ℕ → Dictionary) (pivot : ℕ → Pivot) (row : ℕ → ℕ) (runs : IsRun m at pivot row) (bland : AreBlands m at pivot) (variables : (j : ℕ) → (at j).variables + 1 ≡ w) where
  later_differs : (i j : ℕ) → i < j → j ≤ m → code w (at i) ≢ code w (at j)
  later_differs i j less within same =
      let alike = same_code w (at i) (at j) (proper_at m at pivot row runs i (omega arith)) (proper_at m at pivot row runs j within) (variables i) (variables j) same in
      let from : at i ≡ at (i + 0) = ap at (omega arith) in
      let to : at j ≡ at (i + suc (j - suc i)) = ap at (omega arith) in
      no_return (j - suc i) (λ x. at (i + x)) (λ x. pivot (i + x)) (λ x. row (i + x)) (moved m i (suc (j - suc i)) at pivot row runs (omega arith)) alike.0.0
      (subst (λ d. IsPhase d alike.0.0) from alike.0.1)
      (subst (λ d. IsPhase d alike.0.0) to alike.0.2)
      (subst (λ d. SameBasic d (at (i + suc (j - suc i)))) from (subst (λ e. SameBasic (at i) e) to alike.1))
      (λ x less_x. bland (i + x) (omega arith))

  codes_apart : (i j : ℕ) → i < suc m → j < suc m → code w (at i) ≡ code w (at j) → i ≡ j
  codes_apart i j less_i less_j same =
      elim (cases_lt i j) [
        | inl less ↦ absurd (later_differs i j less (omega arith) same)
        | inr more ↦ elim (cases_lt j i) [
          | inl less ↦ absurd (later_differs j i less (omega arith) (sym same))
          | inr most ↦ omega arith
        ]
      ]

  few : m < 2 * 2 ^ w
  few =
      let all : suc m ≤ 2 * 2 ^ w = at_most (2 * 2 ^ w) (suc m) (λ j. code w (at j)) (λ j less. code_within w (at j)) codes_apart in
      omega arith

pub few_pivots : {F : Type 0} (value : F → Number) (lp : Lp F) (pivots : List Pivot) (last : Dictionary) → IsWellFormed value lp → Leads Blands [] (first_dictionary (standard_form value lp)) pivots last → length pivots < twice_sets ((first_dictionary (standard_form value lp)).variables + 1)
few_pivots value lp pivots last formed f =
    few (length pivots) ((first_dictionary (standard_form value lp)).variables + 1) (dictionary_at Blands [] pivots (first_dictionary (standard_form value lp)) last f) (pivot_at pivots) (row_at Blands [] pivots (first_dictionary (standard_form value lp)) last f)
    (run_of_bland [] pivots (first_dictionary (standard_form value lp)) last f (first_proper (standard_form value lp) (form_in_order value lp formed)))
    (are_blands [] pivots (first_dictionary (standard_form value lp)) last f)
    (λ j. ap (λ v. v + 1) (variables_at Blands [] pivots (first_dictionary (standard_form value lp)) last f j))
