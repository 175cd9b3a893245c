-- The line of the bound that duals give: the bound if each step fits, otherwise the first step that
-- does not.
use Rattle.std.proofs.Common.{◌≡◌, ℕ, ◌+◌, Bool, true, false, List, [], ◌∷◌, ◌++◌, map, Option, Some, None, refl, sym, ap, ap₂, ◌∙◌, subst, codes, decimal, arith}
use Rattle.std.specs.Prelude.{option_map}
use Rattle.std.specs.List.{enumerate_from}
use Rattle.std.proofs.lemmas.List.{append_assoc}
use Rattle.std.proofs.lemmas.List.Elements.{All-head, All-tail}
use Rattle.gq_number.specs.Number.{Number}
use Rattle.lp_core.specs.declared.answer.StepName.{StepName}
use Rattle.lp_core.specs.declared.answer.StepName.TheVariants.{Check}
use Rattle.lp_core.specs.declared.program.Lp.{Lp}
use Rattle.lp_core.specs.Numbers.{lp_numbers}
use Rattle.lp_core.specs.Steps.{ExpectedStep, AllFit, FirstStop}
use Rattle.lp_check.specs.BoundSteps.{bound_steps, objective_bound}
use Rattle.lp_check.specs.Partials.{first_unfit}
use Rattle.gms_list.specs.SolveText.{bound_line, bound_lines, step_text}
use Rattle.gms_list.proofs.BoundNumbers.{fits_over, fits_same, bound_same}

-- steps that are checks, numbered from this one on
abbrev pub checks : ℕ → List Bool → List ExpectedStep
checks n fits = map (λ (p : ℕ × Bool). (Check p.0, p.1)) (enumerate_from n fits)

-- where all of them fit none is the first that does not
none_unfit : (n : ℕ) (fits : List Bool) → AllFit (checks n fits) → first_unfit fits ≡ None
none_unfit n [] all = refl
none_unfit n (true ∷ fits) all =
    ap (option_map (λ m. m + 1)) (none_unfit (n + 1) fits (All-tail (λ (step : ExpectedStep). step.1 ≡ true) (Check n, true) (checks (n + 1) fits) all))
none_unfit n (false ∷ fits) all = absurd (let fit : false ≡ true = All-head (λ (step : ExpectedStep). step.1 ≡ true) (Check n, false) (checks (n + 1) fits) all in cc)

-- the first that does not fit is a check, and the definition finds its number
unfit_at : (n : ℕ) (fits : List Bool) (name : StepName) (before following : List ExpectedStep) → checks n fits ≡ before ++ (name, false) ∷ following → AllFit before → (part : ℕ) × (name ≡ Check (n + part)) × (first_unfit fits ≡ Some part)
unfit_at n [] name [] following e all = absurd (cc)
unfit_at n [] name (step ∷ before) following e all = absurd (cc)
unfit_at n (true ∷ fits) name [] following e all =
    absurd (let is : (Check n, true) ≡ (name, false) = cc in let fit : true ≡ false = ap (λ (expected : ExpectedStep). expected.1) is in cc)
unfit_at n (false ∷ fits) name [] following e all =
    let is : (Check n, false) ≡ (name, false) = cc in
    let first : n ≡ n + 0 = omega arith in
    (0, sym (ap (λ (expected : ExpectedStep). expected.0) is) ∙ ap Check first, refl)
unfit_at n (true ∷ fits) name (step ∷ before) following e all =
    let later = unfit_at (n + 1) fits name before following (cc) (All-tail (λ (expected : ExpectedStep). expected.1 ≡ true) step before all) in
    let same : n + 1 + later.0 ≡ n + (later.0 + 1) = omega arith in
    (later.0 + 1, later.1 ∙ ap Check same, ap (option_map (λ m. m + 1)) later.2)
unfit_at n (false ∷ fits) name (step ∷ before) following e all =
    absurd (let fit : step.1 ≡ true = All-head (λ (expected : ExpectedStep). expected.1 ≡ true) step before all in let is : (Check n, false) ≡ step = cc in let unfit : false ≡ step.1 = ap (λ (expected : ExpectedStep). expected.1) is in cc)

-- two pieces after a word
after_word : (x a p n : List ℕ) → x ++ ((a ++ p) ++ n) ≡ (x ++ a ++ p) ++ n
after_word x a p n = simp append_assoc

module _ {F : Type 0} (value : F → Number) (limit : ℕ) (lp : Lp F) (duals : List Number) where
  steps_are : (with_objective : Bool) → bound_steps value limit with_objective lp duals ≡ checks 0 (fits_over value limit with_objective lp duals)
  steps_are true = refl
  steps_are false = refl

  lines_are : (with_objective : Bool) (unfit : Option ℕ) (bound : Option Number) → first_unfit (fits_over value limit with_objective lp duals) ≡ unfit → objective_bound value with_objective lp duals ≡ bound →
      bound_line unfit bound ≡ bound_lines limit (lp_numbers value lp) duals with_objective
  lines_are with_objective unfit bound e f =
      sym (ap₂ bound_line (ap first_unfit (fits_same value limit lp duals with_objective) ∙ e) (bound_same value lp duals with_objective ∙ f))

  -- each step fits
  pub bound_shown : (with_objective : Bool) (bound : Number) → AllFit (bound_steps value limit with_objective lp duals) → objective_bound value with_objective lp duals ≡ Some bound →
      bound_line None (Some bound) ≡ bound_lines limit (lp_numbers value lp) duals with_objective
  bound_shown with_objective bound all e =
      lines_are with_objective None (Some bound) (none_unfit 0 (fits_over value limit with_objective lp duals) (subst AllFit (steps_are with_objective) all)) e

  -- a step does not
  stopped : (with_objective : Bool) (name : StepName) → FirstStop (bound_steps value limit with_objective lp duals) name → (part : ℕ) × (name ≡ Check part) × (first_unfit (fits_over value limit with_objective lp duals) ≡ Some part)
  stopped with_objective name first =
      let at = unfit_at 0 (fits_over value limit with_objective lp duals) name first.before first.following (sym (steps_are with_objective) ∙ first.split) first.fit in
      let same : 0 + at.0 ≡ at.0 = omega arith in
      (at.0, at.1 ∙ ap Check same, at.2)

  pub bound_not_shown : (with_objective : Bool) (name : StepName) (made text : List ℕ) → FirstStop (bound_steps value limit with_objective lp duals) name → made ≡ codes "  bound not shown, " ++ (text ++ codes "\n") → text ≡ step_text name →
      made ≡ bound_lines limit (lp_numbers value lp) duals with_objective
  bound_not_shown with_objective name made text first e f =
      let at = stopped with_objective name first in
      e
      ∙ ap (λ t. codes "  bound not shown, " ++ (t ++ codes "\n")) (f ∙ ap step_text at.1)
      ∙ after_word (codes "  bound not shown, ") (codes "Check part ") (decimal at.0) (10 ∷ [])
      ∙ lines_are with_objective (Some at.0) (objective_bound value with_objective lp duals) at.2 refl
