-- What the count of pivots says of answers by a choice that turns to Bland's rule.
use Rattle.std.proofs.Common.{◌≡◌, ℕ, ◌+◌, ◌*◌, ◌<◌, inl, inr, List, [], length, refl, sym, ap, ◌∙◌, subst, arith}
use Rattle.std.proofs.lemmas.Nat.{mul-add-lt}
use Rattle.gq_number.specs.Number.{Number}
use Rattle.lp_core.specs.declared.answer.Answer.{Answer}
use Rattle.lp_core.specs.declared.answer.Pivot.{Pivot}
use Rattle.lp_core.specs.declared.answer.Rule.TheVariants.{Bland}
use Rattle.lp_core.specs.declared.program.Lp.{Lp}
use Rattle.lp_core.specs.StandardForm.{standard_form}
use Rattle.lp_core.specs.Dictionary.{Dictionary, IsLegal, first_dictionary}
use Rattle.lp_core.specs.Pivots.{IsChosen, IsTaken, ByChoice, Leads}
use Rattle.lp_core.specs.Choices.{reached}
use Rattle.lp_core.specs.LargestCoefficient.{HasTurned, IsNext}
use Rattle.lp_core.specs.Answers.{bounds_cross, form_stops, search_ends, IsAnswerByChoice}
use Rattle.lp_core.specs.WellFormed.{IsWellFormed}
use Rattle.lp_fraction_dict.specs.Pivots.{IsProper}
use Rattle.lp_fraction_dict.proofs.Begins.{first_proper}
use Rattle.lp_fraction_dict.proofs.InForm.{form_in_order}
use Rattle.lp_nocycle.specs.PivotCount.{twice_sets, variable_count}
use Rattle.lp_nocycle.specs.Turns.{TurnsToBland, pivots_by_turn, HasFewPivotsByTurn, EndsUninterruptedByTurn}
use Rattle.lp_nocycle.proofs.Places.{pivot_at, done_at, none_done, one_more_done, dictionary_at, row_at, first_at, allowed_at, variables_at, run_of}
use Rattle.lp_nocycle.proofs.Counts.{few_by_turn}
use Rattle.lp_nocycle.proofs.Answering.{two_power_above, not_crossed, not_refused, at_the_limit}

module _ (choice : Dictionary → List Pivot → Dictionary → ℕ → Type 0) (turns : TurnsToBland choice) (first : Dictionary) where
  abbrev Chosen : List Pivot → Dictionary → Pivot → ℕ → Type 0
  Chosen = ByChoice choice first

  chosen_is_legal : (done : List Pivot) (d : Dictionary) (p : Pivot) (k : ℕ) → Chosen done d p k → IsLegal d p k
  chosen_is_legal done d p k allowed = allowed.0

  by_bland : (done : List Pivot) (d : Dictionary) (p : Pivot) (k : ℕ) → Chosen done d p k → HasTurned first done d → IsTaken (IsChosen Bland d) d p
  by_bland done d p k allowed turned = record { enters = λ none. turns first done d p.enter (allowed.1.enters none) turned; leaves = allowed.1.leaves; opens = allowed.1.opens }

  pub few_pivots_by_turn : (w : ℕ) (pivots : List Pivot) (last : Dictionary) → first.variables + 1 ≡ w → IsProper first → Leads Chosen [] first pivots last → length pivots < pivots_by_turn w
  few_pivots_by_turn w pivots last is proper f =
      few_by_turn (length pivots) w (dictionary_at Chosen [] pivots first last f) (pivot_at pivots) (row_at Chosen [] pivots first last f)
      (run_of Chosen chosen_is_legal [] pivots first last f proper)
      (λ j. ap (λ v. v + 1) (variables_at Chosen [] pivots first last f j) ∙ is)
      first (done_at [] pivots)
      (first_at Chosen [] pivots first last f ∙ sym (ap (reached first) (none_done [] pivots)))
      (one_more_done [] pivots)
      (λ j less turned. by_bland (done_at [] pivots j) (dictionary_at Chosen [] pivots first last f j) (pivot_at pivots j) (row_at Chosen [] pivots first last f j) (allowed_at Chosen [] pivots first last f j less) turned)

module _ {F : Type 0} (value : F → Number) (limit : ℕ) (lp : Lp F) (iterlim : ℕ) (choice : Dictionary → List Pivot → Dictionary → ℕ → Type 0) (turns : TurnsToBland choice) where
  few_of_program : (pivots : List Pivot) (last : Dictionary) → IsWellFormed value lp → Leads (ByChoice choice (first_dictionary (standard_form value lp))) [] (first_dictionary (standard_form value lp)) pivots last → length pivots < pivots_by_turn (variable_count value lp)
  few_of_program pivots last formed f =
      few_pivots_by_turn choice turns (first_dictionary (standard_form value lp)) (variable_count value lp) pivots last refl (first_proper (standard_form value lp) (form_in_order value lp formed)) f

  some_pivots : (w : ℕ) → 0 < pivots_by_turn w
  some_pivots w = let h : 0 * twice_sets w + 0 < twice_sets w * (w + 1) = mul-add-lt 0 (twice_sets w) 0 (w + 1) (omega arith) (two_power_above w) in omega arith

  none_below : (pivots : List Pivot) → pivots ≡ [] → length pivots < pivots_by_turn (variable_count value lp)
  none_below pivots none = subst (λ (l : List Pivot). length l < pivots_by_turn (variable_count value lp)) (sym none) (some_pivots (variable_count value lp))

  pub has_few_by_turn : (answer : Answer F) → IsWellFormed value lp → IsAnswerByChoice value limit lp iterlim choice answer → HasFewPivotsByTurn value lp answer
  has_few_by_turn answer formed (bounds_cross none crossed) = none_below answer.pivots none
  has_few_by_turn answer formed (form_stops none stopped) = none_below answer.pivots none
  has_few_by_turn answer formed (search_ends ordered fit most last way ends) = few_of_program answer.pivots last formed way.0

  pub comes_to_end_by_turn : (answer : Answer F) → IsWellFormed value lp → IsAnswerByChoice value limit lp iterlim choice answer → EndsUninterruptedByTurn value lp iterlim answer
  comes_to_end_by_turn answer formed (bounds_cross none crossed) enough is = not_crossed value limit lp iterlim answer.end is crossed
  comes_to_end_by_turn answer formed (form_stops none stopped) enough is = not_refused value limit lp iterlim answer.end stopped.1.0 stopped.1.1 is
  comes_to_end_by_turn answer formed (search_ends ordered fit most last way ends) enough is =
      let first = first_dictionary (standard_form value lp) in
      let few = few_of_program answer.pivots last formed way.0 in
      let same = at_the_limit value limit lp iterlim (ByChoice choice first answer.pivots last) (choice first answer.pivots last) (length answer.pivots) last answer.end is ends in
      absurd (omega arith)

-- the rule of the largest coefficient turns to Bland's
pub largest_turns : TurnsToBland IsNext
largest_turns first pivots d q (inl greatest) turned = absurd (greatest.0 turned)
largest_turns first pivots d q (inr bland) turned = bland.1
