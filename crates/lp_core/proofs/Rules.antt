-- A wider rule: an answer by a choice is an answer under the rule, and conversely.
use Rattle.std.proofs.Common.{◌≡◌, ℕ, ◌+◌, inl, inr, List, [], ◌∷◌, ◌++◌, length}
use Rattle.gq_number.specs.Number.{Number}
use Rattle.lp_core.specs.declared.answer.Pivot.{Pivot}
use Rattle.lp_core.specs.declared.answer.Rule.{Rule}
use Rattle.lp_core.specs.declared.answer.Rule.TheVariants.{Bland, Legal}
use Rattle.lp_core.specs.declared.answer.StepName.{StepName}
use Rattle.lp_core.specs.declared.answer.End.{End}
use Rattle.lp_core.specs.declared.answer.EndKind.{EndKind}
use Rattle.lp_core.specs.declared.answer.EndKind.TheVariants as kind
use Rattle.lp_core.specs.declared.answer.Answer.{Answer}
use Rattle.lp_core.specs.declared.program.Lp.{Lp}
use Rattle.lp_core.specs.StandardForm.{standard_form, Last}
use Rattle.lp_core.specs.Dictionary.{Dictionary, Improves, IsLegal, first_dictionary, exchanged}
use Rattle.lp_core.specs.Pivots.{IsAllowed, IsChosen, ByRule, ByChoice, LeadsWithin}
use Rattle.lp_core.specs.Ends.{IsUnlimitedBy, IsUnfinishedBy, PivotStopsBy, EndsAt, EndsSoBy, ends_by_kind, limit_is_met, step_stops}
use Rattle.lp_core.specs.Answers.{IsAnswerBy, bounds_cross, form_stops, search_ends, IsAnswer, IsAnswerByChoice}

-- ---- the rules

-- a variable that the rule chooses improves
pub improves_of : (rule : Rule) (d : Dictionary) (q : ℕ) → IsChosen rule d q → Improves d q
improves_of Bland d q chosen = chosen.0
improves_of Legal d q chosen = chosen

-- a pivot that the rule allows is legal
pub legal_of : (rule : Rule) (d : Dictionary) (p : Pivot) (k : ℕ) → IsAllowed rule d p k → IsLegal d p k
legal_of Bland d p k allowed = allowed.0
legal_of Legal d p k allowed = allowed

-- Bland's rule as a choice, which does not look at the pivots so far
abbrev pub bland_choice : Dictionary → List Pivot → Dictionary → ℕ → Type 0
bland_choice first pivots d q = IsChosen Bland d q

-- ---- ends by what is allowed and chosen

module _ {F : Type 0} (value : F → Number) (limit : ℕ) (lp : Lp F) (iterlim pivots : ℕ) (d : Dictionary) (Allowed More : Pivot → ℕ → Type 0) (Chosen Wider : ℕ → Type 0) (allowed : (p : Pivot) (k : ℕ) → Allowed p k → More p k) (chosen : (q : ℕ) → Chosen q → Wider q) where
  unlimited_by : (q : ℕ) → IsUnlimitedBy Chosen d q → IsUnlimitedBy Wider d q
  unlimited_by q h = (h.0, chosen q h.1, h.2)

  going_on_by : IsUnfinishedBy Chosen d → IsUnfinishedBy Wider d
  going_on_by goes = elim goes [ inl required ↦ inl required | inr more ↦ inr (more.0, (more.1.0, more.1.1, chosen more.1.0 more.1.2, more.1.3)) ]

  stops_by : (n : ℕ) (name : StepName) → PivotStopsBy Allowed Chosen limit n d name → PivotStopsBy More Wider limit n d name
  stops_by n name stops =
      elim stops [
        | inl ratio ↦ inl (ratio.0, (ratio.1.0, ratio.1.1, chosen ratio.1.0 ratio.1.2, ratio.1.3, ratio.1.4))
        | inr exchange ↦ inr (exchange.0, exchange.1, allowed exchange.0 exchange.1 exchange.2, exchange.3, exchange.4)
      ]

  at_by : (how : EndKind) (last : Last) → EndsAt Chosen ((pivots ≡ iterlim) × IsUnfinishedBy Chosen d) d how last → EndsAt Wider ((pivots ≡ iterlim) × IsUnfinishedBy Wider d) d how last
  at_by kind.Optimal last h = h
  at_by kind.Infeasible last h = h
  at_by kind.Unbounded last h = (h.0, (h.1.0, unlimited_by h.1.0 h.1.1, h.1.2))
  at_by kind.Interrupted last h = (h.0, h.1, (h.2.0, going_on_by h.2.1), h.3)

  pub ends_by : (end : End F) → EndsSoBy value limit lp iterlim Allowed Chosen pivots d end → EndsSoBy value limit lp iterlim More Wider pivots d end
  ends_by end (ends_by_kind how last at told) = ends_by_kind how last (at_by how last at) told
  ends_by end (limit_is_met most one goes is) = limit_is_met most one (going_on_by goes) is
  ends_by end (step_stops less step is stops) = step_stops less step is (stops_by (pivots + 1) step stops)

-- ---- pivots in turn, and answers

module _ (Allowed More : List Pivot → Dictionary → Pivot → ℕ → Type 0) (allowed : (done : List Pivot) (d : Dictionary) (p : Pivot) (k : ℕ) → Allowed done d p k → More done d p k) where
  pub way_by : (limit n : ℕ) (done : List Pivot) (d : Dictionary) (pivots : List Pivot) (last : Dictionary) → LeadsWithin Allowed limit n done d pivots last → LeadsWithin More limit n done d pivots last
  way_by limit n done d [] last way = (way.0, tt)
  way_by limit n done d (p ∷ pivots) last way =
      let rest = way_by limit (n + 1) (done ++ p ∷ []) (exchanged d p.enter way.0.0) pivots last (way.0.2, way.1.2) in
      ((way.0.0, allowed done d p way.0.0 way.0.1, rest.0), (way.1.0, way.1.1, rest.1))

  pub answers_by : {F : Type 0} (value : F → Number) (limit : ℕ) (lp : Lp F) (iterlim : ℕ) (Chosen Wider : List Pivot → Dictionary → ℕ → Type 0) (answer : Answer F) → ((done : List Pivot) (d : Dictionary) (q : ℕ) → Chosen done d q → Wider done d q) → IsAnswerBy value limit lp iterlim Allowed Chosen answer → IsAnswerBy value limit lp iterlim More Wider answer
  answers_by value limit lp iterlim Chosen Wider answer chosen (bounds_cross none crossed) = bounds_cross none crossed
  answers_by value limit lp iterlim Chosen Wider answer chosen (form_stops none unformed) = form_stops none unformed
  answers_by value limit lp iterlim Chosen Wider answer chosen (search_ends ordered fit few last way ends) =
      let first = first_dictionary (standard_form value lp) in
      search_ends ordered fit few last (way_by limit 1 [] first answer.pivots last way)
      (ends_by value limit lp iterlim (length answer.pivots) last (Allowed answer.pivots last) (More answer.pivots last) (Chosen answer.pivots last) (Wider answer.pivots last) (allowed answer.pivots last) (chosen answer.pivots last) answer.end ends)

module _ {F : Type 0} (value : F → Number) (limit : ℕ) (lp : Lp F) (iterlim : ℕ) where
  pub legal_answer : (choice : Dictionary → List Pivot → Dictionary → ℕ → Type 0) (answer : Answer F) → ((first : Dictionary) (pivots : List Pivot) (d : Dictionary) (q : ℕ) → choice first pivots d q → Improves d q) → IsAnswerByChoice value limit lp iterlim choice answer → IsAnswer value limit lp iterlim Legal answer
  legal_answer choice answer improves h =
      let first = first_dictionary (standard_form value lp) in
      answers_by (ByChoice choice first) (ByRule Legal) (λ done d p k allowed. allowed.0) value limit lp iterlim (choice first) (λ done d. IsChosen Legal d) answer (improves first) h

  pub bland_answer : (answer : Answer F) → IsAnswerByChoice value limit lp iterlim bland_choice answer → IsAnswer value limit lp iterlim Bland answer
  bland_answer answer h =
      let first = first_dictionary (standard_form value lp) in
      answers_by (ByChoice bland_choice first) (ByRule Bland) (λ done d p k allowed. allowed) value limit lp iterlim (bland_choice first) (λ done d. IsChosen Bland d) answer (λ done d q chosen. chosen) h

  pub answer_bland : (answer : Answer F) → IsAnswer value limit lp iterlim Bland answer → IsAnswerByChoice value limit lp iterlim bland_choice answer
  answer_bland answer h =
      let first = first_dictionary (standard_form value lp) in
      answers_by (ByRule Bland) (ByChoice bland_choice first) (λ done d p k allowed. allowed) value limit lp iterlim (λ done d. IsChosen Bland d) (bland_choice first) answer (λ done d q chosen. chosen) h

  -- Bland's pivots are legal, and what it chooses improves
  pub bland_is_legal : (answer : Answer F) → IsAnswer value limit lp iterlim Bland answer → IsAnswer value limit lp iterlim Legal answer
  bland_is_legal answer h =
      answers_by (ByRule Bland) (ByRule Legal) (λ done d p k allowed. allowed.0) value limit lp iterlim (λ done d. IsChosen Bland d) (λ done d. IsChosen Legal d) answer (λ done d q chosen. chosen.0) h
