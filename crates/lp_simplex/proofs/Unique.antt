-- Where a choice names one variable, a program has one answer.
use Rattle.std.proofs.Common.{◌≡◌, ℕ, ◌+◌, ◌<◌, ◌≤◌, inl, inr, List, [], ◌∷◌, ◌++◌, length, map, Some, None, refl, sym, ap, ap₂, ◌∙◌, subst, subst₂, arith}
use Rattle.std.proofs.lemmas.Bool.{cases_lt}
use Rattle.std.proofs.lemmas.List.{append_assoc, append-nil}
use Rattle.std.proofs.lemmas.Option.{slice_get_within}
use Rattle.gq_number.specs.Number.{Number}
use Rattle.lp_core.specs.declared.answer.Pivot.{Pivot}
use Rattle.lp_core.specs.Ends.{IsUnlimitedBy, IsUnfinishedBy, IsPhase, EndsAt, LeadsTo, EndsWith, EndsSoBy, ends_by_kind, limit_is_met, step_stops}
use Rattle.lp_core.specs.Pivots.{NothingImproves, TestFits, last_of, last_along, IsAllowedBy, ByChoice, LeadsWithin}
use Rattle.lp_core.specs.declared.answer.StepName.{StepName}
use Rattle.lp_core.specs.declared.answer.End.{End}
use Rattle.lp_core.specs.declared.answer.EndKind.{EndKind}
use Rattle.lp_core.specs.declared.answer.EndKind.TheVariants as kind
use Rattle.lp_core.specs.declared.answer.End.TheVariants.{Optimal, Infeasible, Unbounded, Interrupted, Refused}
use Rattle.lp_core.specs.declared.answer.Answer.{Answer}
use Rattle.lp_core.specs.declared.program.Column.{Column}
use Rattle.lp_core.specs.declared.program.Lp.{Lp}
use Rattle.lp_core.specs.WellFormed.{IsWellFormed}
use Rattle.lp_core.specs.Proofs.{Crosses, FirstCrossed, row_sums}
use Rattle.lp_core.specs.StandardForm.{Last, standard_form, levels_back, duals_back, reduced_back, farkas_back, ray_back}
use Rattle.lp_core.specs.Dictionary.{Dictionary, basic_at, OpeningIsRequired, Improves, Limits, Ties, IsLegal, first_dictionary, exchanged}
use Rattle.lp_core.specs.Steps.{AllFit, FirstStop, ratio_steps, exchange_steps, standard_steps, steps_back}
use Rattle.lp_core.specs.Answers.{EndsCrossed, EndsUnformed, bounds_cross, form_stops, search_ends, IsAnswerByChoice}
use Rattle.lp_fraction_dict.specs.Pivots.{IsProper}
use Rattle.lp_fraction_dict.proofs.Kept.{get_index}
use Rattle.lp_fraction_dict.proofs.Proper.{proper_after}
use Rattle.lp_simplex.specs.InnerStates.{StopsBy}
use Rattle.lp_simplex.proofs.Stops.{same_stop, fit_or_stop}
use Rattle.lp_simplex.proofs.PivotSteps.{turn_of, leaves_row, goes_on_by_pivot, goes_on_by_stop}
use Rattle.lp_simplex.proofs.ProgramDictionaries.{first_occurs}

-- ---- one pivot

both_least : (a b : ℕ) → a ≤ b → b ≤ a → a ≡ b
both_least a b less more = omega arith

pivot_is : (p q : Pivot) → p.enter ≡ q.enter → p.leave ≡ q.leave → p ≡ q
pivot_is p q enters leaves = ap₂ turn_of enters leaves

row_is : (d : Dictionary) (q : Pivot) (j : ℕ) → IsLegal d q j → basic_at d j ≡ q.leave
row_is d q j legal = get_index d.basic j q.leave 0 (leaves_row d q j legal)

-- what is chosen at a dictionary is one variable, which improves
module _ (d : Dictionary) (Chosen : ℕ → Type 0) (improves : (q : ℕ) → Chosen q → Improves d q) (once : (q r : ℕ) → Chosen q → Chosen r → q ≡ r) where
  abbrev Allowed : Pivot → ℕ → Type 0
  Allowed p k = IsAllowedBy Chosen d p k

  leaves_at_most : (p q : Pivot) (k j : ℕ) → Allowed p k → Allowed q j → p.enter ≡ q.enter → p.leave ≤ q.leave
  leaves_at_most p q k j one two enters =
      subst (λ n. p.leave ≤ n) (row_is d q j two.0)
      (elim two.0 [
        | inl opening ↦ one.1.opens j opening.required opening.least
        | inr step ↦ one.1.leaves j step.not_required (subst (λ e. Ties d e j) (sym enters) step.ties)
      ])

  enters_same : (p q : Pivot) (k j : ℕ) → Allowed p k → Allowed q j → p.enter ≡ q.enter
  enters_same p q k j one two =
      elim one.0 [
        | inl opening ↦ elim two.0 [
          | inl again ↦ opening.enters ∙ sym again.enters
          | inr step ↦ absurd (step.not_required opening.required)
        ]
        | inr step ↦ once p.enter q.enter (one.1.enters step.not_required) (two.1.enters step.not_required)
      ]

  pub same_pivot : (p q : Pivot) (k j : ℕ) → Allowed p k → Allowed q j → p ≡ q
  same_pivot p q k j one two =
      let enters = enters_same p q k j one two in
      pivot_is p q enters (both_least p.leave q.leave (leaves_at_most p q k j one two enters) (leaves_at_most q p j k two one (sym enters)))

  pub same_row : (p q : Pivot) (k j : ℕ) → IsProper d → Allowed p k → Allowed q j → k ≡ j
  same_row p q k j proper one two =
      let same = same_pivot p q k j one two in
      proper.distinct k j p.leave (leaves_row d p k one.0) (leaves_row d q j two.0 ∙ ap (λ (r : Pivot). Some r.leave) (sym same))

  -- ---- what is the case at a dictionary excludes all else

  nothing_or_goes : NothingImproves d → IsUnfinishedBy Chosen d → ⊥
  nothing_or_goes none goes = elim goes [ inl required ↦ none.0 required | inr more ↦ none.1 more.1.0 (improves more.1.0 more.1.2) ]

  nothing_or_unlimited : (q : ℕ) → NothingImproves d → IsUnlimitedBy Chosen d q → ⊥
  nothing_or_unlimited q none along = none.1 q (improves q along.1)

  unlimited_or_goes : (q : ℕ) → IsUnlimitedBy Chosen d q → IsUnfinishedBy Chosen d → ⊥
  unlimited_or_goes q along goes =
      elim goes [
        | inl required ↦ along.0 required
        | inr more ↦ along.2 more.1.1 (subst (λ r. Limits d r more.1.1) (once more.1.0 q more.1.2 along.1) more.1.3)
      ]

  -- the ratio test of an allowed pivot is that of the variable which is chosen
  ratio_or_pivot : (limit n : ℕ) (p : Pivot) (k q : ℕ) (a : StepName) → Allowed p k → TestFits limit n d p → ¬ (OpeningIsRequired d) → Chosen q → FirstStop (ratio_steps limit n d q) a → ⊥
  ratio_or_pivot limit n p k q a allowed tested none chosen stop =
      let same = once q p.enter chosen (allowed.1.enters none) in
      fit_or_stop (ratio_steps limit n d p.enter) a (tested none) (subst (λ r. FirstStop (ratio_steps limit n d r) a) same stop)

  -- the first step of a further pivot that does not fit is one
  one_stop : (limit n : ℕ) (a b : StepName) → IsProper d → StopsBy Chosen limit n d a → StopsBy Chosen limit n d b → a ≡ b
  one_stop limit n a b proper (inl one) (inl two) =
      let same = once two.1.0 one.1.0 two.1.2 one.1.2 in
      same_stop (ratio_steps limit n d one.1.0) a b one.1.4 (subst (λ r. FirstStop (ratio_steps limit n d r) b) same two.1.4)
  one_stop limit n a b proper (inl one) (inr two) = absurd (ratio_or_pivot limit n two.0 two.1 one.1.0 a two.2 two.3 one.0 one.1.2 one.1.4)
  one_stop limit n a b proper (inr one) (inl two) = absurd (ratio_or_pivot limit n one.0 one.1 two.1.0 b one.2 one.3 two.0 two.1.2 two.1.4)
  one_stop limit n a b proper (inr one) (inr two) =
      let pivot = same_pivot two.0 one.0 two.1 one.1 two.2 one.2 in
      let row = same_row two.0 one.0 two.1 one.1 proper two.2 one.2 in
      same_stop (exchange_steps limit n d one.0.enter one.1) a b one.4 (subst₂ (λ (p : Pivot) (k : ℕ). FirstStop (exchange_steps limit n d p.enter k) b) pivot row two.4)

  -- and there is none where the steps of an allowed pivot fit
  stop_or_pivot : (limit n : ℕ) (p : Pivot) (k : ℕ) (a : StepName) → IsProper d → Allowed p k → TestFits limit n d p → AllFit (exchange_steps limit n d p.enter k) → StopsBy Chosen limit n d a → ⊥
  stop_or_pivot limit n p k a proper allowed tested fit (inl ratio) = ratio_or_pivot limit n p k ratio.1.0 a allowed tested ratio.0 ratio.1.2 ratio.1.4
  stop_or_pivot limit n p k a proper allowed tested fit (inr exchange) =
      let pivot = same_pivot exchange.0 p exchange.1 k exchange.2 allowed in
      let row = same_row exchange.0 p exchange.1 k proper exchange.2 allowed in
      fit_or_stop (exchange_steps limit n d p.enter k) a fit (subst₂ (λ (r : Pivot) (j : ℕ). FirstStop (exchange_steps limit n d r.enter j) a) pivot row exchange.4)

-- ---- the end at one dictionary

-- lists whose values mean the same numbers are the same
same_list : {F : Type 0} (value : F → Number) → ((x y : F) → value x ≡ value y → x ≡ y) → (xs ys : List F) → map value xs ≡ map value ys → xs ≡ ys
same_list value inj [] [] e = refl
same_list value inj [] (y ∷ ys) e = absurd (cc)
same_list value inj (x ∷ xs) [] e = absurd (cc)
same_list value inj (x ∷ xs) (y ∷ ys) e = ap₂ (λ z l. z ∷ l) (inj x y (cc)) (same_list value inj xs ys (cc))

phase_once : (d : Dictionary) (a b : ℕ) → IsPhase d a → IsPhase d b → a ≡ b
phase_once d a b (inl one) (inl two) = one.0 ∙ sym two.0
phase_once d a b (inr one) (inr two) = one.0 ∙ sym two.0
phase_once d a b (inl one) (inr two) = absurd (elim one.1 [ inl required ↦ two.1 required | inr phase ↦ two.2 phase ])
phase_once d a b (inr one) (inl two) = absurd (elim two.1 [ inl required ↦ one.1 required | inr phase ↦ one.2 phase ])

module _ {F : Type 0} (value : F → Number) (inj : (x y : F) → value x ≡ value y → x ≡ y) (limit : ℕ) (lp : Lp F) where
  -- what the recovery of each kind computes, with the end that has it
  abbrev Told : EndKind → Last → End F → Type 0
  Told kind.Optimal last end =
      (x s y r : List F) × (end ≡ Optimal x s y r) × (map value x ≡ levels_back value lp last) × (map value s ≡ row_sums value lp (levels_back value lp last))
      × (map value y ≡ duals_back value lp last) × (map value r ≡ reduced_back value lp last)
  Told kind.Infeasible last end = (y : List F) × (end ≡ Infeasible y None) × (map value y ≡ farkas_back value lp last)
  Told kind.Unbounded last end =
      (x s r : List F) × (end ≡ Unbounded x s r) × (map value x ≡ levels_back value lp last) × (map value s ≡ row_sums value lp (levels_back value lp last))
      × (map value r ≡ ray_back value lp last)
  Told kind.Interrupted last end =
      (x s : List F) × (end ≡ Interrupted 2 x s) × (map value x ≡ levels_back value lp last) × (map value s ≡ row_sums value lp (levels_back value lp last))

  told_of : (how : EndKind) (last : Last) (end : End F) → LeadsTo value lp how last end → Told how last end
  told_of kind.Optimal last (Optimal x s y r) h = (x, s, y, r, refl, h.0, h.1, h.2, h.3)
  told_of kind.Infeasible last (Infeasible y crossed) h = (y, ap (Infeasible y) h.1, h.0)
  told_of kind.Unbounded last (Unbounded x s r) h = (x, s, r, refl, h.0, h.1, h.2)
  told_of kind.Interrupted last (Interrupted phase x s) h = (x, s, ap (λ n. Interrupted n x s) h.0, h.1, h.2)
  told_of how last end h = absurd h

  lists_same : (x y : List F) (n : List Number) → map value x ≡ n → map value y ≡ n → x ≡ y
  lists_same x y n one two = same_list value inj x y (one ∙ sym two)

  told_once : (how : EndKind) (last : Last) (a b : End F) → Told how last a → Told how last b → a ≡ b
  told_once kind.Optimal last a b (x, s, y, r, is, xs, ss, ys, rs) (x', s', y', r', is', xs', ss', ys', rs') =
      is
      ∙ ap₂ (λ l m. Optimal l m y r) (lists_same x x' (levels_back value lp last) xs xs') (lists_same s s' (row_sums value lp (levels_back value lp last)) ss ss')
      ∙ ap₂ (λ l m. Optimal x' s' l m) (lists_same y y' (duals_back value lp last) ys ys') (lists_same r r' (reduced_back value lp last) rs rs')
      ∙ sym is'
  told_once kind.Infeasible last a b (y, is, ys) (y', is', ys') = is ∙ ap (λ l. Infeasible l None) (lists_same y y' (farkas_back value lp last) ys ys') ∙ sym is'
  told_once kind.Unbounded last a b (x, s, r, is, xs, ss, rs) (x', s', r', is', xs', ss', rs') =
      is
      ∙ ap₂ (λ l m. Unbounded l m r) (lists_same x x' (levels_back value lp last) xs xs') (lists_same s s' (row_sums value lp (levels_back value lp last)) ss ss')
      ∙ ap (Unbounded x' s') (lists_same r r' (ray_back value lp last) rs rs')
      ∙ sym is'
  told_once kind.Interrupted last a b (x, s, is, xs, ss) (x', s', is', xs', ss') =
      is ∙ ap₂ (Interrupted 2) (lists_same x x' (levels_back value lp last) xs xs') (lists_same s s' (row_sums value lp (levels_back value lp last)) ss ss') ∙ sym is'

  -- there is one end of a kind, by what was read
  with_once : (how : EndKind) (last : Last) (a b : End F) → EndsWith value limit lp how last a → EndsWith value limit lp how last b → a ≡ b
  with_once how last a b (inl one) (inl two) = told_once how last a b (told_of how last a one.0) (told_of how last b two.0)
  with_once how last a b (inl one) (inr two) = absurd (fit_or_stop (steps_back value limit lp how last) two.0 one.1 two.2)
  with_once how last a b (inr one) (inl two) = absurd (fit_or_stop (steps_back value limit lp how last) one.0 two.1 one.2)
  with_once how last a b (inr one) (inr two) = one.1 ∙ ap Refused (same_stop (steps_back value limit lp how last) one.0 two.0 one.2 two.2) ∙ sym two.1

  read_once : (how : EndKind) (l m r : Last) (a b : End F) → l ≡ r → m ≡ r → EndsWith value limit lp how l a → EndsWith value limit lp how m b → a ≡ b
  read_once how l m r a b l_is m_is one two = with_once how r a b (subst (λ x. EndsWith value limit lp how x a) l_is one) (subst (λ x. EndsWith value limit lp how x b) m_is two)

module _ {F : Type 0} (value : F → Number) (inj : (x y : F) → value x ≡ value y → x ≡ y) (limit : ℕ) (lp : Lp F) (iterlim pivots : ℕ) (d : Dictionary) (proper : IsProper d) (Chosen : ℕ → Type 0) (improves : (q : ℕ) → Chosen q → Improves d q) (once : (q r : ℕ) → Chosen q → Chosen r → q ≡ r) where
  -- at the dictionary a search ends by this kind, and this is read
  abbrev At : EndKind → Last → Type 0
  At how last = EndsAt Chosen ((pivots ≡ iterlim) × IsUnfinishedBy Chosen d) d how last

  same_with : (h k : EndKind) (l m : Last) (a b : End F) → At h l → At k m → EndsWith value limit lp h l a → EndsWith value limit lp k m b → a ≡ b
  same_with kind.Optimal kind.Optimal l m a b at also one two = read_once value inj limit lp kind.Optimal l m (last_of d) a b at.2 also.2 one two
  same_with kind.Optimal kind.Infeasible l m a b at also one two = absurd (at.0 also.0)
  same_with kind.Optimal kind.Unbounded l m a b at also one two = absurd (nothing_or_unlimited d Chosen improves once also.1.0 at.1 also.1.1)
  same_with kind.Optimal kind.Interrupted l m a b at also one two = absurd (nothing_or_goes d Chosen improves once at.1 also.2.1)
  same_with kind.Infeasible kind.Optimal l m a b at also one two = absurd (also.0 at.0)
  same_with kind.Infeasible kind.Infeasible l m a b at also one two = read_once value inj limit lp kind.Infeasible l m (last_of d) a b at.2 also.2 one two
  same_with kind.Infeasible kind.Unbounded l m a b at also one two = absurd (also.0 at.0)
  same_with kind.Infeasible kind.Interrupted l m a b at also one two = absurd (also.0 at.0)
  same_with kind.Unbounded kind.Optimal l m a b at also one two = absurd (nothing_or_unlimited d Chosen improves once at.1.0 also.1 at.1.1)
  same_with kind.Unbounded kind.Infeasible l m a b at also one two = absurd (at.0 also.0)
  same_with kind.Unbounded kind.Unbounded l m a b at also one two =
      let same : also.1.0 ≡ at.1.0 = once also.1.0 at.1.0 also.1.1.1 at.1.1.1 in
      read_once value inj limit lp kind.Unbounded l m (last_along d at.1.0) a b at.1.2 (also.1.2 ∙ ap (last_along d) same) one two
  same_with kind.Unbounded kind.Interrupted l m a b at also one two = absurd (unlimited_or_goes d Chosen improves once at.1.0 at.1.1 also.2.1)
  same_with kind.Interrupted kind.Optimal l m a b at also one two = absurd (nothing_or_goes d Chosen improves once also.1 at.2.1)
  same_with kind.Interrupted kind.Infeasible l m a b at also one two = absurd (at.0 also.0)
  same_with kind.Interrupted kind.Unbounded l m a b at also one two = absurd (unlimited_or_goes d Chosen improves once also.1.0 also.1.1 at.2.1)
  same_with kind.Interrupted kind.Interrupted l m a b at also one two = read_once value inj limit lp kind.Interrupted l m (last_of d) a b at.3 also.3 one two

  less_or_same : pivots < iterlim → pivots ≡ iterlim → ⊥
  less_or_same less same = omega arith

  -- a search does not end with a kind if a further pivot is required and the limit is not met, or
  -- in phase 1
  at_or_more : (how : EndKind) (last : Last) → At how last → pivots < iterlim → IsUnfinishedBy Chosen d → ⊥
  at_or_more kind.Optimal last at less goes = nothing_or_goes d Chosen improves once at.1 goes
  at_or_more kind.Infeasible last at less goes = nothing_or_goes d Chosen improves once at.1 goes
  at_or_more kind.Unbounded last at less goes = unlimited_or_goes d Chosen improves once at.1.0 at.1.1 goes
  at_or_more kind.Interrupted last at less goes = less_or_same less at.2.0

  one_or_two : (n : ℕ) → n ≡ 1 → n ≡ 2 → ⊥
  one_or_two n one two = omega arith

  at_or_one : (how : EndKind) (last : Last) → At how last → IsPhase d 1 → IsUnfinishedBy Chosen d → ⊥
  at_or_one kind.Optimal last at phase goes = nothing_or_goes d Chosen improves once at.1 goes
  at_or_one kind.Infeasible last at phase goes = nothing_or_goes d Chosen improves once at.1 goes
  at_or_one kind.Unbounded last at phase goes = unlimited_or_goes d Chosen improves once at.1.0 at.1.1 goes
  at_or_one kind.Interrupted last at phase goes = one_or_two 1 refl (phase_once d 1 2 phase (inr (refl, at.1, at.0)))

  stop_goes : (step : StepName) → StopsBy Chosen limit (pivots + 1) d step → IsUnfinishedBy Chosen d
  stop_goes step stops = goes_on_by_stop Chosen limit (pivots + 1) d step stops

  pub one_end : (a b : End F) → EndsSoBy value limit lp iterlim (IsAllowedBy Chosen d) Chosen pivots d a → EndsSoBy value limit lp iterlim (IsAllowedBy Chosen d) Chosen pivots d b → a ≡ b
  one_end a b (ends_by_kind h l at one) (ends_by_kind k m also two) = same_with h k l m a b at also one two
  one_end a b (ends_by_kind how last at told) (limit_is_met most one goes is) = absurd (at_or_one how last at one goes)
  one_end a b (ends_by_kind how last at told) (step_stops less step is stops) = absurd (at_or_more how last at less (stop_goes step stops))
  one_end a b (limit_is_met most one goes is) (ends_by_kind how last at told) = absurd (at_or_one how last at one goes)
  one_end a b (limit_is_met most one goes is) (limit_is_met also two more same) = is ∙ sym same
  one_end a b (limit_is_met most one goes is) (step_stops less step same stops) = absurd (less_or_same less most)
  one_end a b (step_stops less step is stops) (ends_by_kind how last at told) = absurd (at_or_more how last at less (stop_goes step stops))
  one_end a b (step_stops less step is stops) (limit_is_met most one goes same) = absurd (less_or_same less most)
  one_end a b (step_stops less step is stops) (step_stops also other same halts) = is ∙ ap Refused (one_stop d Chosen improves once limit (pivots + 1) step other proper stops halts) ∙ sym same

  -- where an allowed pivot's steps fit and the limit is not met, the search does not end
  pub ends_or_pivots : (end : End F) (p : Pivot) (k : ℕ) → pivots < iterlim → IsAllowedBy Chosen d p k → TestFits limit (pivots + 1) d p → AllFit (exchange_steps limit (pivots + 1) d p.enter k) → EndsSoBy value limit lp iterlim (IsAllowedBy Chosen d) Chosen pivots d end → ⊥
  ends_or_pivots end p k less allowed tested fit (ends_by_kind how last at told) = at_or_more how last at less (goes_on_by_pivot Chosen d p k allowed)
  ends_or_pivots end p k less allowed tested fit (limit_is_met most one goes is) = less_or_same less most
  ends_or_pivots end p k less allowed tested fit (step_stops also step is stops) = stop_or_pivot d Chosen improves once limit (pivots + 1) p k step proper allowed tested fit stops

-- ---- the run of pivots

module _ {F : Type 0} (value : F → Number) (inj : (x y : F) → value x ≡ value y → x ≡ y) (limit : ℕ) (lp : Lp F) (iterlim : ℕ) (choice : Dictionary → List Pivot → Dictionary → ℕ → Type 0) (improves : (first : Dictionary) (pivots : List Pivot) (d : Dictionary) (q : ℕ) → choice first pivots d q → Improves d q) (once : (first : Dictionary) (pivots : List Pivot) (d : Dictionary) (q r : ℕ) → choice first pivots d q → choice first pivots d r → q ≡ r) where
  -- all pivots, how many they are, the dictionary that they lead to, and the end there
  abbrev EndsAfter : Dictionary → List Pivot → ℕ → Dictionary → End F → Type 0
  EndsAfter first all count last end = EndsSoBy value limit lp iterlim (IsAllowedBy (choice first all last) last) (choice first all last) count last end

  -- where the search ends no further pivot follows
  ends_or_goes : (first : Dictionary) (done : List Pivot) (n a : ℕ) (d : Dictionary) (p : Pivot) (k : ℕ) (last : Dictionary) (end : End F) → IsProper d → n ≡ a + 1 → a < iterlim → last ≡ d → IsAllowedBy (choice first done d) d p k → TestFits limit n d p → AllFit (exchange_steps limit n d p.enter k) → EndsAfter first (done ++ []) a last end → ⊥
  ends_or_goes first done n a d p k last end proper next less here allowed tested fit ends =
      ends_or_pivots value inj limit lp iterlim a d proper (choice first done d) (improves first done d) (once first done d) end p k less allowed
      (subst (λ c. TestFits limit c d p) next tested) (subst (λ c. AllFit (exchange_steps limit c d p.enter k)) next fit)
      (subst₂ (λ l e. EndsAfter first l a e end) (append-nil done) here ends)

  -- n is the number of the next pivot, the pivots `done` lead to d, and a and b count all pivots of
  -- the two runs
  same_pivot_run : (first : Dictionary) (done : List Pivot) (n m a b : ℕ) (d : Dictionary) (ps qs : List Pivot) (one two : Dictionary) (e f : End F) → IsProper d → n ≡ m + 1 → a ≡ m + length ps → b ≡ m + length qs → a ≤ iterlim → b ≤ iterlim
      → LeadsWithin (ByChoice choice first) limit n done d ps one → LeadsWithin (ByChoice choice first) limit n done d qs two → EndsAfter first (done ++ ps) a one e → EndsAfter first (done ++ qs) b two f → (ps ≡ qs) × (e ≡ f)
  same_pivot_run first done n m a b d [] [] one two e f proper next a_is b_is few less way also ends ending =
      let count : b ≡ a = omega arith in
      let here : EndsAfter first (done ++ []) a d e = subst (λ x. EndsAfter first (done ++ []) a x e) way.0 ends in
      let there : EndsAfter first (done ++ []) a d f = subst (λ x. EndsAfter first (done ++ []) a x f) also.0 (subst (λ c. EndsAfter first (done ++ []) c two f) count ending) in
      (refl, one_end value inj limit lp iterlim a d proper (choice first (done ++ []) d) (improves first (done ++ []) d) (once first (done ++ []) d) e f here there)
  same_pivot_run first done n m a b d [] (q ∷ qs) one two e f proper next a_is b_is few less way also ends ending =
      absurd (ends_or_goes first done n a d q also.0.0 one e proper (omega arith) (omega arith) way.0 also.0.1 also.1.0 also.1.1 ends)
  same_pivot_run first done n m a b d (p ∷ ps) [] one two e f proper next a_is b_is few less way also ends ending =
      absurd (ends_or_goes first done n b d p way.0.0 two f proper (omega arith) (omega arith) also.0 way.0.1 way.1.0 way.1.1 ending)
  same_pivot_run first done n m a b d (p ∷ ps) (q ∷ qs) one two e f proper next a_is b_is few less way also ends ending =
      let pivot = same_pivot d (choice first done d) (improves first done d) (once first done d) q p also.0.0 way.0.0 also.0.1 way.0.1 in
      let row = same_row d (choice first done d) (improves first done d) (once first done d) q p also.0.0 way.0.0 proper also.0.1 way.0.1 in
      let on : LeadsWithin (ByChoice choice first) limit (n + 1) (done ++ p ∷ []) (exchanged d p.enter way.0.0) qs two =
      subst₂ (λ (r : Pivot) (j : ℕ). LeadsWithin (ByChoice choice first) limit (n + 1) (done ++ r ∷ []) (exchanged d r.enter j) qs two) pivot row (also.0.2, also.1.2) in
      let mine : done ++ p ∷ ps ≡ (done ++ p ∷ []) ++ ps = sym (append_assoc done (p ∷ []) ps) in
      let other : done ++ q ∷ qs ≡ (done ++ p ∷ []) ++ qs = ap (λ r. done ++ r ∷ qs) pivot ∙ sym (append_assoc done (p ∷ []) qs) in
      let rest =
      same_pivot_run first (done ++ p ∷ []) (n + 1) (m + 1) a b (exchanged d p.enter way.0.0) ps qs one two e f (proper_after d p way.0.0 proper way.0.1.0) (omega arith) (omega arith) (omega arith) few less (way.0.2, way.1.2) on
      (subst (λ l. EndsAfter first l a one e) mine ends) (subst (λ l. EndsAfter first l b two f) other ending) in
      (ap₂ (λ r l. r ∷ l) (sym pivot) rest.0, rest.1)

  -- ---- the other answers

  earlier : (a b : ℕ) → a < b → FirstCrossed value lp.columns (Some a) → FirstCrossed value lp.columns (Some b) → ⊥
  earlier a b less here there =
      let column = here.0.0 in
      there.1 a column (omega arith) less (subst (λ (c : Column F). Crosses value c.lower c.upper) (sym (get_index lp.columns a column column here.0.1)) here.0.2)

  place_once : (j i : ℕ) → FirstCrossed value lp.columns (Some j) → FirstCrossed value lp.columns (Some i) → j ≡ i
  place_once j i one two =
      elim (cases_lt j i) [
        | inl less ↦ absurd (earlier j i less one two)
        | inr most ↦ elim (cases_lt i j) [ inl less ↦ absurd (earlier i j less two one) | inr more ↦ both_least j i more most ]
      ]

  crossed_ends : (e f : End F) → EndsCrossed value lp e → EndsCrossed value lp f → e ≡ f
  crossed_ends e f (y, j, is, one) (z, i, is', two) =
      is ∙ ap₂ (λ l n. Infeasible l (Some n)) (same_list value inj y z (one.duals_zero ∙ sym two.duals_zero)) (place_once j i one.first two.first) ∙ sym is'

  crosses_somewhere : (j : ℕ) → FirstCrossed value lp.columns (Some j) → FirstCrossed value lp.columns None → ⊥
  crosses_somewhere j h none =
      let column = h.0.0 in
      none j column (slice_get_within lp.columns j column h.0.1) (subst (λ (c : Column F). Crosses value c.lower c.upper) (sym (get_index lp.columns j column column h.0.1)) h.0.2)

  unformed_ends : (e f : End F) → EndsUnformed value limit lp e → EndsUnformed value limit lp f → e ≡ f
  unformed_ends e f one two = one.1.1 ∙ ap Refused (same_stop (standard_steps value limit lp) one.1.0 two.1.0 one.1.2 two.1.2) ∙ sym two.1.1

  abbrev answer_with : List Pivot → End F → Answer F
  answer_with pivots end = record { pivots = pivots; end = end }

  pub one_answer_by : (a b : Answer F) → IsWellFormed value lp → IsAnswerByChoice value limit lp iterlim choice a → IsAnswerByChoice value limit lp iterlim choice b → a ≡ b
  one_answer_by a b formed (bounds_cross none one) (bounds_cross nothing two) = ap₂ answer_with (none ∙ sym nothing) (crossed_ends a.end b.end one two)
  one_answer_by a b formed (bounds_cross none one) (form_stops nothing two) = absurd (crosses_somewhere one.1 one.3.first two.0)
  one_answer_by a b formed (bounds_cross none one) (search_ends ordered fit few last way ends) = absurd (crosses_somewhere one.1 one.3.first ordered)
  one_answer_by a b formed (form_stops none one) (bounds_cross nothing two) = absurd (crosses_somewhere two.1 two.3.first one.0)
  one_answer_by a b formed (search_ends ordered fit few last way ends) (bounds_cross nothing two) = absurd (crosses_somewhere two.1 two.3.first ordered)
  one_answer_by a b formed (form_stops none one) (form_stops nothing two) = ap₂ answer_with (none ∙ sym nothing) (unformed_ends a.end b.end one two)
  one_answer_by a b formed (form_stops none one) (search_ends ordered fit few last way ends) = absurd (fit_or_stop (standard_steps value limit lp) one.1.0 fit one.1.2)
  one_answer_by a b formed (search_ends ordered fit few last way ends) (form_stops nothing two) = absurd (fit_or_stop (standard_steps value limit lp) two.1.0 fit two.1.2)
  one_answer_by a b formed (search_ends ordered fit few last way ends) (search_ends also fits fewer there other finish) =
      let first = first_dictionary (standard_form value lp) in
      let proper = (first_occurs value lp formed).proper in
      let same = same_pivot_run first [] 1 0 (length a.pivots) (length b.pivots) first a.pivots b.pivots last there a.end b.end proper (omega arith) (omega arith) (omega arith) few fewer way other ends finish in
      ap₂ answer_with same.0 same.1
