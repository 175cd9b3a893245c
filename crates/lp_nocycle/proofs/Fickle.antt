-- No run of Bland's pivots repeats its basic variables (Chvatal, Linear Programming, chapter 3).
use Rattle.std.proofs.Common.{◌≡◌, ◌≢◌, ℕ, zero, suc, ◌+◌, ◌<◌, ◌≤◌, inl, inr, pos, length, Some, refl, sym, ap, ◌∙◌, subst, arith}
use Rattle.std.specs.Prelude.{slice_get, Contains}
use Rattle.std.proofs.lemmas.Bool.{cases_lt}
use Rattle.gq_number.specs.Number.{Number, whole, ◌*ℚ◌, ◌/ℚ◌, neg_ℚ}
use Rattle.gq_number.specs.Order.{◌≤ℚ◌, ◌<ℚ◌}
use Rattle.gq_number.proofs.Field.{*ℚ-one}
use Rattle.gq_number.proofs.Ring.{ring_ℚ, zero-*ℚ, *ℚ-zero, one-*ℚ, neg_neg}
use Rattle.gq_number.proofs.Order.{≤ℚ_or_above, ≤ℚ_from_≡, <ℚ_irrefl, <ℚ_trans, not_above}
use Rattle.gq_number.proofs.Signs.{*ℚ_above-below, below_from_neg, *ℚ-≤ℚ_turned}
use Rattle.gq_number.proofs.Quotients.{zero-/ℚ}
use Rattle.lp_core.specs.declared.answer.Pivot.{Pivot}
use Rattle.lp_core.specs.Dictionary.{Dictionary, basic_at, constant_at, entry_at, ratio_at, InPhaseOne, IsPriced, IsStep, IsOpening, Improves, Limits}
use Rattle.lp_core.specs.Ends.{IsPhase}
use Rattle.lp_fraction_dict.specs.Pivots.{IsProper}
use Rattle.lp_fraction_dict.proofs.Kept.{get_within, get_index, index_get, contains_get}
use Rattle.lp_fraction_dict.proofs.Improving.{same_or_not, found_or_not}
use Rattle.lp_nocycle.specs.Cycling.{SameBasic}
use Rattle.lp_nocycle.proofs.Sparse.{SomeAbove, some_above, some_above_for}
use Rattle.lp_nocycle.proofs.Agreeing.{form, Solves, Agrees}
use Rattle.lp_nocycle.proofs.Units.{some_is, place_of, IsFree, free_of, unit, unit_here, unit_free, unit_basic, unit_is, unit_solves, objective_of_unit}
use Rattle.lp_nocycle.proofs.Runs.{IsRun, AreBlands, some_below, greatest_below}
use Rattle.lp_nocycle.proofs.Runs
use Rattle.lp_nocycle.proofs.Level.{Returns}
use Rattle.lp_nocycle.proofs.Level

-- ---- numbers

-- no factor of a product above 0 is 0
first_some : (x y : Number) → whole (pos 0) <ℚ x *ℚ y → x ≢ whole (pos 0)
first_some x y above none = <ℚ_irrefl (whole (pos 0)) (subst (λ w. whole (pos 0) <ℚ w) (ap (λ a. a *ℚ y) none ∙ zero-*ℚ y) above)

second_some : (x y : Number) → whole (pos 0) <ℚ x *ℚ y → y ≢ whole (pos 0)
second_some x y above none = <ℚ_irrefl (whole (pos 0)) (subst (λ w. whole (pos 0) <ℚ w) (ap (λ a. x *ℚ a) none ∙ *ℚ-zero x) above)

-- if a product with a negated factor is above 0 and the other factor is at most 0, the negated
-- number is above 0
negated_above : (x y : Number) → whole (pos 0) <ℚ x *ℚ neg_ℚ y → x ≤ℚ whole (pos 0) → whole (pos 0) <ℚ y
negated_above x y above below =
    elim (≤ℚ_or_above y (whole (pos 0))) [
      | inl most ↦ absurd (not_above (whole (pos 0)) (x *ℚ y) (subst (λ w. w ≤ℚ x *ℚ y) (zero-*ℚ y) (*ℚ-≤ℚ_turned x (whole (pos 0)) y most below)) (below_from_neg (x *ℚ y) (subst (λ w. whole (pos 0) <ℚ w) (let h : x *ℚ neg_ℚ y ≡ neg_ℚ (x *ℚ y) = simp ring_ℚ in h) above)))
      | inr more ↦ more
    ]

-- a product with a negated factor is not above 0 where the other and what was negated are
negated_below : (x y : Number) → whole (pos 0) <ℚ x → whole (pos 0) <ℚ y → ¬ (whole (pos 0) <ℚ x *ℚ neg_ℚ y)
negated_below x y above_x above_y above =
    <ℚ_irrefl (whole (pos 0)) (<ℚ_trans (whole (pos 0)) (x *ℚ neg_ℚ y) (whole (pos 0)) above (*ℚ_above-below x (neg_ℚ y) above_x (below_from_neg (neg_ℚ y) (subst (λ w. whole (pos 0) <ℚ w) (sym (neg_neg y)) above_y))))

one_times_below : (x y : Number) → x ≡ whole (pos 1) → whole (pos 0) <ℚ y → x *ℚ neg_ℚ y <ℚ whole (pos 0)
one_times_below x y one above =
    subst (λ w. w <ℚ whole (pos 0)) (sym (ap (λ a. a *ℚ neg_ℚ y) one ∙ one-*ℚ (neg_ℚ y))) (below_from_neg (neg_ℚ y) (subst (λ w. whole (pos 0) <ℚ w) (sym (neg_neg y)) above))

-- ---- two dictionaries that agree, of which a variable improves in the first

-- a term of the priced row of the later dictionary, at the direction of the first, that is above 0
abbrev pub TermAbove : Dictionary → Dictionary → ℕ → ℕ → Type 0
TermAbove d e s k = (v : ℕ) × (v ≢ 0) × (v ≤ e.variables) × (whole (pos 0) <ℚ entry_at e k v *ℚ unit d (s + 1) (v + 1))

module _ (d e : Dictionary) (proper : IsProper d) (proper_too : IsProper e) (agrees : Agrees d e) (s k : ℕ) (improves : Improves d s) (priced : IsPriced d k) (priced_too : IsPriced e k) where
  free_s : IsFree d (s + 1)
  free_s = free_of d s improves.not_basic

  within_s : s + 1 < d.variables + 2
  within_s = let there = improves.there in omega arith

  direction_solves : Solves d (unit d (s + 1))
  direction_solves = unit_solves d proper (s + 1) free_s within_s

  -- column 0 is 0 in a direction
  constant_none : unit d (s + 1) 0 ≡ whole (pos 0)
  constant_none = unit_free d (s + 1) 0 (λ i v at same. absurd (omega arith)) (λ same. absurd (omega arith))

  times_none : (x y : Number) → y ≡ whole (pos 0) → ¬ (whole (pos 0) <ℚ x *ℚ y)
  times_none x y none above = second_some x y above none

  -- the term is not that of column 0
  past_constant : (c : ℕ) → c < 0 + (e.variables + 2) → whole (pos 0) <ℚ e.numbers k c *ℚ unit d (s + 1) c → ¬ (whole (pos 0) <ℚ entry_at e k 0 *ℚ unit d (s + 1) (0 + 1)) → TermAbove d e s k
  past_constant zero within above not_zero = absurd (times_none (e.numbers k 0) (unit d (s + 1) 0) constant_none above)
  past_constant (suc v) within above not_zero =
      let column : suc v ≡ v + 1 = omega arith in
      let term : whole (pos 0) <ℚ entry_at e k v *ℚ unit d (s + 1) (v + 1) = subst (λ c. whole (pos 0) <ℚ e.numbers k c *ℚ unit d (s + 1) c) column above in
      (v, λ none. not_zero (subst (λ w. whole (pos 0) <ℚ entry_at e k w *ℚ unit d (s + 1) (w + 1)) none term), omega arith, term)

  -- in phase 2 the objective rises along the direction, and variable 0 stays
  in_phase_two : ¬ (InPhaseOne d) → k ≡ length d.basic → k ≡ length e.basic → TermAbove d e s k
  in_phase_two none last last_too =
      let number : form e k (unit d (s + 1)) ≡ entry_at d k s =
      ap (λ n. form e n (unit d (s + 1))) last_too ∙ sym (agrees.objective (unit d (s + 1)) direction_solves) ∙ objective_of_unit d proper (s + 1) free_s within_s (unit d (s + 1)) (unit_is d (s + 1)) ∙ ap (λ n. entry_at d n s) (sym last) in
      let found : SomeAbove (λ c. e.numbers k c *ℚ unit d (s + 1) c) 0 (e.variables + 2) = some_above (λ c. e.numbers k c *ℚ unit d (s + 1) c) 0 (e.variables + 2) (subst (λ x. whole (pos 0) <ℚ x) (sym number) (improves.above k priced)) in
      past_constant found.0 found.2 found.3 (times_none (entry_at e k 0) (unit d (s + 1) (0 + 1)) (unit_free d (s + 1) (0 + 1) (free_of d 0 none) (λ same. improves.other (omega arith))))

  -- in phase 1 variable 0 falls along the direction, and its own row stays
  in_phase_one : slice_get d.basic k ≡ Some 0 → slice_get e.basic k ≡ Some 0 → TermAbove d e s k
  in_phase_one at at_too =
      let falls : entry_at e k 0 *ℚ unit d (s + 1) (0 + 1) <ℚ whole (pos 0) =
      subst (λ x. entry_at e k 0 *ℚ x <ℚ whole (pos 0)) (sym (unit_basic d proper (s + 1) k 0 free_s at)) (one_times_below (entry_at e k 0) (entry_at d k s) (proper_too.own k 0 at_too) (improves.above k priced)) in
      let number : form e k (unit d (s + 1)) ≡ whole (pos 0) = agrees.there (unit d (s + 1)) direction_solves k (get_within e.basic k 0 at_too) in
      let found : SomeAbove (λ c. e.numbers k c *ℚ unit d (s + 1) c) 0 (e.variables + 2) =
      some_above_for (λ c. e.numbers k c *ℚ unit d (s + 1) c) 0 (e.variables + 2) (0 + 1) (omega arith) (omega arith) falls (≤ℚ_from_≡ _ _ (sym number)) in
      past_constant found.0 found.2 found.3 (λ above. <ℚ_irrefl (whole (pos 0)) (<ℚ_trans (whole (pos 0)) _ (whole (pos 0)) above falls))

  pub term_above : TermAbove d e s k
  term_above =
      elim priced [
        | inl at ↦ elim priced_too [
          | inl at_too ↦ in_phase_one at at_too
          | inr past ↦ let within = get_within d.basic k 0 at in let is = past.1 in let same = agrees.sized in absurd (omega arith)
        ]
        | inr past ↦ in_phase_two past.0 past.1 (past.1 ∙ agrees.sized)
      ]

-- ---- a run that returns

module _ (m : ℕ) (at : ℕ → Dictionary) (pivot : ℕ → Pivot) (row : ℕ → ℕ) (returns : Returns m at pivot row) where
  -- a variable that is basic at one place and not at another enters somewhere
  not_never : (v l a : ℕ) → l ≤ m → a ≤ m → Contains (at l).basic v → ¬ (Contains (at a).basic v) → ¬ ((j : ℕ) → j < m → (pivot j).enter ≢ v)
  not_never v l a within_l within_a here none never =
      elim (cases_lt l a) [
        | inl less ↦ Runs.out_from m at pivot row returns.runs v never 0 l (omega arith) within_l (λ first. Runs.out_from m at pivot row returns.runs v never a m within_a (omega arith) none ((returns.back v).0 first)) here
        | inr more ↦ Runs.out_from m at pivot row returns.runs v never a l (omega arith) within_l none here
      ]

  -- so it is at most the greatest that enters
  at_most : (v t l a : ℕ) → ((j : ℕ) → j < m → (pivot j).enter ≤ t) → l ≤ m → a ≤ m → Contains (at l).basic v → ¬ (Contains (at a).basic v) → v ≤ t
  at_most v t l a greatest within_l within_a here none =
      elim (cases_lt t v) [
        | inl more ↦ absurd (not_never v l a within_l within_a here none (λ j less same. let h = greatest j less in omega arith))
        | inr most ↦ most
      ]

  -- its row is touched, so the constant there is 0
  level : (v i l a : ℕ) → l ≤ m → a ≤ m → slice_get (at l).basic i ≡ Some v → ¬ (Contains (at a).basic v) → constant_at (at l) i ≡ whole (pos 0)
  level v i l a within_l within_a here none =
      elim (some_below row i m) [
        | inl found ↦ Level.touched m at pivot row returns i found.0 l found.1 found.2 within_l
        | inr never ↦ absurd (elim (cases_lt a l) [
          | inl before ↦ from_before never (omega arith)
          | inr after ↦ none (contains_get (at a).basic i v (kept v never l a after within_a here))
        ])
      ]
    where
      kept : (w : ℕ) → ((j : ℕ) → j < m → row j ≢ i) → (x y : ℕ) → x ≤ y → y ≤ m → slice_get (at x).basic i ≡ Some w → slice_get (at y).basic i ≡ Some w
      kept w never = Runs.pivot_run (λ j. slice_get (at j).basic i ≡ Some w) m (λ j less there. Runs.there_at m at pivot row returns.runs i w j less (never j less) there)

      from_before : ((j : ℕ) → j < m → row j ≢ i) → a ≤ l → ⊥
      from_before never before =
          let less = get_within (at l).basic i v here in
          let sized_l = Runs.sized_from m at pivot row returns.runs l within_l in
          let sized_a = Runs.sized_from m at pivot row returns.runs a within_a in
          let there : slice_get (at a).basic i ≡ Some (basic_at (at a) i) = index_get (at a).basic i (basic_at (at a) i) 0 (omega arith) refl in
          none (contains_get (at a).basic i v (there ∙ sym (kept (basic_at (at a) i) never a l before within_l there) ∙ here))

  -- ---- the contradiction: t leaves at l, where s enters, and enters at a

  module _ (bland : AreBlands m at pivot) (a l : ℕ) (less_a : a < m) (less_l : l < m) (greatest : (j : ℕ) → j < m → (pivot j).enter ≤ (pivot a).enter) (leaves : (pivot l).leave ≡ (pivot a).enter) where
    proper_l : IsProper (at l)
    proper_l = Runs.proper_at m at pivot row returns.runs l (omega arith)

    proper_a : IsProper (at a)
    proper_a = Runs.proper_at m at pivot row returns.runs a (omega arith)

    lesser : (pivot l).enter < (pivot a).enter
    lesser =
        let most = greatest l less_l in
        let other : (pivot l).enter ≢ (pivot a).enter = λ same. Runs.entering_at m at pivot row returns.runs l less_l (contains_get (at l).basic (row l) (pivot l).enter (Runs.leaving_at m at pivot row returns.runs l less_l ∙ ap Some (leaves ∙ sym same))) in
        omega arith

    -- a variable that improves at a is not below t
    improving_least : (v : ℕ) → v ≢ 0 → v ≤ (at a).variables → ¬ (Contains (at a).basic v) → whole (pos 0) <ℚ entry_at (at a) (Level.priced m at pivot row returns).0 v → (pivot a).enter ≤ v
    improving_least v other there none above =
        ((bland a less_a).enters (returns.step a less_a).not_required).1 v
        (record { other = other; there = there; not_basic = none; above = λ k p. subst (λ i. whole (pos 0) <ℚ entry_at (at a) i v) (priced_same k ((Level.priced m at pivot row returns).1 a (omega arith)) p) above })
      where
        priced_same : (k : ℕ) → IsPriced (at a) (Level.priced m at pivot row returns).0 → IsPriced (at a) k → (Level.priced m at pivot row returns).0 ≡ k
        priced_same k p q =
            elim p [
              | inl here ↦ elim q [
                | inl there ↦ proper_a.distinct (Level.priced m at pivot row returns).0 k 0 here there
                | inr past ↦ absurd (past.0 (contains_get (at a).basic (Level.priced m at pivot row returns).0 0 here))
              ]
              | inr past ↦ elim q [
                | inl there ↦ absurd (past.0 (contains_get (at a).basic k 0 there))
                | inr other ↦ past.1 ∙ sym other.1
              ]
            ]

    -- a variable with a number in the priced row at a is not basic there
    not_basic_at : (v : ℕ) → v ≢ 0 → entry_at (at a) (Level.priced m at pivot row returns).0 v ≢ whole (pos 0) → ¬ (Contains (at a).basic v)
    not_basic_at v other some here =
        let k = (Level.priced m at pivot row returns).0 in
        let place = place_of (at a).basic v here in
        some (proper_a.apart place.0 k v place.1 (λ same. elim ((Level.priced m at pivot row returns).1 a (omega arith)) [
          | inl zero_at ↦ other (some_is v 0 (sym place.1 ∙ ap (slice_get (at a).basic) (sym same) ∙ zero_at))
          | inr past ↦ let within = get_within (at a).basic place.0 v place.1 in let is = past.1 in absurd (omega arith)
        ]))

    -- a row of l whose variable is out at a ties where it limits, so t is at most its variable
    tied : (v i : ℕ) → slice_get (at l).basic i ≡ Some v → ¬ (Contains (at a).basic v) → whole (pos 0) <ℚ entry_at (at l) i (pivot l).enter → (pivot a).enter ≤ v
    tied v i here none above =
        let flat : ratio_at (at l) (pivot l).enter i ≡ whole (pos 0) = ap (λ x. x /ℚ entry_at (at l) i (pivot l).enter) (level v i l a (omega arith) (omega arith) here none) ∙ zero-/ℚ (entry_at (at l) i (pivot l).enter) in
        let limits : Limits (at l) (pivot l).enter i = (get_within (at l).basic i v here, above) in
        let least : (j : ℕ) → Limits (at l) (pivot l).enter j → ratio_at (at l) (pivot l).enter i ≤ℚ ratio_at (at l) (pivot l).enter j =
        λ j limited. subst (λ x. x ≤ℚ ratio_at (at l) (pivot l).enter j) (Level.ratio_none m at pivot row returns l less_l ∙ sym flat) ((returns.step l less_l).ties.least j limited) in
        let most = (bland l less_l).leaves i (returns.step l less_l).not_required (record { limits = limits; least = least }) in
        let is = get_index (at l).basic i v 0 here in
        omega arith

    leaving_above : whole (pos 0) <ℚ entry_at (at l) (row l) (pivot l).enter
    leaving_above = (returns.step l less_l).ties.limits.1

    entering_above : whole (pos 0) <ℚ entry_at (at a) (Level.priced m at pivot row returns).0 (pivot a).enter
    entering_above = (returns.step a less_a).improves.above (Level.priced m at pivot row returns).0 ((Level.priced m at pivot row returns).1 a (omega arith))

    -- a variable that is basic at l, in row i, and out at a
    basic_clash : (v i : ℕ) → v ≢ 0 → v ≤ (at a).variables → ¬ (Contains (at a).basic v) → slice_get (at l).basic i ≡ Some v → whole (pos 0) <ℚ entry_at (at a) (Level.priced m at pivot row returns).0 v *ℚ neg_ℚ (entry_at (at l) i (pivot l).enter) → ⊥
    basic_clash v i other there none here above =
        elim (same_or_not v (pivot a).enter) [
          | inl same ↦
              let place : i ≡ row l = proper_l.distinct i (row l) v here (Runs.leaving_at m at pivot row returns.runs l less_l ∙ ap Some (leaves ∙ sym same)) in
              negated_below (entry_at (at a) (Level.priced m at pivot row returns).0 v) (entry_at (at l) i (pivot l).enter)
              (subst (λ w. whole (pos 0) <ℚ entry_at (at a) (Level.priced m at pivot row returns).0 w) (sym same) entering_above)
              (subst (λ j. whole (pos 0) <ℚ entry_at (at l) j (pivot l).enter) (sym place) leaving_above) above
          | inr apart ↦
              let most = at_most v (pivot a).enter l a greatest (omega arith) (omega arith) (contains_get (at l).basic i v here) none in
              elim (≤ℚ_or_above (entry_at (at a) (Level.priced m at pivot row returns).0 v) (whole (pos 0))) [
                | inl below ↦ let h = tied v i here none (negated_above (entry_at (at a) (Level.priced m at pivot row returns).0 v) (entry_at (at l) i (pivot l).enter) above below) in absurd (omega arith)
                | inr improving ↦ let h = improving_least v other there none improving in absurd (omega arith)
              ]
        ]

    -- a variable that is out at l
    free_clash : (v : ℕ) → v ≢ 0 → v ≤ (at a).variables → ¬ (Contains (at a).basic v) → ¬ (Contains (at l).basic v) → whole (pos 0) <ℚ entry_at (at a) (Level.priced m at pivot row returns).0 v *ℚ unit (at l) ((pivot l).enter + 1) (v + 1) → ⊥
    free_clash v other there none out above =
        elim (same_or_not (v + 1) ((pivot l).enter + 1)) [
          | inl same ↦
              let one : unit (at l) ((pivot l).enter + 1) (v + 1) ≡ whole (pos 1) = ap (unit (at l) ((pivot l).enter + 1)) same ∙ unit_here (at l) ((pivot l).enter + 1) in
              let improving : whole (pos 0) <ℚ entry_at (at a) (Level.priced m at pivot row returns).0 v = subst (λ x. whole (pos 0) <ℚ x) (ap (λ x. entry_at (at a) (Level.priced m at pivot row returns).0 v *ℚ x) one ∙ *ℚ-one (entry_at (at a) (Level.priced m at pivot row returns).0 v)) above in
              let h = improving_least v other there none improving in
              let less = lesser in
              absurd (omega arith)
          | inr apart ↦ second_some (entry_at (at a) (Level.priced m at pivot row returns).0 v) (unit (at l) ((pivot l).enter + 1) (v + 1)) above (unit_free (at l) ((pivot l).enter + 1) (v + 1) (free_of (at l) v out) apart)
        ]

    contradiction : ⊥
    contradiction =
        let term : TermAbove (at l) (at a) (pivot l).enter (Level.priced m at pivot row returns).0 =
        term_above (at l) (at a) proper_l proper_a (Runs.agree m at pivot row returns.runs returns.zero_stays l a (omega arith) (omega arith)) (pivot l).enter (Level.priced m at pivot row returns).0 (returns.step l less_l).improves ((Level.priced m at pivot row returns).1 l (omega arith)) ((Level.priced m at pivot row returns).1 a (omega arith)) in
        let none : ¬ (Contains (at a).basic term.0) = not_basic_at term.0 term.1 (first_some _ _ term.3) in
        elim (found_or_not (at l).basic term.0) [
          | inl found ↦
              basic_clash term.0 found.0 term.1 term.2 none found.1
              (subst (λ x. whole (pos 0) <ℚ entry_at (at a) (Level.priced m at pivot row returns).0 term.0 *ℚ x) (unit_basic (at l) proper_l ((pivot l).enter + 1) found.0 term.0 (free_of (at l) (pivot l).enter (returns.step l less_l).improves.not_basic) found.1) term.3)
          | inr out ↦ free_clash term.0 term.1 term.2 none out term.3
        ]

-- a run of at least one pivot leads back to its basic variables within its phase
module _ (n : ℕ) (at : ℕ → Dictionary) (pivot : ℕ → Pivot) (row : ℕ → ℕ) (runs : IsRun (suc n) at pivot row) (phase : ℕ) (phase_first : IsPhase (at 0) phase) (phase_last : IsPhase (at (suc n)) phase) (same : SameBasic (at 0) (at (suc n))) where
  no_opening_first : ¬ (IsOpening (at 0) (pivot 0) (row 0))
  no_opening_first o =
      elim phase_first [
        | inl one ↦ elim phase_last [
          | inl here ↦ elim here.1 [
            | inl required ↦ Runs.none_required_at (suc n) at pivot row runs n (omega arith) required
            | inr basic ↦ Runs.entering_at (suc n) at pivot row runs 0 (omega arith) (subst (λ v. Contains (at 0).basic v) (sym o.enters) ((same 0).1 basic))
          ]
          | inr two ↦ let a = one.0 in let b = two.0 in absurd (omega arith)
        ]
        | inr two ↦ two.1 o.required
      ]

  no_opening : (j : ℕ) → j < suc n → ¬ (IsOpening (at j) (pivot j) (row j))
  no_opening zero less o = no_opening_first o
  no_opening (suc j) less o = Runs.none_required_at (suc n) at pivot row runs j (omega arith) o.required

  step : (j : ℕ) → j < suc n → IsStep (at j) (pivot j) (row j)
  step j less = elim (runs.legal j less) [ inl o ↦ absurd (no_opening j less o) | inr s ↦ s ]

  never_zero : (j : ℕ) → j < suc n → (pivot j).enter ≢ 0
  never_zero j less = (step j less).improves.other

  zero_stays : (j : ℕ) → j < suc n → (pivot j).leave ≢ 0
  zero_stays j less none =
      let gone : ¬ (Contains (at (suc j)).basic 0) = subst (λ v. ¬ (Contains (at (suc j)).basic v)) none (Runs.left_at (suc n) at pivot row runs j less) in
      let out : ¬ (Contains (at (suc n)).basic 0) = Runs.out_from (suc n) at pivot row runs 0 never_zero (suc j) (suc n) (omega arith) (omega arith) gone in
      Runs.out_from (suc n) at pivot row runs 0 never_zero 0 j (omega arith) (omega arith) (λ here. out ((same 0).0 here))
      (contains_get (at j).basic (row j) 0 (Runs.leaving_at (suc n) at pivot row runs j less ∙ ap Some none))

  pub returns : Returns (suc n) at pivot row
  returns = record { runs = runs; step = step; zero_stays = zero_stays; back = same }

  -- if each pivot is Bland's, none does
  pub no_return : ¬ (AreBlands (suc n) at pivot)
  no_return bland =
      let most = greatest_below (λ j. (pivot j).enter) n in
      elim (some_below (λ j. (pivot j).leave) (pivot most.0).enter (suc n)) [
        | inl found ↦ contradiction (suc n) at pivot row returns bland most.0 found.0 most.1 found.1 most.2 found.2
        | inr never ↦
            Runs.entering_at (suc n) at pivot row runs most.0 most.1
            (Runs.in_from (suc n) at pivot row runs (pivot most.0).enter never 0 most.0 (omega arith) (let h = most.1 in omega arith)
            ((same (pivot most.0).enter).1
            (Runs.in_from (suc n) at pivot row runs (pivot most.0).enter never (suc most.0) (suc n) (let h = most.1 in omega arith) (omega arith) (Runs.entered_at (suc n) at pivot row runs most.0 most.1))))
      ]
