-- Steps in their order: when all fit, and which is the first that does not.
use Rattle.std.proofs.Common.{◌≡◌, ◌≢◌, ℕ, zero, suc, ◌+◌, ◌<◌, ◌≤◌, ◌==◌, inl, inr, Bool, true, false, pos, cond, List, [], ◌∷◌, ◌++◌, length, map, refl, sym, ap, ◌∙◌, subst, arith, append_assoc}
use Rattle.std.specs.Prelude.{flat_map, filter, not, IsTrue, ◌↔◌}
use Rattle.std.specs.List.{range_with_len}
use Rattle.std.specs.Ordering.{is_gt}
use Rattle.std.proofs.lemmas.Bool.{cases_Bool, cases_eq, not-true, not_from_false, eqb-false, ne_eqb}
use Rattle.std.proofs.lemmas.List.Elements.{All-nil, All-cons, All-append}
use Rattle.gq_number.specs.Number.{whole}
use Rattle.gq_number.specs.Order.{◌<ℚ◌, number_cmp}
use Rattle.lp_core.specs.declared.answer.StepName.{StepName}
use Rattle.lp_core.specs.declared.answer.StepName.TheVariants.{Ratio, Exchange}
use Rattle.lp_core.specs.Dictionary.{Dictionary, constant_at, entry_at, divided_entry}
use Rattle.lp_core.specs.Steps.{ExpectedStep, AllFit, FirstStop, quotient_fits, product_fits, difference_fits, ratio_steps, pivot_row_steps, other_row_steps, exchange_steps}
use Rattle.gq_number.specs.Number.{◌*ℚ◌}
use Rattle.lp_fraction_dict.specs.declared.fault.Part.{Part}
use Rattle.lp_fraction_dict.specs.declared.fault.Part.TheVariants as part
use Rattle.lp_fraction_dict.specs.Rows.{StepsFit, Misfits}
use Rattle.lp_fraction_dict.specs.Lines.{part_number}
use Rattle.lp_fraction_dict.proofs.Improving.{above_by_cmp}

abbrev Fit : ExpectedStep → Type 0
Fit step = step.1 ≡ true

none_fit : AllFit []
none_fit = All-nil Fit

one_fits : (step : ExpectedStep) → step.1 ≡ true → AllFit (step ∷ [])
one_fits step h = All-cons Fit step [] h none_fit

both_fit : (steps more : List ExpectedStep) → AllFit steps → AllFit more → AllFit (steps ++ more)
both_fit steps more h k = All-append Fit steps more h k

one_stops : (name : StepName) (b : Bool) → b ≡ false → FirstStop ((name, b) ∷ []) name
one_stops name b is_false = record { before = []; following = []; split = ap (λ t. (name, t) ∷ []) is_false; fit = none_fit }

stop_in_prefix : (steps more : List ExpectedStep) (name : StepName) → FirstStop steps name → FirstStop (steps ++ more) name
stop_in_prefix steps more name s =
    record {
      before = s.before;
      following = s.following ++ more;
      split = ap (λ l. l ++ more) s.split ∙ append_assoc s.before ((name, false) ∷ s.following) more;
      fit = s.fit;
    }

stop_after : (steps more : List ExpectedStep) (name : StepName) → AllFit steps → FirstStop more name → FirstStop (steps ++ more) name
stop_after steps more name h s =
    record {
      before = steps ++ s.before;
      following = s.following;
      split = ap (λ l. steps ++ l) s.split ∙ sym (append_assoc steps s.before ((name, false) ∷ s.following));
      fit = both_fit steps s.before h s.fit;
    }

-- ---- steps for each number of a range that passes a test

module _ (f : ℕ → List ExpectedStep) (p : ℕ → Bool) where
  pub range_fits : (a n : ℕ) → ((i : ℕ) → a ≤ i → i < a + n → p i ≡ true → AllFit (f i)) → AllFit (flat_map f (filter p (range_with_len a n)))
  range_fits a zero h = none_fit
  range_fits a (suc n) h =
      let rest : AllFit (flat_map f (filter p (range_with_len (a + 1) n))) = range_fits (a + 1) n (λ i low high. h i (omega arith) (omega arith)) in
      elim (cases_Bool (p a)) [
        | inl is_true ↦ subst (λ b. AllFit (flat_map f (cond b (a ∷ filter p (range_with_len (a + 1) n)) (filter p (range_with_len (a + 1) n))))) (sym is_true) (both_fit (f a) (flat_map f (filter p (range_with_len (a + 1) n))) (h a (omega arith) (omega arith) is_true) rest)
        | inr is_false ↦ subst (λ b. AllFit (flat_map f (cond b (a ∷ filter p (range_with_len (a + 1) n)) (filter p (range_with_len (a + 1) n))))) (sym is_false) rest
      ]

  pub range_stops : (a n m : ℕ) (name : StepName) → a ≤ m → m < a + n → p m ≡ true → ((i : ℕ) → a ≤ i → i < m → p i ≡ true → AllFit (f i)) → FirstStop (f m) name → FirstStop (flat_map f (filter p (range_with_len a n))) name
  range_stops a zero m name low high is_true before here = absurd (omega arith)
  range_stops a (suc n) m name low high is_true before here =
      elim (cases_eq a m) [
        | inl same ↦ subst (λ b. FirstStop (flat_map f (cond b (a ∷ filter p (range_with_len (a + 1) n)) (filter p (range_with_len (a + 1) n)))) name) (sym (ap p same ∙ is_true)) (stop_in_prefix (f a) (flat_map f (filter p (range_with_len (a + 1) n))) name (subst (λ k. FirstStop (f k) name) (sym same) here))
        | inr other ↦
            let rest : FirstStop (flat_map f (filter p (range_with_len (a + 1) n))) name = range_stops (a + 1) n m name (omega arith) (omega arith) is_true (λ i from to. before i (omega arith) to) here in
            elim (cases_Bool (p a)) [
              | inl passes ↦ subst (λ b. FirstStop (flat_map f (cond b (a ∷ filter p (range_with_len (a + 1) n)) (filter p (range_with_len (a + 1) n)))) name) (sym passes) (stop_after (f a) (flat_map f (filter p (range_with_len (a + 1) n))) name (before a (omega arith) (omega arith) passes) rest)
              | inr fails ↦ subst (λ b. FirstStop (flat_map f (cond b (a ∷ filter p (range_with_len (a + 1) n)) (filter p (range_with_len (a + 1) n)))) name) (sym fails) rest
            ]
      ]

map_as_flat : (g : ℕ → ExpectedStep) (xs : List ℕ) → flat_map (λ x. g x ∷ []) xs ≡ map g xs
map_as_flat g [] = refl
map_as_flat g (x ∷ xs) = ap (λ l. g x ∷ l) (map_as_flat g xs)

all_pass : (xs : List ℕ) → filter (λ x. true) xs ≡ xs
all_pass [] = refl
all_pass (x ∷ xs) = ap (λ l. x ∷ l) (all_pass xs)

-- ---- the ratio test

module _ (limit n : ℕ) (d : Dictionary) (q : ℕ) where
  abbrev is_rated : ℕ → Bool
  is_rated i = is_gt (number_cmp (entry_at d i q) (whole (pos 0)))

  rated : (i : ℕ) → IsTrue (is_rated i) ↔ (whole (pos 0) <ℚ entry_at d i q)
  rated i = above_by_cmp (entry_at d i q) (whole (pos 0)) (number_cmp (entry_at d i q) (whole (pos 0))) (is_rated i) refl refl refl

  abbrev ratio_step : ℕ → ExpectedStep
  ratio_step i = (Ratio n (i + 1), quotient_fits limit (constant_at d i) (entry_at d i q))

  abbrev Rate : ℕ → Type 0
  Rate i = quotient_fits limit (constant_at d i) (entry_at d i q) ≡ true

  pub ratios_fit : ((i : ℕ) → i < length d.basic → whole (pos 0) <ℚ entry_at d i q → Rate i) → AllFit (ratio_steps limit n d q)
  ratios_fit h =
      subst AllFit (map_as_flat ratio_step (filter is_rated (range_with_len 0 (length d.basic))))
      (range_fits (λ i. ratio_step i ∷ []) is_rated 0 (length d.basic) (λ i low high passes. one_fits (ratio_step i) (h i (omega arith) ((rated i).0 passes))))

  pub ratios_stop : (m : ℕ) → m < length d.basic → whole (pos 0) <ℚ entry_at d m q → quotient_fits limit (constant_at d m) (entry_at d m q) ≡ false → ((i : ℕ) → i < m → whole (pos 0) <ℚ entry_at d i q → Rate i) → FirstStop (ratio_steps limit n d q) (Ratio n (m + 1))
  ratios_stop m within above is_false h =
      subst (λ steps. FirstStop steps (Ratio n (m + 1))) (map_as_flat ratio_step (filter is_rated (range_with_len 0 (length d.basic))))
      (range_stops (λ i. ratio_step i ∷ []) is_rated 0 (length d.basic) m (Ratio n (m + 1)) (omega arith) (omega arith) ((rated m).1 above) (λ i low high passes. one_fits (ratio_step i) (h i high ((rated i).0 passes))) (one_stops (Ratio n (m + 1)) (quotient_fits limit (constant_at d m) (entry_at d m q)) is_false))

-- ---- the exchange

module _ (limit n : ℕ) (d : Dictionary) (q k : ℕ) where
  abbrev pivot_step : ℕ → ExpectedStep
  pivot_step c = (Exchange n (k + 1) c 0, quotient_fits limit (d.numbers k c) (entry_at d k q))

  pivot_steps_are : flat_map (λ c. pivot_step c ∷ []) (filter (λ c. true) (range_with_len 0 (d.variables + 2))) ≡ pivot_row_steps limit n d q k
  pivot_steps_are = map_as_flat pivot_step (filter (λ c. true) (range_with_len 0 (d.variables + 2))) ∙ ap (map pivot_step) (all_pass (range_with_len 0 (d.variables + 2)))

  pub pivot_row_fits : ((c : ℕ) → quotient_fits limit (d.numbers k c) (entry_at d k q) ≡ true) → AllFit (pivot_row_steps limit n d q k)
  pivot_row_fits h = subst AllFit pivot_steps_are (range_fits (λ c. pivot_step c ∷ []) (λ c. true) 0 (d.variables + 2) (λ c low high passes. one_fits (pivot_step c) (h c)))

  pivot_row_stops : (m : ℕ) → m < d.variables + 2 → ((c : ℕ) → c < m → quotient_fits limit (d.numbers k c) (entry_at d k q) ≡ true) → quotient_fits limit (d.numbers k m) (entry_at d k q) ≡ false → FirstStop (pivot_row_steps limit n d q k) (Exchange n (k + 1) m 0)
  pivot_row_stops m within before is_false =
      subst (λ steps. FirstStop steps (Exchange n (k + 1) m 0)) pivot_steps_are
      (range_stops (λ c. pivot_step c ∷ []) (λ c. true) 0 (d.variables + 2) m (Exchange n (k + 1) m 0) (omega arith) (omega arith) refl (λ c low high passes. one_fits (pivot_step c) (before c high)) (one_stops (Exchange n (k + 1) m 0) (quotient_fits limit (d.numbers k m) (entry_at d k q)) is_false))

  abbrev Steps : ℕ → ℕ → Type 0
  Steps i c = StepsFit limit (d.numbers i c) (entry_at d i q) (divided_entry d q k c)

  abbrev step_pair : ℕ → ℕ → List ExpectedStep
  step_pair i c =
      (Exchange n (i + 1) c 0, product_fits limit (entry_at d i q) (divided_entry d q k c))
      ∷ (Exchange n (i + 1) c 1, difference_fits limit (d.numbers i c) (entry_at d i q *ℚ divided_entry d q k c)) ∷ []

  other_steps_are : (i : ℕ) → flat_map (step_pair i) (filter (λ c. true) (range_with_len 0 (d.variables + 2))) ≡ other_row_steps limit n d q k i
  other_steps_are i = ap (flat_map (step_pair i)) (all_pass (range_with_len 0 (d.variables + 2)))

  pair_fits : (i c : ℕ) → Steps i c → AllFit (step_pair i c)
  pair_fits i c h =
      All-cons Fit (Exchange n (i + 1) c 0, product_fits limit (entry_at d i q) (divided_entry d q k c)) ((Exchange n (i + 1) c 1, difference_fits limit (d.numbers i c) (entry_at d i q *ℚ divided_entry d q k c)) ∷ []) h.0 (one_fits (Exchange n (i + 1) c 1, difference_fits limit (d.numbers i c) (entry_at d i q *ℚ divided_entry d q k c)) h.1)

  pair_stops : (i c : ℕ) (p : Part) → Misfits limit (d.numbers i c) (entry_at d i q) (divided_entry d q k c) p → FirstStop (step_pair i c) (Exchange n (i + 1) c (part_number p))
  pair_stops i c part.Product h =
      stop_in_prefix ((Exchange n (i + 1) c 0, product_fits limit (entry_at d i q) (divided_entry d q k c)) ∷ []) ((Exchange n (i + 1) c 1, difference_fits limit (d.numbers i c) (entry_at d i q *ℚ divided_entry d q k c)) ∷ []) (Exchange n (i + 1) c 0) (one_stops (Exchange n (i + 1) c 0) _ h)
  pair_stops i c part.Difference h =
      stop_after ((Exchange n (i + 1) c 0, product_fits limit (entry_at d i q) (divided_entry d q k c)) ∷ []) ((Exchange n (i + 1) c 1, difference_fits limit (d.numbers i c) (entry_at d i q *ℚ divided_entry d q k c)) ∷ []) (Exchange n (i + 1) c 1)
      (one_fits (Exchange n (i + 1) c 0, product_fits limit (entry_at d i q) (divided_entry d q k c)) h.0) (one_stops (Exchange n (i + 1) c 1) _ h.1)

  other_row_fits : (i : ℕ) → ((c : ℕ) → Steps i c) → AllFit (other_row_steps limit n d q k i)
  other_row_fits i h = subst AllFit (other_steps_are i) (range_fits (step_pair i) (λ c. true) 0 (d.variables + 2) (λ c low high passes. pair_fits i c (h c)))

  other_row_stops : (i m : ℕ) (p : Part) → m < d.variables + 2 → ((c : ℕ) → c < m → Steps i c) → Misfits limit (d.numbers i m) (entry_at d i q) (divided_entry d q k m) p → FirstStop (other_row_steps limit n d q k i) (Exchange n (i + 1) m (part_number p))
  other_row_stops i m p within before h =
      subst (λ steps. FirstStop steps (Exchange n (i + 1) m (part_number p))) (other_steps_are i)
      (range_stops (step_pair i) (λ c. true) 0 (d.variables + 2) m (Exchange n (i + 1) m (part_number p)) (omega arith) (omega arith) refl (λ c low high passes. pair_fits i c (before c high)) (pair_stops i m p h))

  is_other : (i : ℕ) → not (i == k) ≡ true → i ≢ k
  is_other i h = eqb-false i k (not-true (i == k) h)

  pub exchange_fits : ((c : ℕ) → quotient_fits limit (d.numbers k c) (entry_at d k q) ≡ true) → ((i : ℕ) → i ≢ k → (c : ℕ) → Steps i c) → AllFit (exchange_steps limit n d q k)
  exchange_fits row others =
      both_fit (pivot_row_steps limit n d q k) (flat_map (other_row_steps limit n d q k) (filter (λ i. not (i == k)) (range_with_len 0 (length d.basic + 1)))) (pivot_row_fits row)
      (range_fits (other_row_steps limit n d q k) (λ i. not (i == k)) 0 (length d.basic + 1) (λ i low high passes. other_row_fits i (others i (is_other i passes))))

  -- the first step that does not fit is in the row that is divided, or in another
  pub exchange_stops_first : (m : ℕ) → m < d.variables + 2 → ((c : ℕ) → c < m → quotient_fits limit (d.numbers k c) (entry_at d k q) ≡ true) → quotient_fits limit (d.numbers k m) (entry_at d k q) ≡ false → FirstStop (exchange_steps limit n d q k) (Exchange n (k + 1) m 0)
  exchange_stops_first m within before is_false =
      stop_in_prefix (pivot_row_steps limit n d q k) (flat_map (other_row_steps limit n d q k) (filter (λ i. not (i == k)) (range_with_len 0 (length d.basic + 1)))) (Exchange n (k + 1) m 0) (pivot_row_stops m within before is_false)

  pub exchange_stops : (i m : ℕ) (p : Part) → i < length d.basic + 1 → i ≢ k → m < d.variables + 2 → ((c : ℕ) → quotient_fits limit (d.numbers k c) (entry_at d k q) ≡ true) → ((j : ℕ) → j < i → j ≢ k → (c : ℕ) → Steps j c) → ((c : ℕ) → c < m → Steps i c) → Misfits limit (d.numbers i m) (entry_at d i q) (divided_entry d q k m) p → FirstStop (exchange_steps limit n d q k) (Exchange n (i + 1) m (part_number p))
  exchange_stops i m p there other within row others before h =
      stop_after (pivot_row_steps limit n d q k) (flat_map (other_row_steps limit n d q k) (filter (λ j. not (j == k)) (range_with_len 0 (length d.basic + 1)))) (Exchange n (i + 1) m (part_number p)) (pivot_row_fits row)
      (range_stops (other_row_steps limit n d q k) (λ j. not (j == k)) 0 (length d.basic + 1) i (Exchange n (i + 1) m (part_number p)) (omega arith) (omega arith) (not_from_false (i == k) (ne_eqb i k other)) (λ j low high passes. other_row_fits j (others j high (is_other j passes))) (other_row_stops i m p within before h))
