-- When all steps of a ratio test and of an exchange fit.
use Rattle.std.proofs.Common.{◌≡◌, ◌≢◌, ℕ, zero, suc, ◌+◌, ◌<◌, ◌≤◌, ◌==◌, inl, inr, Bool, true, pos, cond, List, [], ◌∷◌, ◌++◌, length, map, refl, sym, ap, ◌∙◌, subst, arith}
use Rattle.std.specs.Prelude.{flat_map, filter, not}
use Rattle.std.specs.List.{range_with_len}
use Rattle.std.specs.Ordering.{is_gt}
use Rattle.std.specs.declared.cmp.Ordering.{Ordering}
use Rattle.std.specs.declared.cmp.Ordering.TheVariants.{Less, Equal, Greater}
use Rattle.std.proofs.lemmas.Bool.{cases_Bool, not-true, eqb-false}
use Rattle.std.proofs.lemmas.List.Elements.{All-nil, All-cons, All-append}
use Rattle.gq_number.specs.Number.{whole, ◌*ℚ◌}
use Rattle.gq_number.specs.Order.{◌<ℚ◌, number_cmp}
use Rattle.gq_number.proofs.Compares.{number_cmp_decides}
use Rattle.lp_core.specs.declared.answer.StepName.TheVariants.{Ratio, Exchange}
use Rattle.lp_core.specs.Dictionary.{Dictionary, constant_at, entry_at, divided_entry}
use Rattle.lp_core.specs.Steps.{ExpectedStep, AllFit, quotient_fits, product_fits, difference_fits, ratio_steps, pivot_row_steps, other_row_steps, exchange_steps}

abbrev Fit : ExpectedStep → Type 0
Fit step = step.1 ≡ true

none_fit : AllFit []
none_fit = All-nil Fit

one_fits : (step : ExpectedStep) → step.1 ≡ true → AllFit (step ∷ [])
one_fits step h = All-cons Fit step [] h none_fit

both_fit : (steps more : List ExpectedStep) → AllFit steps → AllFit more → AllFit (steps ++ more)
both_fit steps more h k = All-append Fit steps more h k

-- steps for each number of a range that passes a test
range_fits : (f : ℕ → List ExpectedStep) (p : ℕ → Bool) (a n : ℕ) → ((i : ℕ) → a ≤ i → i < a + n → p i ≡ true → AllFit (f i)) → AllFit (flat_map f (filter p (range_with_len a n)))
range_fits f p a zero h = none_fit
range_fits f p a (suc n) h =
    let rest : AllFit (flat_map f (filter p (range_with_len (a + 1) n))) = range_fits f p (a + 1) n (λ i low high. h i (omega arith) (omega arith)) in
    elim (cases_Bool (p a)) [
      | inl is_true ↦ subst (λ b. AllFit (flat_map f (cond b (a ∷ filter p (range_with_len (a + 1) n)) (filter p (range_with_len (a + 1) n))))) (sym is_true) (both_fit (f a) (flat_map f (filter p (range_with_len (a + 1) n))) (h a (omega arith) (omega arith) is_true) rest)
      | inr is_false ↦ subst (λ b. AllFit (flat_map f (cond b (a ∷ filter p (range_with_len (a + 1) n)) (filter p (range_with_len (a + 1) n))))) (sym is_false) rest
    ]

map_as_flat : (g : ℕ → ExpectedStep) (xs : List ℕ) → flat_map (λ x. g x ∷ []) xs ≡ map g xs
map_as_flat g [] = refl
map_as_flat g (x ∷ xs) = ap (λ l. g x ∷ l) (map_as_flat g xs)

all_pass : (xs : List ℕ) → filter (λ x. true) xs ≡ xs
all_pass [] = refl
all_pass (x ∷ xs) = ap (λ l. x ∷ l) (all_pass xs)

is_greater : (o : Ordering) → is_gt o ≡ true → o ≡ Greater
is_greater Less e = absurd (cc)
is_greater Equal e = absurd (cc)
is_greater Greater e = refl

-- ---- the ratio test

module _ (limit n : ℕ) (d : Dictionary) (q : ℕ) where
  abbrev is_rated : ℕ → Bool
  is_rated i = is_gt (number_cmp (entry_at d i q) (whole (pos 0)))

  rated : (i : ℕ) → is_rated i ≡ true → whole (pos 0) <ℚ entry_at d i q
  rated i e = (number_cmp_decides (entry_at d i q) (whole (pos 0))).2.0 (is_greater (number_cmp (entry_at d i q) (whole (pos 0))) e)

  abbrev ratio_step : ℕ → ExpectedStep
  ratio_step i = (Ratio n (i + 1), quotient_fits limit (constant_at d i) (entry_at d i q))

  pub ratios_fit : ((i : ℕ) → i < length d.basic → whole (pos 0) <ℚ entry_at d i q → quotient_fits limit (constant_at d i) (entry_at d i q) ≡ true) → AllFit (ratio_steps limit n d q)
  ratios_fit h =
      subst AllFit (map_as_flat ratio_step (filter is_rated (range_with_len 0 (length d.basic))))
      (range_fits (λ i. ratio_step i ∷ []) is_rated 0 (length d.basic) (λ i low high passes. one_fits (ratio_step i) (h i (omega arith) (rated i passes))))

-- ---- the exchange

module _ (limit n : ℕ) (d : Dictionary) (q k : ℕ) where
  abbrev pivot_step : ℕ → ExpectedStep
  pivot_step c = (Exchange n (k + 1) c 0, quotient_fits limit (d.numbers k c) (entry_at d k q))

  pivot_steps_are : flat_map (λ c. pivot_step c ∷ []) (filter (λ c. true) (range_with_len 0 (d.variables + 2))) ≡ pivot_row_steps limit n d q k
  pivot_steps_are = map_as_flat pivot_step (filter (λ c. true) (range_with_len 0 (d.variables + 2))) ∙ ap (map pivot_step) (all_pass (range_with_len 0 (d.variables + 2)))

  pivot_row_fits : ((c : ℕ) → quotient_fits limit (d.numbers k c) (entry_at d k q) ≡ true) → AllFit (pivot_row_steps limit n d q k)
  pivot_row_fits h = subst AllFit pivot_steps_are (range_fits (λ c. pivot_step c ∷ []) (λ c. true) 0 (d.variables + 2) (λ c low high passes. one_fits (pivot_step c) (h c)))

  -- both steps on a number of another row
  abbrev pub BothFit : ℕ → ℕ → Type 0
  BothFit i c =
      (product_fits limit (entry_at d i q) (divided_entry d q k c) ≡ true) × (difference_fits limit (d.numbers i c) (entry_at d i q *ℚ divided_entry d q k c) ≡ true)

  abbrev step_pair : ℕ → ℕ → List ExpectedStep
  step_pair i c =
      (Exchange n (i + 1) c 0, product_fits limit (entry_at d i q) (divided_entry d q k c))
      ∷ (Exchange n (i + 1) c 1, difference_fits limit (d.numbers i c) (entry_at d i q *ℚ divided_entry d q k c)) ∷ []

  other_steps_are : (i : ℕ) → flat_map (step_pair i) (filter (λ c. true) (range_with_len 0 (d.variables + 2))) ≡ other_row_steps limit n d q k i
  other_steps_are i = ap (flat_map (step_pair i)) (all_pass (range_with_len 0 (d.variables + 2)))

  pair_fits : (i c : ℕ) → BothFit i c → AllFit (step_pair i c)
  pair_fits i c h =
      All-cons Fit (Exchange n (i + 1) c 0, product_fits limit (entry_at d i q) (divided_entry d q k c)) ((Exchange n (i + 1) c 1, difference_fits limit (d.numbers i c) (entry_at d i q *ℚ divided_entry d q k c)) ∷ []) h.0 (one_fits (Exchange n (i + 1) c 1, difference_fits limit (d.numbers i c) (entry_at d i q *ℚ divided_entry d q k c)) h.1)

  other_row_fits : (i : ℕ) → ((c : ℕ) → BothFit i c) → AllFit (other_row_steps limit n d q k i)
  other_row_fits i h = subst AllFit (other_steps_are i) (range_fits (step_pair i) (λ c. true) 0 (d.variables + 2) (λ c low high passes. pair_fits i c (h c)))

  is_other : (i : ℕ) → not (i == k) ≡ true → i ≢ k
  is_other i h = eqb-false i k (not-true (i == k) h)

  pub exchange_fits : ((c : ℕ) → quotient_fits limit (d.numbers k c) (entry_at d k q) ≡ true) → ((i : ℕ) → i ≢ k → (c : ℕ) → BothFit i c) → AllFit (exchange_steps limit n d q k)
  exchange_fits row others =
      both_fit (pivot_row_steps limit n d q k) (flat_map (other_row_steps limit n d q k) (filter (λ i. not (i == k)) (range_with_len 0 (length d.basic + 1)))) (pivot_row_fits row)
      (range_fits (other_row_steps limit n d q k) (λ i. not (i == k)) 0 (length d.basic + 1) (λ i low high passes. other_row_fits i (others i (is_other i passes))))
