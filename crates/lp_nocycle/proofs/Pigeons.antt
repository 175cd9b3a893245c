-- How many dictionaries there are with different basic variables or phases.
use Rattle.std.proofs.Common.{◌≡◌, ◌≢◌, ◌↔◌, ℕ, zero, suc, ◌+◌, ◌*◌, ◌<◌, ◌≤◌, ◌⊎◌, inl, inr, pos, List, length, Some, refl, sym, ◌∙◌, subst, arith}
use Rattle.std.specs.Prelude.{slice_get, Contains, ◌^◌}
use Rattle.std.proofs.Math.Nat.{pow-suc}
use Rattle.std.proofs.lemmas.Bool.{cases_lt}
use Rattle.gq_number.specs.Number.{whole}
use Rattle.gq_number.specs.Order.{◌<ℚ◌}
use Rattle.gq_number.proofs.Order.{≤ℚ_or_above, not_above}
use Rattle.lp_core.specs.Dictionary.{Dictionary, constant_at, OpeningIsRequired, InPhaseOne}
use Rattle.lp_core.specs.Ends.{IsPhase}
use Rattle.lp_fraction_dict.specs.Pivots.{IsProper}
use Rattle.lp_fraction_dict.proofs.Kept.{contains_get}
use Rattle.lp_fraction_dict.proofs.Improving.{same_or_not, found_or_not}
use Rattle.lp_nocycle.specs.Cycling.{SameBasic}
use Rattle.lp_nocycle.proofs.Units.{place_of}
use Rattle.lp_nocycle.proofs.Runs.{some_below}

-- ---- different numbers below a bound

abbrev skip_by : (i j : ℕ) → (j < i) ⊎ (i ≤ j) → ℕ
skip_by i j (inl less) = j
skip_by i j (inr more) = suc j

-- the numbers but i
skip : ℕ → ℕ → ℕ
skip i j = skip_by i j (cases_lt j i)

skip_is : (i j : ℕ) → ((j < i) × (skip i j ≡ j)) ⊎ ((i ≤ j) × (skip i j ≡ suc j))
unfolding skip
skip_is i j = by (cases_lt j i)
  where
    by : (r : (j < i) ⊎ (i ≤ j)) → ((j < i) × (skip_by i j r ≡ j)) ⊎ ((i ≤ j) × (skip_by i j r ≡ suc j))
    by (inl less) = inl (less, refl)
    by (inr more) = inr (more, refl)

skip_other : (i j : ℕ) → skip i j ≢ i
skip_other i j same = elim (skip_is i j) [ inl h ↦ (let a = h.0 in let b = h.1 in absurd (omega arith)) | inr h ↦ (let a = h.0 in let b = h.1 in absurd (omega arith)) ]

skip_within : (i j n : ℕ) → j < n → skip i j < suc n
skip_within i j n less = elim (skip_is i j) [ inl h ↦ (let b = h.1 in omega arith) | inr h ↦ (let b = h.1 in omega arith) ]

skip_apart : (i j k : ℕ) → skip i j ≡ skip i k → j ≡ k
skip_apart i j k same =
    elim (skip_is i j) [
      | inl h ↦ elim (skip_is i k) [ inl g ↦ (let a = h.0 in let b = h.1 in let c = g.0 in let e = g.1 in omega arith) | inr g ↦ (let a = h.0 in let b = h.1 in let c = g.0 in let e = g.1 in omega arith) ]
      | inr h ↦ elim (skip_is i k) [ inl g ↦ (let a = h.0 in let b = h.1 in let c = g.0 in let e = g.1 in omega arith) | inr g ↦ (let a = h.0 in let b = h.1 in let c = g.0 in let e = g.1 in omega arith) ]
    ]

-- n different numbers below b: n is at most b
pub at_most : (b n : ℕ) (f : ℕ → ℕ) → ((j : ℕ) → j < n → f j < b) → ((i j : ℕ) → i < n → j < n → f i ≡ f j → i ≡ j) → n ≤ b
at_most zero zero f below apart = omega arith
at_most zero (suc n) f below apart = let h = below 0 (omega arith) in absurd (omega arith)
at_most (suc b) zero f below apart = omega arith
at_most (suc b) (suc n) f below apart =
    elim (some_below f b (suc n)) [
      | inl found ↦
          let rest : n ≤ b =
          at_most b n (λ j. f (skip found.0 j))
          (λ j less. let within = skip_within found.0 j n less in let h = below (skip found.0 j) within in let other : f (skip found.0 j) ≢ b = (λ same. skip_other found.0 j (apart (skip found.0 j) found.0 within found.1 (same ∙ sym found.2))) in omega arith)
          (λ i j less_i less_j same. skip_apart found.0 i j (apart (skip found.0 i) (skip found.0 j) (skip_within found.0 i n less_i) (skip_within found.0 j n less_j) same)) in
          omega arith
      | inr none ↦ let rest : suc n ≤ b = at_most b (suc n) f (λ j less. let h = below j less in let other = none j less in omega arith) apart in omega arith
    ]

-- ---- the code of a dictionary: the digits 0 or 1 of its basic variables, and a digit of its phase

-- a number where the first holds, else 0
abbrev part : {A B : Type 0} → A ⊎ B → ℕ → ℕ
part (inl a) n = n
part (inr b) n = 0

part_within : {A B : Type 0} (r : A ⊎ B) (n : ℕ) → part r n ≤ n
part_within (inl a) n = omega arith
part_within (inr b) n = omega arith

-- what is told alike: both hold, or neither does
abbrev pub Alike : Type 0 → Type 0 → Type 0 → Type 0 → Type 0
Alike A B C D = (A × C) ⊎ (B × D)

parts_same : {A B C D : Type 0} (r : A ⊎ B) (s : C ⊎ D) (n x y : ℕ) → x < n → y < n → part r n + x ≡ part s n + y → Alike A B C D × (x ≡ y)
parts_same (inl a) (inl c) n x y less_x less_y same = (inl (a, c), omega arith)
parts_same (inl a) (inr d) n x y less_x less_y same = absurd (omega arith)
parts_same (inr b) (inl c) n x y less_x less_y same = absurd (omega arith)
parts_same (inr b) (inr d) n x y less_x less_y same = (inr (b, d), omega arith)

digits : List ℕ → ℕ → ℕ
digits basic zero = 0
digits basic (suc w) = part (found_or_not basic w) (2 ^ w) + digits basic w

digits_within : (basic : List ℕ) (w : ℕ) → digits basic w < 2 ^ w
unfolding digits
digits_within basic zero = omega arith
digits_within basic (suc w) =
    let rest = digits_within basic w in
    let here = part_within (found_or_not basic w) (2 ^ w) in
    let power : 2 ^ suc w ≡ 2 ^ w * 2 = pow-suc 2 w in
    omega arith

found_both : (xs ys : List ℕ) (v : ℕ) → Alike ((k : ℕ) × (slice_get xs k ≡ Some v)) (¬ (Contains xs v)) ((k : ℕ) × (slice_get ys k ≡ Some v)) (¬ (Contains ys v)) → Contains xs v ↔ Contains ys v
found_both xs ys v (inl both) = (λ h. contains_get ys both.1.0 v both.1.1, λ h. contains_get xs both.0.0 v both.0.1)
found_both xs ys v (inr none) = (λ h. absurd (none.0 h), λ h. absurd (none.1 h))

digits_same : (xs ys : List ℕ) (w : ℕ) → digits xs w ≡ digits ys w → (v : ℕ) → v < w → Contains xs v ↔ Contains ys v
unfolding digits
digits_same xs ys zero same v less = absurd (omega arith)
digits_same xs ys (suc w) same v less =
    let parts = parts_same (found_or_not xs w) (found_or_not ys w) (2 ^ w) (digits xs w) (digits ys w) (digits_within xs w) (digits_within ys w) same in
    elim (same_or_not v w) [
      | inl is ↦ subst (λ u. Contains xs u ↔ Contains ys u) (sym is) (found_both xs ys w parts.0)
      | inr other ↦ digits_same xs ys w parts.1 v (omega arith)
    ]

-- ---- phases

some_constant_below : (d : Dictionary) (n : ℕ) → ((k : ℕ) × (k < n) × (constant_at d k <ℚ whole (pos 0))) ⊎ ((k : ℕ) → k < n → ¬ (constant_at d k <ℚ whole (pos 0)))
some_constant_below d zero = inr (λ k less. absurd (omega arith))
some_constant_below d (suc n) =
    elim (≤ℚ_or_above (whole (pos 0)) (constant_at d n)) [
      | inl most ↦ elim (some_constant_below d n) [
        | inl found ↦ let less = found.1 in inl (found.0, omega arith, found.2)
        | inr none ↦ inr (λ k less. elim (same_or_not k n) [
          | inl same ↦ subst (λ i. ¬ (constant_at d i <ℚ whole (pos 0))) (sym same) (not_above (whole (pos 0)) (constant_at d n) most)
          | inr other ↦ none k (omega arith)
        ])
      ]
      | inr below ↦ inl (n, omega arith, below)
    ]

abbrev pub IsFirst : Dictionary → Type 0
IsFirst d = OpeningIsRequired d ⊎ InPhaseOne d

abbrev pub IsSecond : Dictionary → Type 0
IsSecond d = ¬ (OpeningIsRequired d) × ¬ (InPhaseOne d)

pub first_or_second : (d : Dictionary) → IsFirst d ⊎ IsSecond d
first_or_second d =
    elim (found_or_not d.basic 0) [
      | inl found ↦ inl (inr (contains_get d.basic found.0 0 found.1))
      | inr none ↦ elim (some_constant_below d (length d.basic)) [
        | inl required ↦ inl (inl required)
        | inr never ↦ inr (λ required. never required.0 required.1 required.2, none)
      ]
    ]

-- two dictionaries are of one phase
abbrev pub SamePhase : Dictionary → Dictionary → Type 0
SamePhase d e = (phase : ℕ) × IsPhase d phase × IsPhase e phase

pub phases_same : (d e : Dictionary) → Alike (IsFirst d) (IsSecond d) (IsFirst e) (IsSecond e) → SamePhase d e
phases_same d e (inl both) = (1, inl (refl, both.0), inl (refl, both.1))
phases_same d e (inr both) = (2, inr (refl, both.0.0, both.0.1), inr (refl, both.1.0, both.1.1))

pub code : ℕ → Dictionary → ℕ
code w d = part (first_or_second d) (2 ^ w) + digits d.basic w

pub code_within : (w : ℕ) (d : Dictionary) → code w d < 2 * 2 ^ w
unfolding code
code_within w d = let phase = part_within (first_or_second d) (2 ^ w) in let rest = digits_within d.basic w in omega arith

beyond : (d e : Dictionary) (w v : ℕ) → IsProper d → IsProper e → d.variables + 1 ≡ w → e.variables + 1 ≡ w → w ≤ v → Contains d.basic v ↔ Contains e.basic v
beyond d e w v proper_d proper_e are_d are_e past =
    (λ h. let p = place_of d.basic v h in let there = proper_d.there p.0 v p.1 in absurd (omega arith), λ h. let p = place_of e.basic v h in let there = proper_e.there p.0 v p.1 in absurd (omega arith))

-- dictionaries with one code have the same basic variables, and are of one phase
pub same_code : (w : ℕ) (d e : Dictionary) → IsProper d → IsProper e → d.variables + 1 ≡ w → e.variables + 1 ≡ w → code w d ≡ code w e → SamePhase d e × SameBasic d e
unfolding code
same_code w d e proper_d proper_e are_d are_e same =
    let parts = parts_same (first_or_second d) (first_or_second e) (2 ^ w) (digits d.basic w) (digits e.basic w) (digits_within d.basic w) (digits_within e.basic w) same in (
      phases_same d e parts.0,
      λ v. elim (cases_lt v w) [
        | inl less ↦ digits_same d.basic e.basic w parts.1 v less
        | inr past ↦ beyond d e w v proper_d proper_e are_d are_e past
      ],
    )
