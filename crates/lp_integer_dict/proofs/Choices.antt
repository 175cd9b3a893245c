-- The row that comes first: step by step, and what it says of pivots.
use Rattle.std.proofs.Common.{◌≡◌, ℕ, ◌+◌, ◌<◌, ◌≤◌, inl, inr, pos, ℤ, ◌*ℤ◌, ◌<ℤ◌, nat_abs, length, Option, Some, None, refl, sym, ap, ap₂, ◌∙◌, subst, subst₂, arith}
use Rattle.std.specs.Prelude.{MatchOption}
use Rattle.std.specs.declared.cmp.Ordering.{Ordering}
use Rattle.std.specs.declared.cmp.Ordering.TheVariants.{Less, Equal, Greater}
use Rattle.std.specs.Ordering.{int_cmp}
use Rattle.std.proofs.lemmas.Bool.{cases_lt}
use Rattle.std.proofs.lemmas.Int.{ints}
use Rattle.gq_number.specs.Number.{Number, whole, ratio, ◌/ℚ◌}
use Rattle.gq_number.specs.Order.{◌<ℚ◌, ◌≤ℚ◌, number_cmp}
use Rattle.gq_number.proofs.Order.{<ℚ_trans, <ℚ-≤ℚ_trans, ≤ℚ_from_<ℚ, ≤ℚ_from_≡, ≤ℚ_or_above, not_above, ≤ℚ-<ℚ_trans}
use Rattle.gq_number.proofs.Compares.{number_cmp_decides}
use Rattle.lp_core.specs.Dictionary.{Dictionary, basic_at, constant_at, entry_at, OpeningIsRequired, IsOpening, ratio_at, IsLeast}
use Rattle.lp_fraction_dict.specs.Pivots.{IsLeaving}
use Rattle.lp_integer_rows.specs.declared.line.Line.{Line}
use Rattle.lp_integer_dict.specs.declared.choice.Candidate.{Candidate}
use Rattle.lp_integers.specs.Lines.{whole_at}
use Rattle.lp_integers.specs.Words.{IsFirstAbove as IsFirstPlaceAbove}
use Rattle.lp_integer_rows.specs.Form.{wholes}
use Rattle.lp_integer_dict.specs.InnerChoice.{fraction, IsFraction, ComesFirst, IsLesser, IsFirstOf, IsFirstAbove}
use Rattle.lp_integer_rows.proofs.Plans.{index_get}
use Rattle.lp_integer_rows.proofs.Lessening.{divided_line, compare_is}

comes_first_itself : (x : Number) (v : ℕ) → ComesFirst x v x v
comes_first_itself x v = inr (refl, omega arith)

comes_first_then : (x y z : Number) (v w u : ℕ) → ComesFirst x v y w → ComesFirst y w z u → ComesFirst x v z u
comes_first_then x y z v w u (inl less) (inl more) = inl (<ℚ_trans x y z less more)
comes_first_then x y z v w u (inl less) (inr same) = inl (subst (λ n. x <ℚ n) same.0 less)
comes_first_then x y z v w u (inr same) (inl more) = inl (subst (λ n. n <ℚ z) (sym same.0) more)
comes_first_then x y z v w u (inr same) (inr more) =
    let a = same.1 in
    let b = more.1 in
    inr (same.0 ∙ more.0, omega arith)

-- the first of two by a comparison
module _ (best other : Candidate) (r : Ordering) (is : r ≡ number_cmp (fraction other.measure) (fraction best.measure)) where
  pub lesser_by_less : r ≡ Less → IsLesser (Some best) other other
  lesser_by_less less = inl (refl, inl ((number_cmp_decides (fraction other.measure) (fraction best.measure)).0.0 (sym is ∙ less)))

  pub lesser_by_equal : r ≡ Equal → other.variable < best.variable → IsLesser (Some best) other other
  lesser_by_equal same less = inl (refl, inr ((number_cmp_decides (fraction other.measure) (fraction best.measure)).1.0 (sym is ∙ same), omega arith))

  pub best_by_equal : r ≡ Equal → best.variable ≤ other.variable → IsLesser (Some best) other best
  best_by_equal same most = inr (refl, inr (sym ((number_cmp_decides (fraction other.measure) (fraction best.measure)).1.0 (sym is ∙ same)), most))

  pub best_by_greater : r ≡ Greater → IsLesser (Some best) other best
  best_by_greater more = inr (refl, inl ((number_cmp_decides (fraction other.measure) (fraction best.measure)).2.0 (sym is ∙ more)))

module _ (P : ℕ → Type 0) (number : ℕ → Number) (variable : ℕ → ℕ) where
  pub first_begins : IsFirstOf P number variable 0 None
  first_begins i less = absurd (omega arith)

  pub first_skips : (n : ℕ) (best : Option Candidate) → IsFirstOf P number variable n best → ¬ (P n) → IsFirstOf P number variable (n + 1) best
  first_skips n None h none =
      λ i less p. elim (cases_lt i n) [
        | inl before ↦ h i before p
        | inr here ↦ let same : i ≡ n = omega arith in none (subst P same p)
      ]
  first_skips n (Some c) h none =
      let within = h.1 in (
        h.0,
        omega arith,
        h.2,
        h.3,
        h.4,
        λ i less p. elim (cases_lt i n) [
          | inl before ↦ h.5 i before p
          | inr here ↦ let same : i ≡ n = omega arith in absurd (none (subst P same p))
        ],
        h.6,
      )

  pub first_takes : (n : ℕ) (best : Option Candidate) (c r : Candidate) → IsFirstOf P number variable n best → P n → fraction c.measure ≡ number n → c.variable ≡ variable n → IsLesser best c r → IsFraction c.measure → IsFirstOf P number variable (n + 1) (Some r)
  first_takes n None c r h p is_number is_variable lesser fraction_is = (
    n,
    omega arith,
    p,
    ap (λ (x : Candidate). fraction x.measure) lesser ∙ is_number,
    ap (λ (x : Candidate). x.variable) lesser ∙ is_variable,
    λ i less q. elim (cases_lt i n) [
      | inl before ↦ absurd (h i before q)
      | inr here ↦ let same : n ≡ i = omega arith in subst (λ j. ComesFirst (number n) (variable n) (number j) (variable j)) same (comes_first_itself (number n) (variable n))
    ],
    subst (λ (x : Candidate). IsFraction x.measure) (sym lesser) fraction_is,
  )
  first_takes n (Some b) c r h p is_number is_variable (inl new) fraction_is =
      let over : ComesFirst (number n) (variable n) (number h.0) (variable h.0) =
      subst₂ (λ x v. ComesFirst x v (number h.0) (variable h.0)) is_number is_variable (subst₂ (λ x v. ComesFirst (fraction c.measure) c.variable x v) h.3 h.4 new.1) in (
        n,
        omega arith,
        p,
        ap (λ (x : Candidate). fraction x.measure) new.0 ∙ is_number,
        ap (λ (x : Candidate). x.variable) new.0 ∙ is_variable,
        λ i less q. elim (cases_lt i n) [
          | inl before ↦ comes_first_then (number n) (number h.0) (number i) (variable n) (variable h.0) (variable i) over (h.5 i before q)
          | inr here ↦ let same : n ≡ i = omega arith in subst (λ j. ComesFirst (number n) (variable n) (number j) (variable j)) same (comes_first_itself (number n) (variable n))
        ],
        subst (λ (x : Candidate). IsFraction x.measure) (sym new.0) fraction_is,
      )
  first_takes n (Some b) c r h p is_number is_variable (inr old) fraction_is =
      let within = h.1 in
      let over : ComesFirst (number h.0) (variable h.0) (number n) (variable n) =
      subst₂ (λ x v. ComesFirst (number h.0) (variable h.0) x v) is_number is_variable (subst₂ (λ x v. ComesFirst x v (fraction c.measure) c.variable) h.3 h.4 old.1) in (
        h.0,
        omega arith,
        h.2,
        ap (λ (x : Candidate). fraction x.measure) old.0 ∙ h.3,
        ap (λ (x : Candidate). x.variable) old.0 ∙ h.4,
        λ i less q. elim (cases_lt i n) [
          | inl before ↦ h.5 i before q
          | inr here ↦ let same : n ≡ i = omega arith in subst (λ j. ComesFirst (number h.0) (variable h.0) (number j) (variable j)) same over
        ],
        subst (λ (x : Candidate). IsFraction x.measure) (sym old.0) h.6,
      )

  pub best_is : (n : ℕ) (best : Option Candidate) → IsFirstOf P number variable n best → MatchOption best (Unit {0}) (λ b. IsFraction b.measure)
  best_is n None h = tt
  best_is n (Some c) h = h.6

least_or_equal : (x y : Number) (v w : ℕ) → ComesFirst x v y w → x ≤ℚ y
least_or_equal x y v w (inl less) = ≤ℚ_from_<ℚ x y less
least_or_equal x y v w (inr same) = ≤ℚ_from_≡ x y same.0

least_variable : (x y : Number) (v w : ℕ) → ComesFirst x v y w → y ≤ℚ x → v ≤ w
least_variable x y v w (inl less) most = absurd (not_above y x most less)
least_variable x y v w (inr same) most = same.1

-- ---- the opening pivot

module _ (d : Dictionary) where
  abbrev IsBelow : ℕ → Type 0
  IsBelow i = constant_at d i <ℚ whole (pos 0)

  pub no_opening : IsFirstOf IsBelow (constant_at d) (basic_at d) (length d.basic) None → ¬ (OpeningIsRequired d)
  no_opening none required = none required.0 required.1 required.2

  module _ (c : Candidate) (h : IsFirstOf IsBelow (constant_at d) (basic_at d) (length d.basic) (Some c)) where
    least_constant_at : IsLeast d h.0
    least_constant_at = (
      h.1,
      λ i less. elim (≤ℚ_or_above (whole (pos 0)) (constant_at d i)) [
        | inl above ↦ ≤ℚ_from_<ℚ _ _ (<ℚ-≤ℚ_trans (constant_at d h.0) (whole (pos 0)) (constant_at d i) h.2 above)
        | inr below ↦ least_or_equal (constant_at d h.0) (constant_at d i) (basic_at d h.0) (basic_at d i) (h.5 i less below)
      ],
    )

    pub opening_there : (k : ℕ) × IsOpening d (record { enter = 0; leave = c.variable }) k
    opening_there = (
      h.0,
      record {
        required = (h.0, h.1, h.2);
        enters = refl;
        leaves = index_get d.basic h.0 c.variable 0 h.1 (sym h.4);
        least = least_constant_at;
      },
    )

    pub opening_least : (i : ℕ) → IsLeast d i → c.variable ≤ basic_at d i
    opening_least i least =
        subst (λ v. v ≤ basic_at d i) (sym h.4)
        (least_variable (constant_at d h.0) (constant_at d i) (basic_at d h.0) (basic_at d i) (h.5 i least.0 (≤ℚ-<ℚ_trans (constant_at d i) (constant_at d h.0) (whole (pos 0)) (least.1 h.0 h.1) h.2)) (least.1 h.0 h.1))

-- ---- the ratio test

module _ (d : Dictionary) (q : ℕ) where
  abbrev pub Rated : Option Candidate → Type 0
  Rated r = IsFirstOf (λ i. whole (pos 0) <ℚ entry_at d i q) (λ i. constant_at d i /ℚ entry_at d i q) (basic_at d) (length d.basic) r

  pub none_limits : Rated None → IsLeaving d q None
  none_limits h k limits = h k limits.0 limits.1

  pub least_leaves : (c : Candidate) → Rated (Some c) → IsLeaving d q (Some c.variable)
  least_leaves c h = (
    (
      h.0,
      index_get d.basic h.0 c.variable 0 h.1 (sym h.4),
      record {
        limits = (h.1, h.2);
        least = λ i limits. least_or_equal (ratio_at d q h.0) (ratio_at d q i) (basic_at d h.0) (basic_at d i) (h.5 i limits.0 limits.1);
      },
    ),
    λ i ties.
        subst (λ v. v ≤ basic_at d i) (sym h.4)
        (least_variable (ratio_at d q h.0) (ratio_at d q i) (basic_at d h.0) (basic_at d i) (h.5 i ties.limits.0 ties.limits.1) (ties.least h.0 (h.1, h.2))),
  )

-- ---- two numbers

pub compare_fractions : (r s : ℤ) (a b : ℕ) → 0 < a → 0 < b → number_cmp (ratio r a) (ratio s b) ≡ int_cmp (r *ℤ pos b) (s *ℤ pos a)
compare_fractions r s a b above_a above_b =
    sym (ap₂ number_cmp (divided_line r a 1 (omega arith) above_a) (divided_line s b 1 (omega arith) above_b)) ∙ compare_is r s a b 1 1 above_a above_b (omega arith) (omega arith)

-- the number above 0 of a row, as the denominator of its ratio
pub ratio_is_fraction : (numbers : ℕ → ℕ → Number) (place column : ℕ) (n r : ℤ) (d e : ℕ) → 0 < d → d ≡ e → pos 0 <ℤ n → ratio n d ≡ numbers place column → ratio r e ≡ numbers place 0 → ratio r (nat_abs n) ≡ numbers place 0 /ℚ numbers place column
ratio_is_fraction numbers place column n r d e positive same above number constant =
    let n_is : n ≡ pos (nat_abs n) = omega (arith, ints) in
    let some : 0 < nat_abs n = omega (arith, ints) in
    sym (divided_line r (nat_abs n) d positive some) ∙ ap₂ (λ x y. x /ℚ y) (ap (ratio r) same ∙ constant) (ap (λ z. ratio z d) (sym n_is) ∙ number)

-- ---- the first variable above 0

-- the first place above 0 from column 2 on gives the first variable
pub first_of_places : (l : Line) (p q : ℕ) → q + 1 ≡ p → IsFirstPlaceAbove (wholes l) 2 (Some p) → IsFirstAbove l (Some q)
first_of_places l p q is known =
    let two = known.0 in (
      omega arith,
      subst (λ k. pos 0 <ℤ whole_at (wholes l) k) (sym is) known.2,
      λ v one above. let low = known.3 (v + 1) (omega arith) above in omega arith,
    )
