-- All rows stay within the bound after an exchange, row by row.
use Rattle.std.proofs.Common.{◌≡◌, ◌≢◌, ℕ, ℤ, ◌+◌, ◌*◌, ◌<◌, ◌≤◌, ◌^◌, ◌-◌, nat_abs, inl, inr, List, length, Some, pos, sym, ◌∙◌, subst, subst₂, arith}
use Rattle.std.specs.Prelude.{slice_get, slice_index_or}
use Rattle.std.proofs.lemmas.Bool.{cases_eq}
use Rattle.std.proofs.Math.Nat.{mul-le-mul, mul-le-mul_left}
use Rattle.lp_integers.specs.Lines.{whole_at}
use Rattle.lp_integers.proofs.Lines.{left_within}
use Rattle.lp_integer_rows.specs.declared.line.Line.{Line}
use Rattle.lp_integer_rows.specs.declared.line.Factors.{Factors}
use Rattle.lp_integer_rows.specs.Form.{wholes, IsLine, AreLines, IsPlan, own_factors}
use Rattle.lp_integer_dict.specs.WithinBound.{zero_after, DeferredStaysWithinAfter, AreFactorsWithin}
use Rattle.lp_integer_rows.proofs.Plans.{index_get, same_some}
use Rattle.lp_integer_rows.proofs.Updating.{own_number}

abbrev pub none : Factors
none = record { line = pos 0; pivot = pos 0; most = 0 }

-- a line and its factors, as they are read at a place
pub record IsAt (width : ℕ) (lines : List Line) (plans : List Factors) (p : Line) (i : ℕ) (l : Line) (f : Factors) : Type 0 where
  pub line : IsLine l
  pub wide : 1 < length (wholes l)
  pub there : slice_get lines i ≡ Some l
  pub by : slice_get plans i ≡ Some f
  pub small : f.most < 2 ^ 127
  pub within_bound : nat_abs f.line * l.most + nat_abs f.pivot * p.most ≤ 2 ^ 127 - 1

module _ (width bound column place : ℕ) (lines : List Line) (plans : List Factors) (p : Line) (are : AreLines width lines) (wide : 1 < width) (h : IsPlan bound column place lines p plans) (p_there : slice_get lines place ≡ Some p) where
  pub plans_sized : length plans ≡ length lines
  plans_sized = h.planned.sized

  own_bound : (m n : ℕ) → m ≡ 1 * m + 0 * n
  own_bound m n = omega arith

  most_weighed : (i : ℕ) (l : Line) (f : Factors) → slice_get lines i ≡ Some l → slice_get plans i ≡ Some f → (f.most < 2 ^ 127) × (nat_abs f.line * l.most + nat_abs f.pivot * p.most ≤ 2 ^ 127 - 1)
  most_weighed i l f there by = elim (cases_eq i place) [
    | inl same ↦
        let f_is : f ≡ own_factors p = h.planned.own f (subst (λ k. slice_get plans k ≡ Some f) same by) in
        let l_is : p ≡ l = same_some p l (sym p_there ∙ subst (λ k. slice_get lines k ≡ Some l) same there) in
        let small = (are place p p_there).0.small in
        let total = own_bound p.most p.most in
        let fits : 1 * p.most + 0 * p.most ≤ 2 ^ 127 - 1 = omega arith in (
          subst (λ (g : Factors). g.most < 2 ^ 127) (sym f_is) small,
          subst (λ (g : Factors). nat_abs g.line * l.most + nat_abs g.pivot * p.most ≤ 2 ^ 127 - 1) (sym f_is) (subst (λ (t : Line). 1 * t.most + 0 * p.most ≤ 2 ^ 127 - 1) l_is fits),
        )
    | inr other ↦
        let planned = h.planned.each i l f other there by in
        let most = planned.most in
        let within = planned.within in
        let small = h.small in
        (omega arith, omega arith)
  ]

  pub at : (i : ℕ) (l : Line) (f : Factors) → i < length lines → l ≡ slice_index_or lines i l → f ≡ slice_index_or plans i none → IsAt width lines plans p i l f
  at i l f within l_is f_is =
      let there : slice_get lines i ≡ Some l = index_get lines i l l within (sym l_is) in
      let sized = h.planned.sized in
      let by : slice_get plans i ≡ Some f = index_get plans i f none (omega arith) (sym f_is) in
      let of_line = are i l there in
      let is_wide = of_line.1 in
      let within_bound = most_weighed i l f there by in
      record { line = of_line.0; wide = omega arith; there = there; by = by; small = within_bound.0; within_bound = within_bound.1 }

  -- its number of variable 0 is within what its factors tell
  zero_within : (i : ℕ) (l : Line) (f : Factors) → slice_get lines i ≡ Some l → slice_get plans i ≡ Some f → zero_after l p f ≤ f.most
  zero_within i l f there by = elim (cases_eq i place) [
    | inl same ↦
        let f_is : f ≡ own_factors p = h.planned.own f (subst (λ k. slice_get plans k ≡ Some f) same by) in
        let l_is : p ≡ l = same_some p l (sym p_there ∙ subst (λ k. slice_get lines k ≡ Some l) same there) in
        let n : ℤ = whole_at (wholes p) 1 in
        subst (λ (g : Factors). zero_after l p g ≤ g.most) (sym f_is)
        (subst (λ (t : Line). zero_after t p (own_factors p) ≤ p.most) l_is (subst (λ z. nat_abs z ≤ p.most) (sym (own_number n n)) ((are place p p_there).0.numbers_within 1)))
    | inr other ↦
        let planned = h.planned.each i l f other there by in
        let first : nat_abs f.line * nat_abs (whole_at (wholes l) 1) ≤ nat_abs f.line * l.most = mul-le-mul_left (nat_abs f.line) ((are i l there).0.numbers_within 1) in
        let second : nat_abs f.pivot * nat_abs (whole_at (wholes p) 1) ≤ nat_abs f.pivot * p.most = mul-le-mul_left (nat_abs f.pivot) ((are place p p_there).0.numbers_within 1) in
        let most = planned.most in
        left_within f.line f.pivot (whole_at (wholes l) 1) (whole_at (wholes p) 1) f.most (omega arith)
  ]

  -- by one magnitude for all lines
  pub small_keeps : (top leaving : ℕ) (l : Line) (g : Factors) → AreFactorsWithin top plans → top * top + top * top ≤ bound → slice_get lines leaving ≡ Some l → slice_get plans leaving ≡ Some g → DeferredStaysWithinAfter leaving p l g lines plans bound
  small_keeps top leaving l g within square l_there g_there i x f other there by =
      let high : f.most ≤ top = within i f by in
      let high_leaving : g.most ≤ top = within leaving g g_there in
      let zero = zero_within i x f there by in
      let zero_leaving = zero_within leaving l g l_there g_there in
      let first : f.most * zero_after l p g ≤ top * top = mul-le-mul high (omega arith) in
      let second : zero_after x p f * g.most ≤ top * top = mul-le-mul (omega arith) high_leaving in
      omega arith

-- the first n rows stay within the bound
abbrev pub BoundBelow : ℕ → ℕ → Line → Factors → ℕ → List Line → List Factors → ℕ → Type 0
BoundBelow n leaving p g u lines plans bound =
    (i : ℕ) (x : Line) (f : Factors) → i < n → i ≢ leaving → slice_get lines i ≡ Some x → slice_get plans i ≡ Some f → f.most * u + zero_after x p f * g.most ≤ bound

pub bound_more : (n leaving : ℕ) (p : Line) (g : Factors) (u : ℕ) (lines : List Line) (plans : List Factors) (bound : ℕ) (x : Line) (f : Factors) → BoundBelow n leaving p g u lines plans bound → slice_get lines n ≡ Some x → slice_get plans n ≡ Some f → (n ≢ leaving → f.most * u + zero_after x p f * g.most ≤ bound) → BoundBelow (n + 1) leaving p g u lines plans bound
bound_more n leaving p g u lines plans bound x f h at by here i y e less other there on =
    elim (cases_eq i n) [
      | inl same ↦
          let x_is : x ≡ y = same_some x y (sym at ∙ subst (λ k. slice_get lines k ≡ Some y) same there) in
          let f_is : f ≡ e = same_some f e (sym by ∙ subst (λ k. slice_get plans k ≡ Some e) same on) in
          subst₂ (λ (t : Line) (r : Factors). r.most * u + zero_after t p r * g.most ≤ bound) x_is f_is (here (λ e. other (same ∙ e)))
      | inr apart ↦ h i y e (omega arith) other there on
    ]
