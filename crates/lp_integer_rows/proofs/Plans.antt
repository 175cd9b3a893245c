-- The factors of all stored rows.
use Rattle.std.proofs.Common.{◌≡◌, ◌≢◌, ◌⊎◌, ℕ, zero, suc, ◌+◌, ◌<◌, ◌≤◌, nat_abs, inl, inr, List, [], ◌∷◌, ◌++◌, length, Some, None, refl, sym, ap, ap₂, ◌∙◌, subst, subst₂, arith, length-append, length-set}
use Rattle.std.proofs.lemmas.Bool.{cases_eq}
use Rattle.std.specs.Prelude.{slice_get, slice_set, slice_index_or}
use Rattle.lp_integer_rows.specs.declared.line.Line.{Line}
use Rattle.lp_integer_rows.specs.declared.line.Factors.{Factors}
use Rattle.lp_integer_rows.specs.Form.{IsPlanned, ArePlanned, IsLine, wholes, line_number, number_or_none, lines_number, IsWithinFactors, IsSameLine, AreSameLines, IsLessenedLine, IsDividedLine, AreLines, AreLinesExchanged, AreTurned, IsPlan, own_factors}
use Rattle.lp_integers.specs.Lines.{whole_at}
use Rattle.gq_number.specs.Number.{◌-ℚ◌, ◌*ℚ◌, ◌/ℚ◌}
use Rattle.lp_integer_rows.specs.Turning.{turned_at}
use Rattle.lp_integer_rows.proofs.Turning.{turned_row, turned_other}
use Rattle.lp_integer_rows.proofs.Updating.{own_number}

pub get_within : {X : Type 0} (xs : List X) (k : ℕ) (x : X) → slice_get xs k ≡ Some x → k < length xs
get_within [] k x is = absurd (cc)
get_within (y ∷ xs) zero x is = omega arith
get_within (y ∷ xs) (suc k) x is = let rest = get_within xs k x is in omega arith

pub index_get : {X : Type 0} (xs : List X) (k : ℕ) (x d : X) → k < length xs → slice_index_or xs k d ≡ x → slice_get xs k ≡ Some x
index_get [] k x d less is = absurd (omega arith)
index_get (y ∷ xs) zero x d less is = ap Some is
index_get (y ∷ xs) (suc k) x d less is = index_get xs k x d (omega arith) is

-- one more at the end
get_more : {X : Type 0} (xs : List X) (f : X) (j : ℕ) (g : X) → slice_get (xs ++ f ∷ []) j ≡ Some g → (slice_get xs j ≡ Some g) ⊎ ((j ≡ length xs) × (g ≡ f))
get_more [] f zero g is = inr (refl, cc)
get_more [] f (suc j) g is = absurd (cc)
get_more (x ∷ xs) f zero g is = inl is
get_more (x ∷ xs) f (suc j) g is =
    elim (get_more xs f j g is) [
      | inl there ↦ inl there
      | inr last ↦ inr (let e = last.0 in omega arith, last.1)
    ]

pub planned_more : (bound column place : ℕ) (lines : List Line) (pivot : Line) (plans : List Factors) (n : ℕ) (f : Factors) → ArePlanned bound column place lines pivot plans n → ((l : Line) → n ≢ place → slice_get lines n ≡ Some l → IsPlanned bound column l pivot f) → (n ≡ place → f ≡ own_factors pivot) → ArePlanned bound column place lines pivot (plans ++ f ∷ []) (n + 1)
planned_more bound column place lines pivot plans n f h here own =
    record {
      sized = let e = h.sized in length-append plans (f ∷ []) ∙ omega arith;
      each = λ i l g other there at.
          elim (get_more plans f i g at) [
            | inl before ↦ h.each i l g other there before
            | inr last ↦
                let same : i ≡ n = last.0 ∙ h.sized in
                subst (λ t. IsPlanned bound column l pivot t) (sym last.1) (here l (λ e. other (same ∙ e)) (subst (λ k. slice_get lines k ≡ Some l) same there))
          ];
      own = λ g at.
          elim (get_more plans f place g at) [
            | inl before ↦ h.own g before
            | inr last ↦ last.1 ∙ own (sym (last.0 ∙ h.sized))
          ];
    }

-- ---- the rows in order

pub set_same : {X : Type 0} (xs : List X) (k : ℕ) (x : X) → k < length xs → slice_get (slice_set xs k x) k ≡ Some x
set_same [] k x less = absurd (omega arith)
set_same (y ∷ xs) zero x less = refl
set_same (y ∷ xs) (suc k) x less = set_same xs k x (omega arith)

pub set_other : {X : Type 0} (xs : List X) (k i : ℕ) (x : X) → i ≢ k → slice_get (slice_set xs k x) i ≡ slice_get xs i
set_other [] k i x other = refl
set_other (y ∷ xs) zero zero x other = absurd (other refl)
set_other (y ∷ xs) zero (suc i) x other = refl
set_other (y ∷ xs) (suc k) zero x other = refl
set_other (y ∷ xs) (suc k) (suc i) x other = set_other xs k i x (λ is. other (ap suc is))

pub exchanged_more : (column place : ℕ) (pivot : Line) (plans : List Factors) (before after : List Line) (n : ℕ) (x y : Line) (f : Factors) → AreLinesExchanged column place pivot plans before after n → n < length after → n ≢ place → slice_get before n ≡ Some x → slice_get plans n ≡ Some f → IsLessenedLine column x pivot y f → AreLinesExchanged column place pivot plans before (slice_set after n y) (n + 1)
exchanged_more column place pivot plans before after n x y f h within other there plan lessened =
    record {
      sized = length-set after n y ∙ h.sized;
      each = λ i v w g below apart at now by. elim (cases_eq i n) [
        | inl same ↦
            let first : x ≡ v = let e = subst (λ k. slice_get before k ≡ Some v) same at in cc in
            let second : y ≡ w = let e = subst (λ k. slice_get (slice_set after n y) k ≡ Some w) same now in let s = set_same after n y within in cc in
            let third : f ≡ g = let e = subst (λ k. slice_get plans k ≡ Some g) same by in cc in
            subst (IsLessenedLine column v pivot w) third (subst₂ (λ s t. IsLessenedLine column s pivot t f) first second lessened)
        | inr another ↦ h.each i v w g (omega arith) apart at (sym (set_other after n i y another) ∙ now) by
      ];
      left = λ i from. set_other after n i y (λ same. absurd (omega arith)) ∙ h.left i (omega arith);
      kept = set_other after n place y (λ same. other (sym same)) ∙ h.kept;
    }

pub exchanged_past : (column place : ℕ) (pivot : Line) (plans : List Factors) (before after : List Line) (n : ℕ) → AreLinesExchanged column place pivot plans before after n → n ≡ place → AreLinesExchanged column place pivot plans before after (n + 1)
exchanged_past column place pivot plans before after n h same =
    record {
      sized = h.sized;
      each = λ i v w g below apart at now by. elim (cases_eq i n) [
        | inl here ↦ absurd (apart (here ∙ same))
        | inr another ↦ h.each i v w g (omega arith) apart at now by
      ];
      left = λ i from. h.left i (omega arith);
      kept = h.kept;
    }

-- past the end there is nothing
pub get_past : {X : Type 0} (xs : List X) (i : ℕ) → length xs ≤ i → slice_get xs i ≡ None
get_past [] i past = refl
get_past (x ∷ xs) zero past = absurd (omega arith)
get_past (x ∷ xs) (suc i) past = get_past xs i (omega arith)

pub exchanged_end : (column place : ℕ) (pivot : Line) (plans : List Factors) (before after : List Line) (n : ℕ) → length after ≤ n → AreLinesExchanged column place pivot plans before after n → AreLinesExchanged column place pivot plans before after (length before)
exchanged_end column place pivot plans before after n all h =
    let same = h.sized in
    record {
      sized = h.sized;
      each = λ i x y f below other at now by. h.each i x y f (omega arith) other at now by;
      left = λ i from. get_past after i (omega arith) ∙ sym (get_past before i from);
      kept = h.kept;
    }

-- ---- the whole exchange

pub plan_put : (bound column place : ℕ) (lines now : List Line) (pivot none : Line) (plans : List Factors) → now ≡ slice_set lines place none → IsPlan bound column place lines pivot plans → IsPlan bound column place now pivot plans
plan_put bound column place lines now pivot none plans now_is h =
    subst (λ ls. IsPlan bound column place ls pivot plans) (sym now_is)
    (record {
      small = h.small;
      above = h.above;
      planned = record {
        sized = h.planned.sized ∙ sym (length-set lines place none);
        each = λ i l f other there at. h.planned.each i l f other (sym (set_other lines place i none other) ∙ there) at;
        own = h.planned.own;
      };
    })

pub some_at : {X : Type 0} (xs : List X) (i : ℕ) → i < length xs → (x : X) × (slice_get xs i ≡ Some x)
some_at [] i within = absurd (omega arith)
some_at (x ∷ xs) zero within = (x, refl)
some_at (x ∷ xs) (suc i) within = some_at xs i (omega arith)

pub same_some : {X : Type 0} (x y : X) → Some x ≡ Some y → x ≡ y
same_some x y h = cc

within_own : (column : ℕ) (pivot divided : Line) → IsDividedLine column pivot divided → IsWithinFactors pivot pivot divided (own_factors pivot)
within_own column pivot divided d =
    record {
      most = d.most;
      magnitudes = λ c. subst (λ z. nat_abs (whole_at (wholes divided) c) ≤ nat_abs z) (sym (own_number (whole_at (wholes pivot) c) (whole_at (wholes pivot) c))) (d.magnitudes c);
    }

module _ (column place : ℕ) (plans : List Factors) (before after : List Line) (pivot none divided : Line) (n : ℕ) (within : place < length before) (there : slice_get before place ≡ Some pivot) (n_is : n ≡ length before) (sized_plans : length plans ≡ length before) (own : (f : Factors) → slice_get plans place ≡ Some f → f ≡ own_factors pivot) (h : AreLinesExchanged column place pivot plans (slice_set before place none) after n) (d : IsDividedLine column pivot divided) where
  sized_after : length after ≡ length before
  sized_after = h.sized ∙ length-set before place none

  pivot_number : (c : ℕ) → lines_number before place c ≡ line_number pivot c
  pivot_number c = ap (λ o. number_or_none o c) there

  at_place : slice_get (slice_set after place divided) place ≡ Some divided
  at_place = set_same after place divided (let e = sized_after in omega arith)

  -- another line, before and after
  lessened_by : (i : ℕ) (x y : Line) (f : Factors) → i ≢ place → slice_get before i ≡ Some x → slice_get (slice_set after place divided) i ≡ Some y → slice_get plans i ≡ Some f → IsLessenedLine column x pivot y f
  lessened_by i x y f other at now by =
      h.each i x y f (let e = get_within before i x at in omega arith) other (set_other before place i none other ∙ at) (sym (set_other after place i divided other) ∙ now) by

  numbers_turned : (i c : ℕ) → i < length before → lines_number (slice_set after place divided) i c ≡ turned_at (lines_number before) column place i c
  numbers_turned i c less = elim (cases_eq i place) [
    | inl same ↦
        subst (λ k. lines_number (slice_set after place divided) k c ≡ turned_at (lines_number before) column place k c) (sym same)
        (ap (λ o. number_or_none o c) at_place ∙ d.numbers c ∙ sym (turned_row (lines_number before) column place c ∙ ap₂ (λ x y. x /ℚ y) (pivot_number c) (pivot_number column)))
    | inr other ↦
        let x = some_at before i less in
        let y = some_at (slice_set after place divided) i (let e = sized_after in let g = length-set after place divided in omega arith) in
        let f = some_at plans i (let e = sized_plans in omega arith) in
        ap (λ o. number_or_none o c) y.1 ∙ (lessened_by i x.0 y.0 f.0 other x.1 y.1 f.1).numbers c
        ∙ sym (turned_other (lines_number before) column place i c other
        ∙ ap₂ (λ s t. number_or_none s c -ℚ number_or_none s column *ℚ t) x.1 (ap₂ (λ s t. s /ℚ t) (pivot_number c) (pivot_number column)))
  ]

  lines_turned : (width : ℕ) → AreLines width before → AreLines width (slice_set after place divided)
  lines_turned width are i y now = elim (cases_eq i place) [
    | inl same ↦
        let is : divided ≡ y = same_some divided y (sym at_place ∙ subst (λ k. slice_get (slice_set after place divided) k ≡ Some y) same now) in
        subst (λ l. IsLine l × (length (wholes l) ≡ width)) is (d.is_line, d.sized ∙ (are place pivot there).1)
    | inr other ↦
        let less : i < length before = let e = get_within (slice_set after place divided) i y now in let g = length-set after place divided in let k = sized_after in omega arith in
        let x = some_at before i less in
        let f = some_at plans i (let e = sized_plans in omega arith) in
        let l = lessened_by i x.0 y f.0 other x.1 now f.1 in
        (l.is_line, l.sized ∙ (are i x.0 x.1).1)
  ]

  within_plans : (i : ℕ) (p x y : Line) (f : Factors) → slice_get before place ≡ Some p → slice_get before i ≡ Some x → slice_get (slice_set after place divided) i ≡ Some y → slice_get plans i ≡ Some f → IsWithinFactors x p y f
  within_plans i p x y f at_p at now by =
      let p_is : pivot ≡ p = same_some pivot p (sym there ∙ at_p) in
      elim (cases_eq i place) [
        | inl same ↦
            let x_is : pivot ≡ x = same_some pivot x (sym there ∙ subst (λ k. slice_get before k ≡ Some x) same at) in
            let y_is : divided ≡ y = same_some divided y (sym at_place ∙ subst (λ k. slice_get (slice_set after place divided) k ≡ Some y) same now) in
            let f_is : own_factors pivot ≡ f = sym (own f (subst (λ k. slice_get plans k ≡ Some f) same by)) in
            subst (IsWithinFactors x p y) f_is (subst₂ (λ s t. IsWithinFactors s t y (own_factors pivot)) x_is p_is (subst (λ t. IsWithinFactors pivot pivot t (own_factors pivot)) y_is (within_own column pivot divided d)))
        | inr other ↦ subst (λ t. IsWithinFactors x t y f) p_is (lessened_by i x y f other at now by).within
      ]

  pub turned_lines : AreTurned column place plans before (slice_set after place divided)
  turned_lines =
      record { sized = length-set after place divided ∙ sized_after; are_lines = lines_turned; numbers = numbers_turned; within = within_plans }

-- ---- dividing the rows in order

-- the first n lines are divided, the others as before
pub record AreReduced (before after : List Line) (n : ℕ) : Type 0 where
  pub sized : length after ≡ length before
  pub each : (i : ℕ) (x y : Line) → i < n → slice_get before i ≡ Some x → slice_get after i ≡ Some y → IsSameLine x y
  pub left : (i : ℕ) → n ≤ i → slice_get after i ≡ slice_get before i

pub reduced_more : (before after : List Line) (n : ℕ) (x y : Line) → AreReduced before after n → n < length after → slice_get before n ≡ Some x → IsSameLine x y → AreReduced before (slice_set after n y) (n + 1)
reduced_more before after n x y h within there is =
    record {
      sized = length-set after n y ∙ h.sized;
      each = λ i v w below at now. elim (cases_eq i n) [
        | inl same ↦
            let first : x ≡ v = let e = subst (λ k. slice_get before k ≡ Some v) same at in cc in
            let second : y ≡ w = let e = subst (λ k. slice_get (slice_set after n y) k ≡ Some w) same now in let s = set_same after n y within in cc in
            subst₂ IsSameLine first second is
        | inr another ↦ h.each i v w (omega arith) at (sym (set_other after n i y another) ∙ now)
      ];
      left = λ i from. set_other after n i y (λ same. absurd (omega arith)) ∙ h.left i (omega arith);
    }

pub reduced_all : (before after : List Line) (n : ℕ) → length after ≤ n → AreReduced before after n → AreSameLines before after
reduced_all before after n all h =
    record { sized = h.sized; each = λ i x y at now. h.each i x y (let e = get_within after i y now in omega arith) at now }
