-- Values of the variables for a point: every point has some; and the value of coefficients there.
use Rattle.std.proofs.Common.{◌≡◌, ℕ, suc, ◌+◌, pos, List, [], ◌∷◌, ◌++◌, length, map, Option, Some, None, refl, sym, ap, ap₂, ◌∙◌, arith, append_assoc}
use Rattle.std.specs.Prelude.{sum_by}
use Rattle.std.specs.List.{enumerate_from, range_with_len}
use Rattle.std.proofs.lemmas.List.{length-append, get_or_at}
use Rattle.std.proofs.lemmas.List.Sums.{sum_by-cons}
use Rattle.gq_number.specs.Number.{Number, whole, ◌+ℚ◌, ◌-ℚ◌, ◌*ℚ◌, neg_ℚ}
use Rattle.gq_number.specs.Sums.{sum_by_ℚ}
use Rattle.gq_number.proofs.Ring.{ring_ℚ}
use Rattle.gq_number.proofs.Sums.{sum_by_ℚ-nil, sum_by_ℚ-cons, sum_by_ℚ-append}
use Rattle.lp_core.specs.declared.program.Column.{Column}
use Rattle.lp_core.specs.Sums.{value_of_column}
use Rattle.lp_core.specs.Feasible.{bound_value}
use Rattle.lp_core.specs.StandardForm as form
use Rattle.lp_std.specs.InnerSteps.{bounds_over}
use Rattle.lp_std.specs.Points.{sum_at}
use Rattle.lp_std.proofs.BoundSteps.{counted_by_bounds}
use Rattle.lp_std.proofs.Shapes.{shift_for}
use Rattle.lp_std.proofs.Sums.{range-append}
use Rattle.lp_std.proofs.Prices.{slack_sum, slack_sum-append, one_slack}

-- the values of a column's variables at this value of the column; a free column's second variable
-- may have any value
abbrev pub piece : form.Shift → Number → Number → List Number
piece (form.from_lower b) a c = (a -ℚ b) ∷ []
piece (form.from_upper b) a c = (b -ℚ a) ∷ []
piece form.free a c = (a +ℚ c) ∷ c ∷ []

length-piece : (s : form.Shift) (a c : Number) → length (piece s a c) ≡ form.width s
length-piece (form.from_lower b) a c = refl
length-piece (form.from_upper b) a c = refl
length-piece form.free a c = refl

-- a value after others
value_at : (prefix : List Number) (a : Number) (rest y : List Number) (v : ℕ) → y ≡ prefix ++ a ∷ rest → length prefix ≡ v → value_of_column y v ≡ a
value_at prefix a rest y v e n = ap (λ l. value_of_column l v) e ∙ get_or_at prefix a rest (whole (pos 0)) v n

value_next : (prefix : List Number) (a c : Number) (rest y : List Number) (v : ℕ) → y ≡ prefix ++ a ∷ c ∷ rest → length prefix ≡ v → value_of_column y (v + 1) ≡ c
value_next prefix a c rest y v e n = value_at (prefix ++ a ∷ []) c rest y (v + 1) (e ∙ sym (append_assoc prefix (a ∷ []) (c ∷ rest))) (length-append prefix (a ∷ []) ∙ ap (λ k. k + 1) n)

-- the column has that value there
pub piece_back : (s : form.Shift) (prefix : List Number) (a c : Number) (rest y : List Number) (v : ℕ) → y ≡ prefix ++ (piece s a c ++ rest) → length prefix ≡ v → form.shifted_back (v, s) y ≡ a
piece_back (form.from_lower b) prefix a c rest y v e n = ap (λ u. b +ℚ u) (value_at prefix (a -ℚ b) rest y v e n) ∙ simp ring_ℚ
piece_back (form.from_upper b) prefix a c rest y v e n = ap (λ u. b -ℚ u) (value_at prefix (b -ℚ a) rest y v e n) ∙ simp ring_ℚ
piece_back form.free prefix a c rest y v e n = ap₂ (λ u w. u -ℚ w) (value_at prefix (a +ℚ c) (c ∷ rest) y v e n) (value_next prefix (a +ℚ c) c rest y v e n) ∙ simp ring_ℚ

module _ {F : Type 0} (value : F → Number) (costs : List Number) (n : ℕ) where
  -- the share of a column in the value of coefficients: one part by its value, one by its second
  -- variable's value, and a constant
  abbrev pub slope : ℕ → ℕ → Option F → Option F → Number
  slope v r (Some l) (Some u) = value_of_column costs v +ℚ form.multiplier n costs r
  slope v r (Some l) None = value_of_column costs v
  slope v r None (Some u) = neg_ℚ (value_of_column costs v)
  slope v r None None = value_of_column costs v

  abbrev pub second : ℕ → ℕ → Option F → Option F → Number
  second v r (Some l) (Some u) = whole (pos 0)
  second v r (Some l) None = whole (pos 0)
  second v r None (Some u) = whole (pos 0)
  second v r None None = value_of_column costs v +ℚ value_of_column costs (v + 1)

  abbrev pub constant : ℕ → ℕ → Option F → Option F → Number
  constant v r (Some l) (Some u) = neg_ℚ (value_of_column costs v *ℚ value l +ℚ form.multiplier n costs r *ℚ value u)
  constant v r (Some l) None = neg_ℚ (value_of_column costs v *ℚ value l)
  constant v r None (Some u) = value_of_column costs v *ℚ value u
  constant v r None None = whole (pos 0)

  -- the numbers of columns, the first with first variable v and own row at place r
  abbrev pub by_columns : (ℕ → ℕ → Option F → Option F → Number) → ℕ → ℕ → List (Column F) → List Number
  by_columns f v r [] = []
  by_columns f v r (column ∷ columns) = f v r column.lower column.upper ∷ by_columns f (v + form.width (shift_for value column)) (r + form.rows_of_bounds column.lower column.upper) columns

-- the sum of a list's numbers times those of a function from place j on
abbrev pub weighted : (ℕ → Number) → ℕ → List Number → Number
weighted f j xs = sum_by_ℚ (λ (q : ℕ × Number). q.1 *ℚ f q.0) (enumerate_from j xs)

abbrev pub plain : List Number → Number
plain xs = sum_by_ℚ (λ (a : Number). a) xs

module _ (x t : ℕ → Number) where
  -- the values for columns of which the first has place j
  abbrev pub lift : List form.Shift → ℕ → List Number
  lift [] j = []
  lift (s ∷ shifts) j = piece s (x j) (t j) ++ lift shifts (j + 1)

  pub length-lift : (shifts : List form.Shift) (j : ℕ) → length (lift shifts j) ≡ sum_by form.width shifts
  length-lift [] j = refl
  length-lift (s ∷ shifts) j = length-append (piece s (x j) (t j)) (lift shifts (j + 1)) ∙ ap₂ (λ a b. a + b) (length-piece s (x j) (t j)) (length-lift shifts (j + 1)) ∙ sym (sum_by-cons form.width s shifts)

  longer : (s : form.Shift) (prefix : List Number) (v j : ℕ) → length prefix ≡ v → length (prefix ++ piece s (x j) (t j)) ≡ v + form.width s
  longer s prefix v j n = length-append prefix (piece s (x j) (t j)) ∙ ap₂ (λ a b. a + b) n (length-piece s (x j) (t j))

  following : (s : form.Shift) (shifts : List form.Shift) (prefix y : List Number) (j : ℕ) → y ≡ prefix ++ lift (s ∷ shifts) j → y ≡ (prefix ++ piece s (x j) (t j)) ++ lift shifts (j + 1)
  following s shifts prefix y j e = e ∙ sym (append_assoc prefix (piece s (x j) (t j)) (lift shifts (j + 1)))

  -- they stand for the point
  pub lift_back : (shifts : List form.Shift) (prefix y : List Number) (v j : ℕ) → y ≡ prefix ++ lift shifts j → length prefix ≡ v → map (λ c. form.shifted_back c y) (form.numbered v shifts) ≡ map x (range_with_len j (length shifts))
  lift_back [] prefix y v j e n = refl
  lift_back (s ∷ shifts) prefix y v j e n =
      ap₂ (λ a more. a ∷ more) (piece_back s prefix (x j) (t j) (lift shifts (j + 1)) y v e n) (lift_back shifts (prefix ++ piece s (x j) (t j)) y (v + form.width s) (j + 1) (following s shifts prefix y j e) (longer s prefix v j n))

  module _ {F : Type 0} (value : F → Number) (costs : List Number) (n : ℕ) where
    one_term : (f : ℕ → Number) (v : ℕ) → sum_by_ℚ f (range_with_len v 1) ≡ f v
    one_term f v = sum_by_ℚ-cons f v [] ∙ ap (λ u. f v +ℚ u) (sum_by_ℚ-nil f) ∙ simp ring_ℚ

    two_terms : (f : ℕ → Number) (v : ℕ) → sum_by_ℚ f (range_with_len v 2) ≡ f v +ℚ f (v + 1)
    two_terms f v = sum_by_ℚ-cons f v ((v + 1) ∷ []) ∙ ap (λ u. f v +ℚ u) (one_term f (v + 1))

    one_entry : (v : ℕ) (y : List Number) → sum_at ((v, whole (pos 1)) ∷ []) y ≡ value_of_column y v
    one_entry v y = sum_by_ℚ-cons _ (v, whole (pos 1)) [] ∙ ap (λ u. whole (pos 1) *ℚ value_of_column y v +ℚ u) (sum_by_ℚ-nil _) ∙ simp ring_ℚ

    column_sum : (lower upper : Option F) (prefix : List Number) (a c : Number) (rest y : List Number) (v r j : ℕ) → y ≡ prefix ++ (piece (form.shift_of (bound_value value lower) (bound_value value upper)) a c ++ rest) → length prefix ≡ v → sum_by_ℚ (λ w. value_of_column costs w *ℚ value_of_column y w) (range_with_len v (form.width (form.shift_of (bound_value value lower) (bound_value value upper)))) +ℚ slack_sum costs y (n + 1 + r) (form.bound_rows j v (bound_value value lower) (bound_value value upper)) ≡ slope value costs n v r lower upper *ℚ a +ℚ second value costs n v r lower upper *ℚ c +ℚ constant value costs n v r lower upper
    column_sum (Some l) (Some u) prefix a c rest y v r j e m =
        let is = value_at prefix (a -ℚ value l) rest y v e m in
        ap₂ (λ s w. s +ℚ w) (one_term (λ w. value_of_column costs w *ℚ value_of_column y w) v ∙ ap (λ k. value_of_column costs v *ℚ k) is) (one_slack costs y (n + 1 + r) _ ∙ ap (λ k. value_of_column costs (n + 1 + r) *ℚ ((value u -ℚ value l) -ℚ k)) (one_entry v y ∙ is))
        ∙ apart (value_of_column costs v) (value_of_column costs (n + 1 + r)) (value l) (value u) a c
      where
        apart : (k p l u a c : Number) → k *ℚ (a -ℚ l) +ℚ p *ℚ ((u -ℚ l) -ℚ (a -ℚ l)) ≡ (k +ℚ neg_ℚ p) *ℚ a +ℚ whole (pos 0) *ℚ c +ℚ neg_ℚ (k *ℚ l +ℚ neg_ℚ p *ℚ u)
        apart k p l u a c = simp ring_ℚ
    column_sum (Some l) None prefix a c rest y v r j e m =
        ap₂ (λ s w. s +ℚ w) (one_term (λ w. value_of_column costs w *ℚ value_of_column y w) v ∙ ap (λ k. value_of_column costs v *ℚ k) (value_at prefix (a -ℚ value l) rest y v e m)) (sum_by_ℚ-nil _)
        ∙ apart (value_of_column costs v) (value l) a c
      where
        apart : (k l a c : Number) → k *ℚ (a -ℚ l) +ℚ whole (pos 0) ≡ k *ℚ a +ℚ whole (pos 0) *ℚ c +ℚ neg_ℚ (k *ℚ l)
        apart k l a c = simp ring_ℚ
    column_sum None (Some u) prefix a c rest y v r j e m =
        ap₂ (λ s w. s +ℚ w) (one_term (λ w. value_of_column costs w *ℚ value_of_column y w) v ∙ ap (λ k. value_of_column costs v *ℚ k) (value_at prefix (value u -ℚ a) rest y v e m)) (sum_by_ℚ-nil _)
        ∙ apart (value_of_column costs v) (value u) a c
      where
        apart : (k u a c : Number) → k *ℚ (u -ℚ a) +ℚ whole (pos 0) ≡ neg_ℚ k *ℚ a +ℚ whole (pos 0) *ℚ c +ℚ k *ℚ u
        apart k u a c = simp ring_ℚ
    column_sum None None prefix a c rest y v r j e m =
        ap₂ (λ s w. s +ℚ w) (two_terms (λ w. value_of_column costs w *ℚ value_of_column y w) v ∙ ap₂ (λ k l. value_of_column costs v *ℚ k +ℚ value_of_column costs (v + 1) *ℚ l) (value_at prefix (a +ℚ c) (c ∷ rest) y v e m) (value_next prefix (a +ℚ c) c rest y v e m)) (sum_by_ℚ-nil _)
        ∙ apart (value_of_column costs v) (value_of_column costs (v + 1)) a c
      where
        apart : (k l a c : Number) → (k *ℚ (a +ℚ c) +ℚ l *ℚ c) +ℚ whole (pos 0) ≡ k *ℚ a +ℚ (k +ℚ l) *ℚ c +ℚ whole (pos 0)
        apart k l a c = simp ring_ℚ

    -- columns and their own rows
    pub columns_sum : (all : List (ℕ × form.Shift)) (columns : List (Column F)) (prefix y : List Number) (v r j : ℕ) → y ≡ prefix ++ lift (map (shift_for value) columns) j → length prefix ≡ v → ((k : ℕ) → form.column_at all (j + k) ≡ form.column_at (form.numbered v (map (shift_for value) columns)) k) → sum_by_ℚ (λ w. value_of_column costs w *ℚ value_of_column y w) (range_with_len v (sum_by form.width (map (shift_for value) columns))) +ℚ slack_sum costs y (n + 1 + r) (bounds_over value all j columns) ≡ weighted x j (by_columns value costs n (slope value costs n) v r columns) +ℚ weighted t j (by_columns value costs n (second value costs n) v r columns) +ℚ plain (by_columns value costs n (constant value costs n) v r columns)
    columns_sum all [] prefix y v r j e m at = ap₂ (λ a b. a +ℚ b) (sum_by_ℚ-nil _) (sum_by_ℚ-nil _) ∙ nothing ∙ sym (ap₂ (λ a b. a +ℚ b) (ap₂ (λ a b. a +ℚ b) (sum_by_ℚ-nil _) (sum_by_ℚ-nil _)) (sum_by_ℚ-nil _))
      where
        nothing : whole (pos 0) +ℚ whole (pos 0) ≡ whole (pos 0) +ℚ whole (pos 0) +ℚ whole (pos 0)
        nothing = simp ring_ℚ
    columns_sum all (column ∷ columns) prefix y v r j e m at =
        let s = shift_for value column in
        let shifts = map (shift_for value) columns in
        let g = λ (w : ℕ). value_of_column costs w *ℚ value_of_column y w in
        let W = sum_by form.width shifts in
        let here : form.column_at all j ≡ (v, s) = ap (form.column_at all) (let c : j ≡ j + 0 = omega arith in c) ∙ at 0 in
        let first = form.bound_rows j v (bound_value value column.lower) (bound_value value column.upper) in
        let count = form.rows_of_bounds column.lower column.upper in
        let rest = columns_sum all columns (prefix ++ piece s (x j) (t j)) y (v + form.width s) (r + form.rows_of_bounds column.lower column.upper) (j + 1) (following s shifts prefix y j e) (longer s prefix v j m) (λ k. ap (form.column_at all) (let c : j + 1 + k ≡ j + suc k = omega arith in c) ∙ at (suc k)) in
        ap₂ (λ a b. a +ℚ b)
        (ap (λ k. sum_by_ℚ g (range_with_len v k)) (sum_by-cons form.width s shifts) ∙ ap (sum_by_ℚ g) (range-append v (form.width s) W) ∙ sum_by_ℚ-append g (range_with_len v (form.width s)) (range_with_len (v + form.width s) W))
        (ap (λ (c : ℕ × form.Shift). slack_sum costs y (n + 1 + r) (form.bound_rows j c.0 (bound_value value column.lower) (bound_value value column.upper) ++ bounds_over value all (j + 1) columns)) here
        ∙ slack_sum-append costs y (n + 1 + r) first (bounds_over value all (j + 1) columns)
        ∙ ap (λ k. slack_sum costs y (n + 1 + r) first +ℚ slack_sum costs y k (bounds_over value all (j + 1) columns)) (ap (λ k. n + 1 + r + k) (counted_by_bounds value j v column.lower column.upper) ∙ (let c : n + 1 + r + form.rows_of_bounds column.lower column.upper ≡ n + 1 + (r + form.rows_of_bounds column.lower column.upper) = omega arith in c)))
        ∙ paired _ _ _ _
        ∙ ap₂ (λ a b. a +ℚ b) (column_sum column.lower column.upper prefix (x j) (t j) (lift shifts (j + 1)) y v r j e m) rest
        ∙ sorted _ _ _ _ _ _
        ∙ sym (ap₂ (λ a b. a +ℚ b) (ap₂ (λ a b. a +ℚ b) (sum_by_ℚ-cons _ (j, slope value costs n v r column.lower column.upper) (enumerate_from (j + 1) (by_columns value costs n (slope value costs n) (v + form.width s) (r + form.rows_of_bounds column.lower column.upper) columns))) (sum_by_ℚ-cons _ (j, second value costs n v r column.lower column.upper) (enumerate_from (j + 1) (by_columns value costs n (second value costs n) (v + form.width s) (r + form.rows_of_bounds column.lower column.upper) columns)))) (sum_by_ℚ-cons _ (constant value costs n v r column.lower column.upper) (by_columns value costs n (constant value costs n) (v + form.width s) (r + form.rows_of_bounds column.lower column.upper) columns)))
      where
        paired : (a b c d : Number) → (a +ℚ b) +ℚ (c +ℚ d) ≡ (a +ℚ c) +ℚ (b +ℚ d)
        paired a b c d = simp ring_ℚ

        sorted : (a b c d e f : Number) → (a +ℚ b +ℚ c) +ℚ (d +ℚ e +ℚ f) ≡ (a +ℚ d) +ℚ (b +ℚ e) +ℚ (c +ℚ f)
        sorted a b c d e f = simp ring_ℚ
