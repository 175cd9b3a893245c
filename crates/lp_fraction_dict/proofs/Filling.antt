-- Rows filled column by column: those of the first dictionary.
use Rattle.std.proofs.Common.{◌≡◌, ◌≢◌, ℕ, zero, suc, ◌+◌, ◌<◌, ◌≤◌, ◌==◌, inl, inr, Bool, true, false, pos, cond, List, [], ◌∷◌, ◌++◌, length, map, drop, get_or, refl, sym, ap, ap₂, ◌∙◌, subst, subst₂, arith, add-one}
use Rattle.std.specs.Prelude.{slice_index_or, ◌||◌, Vec}
use Rattle.std.specs.declared.alloc.Global.{Global}
use Rattle.std.specs.List.{list_any, range_with_len}
use Rattle.std.specs.Ordering.{is_lt}
use Rattle.std.specs.declared.cmp.Ordering.{Ordering}
use Rattle.std.specs.declared.cmp.Ordering.TheVariants.{Less, Equal, Greater}
use Rattle.std.proofs.lemmas.Bool.{cases_lt, cases_eq, cases_Bool, ne_eqb, eq-eqb, or_left}
use Rattle.std.proofs.lemmas.List.{drop_all, length_push}
use Rattle.gq_number.specs.Number.{Number, whole, ◌+ℚ◌, neg_ℚ}
use Rattle.gq_number.specs.Order.{◌<ℚ◌, number_cmp}
use Rattle.gq_number.proofs.Compares.{number_cmp_decides}
use Rattle.gq_number.proofs.Sums.{sum_by_ℚ-nil, sum_by_ℚ-cons}
use Rattle.gq_number.proofs.Ring.{zero-+ℚ}
use Rattle.gq_number.proofs.Field.{+ℚ-zero}
use Rattle.lp_form.proofs.LoopSteps.{drop_item}
use Rattle.lp_core.specs.Sums.{value_of_column}
use Rattle.lp_core.specs.StandardForm as form
use Rattle.lp_core.specs.Dictionary.{of_variable, first_row, first_objective, no_row}
use Rattle.lp_std.specs.declared.types.StdRow.{StdRow}
use Rattle.lp_std.specs.Meaning.{entries_value, row_value}
use Rattle.lp_fraction_dict.specs.declared.row.Entry.{Entry}
use Rattle.lp_fraction_dict.specs.Rows.{number_in, PushesUnlessZero}
use Rattle.lp_fraction_dict.specs.Lines.{entries_of_rows}
use Rattle.lp_fraction_dict.specs.First.{InOrder, IsFilled, AreFirst}
use Rattle.lp_fraction_dict.proofs.Rows.{number_above, row_to}
use Rattle.lp_fraction_dict.proofs.Turns.{pushed_here, pushed_other, pushed_row}

-- ---- entries in order

pub of_later : (e : ℕ × Number) (es : List (ℕ × Number)) (v : ℕ) → e.0 ≢ v → of_variable (e ∷ es) v ≡ of_variable es v
of_later e es v other =
    sum_by_ℚ-cons (λ (x : ℕ × Number). cond (x.0 == v) x.1 (whole (pos 0))) e es
    ∙ ap (λ b. cond b e.1 (whole (pos 0)) +ℚ of_variable es v) (ne_eqb e.0 v other) ∙ zero-+ℚ (of_variable es v)

pub of_below : (es : List (ℕ × Number)) (low high v : ℕ) → InOrder low high es → v < low → of_variable es v ≡ whole (pos 0)
of_below [] low high v h less = sum_by_ℚ-nil (λ (x : ℕ × Number). cond (x.0 == v) x.1 (whole (pos 0)))
of_below (e ∷ es) low high v h less =
    let least = h.0 in
    of_later e es v (λ same. absurd (omega arith)) ∙ of_below es (e.0 + 1) high v h.2 (omega arith)

pub of_above : (es : List (ℕ × Number)) (low high v : ℕ) → InOrder low high es → high ≤ v → of_variable es v ≡ whole (pos 0)
of_above [] low high v h more = sum_by_ℚ-nil (λ (x : ℕ × Number). cond (x.0 == v) x.1 (whole (pos 0)))
of_above (e ∷ es) low high v h more =
    let most = h.1 in
    of_later e es v (λ same. absurd (omega arith)) ∙ of_above es (e.0 + 1) high v h.2 more

pub of_first : (e : ℕ × Number) (es : List (ℕ × Number)) (high : ℕ) → InOrder (e.0 + 1) high es → of_variable (e ∷ es) e.0 ≡ e.1
of_first e es high h =
    sum_by_ℚ-cons (λ (x : ℕ × Number). cond (x.0 == e.0) x.1 (whole (pos 0))) e es
    ∙ ap₂ (λ b rest. cond b e.1 (whole (pos 0)) +ℚ rest) (eq-eqb e.0 e.0 refl) (of_below es (e.0 + 1) high e.0 h (omega arith)) ∙ +ℚ-zero e.1

pub in_order_to : (es : List (ℕ × Number)) (low high more : ℕ) → InOrder low high es → high ≤ more → InOrder low more es
in_order_to [] low high more h wide = tt
in_order_to (e ∷ es) low high more h wide =
    let most = h.1 in
    (h.0, omega arith, in_order_to es (e.0 + 1) high more h.2 wide)

pub in_order_from : (es : List (ℕ × Number)) (low less high : ℕ) → InOrder low high es → less ≤ low → InOrder less high es
in_order_from [] low less high h wide = tt
in_order_from (e ∷ es) low less high h wide =
    let least = h.0 in
    (omega arith, h.1, h.2)

-- ---- one column after another

module _ {F : Type 0} (value : F → Number) (target : ℕ → Number) where
  pub filled_none : IsFilled value target 0 []
  filled_none = record { is_row = tt; numbers = λ c less. absurd (omega arith) }

  pub filled_more : (made now : List (Entry F)) (column m : ℕ) (z : F) → IsFilled value target column made → column ≤ m → ((c : ℕ) → column ≤ c → c < m → target c ≡ whole (pos 0)) → value z ≡ target m → PushesUnlessZero value m z made now → IsFilled value target (m + 1) now
  filled_more made now column m z h from none is pushed =
      record {
        is_row = pushed_row value made now column m z h.is_row from pushed;
        numbers = λ c to. elim (cases_lt c column) [
          | inl early ↦ pushed_other value made now m c z (λ same. absurd (omega arith)) pushed ∙ h.numbers c early
          | inr late ↦ elim (cases_eq m c) [
            | inl same ↦ subst (λ k. number_in value now k ≡ target k) same (pushed_here value made now column m z h.is_row from pushed ∙ is)
            | inr other ↦ pushed_other value made now m c z other pushed ∙ number_above value made 0 column c h.is_row late ∙ sym (none c late (omega arith))
          ]
        ];
      }

  pub filled_all : (made : List (Entry F)) (column c : ℕ) → IsFilled value target column made → ((k : ℕ) → column ≤ k → target k ≡ whole (pos 0)) → number_in value made c ≡ target c
  filled_all made column c h none =
      elim (cases_lt c column) [ inl early ↦ h.numbers c early | inr late ↦ number_above value made 0 column c h.is_row late ∙ sym (none c late) ]

-- ---- a row with its slack

module _ (needed : Bool) (slack : ℕ) (row : form.StandardRow) where
  abbrev entry_there : ℕ → Number
  entry_there v = cond (v == slack) (whole (pos 1)) (of_variable row.entries v)

  target_at : (v : ℕ) → 1 ≤ v → first_row needed slack row (v + 1) ≡ entry_there v
  target_at zero some = absurd (omega arith)
  target_at (suc v) some = ap (first_row needed slack row) (add-one (suc v))

  pub target_other : (v : ℕ) → 1 ≤ v → v ≢ slack → first_row needed slack row (v + 1) ≡ of_variable row.entries v
  target_other v some other = target_at v some ∙ ap (λ b. cond b (whole (pos 1)) (of_variable row.entries v)) (ne_eqb v slack other)

  pub target_slack : 1 ≤ slack → first_row needed slack row (slack + 1) ≡ whole (pos 1)
  target_slack some = target_at slack some ∙ ap (λ b. cond b (whole (pos 1)) (of_variable row.entries slack)) (eq-eqb slack slack refl)

  before_column : (c : ℕ) → 2 ≤ c → (v : ℕ) × (c ≡ v + 1) × (1 ≤ v)
  before_column zero more = absurd (omega arith)
  before_column (suc v) more = (v, sym (add-one v), omega arith)

  pub target_past : (c : ℕ) → 1 ≤ slack → InOrder 1 slack row.entries → slack + 2 ≤ c → first_row needed slack row c ≡ whole (pos 0)
  target_past c some h past =
      let v = before_column c (omega arith) in
      let same = v.1 in
      ap (first_row needed slack row) v.1 ∙ target_other v.0 v.2 (λ is. absurd (omega arith)) ∙ of_above row.entries 1 slack v.0 h (omega arith)

  -- The row is filled up to a variable, and the rest of its entries comes from that on.
  pub record RowSoFar {F : Type 0} (value : F → Number) (rest : List (ℕ × Number)) (made : List (Entry F)) : Type 0 where
    pub low : ℕ
    pub some : 1 ≤ low
    pub within : low ≤ slack
    pub filled : IsFilled value (first_row needed slack row) (low + 1) made
    pub in_order : InOrder low slack rest
    pub same : (v : ℕ) → low ≤ v → of_variable row.entries v ≡ of_variable rest v

  module _ {F : Type 0} (value : F → Number) where
    pub row_begins : (none first made : List (Entry F)) (right zero_number : F) → 1 ≤ slack → InOrder 1 slack row.entries → none ≡ [] → value right ≡ row.right → value zero_number ≡ cond needed (neg_ℚ (whole (pos 1))) (whole (pos 0)) → PushesUnlessZero value 0 right none first → PushesUnlessZero value 1 zero_number first made → RowSoFar value row.entries made
    row_begins none first made right zero_number some h empty is_right is_zero pushed more =
        let begun : IsFilled value (first_row needed slack row) 0 none = subst (IsFilled value (first_row needed slack row) 0) (sym empty) (filled_none value (first_row needed slack row)) in
        let one : IsFilled value (first_row needed slack row) 1 first = filled_more value (first_row needed slack row) none first 0 0 right begun (omega arith) (λ c from to. absurd (omega arith)) is_right pushed in
        record {
          low = 1;
          some = omega arith;
          within = some;
          filled = filled_more value (first_row needed slack row) first made 1 1 zero_number one (omega arith) (λ c from to. absurd (omega arith)) is_zero more;
          in_order = h;
          same = λ v from. refl;
        }

    module _ (rest : List (ℕ × Number)) (made : List (Entry F)) (s : RowSoFar value rest made) where
      none_between : (v c : ℕ) → v ≤ slack → s.low + 1 ≤ c → c < v + 1 → ((w : ℕ) → s.low ≤ w → w < v → of_variable rest w ≡ whole (pos 0)) → first_row needed slack row c ≡ whole (pos 0)
      none_between v c most from to none =
          let least = s.some in
          let w = before_column c (omega arith) in
          let same = w.1 in
          ap (first_row needed slack row) w.1 ∙ target_other w.0 w.2 (λ is. absurd (omega arith)) ∙ s.same w.0 (omega arith) ∙ none w.0 (omega arith) (omega arith)

      pub row_goes : (e : ℕ × Number) (more : List (ℕ × Number)) (z : F) (now : List (Entry F)) → rest ≡ e ∷ more → value z ≡ e.1 → PushesUnlessZero value (e.0 + 1) z made now → RowSoFar value more now
      row_goes e more z now first is pushed =
          let h : InOrder s.low slack (e ∷ more) = subst (InOrder s.low slack) first s.in_order in
          let least = h.0 in
          let most = h.1 in
          let some = s.some in
          record {
            low = e.0 + 1;
            some = omega arith;
            within = omega arith;
            filled = filled_more value (first_row needed slack row) made now (s.low + 1) (e.0 + 1) z s.filled (omega arith)
                (λ c from to. none_between e.0 c (omega arith) from to (λ w low less. ap (λ l. of_variable l w) first ∙ of_below (e ∷ more) e.0 slack w (in_order_first e more h) less))
                (is ∙ sym (target_other e.0 (omega arith) (λ same. absurd (omega arith)) ∙ s.same e.0 h.0 ∙ ap (λ l. of_variable l e.0) first ∙ of_first e more slack h.2))
                pushed;
            in_order = h.2;
            same = λ v from. s.same v (omega arith) ∙ ap (λ l. of_variable l v) first ∙ of_later e more v (λ same. absurd (omega arith));
          }
        where
          in_order_first : (e : ℕ × Number) (more : List (ℕ × Number)) → InOrder s.low slack (e ∷ more) → InOrder e.0 slack (e ∷ more)
          in_order_first e more h = (omega arith, h.1, h.2)

      pub row_ends : (one : F) (now : List (Entry F)) → rest ≡ [] → value one ≡ whole (pos 1) → PushesUnlessZero value (slack + 1) one made now → IsFilled value (first_row needed slack row) (slack + 2) now
      row_ends one now empty is pushed =
          let most = s.within in
          let some = s.some in
          let column : slack + 1 + 1 ≡ slack + 2 = omega arith in
          subst (λ n. IsFilled value (first_row needed slack row) n now) column
          (filled_more value (first_row needed slack row) made now (s.low + 1) (slack + 1) one s.filled (omega arith)
          (λ c from to. none_between slack c (omega arith) from to (λ w low less. ap (λ l. of_variable l w) empty ∙ sum_by_ℚ-nil (λ (x : ℕ × Number). cond (x.0 == w) x.1 (whole (pos 0)))))
          (is ∙ sym (target_slack (omega arith))) pushed)

-- the rest of the entries, one further
pub entries_drop : {F : Type 0} (value : F → Number) (entries : List (ℕ × F)) (i : ℕ) (e : ℕ × F) → i < length entries → e ≡ get_or entries i e → entries_value value (drop i entries) ≡ (e.0, value e.1) ∷ entries_value value (drop (i + 1) entries)
entries_drop value entries i e less is = ap (entries_value value) (drop_item entries i e less is)

pub entries_end : {F : Type 0} (value : F → Number) (entries : List (ℕ × F)) (i : ℕ) → length entries ≤ i → entries_value value (drop i entries) ≡ []
entries_end value entries i all = ap (entries_value value) (drop_all i entries all)

-- ---- the objective

module _ (s : form.Standard) where
  pub objective_constant : first_objective s 0 ≡ neg_ℚ s.constant
  objective_constant = refl

  pub objective_at : (v : ℕ) → first_objective s (v + 2) ≡ value_of_column s.objective v
  objective_at v = let same : v + 2 ≡ suc (suc v) = omega arith in ap (first_objective s) same

  pub objective_past : (c : ℕ) → length s.objective + 2 ≤ c → first_objective s c ≡ whole (pos 0)
  objective_past zero past = absurd (omega arith)
  objective_past (suc zero) past = refl
  objective_past (suc (suc v)) past = number_past s.objective v (omega arith)
    where
      number_past : (xs : List Number) (k : ℕ) → length xs ≤ k → value_of_column xs k ≡ whole (pos 0)
      number_past [] k more = refl
      number_past (x ∷ xs) zero more = absurd (omega arith)
      number_past (x ∷ xs) (suc k) more = number_past xs k (omega arith)

  module _ {F : Type 0} (value : F → Number) where
    pub objective_begins : (none made : List (Entry F)) (constant : F) → none ≡ [] → value constant ≡ neg_ℚ s.constant → PushesUnlessZero value 0 constant none made → IsFilled value (first_objective s) 2 made
    objective_begins none made constant empty is pushed =
        let one : IsFilled value (first_objective s) 1 made = filled_more value (first_objective s) none made 0 0 constant (subst (IsFilled value (first_objective s) 0) (sym empty) (filled_none value (first_objective s))) (omega arith) (λ c from to. absurd (omega arith)) is pushed in
        record {
          is_row = row_to value made 0 1 2 one.is_row (omega arith);
          numbers = λ c to. elim (cases_lt c 1) [
            | inl early ↦ one.numbers c early
            | inr late ↦ let same : c ≡ 1 = omega arith in number_above value made 0 1 c one.is_row late ∙ sym (ap (first_objective s) same)
          ];
        }

    pub objective_goes : (made now : List (Entry F)) (v : ℕ) (z : F) → IsFilled value (first_objective s) (v + 2) made → value z ≡ value_of_column s.objective v → PushesUnlessZero value (v + 2) z made now → IsFilled value (first_objective s) (v + 1 + 2) now
    objective_goes made now v z h is pushed =
        let column : v + 2 + 1 ≡ v + 1 + 2 = omega arith in
        subst (λ n. IsFilled value (first_objective s) n now) column
        (filled_more value (first_objective s) made now (v + 2) (v + 2) z h (omega arith) (λ c from to. absurd (omega arith)) (is ∙ sym (objective_at v)) pushed)

-- ---- the rows

pub rows_push : {F : Type 0} (rows : List (Vec (Entry F) Global)) (row : Vec (Entry F) Global) → entries_of_rows (rows ++ row ∷ []) ≡ entries_of_rows rows ++ row.items ∷ []
rows_push [] row = refl
rows_push (r ∷ rows) row = ap (λ l. r.items ∷ l) (rows_push rows row)

pub push_here : {X : Type 0} (xs : List X) (x o : X) (k : ℕ) → length xs ≡ k → slice_index_or (xs ++ x ∷ []) k o ≡ x
push_here [] x o zero size = refl
push_here [] x o (suc k) size = absurd (omega arith)
push_here (y ∷ xs) x o zero size = absurd (omega arith)
push_here (y ∷ xs) x o (suc k) size = push_here xs x o k (omega arith)

pub push_other : {X : Type 0} (xs : List X) (x o : X) (k : ℕ) → k < length xs → slice_index_or (xs ++ x ∷ []) k o ≡ slice_index_or xs k o
push_other [] x o k less = absurd (omega arith)
push_other (y ∷ xs) x o zero less = refl
push_other (y ∷ xs) x o (suc k) less = push_other xs x o k (omega arith)

module _ {F : Type 0} (value : F → Number) (needed : Bool) (slack : ℕ) (rows : List form.StandardRow) where
  pub first_begins : AreFirst value needed slack rows [] 0
  first_begins = record { sized = refl; each = λ k less. absurd (omega arith) }

  pub first_goes : (made now : List (List (Entry F))) (n : ℕ) (row : form.StandardRow) (new : List (Entry F)) → AreFirst value needed slack rows made n → row ≡ slice_index_or rows n no_row → IsFilled value (first_row needed (slack + n) row) (slack + n + 2) new → now ≡ made ++ new ∷ [] → AreFirst value needed slack rows now (n + 1)
  first_goes made now n row new h row_is filled now_is =
      let size = h.sized in
      record {
        sized = ap length now_is ∙ length_push made new ∙ ap (λ m. m + 1) h.sized;
        each = λ k less. elim (cases_lt k n) [
          | inl early ↦ subst (IsFilled value (first_row needed (slack + k) (slice_index_or rows k no_row)) (slack + k + 2)) (sym (ap (λ l. slice_index_or l k []) now_is ∙ push_other made new [] k (omega arith))) (h.each k early)
          | inr late ↦
              let same : n ≡ k = omega arith in
              subst (λ j. IsFilled value (first_row needed (slack + j) (slice_index_or rows j no_row)) (slack + j + 2) (slice_index_or now j [])) same
              (subst₂ (λ r l. IsFilled value (first_row needed (slack + n) r) (slack + n + 2) l) row_is (sym (ap (λ l. slice_index_or l n []) now_is ∙ push_here made new [] n h.sized)) filled)
        ];
      }

-- ---- some right side below 0, and numbers in a row

abbrev pub some_below_of : {F : Type 0} → (F → Number) → List (StdRow F) → Bool
some_below_of value rows = list_any (λ (row : form.StandardRow). is_lt (number_cmp row.right (whole (pos 0)))) (map (row_value value) rows)

module _ {F : Type 0} (value : F → Number) (rows : List (StdRow F)) (i : ℕ) (row : StdRow F) (here : i < length rows) (is : row ≡ get_or rows i row) where
  pub below_stops : value row.right <ℚ whole (pos 0) → some_below_of value (drop i rows) ≡ true
  below_stops under =
      ap (some_below_of value) (drop_item rows i row here is)
      ∙ or_left (is_lt (number_cmp (value row.right) (whole (pos 0)))) (some_below_of value (drop (i + 1) rows)) (ap is_lt ((number_cmp_decides (value row.right) (whole (pos 0))).0.1 under))

  not_less : ¬ (value row.right <ℚ whole (pos 0)) → is_lt (number_cmp (value row.right) (whole (pos 0))) ≡ false
  not_less none = elim (cases_Bool (is_lt (number_cmp (value row.right) (whole (pos 0))))) [ inl is_true ↦ absurd (none ((number_cmp_decides (value row.right) (whole (pos 0))).0.0 (less_is (number_cmp (value row.right) (whole (pos 0))) is_true))) | inr is_false ↦ is_false ]
    where
      less_is : (r : Ordering) → is_lt r ≡ true → r ≡ Less
      less_is Less h = refl
      less_is Equal h = absurd (cc)
      less_is Greater h = absurd (cc)

  pub below_goes : ¬ (value row.right <ℚ whole (pos 0)) → some_below_of value (drop i rows) ≡ some_below_of value (drop (i + 1) rows)
  below_goes none =
      ap (some_below_of value) (drop_item rows i row here is) ∙ ap (λ b. b || some_below_of value (drop (i + 1) rows)) (not_less none)

pub below_ends : {F : Type 0} (value : F → Number) (rows : List (StdRow F)) (i : ℕ) → length rows ≤ i → some_below_of value (drop i rows) ≡ false
below_ends value rows i all = ap (some_below_of value) (drop_all i rows all)

pub range_push : (a n : ℕ) → range_with_len a (n + 1) ≡ range_with_len a n ++ (a + n) ∷ []
range_push a n = subst (λ m. range_with_len a m ≡ range_with_len a n ++ (a + n) ∷ []) (sym (add-one n)) (range_suc a n)
  where
    range_suc : (a n : ℕ) → range_with_len a (suc n) ≡ range_with_len a n ++ (a + n) ∷ []
    range_suc a zero = let same : a ≡ a + 0 = omega arith in ap (λ m. m ∷ []) same
    range_suc a (suc n) = let same : a + 1 + n ≡ a + suc n = omega arith in ap (λ l. a ∷ l) (range_suc (a + 1) n ∙ ap (λ m. range_with_len (a + 1) n ++ m ∷ []) same)
