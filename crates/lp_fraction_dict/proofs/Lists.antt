-- Lists with a number for each variable: made place by place, and as lists of a function.
use Rattle.std.proofs.Common.{◌≡◌, ◌≢◌, ℕ, zero, suc, ◌+◌, ◌-◌, ◌<◌, ◌≤◌, ◌==◌, inl, inr, pos, cond, List, [], ◌∷◌, ◌++◌, length, map, take, drop, get_or, Some, None, refl, sym, ap, ap₂, ◌∙◌, subst, arith}
use Rattle.std.specs.Prelude.{slice_get, slice_set, slice_index_or, Contains, position, nat_lt}
use Rattle.std.specs.List.{range_with_len}
use Rattle.std.proofs.lemmas.Bool.{cases_lt, cases_eq, eq-eqb, ne_eqb, lt-ltb, le-ltb}
use Rattle.std.proofs.lemmas.List.{length-map, length_push, take_more, take_all, take-append-drop, drop_more}
use Rattle.std.proofs.lemmas.List.Sums.{position_or_len_is}
use Rattle.gq_number.specs.Number.{Number, whole, neg_ℚ}
use Rattle.gq_number.proofs.Ring.{neg-zero}
use Rattle.lp_core.specs.Sums.{value_of_column}
use Rattle.lp_fraction_dict.specs.declared.row.Entry.{Entry}
use Rattle.lp_fraction_dict.specs.Rows.{IsRow, number_in}
use Rattle.lp_fraction_dict.specs.Reading.{AreNumbers, AreByVariable, AreByColumn, AreChanges}
use Rattle.lp_fraction_dict.proofs.Rows.{number_first, number_later, row_prefix, number_after, number_before}
use Rattle.lp_fraction_dict.proofs.Kept.{get_within, get_index, index_get}
use Rattle.lp_fraction_dict.proofs.Exchanging.{put_here, put_other, length-put}

-- ---- the number at a place

module _ {F : Type 0} (value : F → Number) where
  pub map-put : (xs : List F) (k : ℕ) (x : F) → map value (slice_set xs k x) ≡ slice_set (map value xs) k (value x)
  map-put [] k x = refl
  map-put (y ∷ xs) zero x = refl
  map-put (y ∷ xs) (suc k) x = ap (λ l. value y ∷ l) (map-put xs k x)

  pub put_number : (xs : List F) (k : ℕ) (x : F) → k < length xs → value_of_column (map value (slice_set xs k x)) k ≡ value x
  put_number xs k x less =
      let size = length-map xs value in
      ap (λ l. value_of_column l k) (map-put xs k x) ∙ put_here (map value xs) k (value x) (whole (pos 0)) (omega arith)

  pub other_number : (xs : List F) (k v : ℕ) (x : F) → v ≢ k → value_of_column (map value (slice_set xs k x)) v ≡ value_of_column (map value xs) v
  other_number xs k v x other = ap (λ l. value_of_column l v) (map-put xs k x) ∙ put_other (map value xs) k v (value x) (whole (pos 0)) other

  pub no_numbers : (list : List F) → list ≡ [] → AreNumbers value 0 list
  no_numbers list none = record { sized = ap length none; zeros = λ v. ap (λ l. value_of_column (map value l) v) none }

  zero_pushed : (xs : List F) (x : F) (v : ℕ) → value x ≡ whole (pos 0) → ((w : ℕ) → value_of_column (map value xs) w ≡ whole (pos 0)) → value_of_column (map value (xs ++ x ∷ [])) v ≡ whole (pos 0)
  zero_pushed [] x zero none h = none
  zero_pushed [] x (suc v) none h = refl
  zero_pushed (y ∷ xs) x zero none h = h 0
  zero_pushed (y ∷ xs) x (suc v) none h = zero_pushed xs x v none (λ w. h (suc w))

  pub one_more_zero : (list made : List F) (n : ℕ) (x : F) → AreNumbers value n list → value x ≡ whole (pos 0) → made ≡ list ++ x ∷ [] → AreNumbers value (n + 1) made
  one_more_zero list made n x h none is =
      record {
        sized = ap length is ∙ length_push list x ∙ ap (λ m. m + 1) h.sized;
        zeros = λ v. ap (λ l. value_of_column (map value l) v) is ∙ zero_pushed list x v none h.zeros;
      }

-- ---- a number for each variable of the rows

module _ {F : Type 0} (value : F → Number) (rows : List (List (Entry F))) (basic : List ℕ) (count column : ℕ) where
  pub variables_begin : (list : List F) → AreNumbers value count list → AreByVariable value rows basic count column 0 list
  variables_begin list h = record { sized = h.sized; here = λ k v less at. absurd (omega arith); elsewhere = λ v none. h.zeros v }

  pub variables_more : (list made : List F) (n w : ℕ) (x : F) → AreByVariable value rows basic count column n list → ((i j v : ℕ) → slice_get basic i ≡ Some v → slice_get basic j ≡ Some v → i ≡ j) → slice_get basic n ≡ Some w → w < count → value x ≡ number_in value (slice_index_or rows n []) column → made ≡ slice_set list w x → AreByVariable value rows basic count column (n + 1) made
  variables_more list made n w x h distinct at less is made_is =
      let size = h.sized in
      record {
        sized = ap length made_is ∙ length-put list w x ∙ h.sized;
        here = λ k v to there. elim (cases_eq v w) [
          | inl same ↦
              let place : k ≡ n = distinct k n v there (at ∙ ap Some (sym same)) in
              ap (λ l. value_of_column (map value l) v) made_is ∙ ap (value_of_column (map value (slice_set list w x))) same ∙ put_number value list w x (omega arith) ∙ is ∙ ap (λ i. number_in value (slice_index_or rows i []) column) (sym place)
          | inr other ↦ ap (λ l. value_of_column (map value l) v) made_is ∙ other_number value list w v x other ∙ h.here k v (earlier k v to there other) there
        ];
        elsewhere = λ v none. ap (λ l. value_of_column (map value l) v) made_is ∙ other_number value list w v x (λ same. none n (omega arith) (at ∙ ap Some (sym same))) ∙ h.elsewhere v (λ k to. none k (omega arith));
      }
    where
      some_same : (a b : ℕ) → Some a ≡ Some b → a ≡ b
      some_same a b e = cc

      earlier : (k v : ℕ) → k < n + 1 → slice_get basic k ≡ Some v → v ≢ w → k < n
      earlier k v to there other =
          elim (cases_lt k n) [ inl before ↦ before | inr here ↦ let same : k ≡ n = omega arith in absurd (other (some_same v w (sym there ∙ ap (slice_get basic) same ∙ at))) ]

-- ---- a number for each variable of a row

module _ {F : Type 0} (value : F → Number) (row : List (Entry F)) (count : ℕ) where
  pub columns_begin : (list : List F) → AreNumbers value count list → AreByColumn value row count 0 list
  columns_begin list h = record { sized = h.sized; each = λ v less. h.zeros v }

  module _ (n : ℕ) (e : Entry F) (ordered : IsRow value 0 (count + 1) row) (less : n < length row) (is : e ≡ get_or row n e) where
    more : take (n + 1) row ≡ take n row ++ e ∷ []
    more = take_more row n e less ∙ ap (λ x. take n row ++ x ∷ []) (sym is)

    parts : row ≡ take n row ++ e ∷ drop (n + 1) row
    parts = sym (take-append-drop n row) ∙ ap (λ l. take n row ++ l) (drop_more row n e less ∙ ap (λ x. x ∷ drop (n + 1) row) (sym is))

    in_parts : IsRow value 0 (count + 1) (take n row ++ e ∷ drop (n + 1) row)
    in_parts = subst (IsRow value 0 (count + 1)) parts ordered

    pub column_within : e.column < count + 1
    column_within = below (take n row) 0 in_parts
      where
        below : (prefix : List (Entry F)) (low : ℕ) → IsRow value low (count + 1) (prefix ++ e ∷ drop (n + 1) row) → e.column < count + 1
        below [] low h = h.1
        below (f ∷ prefix) low h = below prefix (f.column + 1) h.3

    number_here : number_in value (take (n + 1) row) e.column ≡ value e.number
    number_here = ap (λ r. number_in value r e.column) more ∙ number_after value (take n row) (e ∷ []) 0 e.column e.column (row_prefix value (take n row) e (drop (n + 1) row) 0 (count + 1) in_parts).0 (omega arith) ∙ number_first value e [] e.column refl

    number_same : (c : ℕ) → e.column ≢ c → number_in value (take (n + 1) row) c ≡ number_in value (take n row) c
    number_same c other = ap (λ r. number_in value r c) more ∙ number_before value (take n row) (e ∷ []) c (number_later value e [] c other)

    pub columns_pass : (list : List F) → AreByColumn value row count n list → e.column ≡ 0 → AreByColumn value row count (n + 1) list
    columns_pass list h none = record { sized = h.sized; each = λ v to. h.each v to ∙ sym (number_same (v + 1) (λ same. absurd (omega arith))) }

    pub columns_more : (list made : List F) → AreByColumn value row count n list → e.column ≢ 0 → made ≡ slice_set list (e.column - 1) e.number → AreByColumn value row count (n + 1) made
    columns_more list made h some made_is =
        let size = h.sized in
        let most = column_within in
        record {
          sized = ap length made_is ∙ length-put list (e.column - 1) e.number ∙ h.sized;
          each = λ v to. elim (cases_eq v (e.column - 1)) [
            | inl same ↦
                let column : e.column ≡ v + 1 = omega arith in
                ap (λ l. value_of_column (map value l) v) made_is ∙ ap (value_of_column (map value (slice_set list (e.column - 1) e.number))) same ∙ put_number value list (e.column - 1) e.number (omega arith) ∙ sym number_here ∙ ap (number_in value (take (n + 1) row)) column
            | inr other ↦
                ap (λ l. value_of_column (map value l) v) made_is ∙ other_number value list (e.column - 1) v e.number other ∙ h.each v to ∙ sym (number_same (v + 1) (λ same. other (omega arith)))
          ];
        }

  pub columns_end : (list : List F) (v : ℕ) → AreByColumn value row count (length row) list → v < count → value_of_column (map value list) v ≡ number_in value row (v + 1)
  columns_end list v h less = h.each v less ∙ ap (λ r. number_in value r (v + 1)) (take_all (length row) row (omega arith))

-- ---- lists of a function

list_from : (xs : List Number) (a n : ℕ) (g : ℕ → Number) → length xs ≡ n → ((v : ℕ) → v < n → value_of_column xs v ≡ g (a + v)) → xs ≡ map g (range_with_len a n)
list_from [] a zero g size each = refl
list_from [] a (suc n) g size each = absurd (omega arith)
list_from (x ∷ xs) a zero g size each = absurd (omega arith)
list_from (x ∷ xs) a (suc n) g size each =
    let here : a + 0 ≡ a = omega arith in
    ap₂ (λ y ys. y ∷ ys) (each 0 (omega arith) ∙ ap g here)
    (list_from xs (a + 1) n g (omega arith) (λ v less. let place : a + suc v ≡ a + 1 + v = omega arith in each (suc v) (omega arith) ∙ ap g place))

pub list_is : (xs : List Number) (n : ℕ) (g : ℕ → Number) → length xs ≡ n → ((v : ℕ) → v < n → value_of_column xs v ≡ g v) → xs ≡ map g (range_with_len 0 n)
list_is xs n g size each = list_from xs 0 n g size (λ v less. let place : v ≡ 0 + v = omega arith in each v less ∙ ap g place)

-- ---- the place of a variable

pub place_is : (basic : List ℕ) (k v : ℕ) → ((i j w : ℕ) → slice_get basic i ≡ Some w → slice_get basic j ≡ Some w → i ≡ j) → slice_get basic k ≡ Some v → position (λ b. b == v) basic ≡ Some k
place_is basic k v distinct at =
    let within = get_within basic k v at in
    let found = position_or_len_is (λ b. b == v) basic k v (omega arith) (λ i less. ne_eqb (get_or basic i v) v (λ same. let apart = distinct i k v (index_get basic i v v (omega arith) same) at in absurd (omega arith))) (λ less. eq-eqb (get_or basic k v) v (get_index basic k v v at)) in
    ap (λ n. cond (nat_lt n (length basic)) (Some n) None) found ∙ ap (λ b. cond b (Some k) None) (lt-ltb k (length basic) within)

pub no_place : (basic : List ℕ) (v : ℕ) → ¬ (Contains basic v) → position (λ b. b == v) basic ≡ None
no_place basic v none =
    let found = position_or_len_is (λ b. b == v) basic (length basic) v (omega arith) (λ i less. ne_eqb (get_or basic i v) v (λ same. none (i, less, same))) (λ less. absurd (omega arith)) in
    ap (λ n. cond (nat_lt n (length basic)) (Some n) None) found ∙ ap (λ b. cond b (Some (length basic)) None) (le-ltb (length basic) (length basic) (omega arith))

-- ---- numbers with the other sign

-- The numbers before a place are negated, those from it on are as before.
pub record NegatedTo {F : Type 0} (value : F → Number) (before now : List F) (n : ℕ) : Type 0 where
  pub sized : length now ≡ length before
  pub done : (k : ℕ) → k < n → value_of_column (map value now) k ≡ neg_ℚ (value_of_column (map value before) k)
  pub rest : (k : ℕ) → n ≤ k → value_of_column (map value now) k ≡ value_of_column (map value before) k

lists_same : (xs ys : List Number) → length xs ≡ length ys → ((k : ℕ) → k < length xs → value_of_column xs k ≡ value_of_column ys k) → xs ≡ ys
lists_same [] [] size each = refl
lists_same [] (y ∷ ys) size each = absurd (omega arith)
lists_same (x ∷ xs) [] size each = absurd (omega arith)
lists_same (x ∷ xs) (y ∷ ys) size each = ap₂ (λ a b. a ∷ b) (each 0 (omega arith)) (lists_same xs ys (omega arith) (λ k less. each (suc k) (omega arith)))

module _ {F : Type 0} (value : F → Number) where
  pub negated_number : (xs : List F) (v : ℕ) → value_of_column (map (λ x. neg_ℚ (value x)) xs) v ≡ neg_ℚ (value_of_column (map value xs) v)
  negated_number [] v = sym neg-zero
  negated_number (x ∷ xs) zero = refl
  negated_number (x ∷ xs) (suc v) = negated_number xs v

  pub read_number : (xs : List F) (k : ℕ) (x : F) → k < length xs → x ≡ get_or xs k x → value_of_column (map value xs) k ≡ value x
  read_number [] k x less is = absurd (omega arith)
  read_number (y ∷ xs) zero x less is = ap value (sym is)
  read_number (y ∷ xs) (suc k) x less is = read_number xs k x (omega arith) is

  pub negated_begins : (before : List F) → NegatedTo value before before 0
  negated_begins before = record { sized = refl; done = λ k less. absurd (omega arith); rest = λ k more. refl }

  pub negated_goes : (before now next : List F) (n : ℕ) (x z : F) → NegatedTo value before now n → n < length now → x ≡ get_or now n x → value z ≡ neg_ℚ (value x) → next ≡ slice_set now n z → NegatedTo value before next (n + 1)
  negated_goes before now next n x z h less read is next_is =
      record {
        sized = ap length next_is ∙ length-put now n z ∙ h.sized;
        done = λ k to. elim (cases_lt k n) [
          | inl early ↦ ap (λ l. value_of_column (map value l) k) next_is ∙ other_number value now n k z (λ same. absurd (omega arith)) ∙ h.done k early
          | inr late ↦
              let same : n ≡ k = omega arith in
              subst (λ j. value_of_column (map value next) j ≡ neg_ℚ (value_of_column (map value before) j)) same (ap (λ l. value_of_column (map value l) n) next_is ∙ put_number value now n z less ∙ is ∙ ap neg_ℚ (sym (read_number now n x less read) ∙ h.rest n (omega arith)))
        ];
        rest = λ k from. ap (λ l. value_of_column (map value l) k) next_is ∙ other_number value now n k z (λ same. absurd (omega arith)) ∙ h.rest k (omega arith);
      }

  pub negated_ends : (before now : List F) (n : ℕ) → NegatedTo value before now n → length now ≤ n → map value now ≡ map (λ x. neg_ℚ (value x)) before
  negated_ends before now n h all =
      let size = h.sized in
      let here = length-map now value in
      lists_same (map value now) (map (λ x. neg_ℚ (value x)) before) (length-map now value ∙ h.sized ∙ sym (length-map before (λ x. neg_ℚ (value x)))) (λ k less. h.done k (omega arith) ∙ sym (negated_number before k))

  pub changes_made : (numbers negated made : List F) (enter : ℕ) (one : F) → map value negated ≡ map (λ x. neg_ℚ (value x)) numbers → made ≡ slice_set negated enter one → value one ≡ whole (pos 1) → enter < length numbers → AreChanges value numbers enter made
  changes_made numbers negated made enter one negated_is made_is is within =
      let sizes : length negated ≡ length numbers = sym (length-map negated value) ∙ ap length negated_is ∙ length-map numbers (λ x. neg_ℚ (value x)) in
      record {
        sized = ap length made_is ∙ length-put negated enter one ∙ sizes;
        enters = ap (λ l. value_of_column (map value l) enter) made_is ∙ put_number value negated enter one (omega arith) ∙ is;
        others = λ v other. ap (λ l. value_of_column (map value l) v) made_is ∙ other_number value negated enter v one other ∙ ap (λ l. value_of_column l v) negated_is ∙ negated_number numbers v;
      }
