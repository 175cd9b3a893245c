-- That the check of a point tells whether it is feasible, and how many steps it has.
use Rattle.std.proofs.lemmas.Bool.{and_parts}
use Rattle.std.proofs.Common.{◌≡◌, ◌↔◌, ℕ, suc, ◌+◌, ◌*◌, ◌<◌, ◌≤◌, Bool, true, false, not, ◌&&◌, cond, pos, List, [], ◌∷◌, length, Option, Some, None, Result, Ok, Err, refl, sym, ap, ◌∙◌, subst, arith}
use Rattle.std.specs.Prelude.{IsTrue, sum_by}
use Rattle.std.specs.declared.cmp.Ordering.{Ordering}
use Rattle.std.specs.declared.cmp.Ordering.TheVariants.{Less, Equal, Greater}
use Rattle.std.specs.Ordering.{MatchOrdering, is_gt}
use Rattle.std.specs.List.{All, AllPairs, enumerate_from}
use Rattle.std.specs.Result.{IfOk}
use Rattle.std.proofs.lemmas.List.Sums.{sum_by-cons}
use Rattle.std.proofs.lemmas.List.Elements.{All-head, All-tail, All-nil, All-cons, All-weaker}
use Rattle.gq_number.specs.Number.{Number, whole, ◌+ℚ◌, ◌*ℚ◌}
use Rattle.gq_number.specs.Order.{◌≤ℚ◌, ◌<ℚ◌, number_cmp}
use Rattle.gq_number.proofs.Order
use Rattle.gq_number.proofs.Ring.{zero-+ℚ}
use Rattle.gq_number.proofs.Field.{+ℚ-zero, +ℚ_assoc}
use Rattle.gq_number.proofs.Compares.{number_ranks}
use Rattle.gq_number.proofs.Sums.{sum_by_ℚ-nil, sum_by_ℚ-cons}
use Rattle.gq_field.specs.Fits.{fits, sum_fits}
use Rattle.lp_core.specs.declared.answer.StepName.{StepName}
use Rattle.lp_core.specs.declared.answer.StepName.TheVariants.{Check}
use Rattle.lp_core.specs.declared.program.Sense.{Sense}
use Rattle.lp_core.specs.declared.program.Sense.TheVariants as sense
use Rattle.lp_core.specs.declared.program.Column.{Column}
use Rattle.lp_core.specs.declared.program.Row.{Row}
use Rattle.lp_core.specs.declared.program.Lp.{Lp}
use Rattle.lp_core.specs.Sums.{value_of_column, row_sum}
use Rattle.lp_core.specs.Feasible.{KeepsLower, KeepsUpper, KeepsBounds, KeepsSense, KeepsRow, bound_value, Feasible}
use Rattle.lp_core.specs.WellFormed.{AreRowEntries, IsWellFormed, rows_of_sense, variables_of_bounds}
use Rattle.lp_core.specs.Steps.{checked_sum, at_most, keeps_lower, keeps_upper, bounds_hold, keeps_sense, asks_nothing, checked_rows, steps_of_rows, checked_point, compared}

-- ---- tests and what they tell

at_most_by : (o : Ordering) (x y : Number) → MatchOrdering o (x <ℚ y) (x ≡ y) (y <ℚ x) → (not (is_gt o) ≡ true) ↔ (x ≤ℚ y)
at_most_by Less x y h = (λ _. Order.≤ℚ_from_<ℚ x y h, λ _. refl)
at_most_by Equal x y h = (λ _. Order.≤ℚ_from_≡ x y h, λ _. refl)
at_most_by Greater x y h = (λ e. absurd (cc), λ k. absurd (Order.not_above x y k h))

at_most-tells : (x y : Number) → (at_most x y ≡ true) ↔ (x ≤ℚ y)
at_most-tells x y = at_most_by (number_cmp x y) x y (number_ranks x y)

keeps_lower-tells : (bound : Option Number) (x : Number) → (keeps_lower bound x ≡ true) ↔ KeepsLower bound x
keeps_lower-tells None x = (λ _. tt, λ _. refl)
keeps_lower-tells (Some b) x = at_most-tells b x

keeps_upper-tells : (bound : Option Number) (x : Number) → (keeps_upper bound x ≡ true) ↔ KeepsUpper bound x
keeps_upper-tells None x = (λ _. tt, λ _. refl)
keeps_upper-tells (Some b) x = at_most-tells x b

keeps_sense-tells : (s : Sense) (sum right : Number) → (keeps_sense s sum right ≡ true) ↔ KeepsSense s sum right
keeps_sense-tells sense.E sum right = (
  λ e. let parts = and_parts (at_most sum right) (at_most right sum) e in Order.≤ℚ_antisymm sum right ((at_most-tells sum right).0 parts.0) ((at_most-tells right sum).0 parts.1),
  λ e. rw ((at_most-tells sum right).1 (Order.≤ℚ_from_≡ sum right e), (at_most-tells right sum).1 (Order.≤ℚ_from_≡ right sum (sym e))) refl,
)
keeps_sense-tells sense.L sum right = at_most-tells sum right
keeps_sense-tells sense.G sum right = at_most-tells right sum
keeps_sense-tells sense.N sum right = (λ _. tt, λ _. refl)

module _ {F : Type 0} (value : F → Number) (limit : ℕ) (x : List Number) where
  -- the bounds hold where each column's value keeps its own
  bounds_hold-tells : (j : ℕ) (columns : List (Column F)) → (bounds_hold value x j columns ≡ true) ↔ All (λ (p : ℕ × Column F). KeepsBounds value p.1 (value_of_column x p.0)) (enumerate_from j columns)
  bounds_hold-tells j [] = (λ _. All-nil (λ (p : ℕ × Column F). KeepsBounds value p.1 (value_of_column x p.0)), λ _. refl)
  bounds_hold-tells j (column ∷ columns) =
      let l = keeps_lower (bound_value value column.lower) (value_of_column x j) in
      let u = keeps_upper (bound_value value column.upper) (value_of_column x j) in
      let rest = bounds_hold-tells (j + 1) columns in (
        λ e.
            let parts = and_parts (l && u) (bounds_hold value x (j + 1) columns) e in
            let first = and_parts l u parts.0 in
            All-cons (λ (p : ℕ × Column F). KeepsBounds value p.1 (value_of_column x p.0)) (j, column) (enumerate_from (j + 1) columns) ((keeps_lower-tells (bound_value value column.lower) (value_of_column x j)).0 first.0, (keeps_upper-tells (bound_value value column.upper) (value_of_column x j)).0 first.1) (rest.0 parts.1),
        λ all.
            let here = All-head (λ (p : ℕ × Column F). KeepsBounds value p.1 (value_of_column x p.0)) (j, column) (enumerate_from (j + 1) columns) all in
            rw ((keeps_lower-tells (bound_value value column.lower) (value_of_column x j)).1 here.0, (keeps_upper-tells (bound_value value column.upper) (value_of_column x j)).1 here.1, rest.1 (All-tail (λ (p : ℕ × Column F). KeepsBounds value p.1 (value_of_column x p.0)) (j, column) (enumerate_from (j + 1) columns) all)) refl,
      )

  -- a sum that is there is that of the entries, on top of what stood
  checked_sum-is : (n : ℕ) (s t : Number) (entries : List (ℕ × F)) → checked_sum value limit x n s entries ≡ Ok t → t ≡ s +ℚ row_sum value entries x
  checked_sum-is n s t [] e =
      let is : s ≡ t = cc in
      sym is ∙ sym (+ℚ-zero s) ∙ ap (λ u. s +ℚ u) (sym (sum_by_ℚ-nil _))
  checked_sum-is n s t (p ∷ entries) e = by (λ h. checked_sum-is (n + 2) (s +ℚ value p.1 *ℚ value_of_column x p.0) t entries h) (fits limit (value p.1 *ℚ value_of_column x p.0)) (sum_fits limit s (value p.1 *ℚ value_of_column x p.0)) e
    where
      by : (checked_sum value limit x (n + 2) (s +ℚ value p.1 *ℚ value_of_column x p.0) entries ≡ Ok t → t ≡ s +ℚ value p.1 *ℚ value_of_column x p.0 +ℚ row_sum value entries x) → (a b : Bool) → cond a (cond b (checked_sum value limit x (n + 2) (s +ℚ value p.1 *ℚ value_of_column x p.0) entries) (Err (Check (n + 1)))) (Err (Check n)) ≡ Ok t → t ≡ s +ℚ row_sum value (p ∷ entries) x
      by rest true true e =
          rest e ∙ +ℚ_assoc s (value p.1 *ℚ value_of_column x p.0) (row_sum value entries x) ∙ ap (λ u. s +ℚ u) (sym (sum_by_ℚ-cons _ p entries))
      by rest true false e = absurd (cc)
      by rest false b e = absurd (cc)

  asks_nothing-keeps : (row : Row F) → asks_nothing row.sense ≡ true → KeepsRow value row x
  asks_nothing-keeps row e = by row.sense e
    where
      by : (s : Sense) → asks_nothing s ≡ true → KeepsSense s (row_sum value row.entries x) (value row.right)
      by sense.E e = absurd (cc)
      by sense.L e = absurd (cc)
      by sense.G e = absurd (cc)
      by sense.N e = tt

  -- rows of which the check gave an answer are kept just where it is yes
  checked_rows-tells : (n : ℕ) (rows : List (Row F)) (b : Bool) → checked_rows value limit x n rows ≡ Ok b → (b ≡ true) ↔ All (λ (row : Row F). KeepsRow value row x) rows
  checked_rows-tells n [] b e = (λ _. All-nil (λ (row : Row F). KeepsRow value row x), λ _. let is : true ≡ b = cc in sym is)
  checked_rows-tells n (row ∷ rows) b e =
      by (λ h. checked_rows-tells n rows b h) (λ h. checked_rows-tells (n + 2 * length row.entries) rows b h) (asks_nothing row.sense) refl (checked_sum value limit x n (whole (pos 0)) row.entries) refl e
    where
      first : KeepsRow value row x → (b ≡ true) ↔ All (λ (row : Row F). KeepsRow value row x) rows → (b ≡ true) ↔ All (λ (row : Row F). KeepsRow value row x) (row ∷ rows)
      first here rest = (λ is. All-cons (λ (row : Row F). KeepsRow value row x) row rows here (rest.0 is), λ all. rest.1 (All-tail (λ (row : Row F). KeepsRow value row x) row rows all))

      by_test : (checked_rows value limit x (n + 2 * length row.entries) rows ≡ Ok b → (b ≡ true) ↔ All (λ (row : Row F). KeepsRow value row x) rows) → (s : Number) → s ≡ row_sum value row.entries x → (test : Bool) → keeps_sense row.sense s (value row.right) ≡ test → cond test (checked_rows value limit x (n + 2 * length row.entries) rows) (Ok false) ≡ Ok b → (b ≡ true) ↔ All (λ (row : Row F). KeepsRow value row x) (row ∷ rows)
      by_test rest s is true holds e = first (subst (λ u. KeepsSense row.sense u (value row.right)) is ((keeps_sense-tells row.sense s (value row.right)).0 holds)) (rest e)
      by_test rest s is false fails e =
          let none : false ≡ b = cc in (
            λ is_true. absurd (let clash : false ≡ true = none ∙ is_true in cc),
            λ all.
                let kept = subst (λ u. KeepsSense row.sense u (value row.right)) (sym is) (All-head (λ (row : Row F). KeepsRow value row x) row rows all) in
                absurd (let clash : false ≡ true = sym fails ∙ (keeps_sense-tells row.sense s (value row.right)).1 kept in cc),
          )

      by : (checked_rows value limit x n rows ≡ Ok b → (b ≡ true) ↔ All (λ (row : Row F). KeepsRow value row x) rows) → (checked_rows value limit x (n + 2 * length row.entries) rows ≡ Ok b → (b ≡ true) ↔ All (λ (row : Row F). KeepsRow value row x) rows) → (asks : Bool) → asks_nothing row.sense ≡ asks → (sum : Result Number StepName) → checked_sum value limit x n (whole (pos 0)) row.entries ≡ sum → cond asks (checked_rows value limit x n rows) (compared sum row.sense (value row.right) (checked_rows value limit x (n + 2 * length row.entries) rows)) ≡ Ok b → (b ≡ true) ↔ All (λ (row : Row F). KeepsRow value row x) (row ∷ rows)
      by skip rest true nothing sum s e = first (asks_nothing-keeps row nothing) (skip e)
      by skip rest false asks (Ok s) e h = by_test rest s (checked_sum-is n (whole (pos 0)) s row.entries e ∙ zero-+ℚ (row_sum value row.entries x)) (keeps_sense row.sense s (value row.right)) refl h
      by skip rest false asks (Err step) e h = absurd (cc)

-- where the check of a point gave an answer, it tells whether the point is feasible
pub checked_point-tells : {F : Type 0} (value : F → Number) (limit : ℕ) (lp : Lp F) (x : List Number) → length x ≡ length lp.columns → (r : Result Bool StepName) → r ≡ checked_point value limit lp x → IfOk r (λ b. IsTrue b ↔ Feasible value lp x)
checked_point-tells {F} value limit lp x sized r e = by (bounds_hold value x 0 lp.columns) refl r e
  where
    by : (b : Bool) → bounds_hold value x 0 lp.columns ≡ b → (r : Result Bool StepName) → r ≡ cond b (checked_rows value limit x 0 lp.rows) (Ok false) → IfOk r (λ b. IsTrue b ↔ Feasible value lp x)
    by true holds (Ok b) e =
        let rows = checked_rows-tells value limit x 0 lp.rows b (sym e) in
        (λ is. record { sized = sized; bounds = (bounds_hold-tells value limit x 0 lp.columns).0 holds; rows = rows.0 is }, λ feasible. rows.1 feasible.rows)
    by true holds (Err step) e = tt
    by false fails (Ok b) e =
        let none : b ≡ false = cc in
        (λ is. absurd (let clash : true ≡ false = sym is ∙ none in cc), λ feasible. absurd (let clash : false ≡ true = sym fails ∙ (bounds_hold-tells value limit x 0 lp.columns).1 feasible.bounds in cc))
    by false fails (Err step) e = tt

-- ---- how many steps there are

pub AllPairs-first : {X : Type 0} (R : X → X → Type 0) (x : X) (xs : List X) → AllPairs R (x ∷ xs) → All (R x) xs
AllPairs-first R x xs pairs = λ k d h. pairs 0 (suc k) d (omega arith) (omega arith)

pub AllPairs-rest : {X : Type 0} (R : X → X → Type 0) (x : X) (xs : List X) → AllPairs R (x ∷ xs) → AllPairs R xs
AllPairs-rest R x xs pairs = λ i j d less h. pairs (suc i) (suc j) d (omega arith) (omega arith)

-- entries that ascend from low on and stay below n are no more than these places
ascending_few : {F : Type 0} (low n : ℕ) (entries : List (ℕ × F)) → AllPairs (λ (a b : ℕ × F). a.0 < b.0) entries → All (λ (e : ℕ × F). e.0 < n) entries → All (λ (e : ℕ × F). low ≤ e.0) entries → low ≤ n → low + length entries ≤ n
ascending_few low n [] ascending there above h = omega arith
ascending_few {F} low n (e ∷ entries) ascending there above h =
    let here = All-head (λ (e : ℕ × F). e.0 < n) e entries there in
    let from = All-head (λ (e : ℕ × F). low ≤ e.0) e entries above in
    let rest = ascending_few (e.0 + 1) n entries (AllPairs-rest (λ (a b : ℕ × F). a.0 < b.0) e entries ascending) (All-tail (λ (e : ℕ × F). e.0 < n) e entries there) (All-weaker (λ (b : ℕ × F). e.0 < b.0) (λ (b : ℕ × F). e.0 + 1 ≤ b.0) (λ b less. omega arith) entries (AllPairs-first (λ (a b : ℕ × F). a.0 < b.0) e entries ascending)) (omega arith) in
    omega arith

at_least_one : {F : Type 0} (lower upper : Option F) → 1 ≤ variables_of_bounds lower upper
at_least_one None None = omega arith
at_least_one None (Some u) = omega arith
at_least_one (Some b) None = omega arith
at_least_one (Some b) (Some u) = omega arith

steps_by_sense : (s : Sense) (m : ℕ) → m ≤ 3000 → cond (asks_nothing s) 0 (2 * m) ≤ 6000 * rows_of_sense s
steps_by_sense sense.E m few = omega arith
steps_by_sense sense.L m few = omega arith
steps_by_sense sense.G m few = omega arith
steps_by_sense sense.N m few = omega arith

columns_counted : {F : Type 0} (columns : List (Column F)) → length columns ≤ sum_by (λ (column : Column F). variables_of_bounds column.lower column.upper) columns
columns_counted [] = omega arith
columns_counted {F} (column ∷ columns) =
    let rest = columns_counted columns in
    let one = at_least_one column.lower column.upper in
    omega (arith, rest, one, sum_by-cons (λ (column : Column F). variables_of_bounds column.lower column.upper) column columns)

rows_counted : {F : Type 0} (value : F → Number) (n : ℕ) (rows : List (Row F)) → All (λ (row : Row F). AreRowEntries value n row.entries) rows → n ≤ 3000 → steps_of_rows rows ≤ 6000 * sum_by (λ (row : Row F). rows_of_sense row.sense) rows
rows_counted value n [] entries few = omega arith
rows_counted {F} value n (row ∷ rows) entries few =
    let rest = rows_counted value n rows (All-tail (λ (row : Row F). AreRowEntries value n row.entries) row rows entries) few in
    let here = All-head (λ (row : Row F). AreRowEntries value n row.entries) row rows entries in
    let short = ascending_few 0 n row.entries here.ascending here.there (λ k d h. omega arith) (omega arith) in
    let steps = steps_by_sense row.sense (length row.entries) (omega (arith, short)) in
    omega (arith, rest, steps, sum_by-cons (λ (row : Row F). rows_of_sense row.sense) row rows)

pub steps_few : {F : Type 0} (value : F → Number) (lp : Lp F) → IsWellFormed value lp → steps_of_rows lp.rows ≤ 9000000
steps_few {F} value lp formed =
    let columns = columns_counted lp.columns in
    let rows = rows_counted value (length lp.columns) lp.rows formed.entries (omega (arith, columns, formed.columns_few)) in
    omega (arith, rows, formed.rows_few)

-- the entries of a well-formed program name values of a point that has one for each column
pub entries_within : {F : Type 0} (value : F → Number) (lp : Lp F) (n : ℕ) → IsWellFormed value lp → n ≡ length lp.columns → All (λ (row : Row F). All (λ (e : ℕ × F). e.0 < n) row.entries) lp.rows
entries_within {F} value lp n formed e =
    All-weaker (λ (row : Row F). AreRowEntries value (length lp.columns) row.entries) (λ (row : Row F). All (λ (e : ℕ × F). e.0 < n) row.entries) (λ row entries. rw e entries.there) lp.rows formed.entries
