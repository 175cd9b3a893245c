-- Rows: what entries in order say of the numbers at columns.
use Rattle.lp_fraction_dict.proofs.Equations.{eq_other, eq_same}
use Rattle.std.proofs.Common.{◌≡◌, ◌≢◌, ℕ, ◌+◌, ◌<◌, ◌≤◌, ◌==◌, pos, cond, List, [], ◌∷◌, ◌++◌, length, refl, sym, ap, ◌∙◌, subst, arith}
use Rattle.std.specs.declared.cmp.Ordering.{Ordering}
use Rattle.std.specs.declared.cmp.Ordering.TheVariants.{Less, Equal, Greater}
use Rattle.std.specs.Ordering.{nat_cmp, MatchOrdering}
use Rattle.std.proofs.lemmas.Cmp.{ranked}
use Rattle.gq_number.specs.Number.{Number, whole}
use Rattle.lp_fraction_dict.specs.declared.row.Entry.{Entry}
use Rattle.lp_fraction_dict.specs.Rows.{IsRow, number_in, StartsFrom}

module _ {F : Type 0} (value : F → Number) where
  -- the first entry at its own column, and at another
  pub number_first : (e : Entry F) (es : List (Entry F)) (c : ℕ) → e.column ≡ c → number_in value (e ∷ es) c ≡ value e.number
  number_first e es c is = rw (sym is) (ap (λ b. cond b (value e.number) (number_in value es e.column)) (eq_same e.column))

  pub number_later : (e : Entry F) (es : List (Entry F)) (c : ℕ) → e.column ≢ c → number_in value (e ∷ es) c ≡ number_in value es c
  number_later e es c other = ap (λ b. cond b (value e.number) (number_in value es c)) (eq_other e.column c other)

  -- before the first column and from the last on there is 0
  pub number_below : (row : List (Entry F)) (low high c : ℕ) → IsRow value low high row → c < low → number_in value row c ≡ whole (pos 0)
  number_below [] low high c h before = refl
  number_below (e ∷ es) low high c h before =
      let least = h.0 in
      number_later e es c (λ is. absurd (omega arith)) ∙ number_below es (e.column + 1) high c h.3 (omega arith)

  pub number_above : (row : List (Entry F)) (low high c : ℕ) → IsRow value low high row → high ≤ c → number_in value row c ≡ whole (pos 0)
  number_above [] low high c h after = refl
  number_above (e ∷ es) low high c h after =
      let most = h.1 in
      number_later e es c (λ is. absurd (omega arith)) ∙ number_above es (e.column + 1) high c h.3 after

  -- the bounds may be wider
  pub row_from : (row : List (Entry F)) (low high m : ℕ) → IsRow value low high row → StartsFrom m row → IsRow value m high row
  row_from [] low high m h starts = tt
  row_from (e ∷ es) low high m h starts = (starts, h.1, h.2, h.3)

  pub row_to : (row : List (Entry F)) (low high m : ℕ) → IsRow value low high row → high ≤ m → IsRow value low m row
  row_to [] low high m h more = tt
  row_to (e ∷ es) low high m h more =
      let most = h.1 in
      (h.0, omega arith, h.2, row_to es (e.column + 1) high m h.3 more)

  -- a row in two parts
  pub row_prefix : (prefix : List (Entry F)) (e : Entry F) (after : List (Entry F)) (low high : ℕ) → IsRow value low high (prefix ++ e ∷ after) → IsRow value low e.column prefix × (low ≤ e.column)
  row_prefix [] e after low high h = (tt, h.0)
  row_prefix (f ∷ prefix) e after low high h =
      let rest = row_prefix prefix e after (f.column + 1) high h.3 in
      let from = rest.1 in
      let least = h.0 in
      ((h.0, omega arith, h.2, rest.0), omega arith)

  pub row_back : (prefix : List (Entry F)) (e : Entry F) (after : List (Entry F)) (low high : ℕ) → IsRow value low high (prefix ++ e ∷ after) → IsRow value (e.column + 1) high after
  row_back [] e after low high h = h.3
  row_back (f ∷ prefix) e after low high h = row_back prefix e after (f.column + 1) high h.3

  -- the number of a row in two parts is in one of them
  pub number_after : (prefix back : List (Entry F)) (low high c : ℕ) → IsRow value low high prefix → high ≤ c → number_in value (prefix ++ back) c ≡ number_in value back c
  number_after [] back low high c h after = refl
  number_after (e ∷ prefix) back low high c h after =
      let most = h.1 in
      number_later e (prefix ++ back) c (λ is. absurd (omega arith)) ∙ number_after prefix back (e.column + 1) high c h.3 after

  pub number_before : (prefix back : List (Entry F)) (c : ℕ) → number_in value back c ≡ whole (pos 0) → number_in value (prefix ++ back) c ≡ number_in value prefix c
  number_before [] back c none = none
  number_before (e ∷ prefix) back c none = ap (λ x. cond (e.column == c) (value e.number) x) (number_before prefix back c none)

  -- an entry after a row
  pub row_pushed : (row : List (Entry F)) (e : Entry F) (low high : ℕ) → IsRow value low high row → low ≤ high → high ≤ e.column → value e.number ≢ whole (pos 0) → IsRow value low (e.column + 1) (row ++ e ∷ [])
  row_pushed [] e low high h wide after some = (omega arith, omega arith, some, tt)
  row_pushed (f ∷ row) e low high h wide after some =
      let most = h.1 in
      (h.0, omega arith, h.2, row_pushed row e (f.column + 1) high h.3 (omega arith) after some)

  -- ---- bisection: the number of a row in the part that it is looked for in

  pub found_after : (prefix : List (Entry F)) (e : Entry F) (after : List (Entry F)) (low high c : ℕ) → IsRow value low high (prefix ++ e ∷ after) → e.column < c → number_in value (prefix ++ e ∷ after) c ≡ number_in value after c
  found_after prefix e after low high c h before =
      number_after prefix (e ∷ after) low e.column c (row_prefix prefix e after low high h).0 (omega arith) ∙ number_later e after c (λ is. absurd (omega arith))

  pub found_here : (prefix : List (Entry F)) (e : Entry F) (after : List (Entry F)) (low high c : ℕ) → IsRow value low high (prefix ++ e ∷ after) → e.column ≡ c → number_in value (prefix ++ e ∷ after) c ≡ value e.number
  found_here prefix e after low high c h is =
      number_after prefix (e ∷ after) low e.column c (row_prefix prefix e after low high h).0 (omega arith) ∙ number_first e after c is

  pub found_before : (prefix : List (Entry F)) (e : Entry F) (after : List (Entry F)) (low high c : ℕ) → IsRow value low high (prefix ++ e ∷ after) → c < e.column → number_in value (prefix ++ e ∷ after) c ≡ number_in value prefix c
  found_before prefix e after low high c h before =
      number_before prefix (e ∷ after) c (number_later e after c (λ is. absurd (omega arith)) ∙ number_below after (e.column + 1) high c (row_back prefix e after low high h) (omega arith))

-- What is left of a row in the search for a column: the number there is that of the row.
pub record Searched {F : Type 0} (value : F → Number) (row rest : List (Entry F)) (column : ℕ) : Type 0 where
  pub low : ℕ
  pub high : ℕ
  pub is_row : IsRow value low high rest
  pub same : number_in value row column ≡ number_in value rest column

module _ {F : Type 0} (value : F → Number) (row rest prefix back : List (Entry F)) (e : Entry F) (after : List (Entry F)) (c : ℕ) (s : Searched value row rest c) (parts : rest ≡ prefix ++ back) (first : back ≡ e ∷ after) where
  in_parts : rest ≡ prefix ++ e ∷ after
  in_parts = parts ∙ ap (λ r. prefix ++ r) first

  parts_row : IsRow value s.low s.high (prefix ++ e ∷ after)
  parts_row = subst (IsRow value s.low s.high) in_parts s.is_row

  same_parts : number_in value row c ≡ number_in value (prefix ++ e ∷ after) c
  same_parts = s.same ∙ ap (λ r. number_in value r c) in_parts

  pub search_after : e.column < c → Searched value row after c
  search_after before =
      record { low = e.column + 1; high = s.high; is_row = row_back value prefix e after s.low s.high parts_row; same = same_parts ∙ found_after value prefix e after s.low s.high c parts_row before }

  pub search_before : c < e.column → Searched value row prefix c
  search_before before =
      record { low = s.low; high = e.column; is_row = (row_prefix value prefix e after s.low s.high parts_row).0; same = same_parts ∙ found_before value prefix e after s.low s.high c parts_row before }

  pub search_here : e.column ≡ c → value e.number ≡ number_in value row c
  search_here is = sym (same_parts ∙ found_here value prefix e after s.low s.high c parts_row is)

-- what a comparison of two columns tells
pub less_by_cmp : (x y : ℕ) (r : Ordering) → r ≡ nat_cmp x y → r ≡ Less → x < y
less_by_cmp x y r is less = subst (λ o. MatchOrdering o (x < y) (x ≡ y) (y < x)) less (ranked x y r is)

pub equal_by_cmp : (x y : ℕ) (r : Ordering) → r ≡ nat_cmp x y → r ≡ Equal → x ≡ y
equal_by_cmp x y r is same = subst (λ o. MatchOrdering o (x < y) (x ≡ y) (y < x)) same (ranked x y r is)

pub greater_by_cmp : (x y : ℕ) (r : Ordering) → r ≡ nat_cmp x y → r ≡ Greater → y < x
greater_by_cmp x y r is greater = subst (λ o. MatchOrdering o (x < y) (x ≡ y) (y < x)) greater (ranked x y r is)

-- if nothing remains the number is 0
pub search_ends : {F : Type 0} (value : F → Number) (row rest : List (Entry F)) (c : ℕ) → Searched value row rest c → length rest ≡ 0 → number_in value row c ≡ whole (pos 0)
search_ends value row [] c s none = s.same
search_ends value row (e ∷ rest) c s none = absurd (omega arith)
