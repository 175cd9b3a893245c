-- Levels and marginals that are written in sequence.
use Rattle.gms_store.proofs.Writes.{following-attributes}
use Rattle.std.proofs.Common.{◌≡◌, ℕ, zero, suc, ◌+◌, ◌<◌, ◌≤◌, Bool, true, false, not, ◌==◌, List, [], ◌∷◌, length, map, set, drop, get_or, refl, sym, ap, ◌∙◌, cond, Some, None, unwrap_or, pos, inl, inr, add-one}
use Rattle.std.specs.Ordering.{eq_by_cmp}
use Rattle.std.specs.List.{fold}
use Rattle.std.specs.FinMap as finite
use Rattle.std.proofs.lemmas.Bool.{cases_lt}
use Rattle.std.proofs.lemmas.List.{at_drop_more, at_drop_all, set_past}
use Rattle.gq_number.specs.Number.{Number, whole}
use Rattle.gms_tuple.specs.TupleOrder.{tuple_cmp}
use Rattle.gms_tuple.specs.OrderLaws.{tuple_cmp-total}
use Rattle.gms_tuple.proofs.Ordered.{same_tuple_refl, tuple_cmp-Equal}
use Rattle.lp_form.specs.declared.key.Key.{Key}
use Rattle.gms_store.specs.State.{Entries, Attributes, Content, undeclared, alias_of, set_of, parameter_of, variable_of, equation_of, model_with, Symbol, State, alias_target, base_of, symbol_of, with_content, if_fits, entries_after_write, with_attributes, attributes_in, attributes_of, after_attributes, with_level, with_marginal, same_attributes, absent_variable, unbounded}
use Rattle.std.proofs.Math.ListN.{get_or-map, length-map}
use Rattle.lp_core.specs.declared.program.Column.{Column}
use Rattle.lp_core.specs.declared.program.Row.{Row}
use Rattle.lp_core.specs.declared.program.Lp.{Lp}
use Rattle.lp_core.specs.Numbers.{lp_numbers, column_numbers, row_numbers}
use Rattle.gms_exec.specs.Solved.{first_or_zero, after_first, Point, points, with_point, keys_of_columns, row_keys}
use Rattle.gms_exec.proofs.Symbols.{symbol-here, base-after}
use Rattle.gms_exec.proofs.Newest.{tie-same}
use Rattle.gms_exec.proofs.Assigned.{absent-not_given}

-- ---- one write after another at one element

-- what is read at each tuple after a write
get-write : {X : Type 0} (b : Bool) (m : Entries X) (t : List ℕ) (x : X) (q : List ℕ) → finite.get (entries_after_write b m t x) q ≡ cond (eq_by_cmp tuple_cmp q t) (cond b (Some x) None) (finite.get m q)
get-write true m t x q = finite.get-insert tuple_cmp-total m t x q
get-write false m t x q = finite.get-remove tuple_cmp-total m t q

cond-twice : {A : Type 0} (b : Bool) (x y z : A) → cond b x (cond b y z) ≡ cond b x z
cond-twice true x y z = refl
cond-twice false x y z = refl

-- of two writes at one tuple the later is left
write-twice : {X : Type 0} (b d : Bool) (m : Entries X) (t : List ℕ) (x y : X) → entries_after_write d (entries_after_write b m t x) t y ≡ entries_after_write d m t y
write-twice b d m t x y =
    finite.same_map tuple_cmp-total tuple_cmp-Equal (entries_after_write d (entries_after_write b m t x) t y) (entries_after_write d m t y) (λ q.
    get-write d (entries_after_write b m t x) t y q
    ∙ ap (cond (eq_by_cmp tuple_cmp q t) (cond d (Some y) None)) (get-write b m t x q)
    ∙ cond-twice (eq_by_cmp tuple_cmp q t) (cond d (Some y) None) (cond b (Some x) None) (finite.get m q)
    ∙ sym (get-write d m t y q))

-- what is read where a write was
read-written : {X : Type 0} (b : Bool) (m : Entries X) (t : List ℕ) (x absent : X) → (b ≡ false → absent ≡ x) → unwrap_or (finite.get (entries_after_write b m t x) t) absent ≡ x
read-written b m t x absent agree =
    ap (λ o. unwrap_or o absent) (get-write b m t x t ∙ ap (λ tie. cond tie (cond b (Some x) None) (finite.get m t)) (tie-same t t ∙ same_tuple_refl t)) ∙ by b agree
  where
    by : (b : Bool) → (b ≡ false → absent ≡ x) → unwrap_or (cond b (Some x) None) absent ≡ x
    by true agree = refl
    by false agree = agree refl

module _ (t : List ℕ) (a : Attributes) (f : Attributes → Attributes) where
  -- the same of a content, where the later attributes are made of those that were written
  content-twice : (content : Content) → with_attributes (with_attributes content t a) t (f (attributes_in (with_attributes content t a) t)) ≡ with_attributes content t (f a)
  content-twice undeclared = refl
  content-twice (alias_of base) = refl
  content-twice (set_of members) = refl
  content-twice (parameter_of entries) = refl
  content-twice (variable_of type entries) =
      ap (λ b. with_attributes (with_attributes (variable_of type entries) t a) t (f b)) (read-written (not (same_attributes a (absent_variable type))) entries t a (absent_variable type) (absent-not_given (absent_variable type) a))
      ∙ ap (variable_of type) (write-twice (not (same_attributes a (absent_variable type))) (not (same_attributes (f a) (absent_variable type))) entries t a (f a))
  content-twice (equation_of entries) =
      ap (λ b. with_attributes (with_attributes (equation_of entries) t a) t (f b)) (read-written (not (same_attributes a unbounded)) entries t a unbounded (absent-not_given unbounded a))
      ∙ ap equation_of (write-twice (not (same_attributes a unbounded)) (not (same_attributes (f a) unbounded)) entries t a (f a))
  content-twice (model_with model solver) = refl

  -- the same of a symbol
  symbol-twice : (symbol : Symbol) → if_fits (if_fits symbol t (with_attributes symbol.content t a)) t (with_attributes (if_fits symbol t (with_attributes symbol.content t a)).content t (f (attributes_in (if_fits symbol t (with_attributes symbol.content t a)).content t))) ≡ if_fits symbol t (with_attributes symbol.content t (f a))
  symbol-twice symbol = by (length t == length symbol.domain) refl
    where
      by : (b : Bool) → (length t == length symbol.domain) ≡ b → if_fits (cond b (with_content symbol (with_attributes symbol.content t a)) symbol) t (with_attributes (cond b (with_content symbol (with_attributes symbol.content t a)) symbol).content t (f (attributes_in (cond b (with_content symbol (with_attributes symbol.content t a)) symbol).content t))) ≡ cond b (with_content symbol (with_attributes symbol.content t (f a))) symbol
      by true e =
          ap (λ b. cond b (with_content symbol (with_attributes (with_attributes symbol.content t a) t (f (attributes_in (with_attributes symbol.content t a) t)))) (with_content symbol (with_attributes symbol.content t a))) e
          ∙ ap (with_content symbol) (content-twice symbol.content)
      by false e = ap (λ b. cond b (with_content symbol (with_attributes symbol.content t (f (attributes_in symbol.content t)))) symbol) e

set-twice : (xs : List Symbol) (i : ℕ) (v w : Symbol) → set (set xs i v) i w ≡ set xs i w
set-twice [] i v w = refl
set-twice (x ∷ xs) zero v w = refl
set-twice (x ∷ xs) (suc i) v w = ap (λ ys. x ∷ ys) (set-twice xs i v w)

pub fits-either : (P : Content → Type 0) (s : Symbol) (t : List ℕ) (new : Content) → P s.content → P new → P (if_fits s t new).content
fits-either P s t new old changed = by (length t == length s.domain)
  where
    by : (b : Bool) → P (cond b (with_content s new) s).content
    by true = changed
    by false = old

pub following-fitted : (s : Symbol) (t : List ℕ) (a : Attributes) (n : ℕ) → alias_target n (if_fits s t (with_attributes s.content t a)).content ≡ alias_target n s.content
following-fitted s t a n = fits-either (λ c. alias_target n c ≡ alias_target n s.content) s t (with_attributes s.content t a) refl (following-attributes s.content t a n)

-- the state with other symbols
abbrev with_symbols : State → List Symbol → State
with_symbols state symbols = record { symbols = symbols; settings = state.settings }

-- Attributes of an element that are written twice: the later ones remain, made of those that were
-- written first.
module _ (t : List ℕ) (a : Attributes) (f : Attributes → Attributes) (state : State) (name : ℕ) where
  abbrev base : ℕ
  base = base_of state name

  abbrev new : Symbol
  new = if_fits (symbol_of state name) t (with_attributes (symbol_of state name).content t a)

  abbrev next : Symbol → Symbol
  next s = if_fits s t (with_attributes s.content t (f (attributes_in s.content t)))

  alike : (n : ℕ) → alias_target n new.content ≡ alias_target n (symbol_of state name).content
  alike n = following-fitted (symbol_of state name) t a n

  put-twice_within : base_of state name < length state.symbols → after_attributes (after_attributes state name t a) name t (f (attributes_of (after_attributes state name t a) name t)) ≡ after_attributes state name t (f a)
  put-twice_within within =
      ap (λ n. with_symbols state (set (set state.symbols base new) n (next (symbol_of (after_attributes state name t a) name)))) (base-after state name new alike name)
      ∙ ap (λ s. with_symbols state (set (set state.symbols base new) base (next s))) (symbol-here state name new alike within)
      ∙ ap (with_symbols state) (set-twice state.symbols base new (next new))
      ∙ ap (λ s. with_symbols state (set state.symbols base s)) (symbol-twice t a f (symbol_of state name))

  put-twice_beyond : length state.symbols ≤ base_of state name → after_attributes (after_attributes state name t a) name t (f (attributes_of (after_attributes state name t a) name t)) ≡ after_attributes state name t (f a)
  put-twice_beyond beyond =
      ap (λ (s : State). after_attributes s name t (f (attributes_of s name t))) (ap (with_symbols state) (set_past state.symbols base new beyond))
      ∙ ap (with_symbols state) (set_past state.symbols base (next (symbol_of state name)) beyond)
      ∙ sym (ap (with_symbols state) (set_past state.symbols base (if_fits (symbol_of state name) t (with_attributes (symbol_of state name).content t (f a))) beyond))

  pub put-twice : after_attributes (after_attributes state name t a) name t (f (attributes_of (after_attributes state name t a) name t)) ≡ after_attributes state name t (f a)
  put-twice = elim (cases_lt (base_of state name) (length state.symbols)) [ inl within ↦ put-twice_within within | inr beyond ↦ put-twice_beyond beyond ]

-- a level and then a marginal that are written are a point
pub point-put : (state : State) (key : Key) (level marginal : Number) → after_attributes (after_attributes state key.symbol key.tuple (with_level (attributes_of state key.symbol key.tuple) level)) key.symbol key.tuple (with_marginal (attributes_of (after_attributes state key.symbol key.tuple (with_level (attributes_of state key.symbol key.tuple) level)) key.symbol key.tuple) marginal) ≡ with_point state (record { key = key; level = level; marginal = marginal })
point-put state key level marginal =
    put-twice key.tuple (with_level (attributes_of state key.symbol key.tuple) level) (λ a. with_marginal a marginal) state key.symbol

-- ---- points in order

first-drop : (xs : List Number) (i : ℕ) → first_or_zero (drop i xs) ≡ get_or xs i (whole (pos 0))
first-drop [] zero = refl
first-drop [] (suc i) = refl
first-drop (x ∷ xs) zero = refl
first-drop (x ∷ xs) (suc i) = first-drop xs i

following-drop : (xs : List Number) (i : ℕ) → after_first (drop i xs) ≡ drop (suc i) xs
following-drop [] zero = refl
following-drop [] (suc i) = refl
following-drop (x ∷ xs) zero = refl
following-drop (x ∷ xs) (suc i) = following-drop xs i

module _ (keys : List Key) (levels marginals : List Number) where
  -- the remaining points from a place on
  abbrev pub left_at : ℕ → List Point
  left_at i = points (drop i keys) (drop i levels) (drop i marginals)

  left-more : (i : ℕ) (key : Key) → i < length keys → key ≡ get_or keys i key → left_at i ≡ record { key = key; level = get_or levels i (whole (pos 0)); marginal = get_or marginals i (whole (pos 0)) } ∷ left_at (i + 1)
  left-more i key within is =
      at_drop_more (λ ks. points ks (drop i levels) (drop i marginals)) keys i key within
      ∙ ap (λ k. points (k ∷ drop (i + 1) keys) (drop i levels) (drop i marginals)) (sym is)
      ∙ ap (λ x. record { key = key; level = x; marginal = first_or_zero (drop i marginals) } ∷ points (drop (i + 1) keys) (after_first (drop i levels)) (after_first (drop i marginals))) (first-drop levels i)
      ∙ ap (λ x. record { key = key; level = get_or levels i (whole (pos 0)); marginal = x } ∷ points (drop (i + 1) keys) (after_first (drop i levels)) (after_first (drop i marginals))) (first-drop marginals i)
      ∙ ap (λ xs. record { key = key; level = get_or levels i (whole (pos 0)); marginal = get_or marginals i (whole (pos 0)) } ∷ points (drop (i + 1) keys) xs (after_first (drop i marginals))) (following-drop levels i ∙ ap (λ n. drop n levels) (sym (add-one i)))
      ∙ ap (λ xs. record { key = key; level = get_or levels i (whole (pos 0)); marginal = get_or marginals i (whole (pos 0)) } ∷ points (drop (i + 1) keys) (drop (i + 1) levels) xs) (following-drop marginals i ∙ ap (λ n. drop n marginals) (sym (add-one i)))

  -- one more point is written, and those after it remain
  pub put-more : (goes now next : State) (i : ℕ) (key : Key) (level marginal : Number) → i < length keys → key ≡ get_or keys i key → level ≡ get_or levels i (whole (pos 0)) → marginal ≡ get_or marginals i (whole (pos 0)) → next ≡ with_point now (record { key = key; level = level; marginal = marginal }) → fold with_point now (left_at i) ≡ goes → fold with_point next (left_at (i + 1)) ≡ goes
  put-more goes now next i key level marginal within is at_level at_marginal put so_far =
      ap (λ s. fold with_point s (left_at (i + 1))) (put ∙ ap (λ x. with_point now (record { key = key; level = x; marginal = marginal })) at_level ∙ ap (λ x. with_point now (record { key = key; level = get_or levels i (whole (pos 0)); marginal = x })) at_marginal)
      ∙ sym (ap (fold with_point now) (left-more i key within is))
      ∙ so_far

  -- all are written
  pub put-all : (goes now : State) (i : ℕ) → length keys ≤ i → fold with_point now (left_at i) ≡ goes → now ≡ goes
  put-all goes now i beyond so_far =
      sym (at_drop_all (λ ks. fold with_point now (points ks (drop i levels) (drop i marginals))) keys i beyond) ∙ so_far

-- ---- the elements of a program

module _ {F : Type 0} (value : F → Number) (lp : Lp F) where
  -- a column at a place, and its element
  pub column-at : (columns : List (Column F)) (i : ℕ) (column : Column F) → columns ≡ lp.columns → i < length columns → column ≡ get_or columns i column → (i < length (keys_of_columns (lp_numbers value lp))) × (column.key ≡ get_or (keys_of_columns (lp_numbers value lp)) i column.key)
  column-at columns i column are within is = (
    rw (length-map, length-map) (rw are at within),
    ap (λ (c : Column F). c.key) (is ∙ ap (λ (cs : List (Column F)). get_or cs i column) are)
        ∙ sym (get_or-map (λ (c : Column Number). c.key) (map (column_numbers value) lp.columns) i (column_numbers value column) ∙ ap (λ (c : Column Number). c.key) (get_or-map (column_numbers value) lp.columns i column)),
  )

  -- the same of rows
  pub row-at : (rows : List (Row F)) (i : ℕ) (row : Row F) → rows ≡ lp.rows → i < length rows → row ≡ get_or rows i row → (i < length (row_keys (lp_numbers value lp))) × (row.key ≡ get_or (row_keys (lp_numbers value lp)) i row.key)
  row-at rows i row are within is = (
    rw (length-map, length-map) (rw are at within),
    ap (λ (r : Row F). r.key) (is ∙ ap (λ (rs : List (Row F)). get_or rs i row) are)
        ∙ sym (get_or-map (λ (r : Row Number). r.key) (map (row_numbers value) lp.rows) i (row_numbers value row) ∙ ap (λ (r : Row Number). r.key) (get_or-map (row_numbers value) lp.rows i row)),
  )
