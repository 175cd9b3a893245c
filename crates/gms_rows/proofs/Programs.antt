-- The program of rows: its columns, its size, and that it is well formed.
use mathlib.Core.Bool.{or-true}
use Rattle.std.proofs.Common.{◌≡◌, ◌≢◌, ℕ, ◌+◌, ◌<◌, ◌≤◌, Bool, true, ◌||◌, List, [], ◌∷◌, ◌++◌, map, length, get_or, refl, sym, ap, ◌∙◌, subst, arith}
use Rattle.std.specs.Prelude.{flat_map, sum_by}
use Rattle.std.specs.List.{All, AllPairs}
use Rattle.std.specs.FinMap as finite
use Rattle.std.specs.declared.cmp.Ordering.TheVariants.{Less, Equal}
use Rattle.std.proofs.lemmas.Cmp.{tied_itself}
use Rattle.std.proofs.lemmas.List.{length-map}
use Rattle.std.proofs.lemmas.List.Elements.{All-nil, All-cons, All-head, All-tail, All-map, All-weaker}
use Rattle.std.proofs.lemmas.List.Folds.{list_any-append}
use Rattle.std.proofs.lemmas.List.Kept.{AllPairs-cons}
use Rattle.std.proofs.lemmas.Map.Keys.{Less-from_sorted}
use Rattle.gq_number.specs.Number.{Number}
use Rattle.gms_store.specs.State.{State}
use Rattle.lp_form.specs.declared.key.Key.{Key}
use Rattle.lp_form.specs.Keys.{key_cmp, same_key, AreOrdered}
use Rattle.lp_form.specs.Affine.{IsForm}
use Rattle.lp_form.proofs.KeyOrder.{key_cmp-total, same_key_refl}
use Rattle.lp_core.specs.Numbers.{column_numbers, row_numbers, lp_numbers}
use Rattle.lp_core.specs.WellFormed.{IsWellFormed, AreRowEntries, rows_of_sense, rows_of_bounds, variables_of_bounds, standard_rows, standard_columns}
use Rattle.lp_core.specs.declared.program.Column.{Column}
use Rattle.lp_core.specs.declared.program.Row.{Row}
use Rattle.lp_core.specs.declared.program.Lp.{Lp}
use Rattle.lp_core.proofs.Points.{AllPairs-first, AllPairs-rest}
use Rattle.gms_rows.specs.declared.form_row.FormRow.{FormRow as OwnRow}
use Rattle.gms_rows.specs.Rows.{FormRow}
use Rattle.gms_rows.specs.ProgramLp.{column_keys, column_of, place_of_key, placed, program_of}
use Rattle.gms_rows.specs.InnerContracts.{is_among, form_row_in}
use Rattle.gms_rows.proofs.KeyLists.{keys-ordered}
use Rattle.gms_rows.proofs.ColumnKeys.{among-ordered, keys-rows}
use Rattle.gms_rows.proofs.Placing.{place-within}
use Rattle.gms_rows.proofs.Sizing.{bounds-shown, variables-shown, senses-placed, senses-shown, columns-counted}

-- ---- mapped lists

module _ {X Y : Type 0} (f : X → Y) where
  pub all-of_map : (P : Y → Type 0) (xs : List X) → All P (map f xs) → All (λ x. P (f x)) xs
  all-of_map P [] all = All-nil (λ x. P (f x))
  all-of_map P (x ∷ xs) all =
      All-cons (λ x. P (f x)) x xs (All-head P (f x) (map f xs) all) (all-of_map P xs (All-tail P (f x) (map f xs) all))

  -- pairs of a mapped list are pairs of the list
  pub pairs-of_map : (R : Y → Y → Type 0) (xs : List X) → AllPairs R (map f xs) → AllPairs (λ a b. R (f a) (f b)) xs
  pairs-of_map R [] pairs = λ i j d less below. absurd (omega (arith, less, below))
  pairs-of_map R (x ∷ xs) pairs =
      AllPairs-cons (λ a b. R (f a) (f b)) x xs (all-of_map (R (f x)) xs (AllPairs-first R (f x) (map f xs) pairs)) (pairs-of_map R xs (AllPairs-rest R (f x) (map f xs) pairs))

  pub pairs-map : (R : Y → Y → Type 0) (xs : List X) → AllPairs (λ a b. R (f a) (f b)) xs → AllPairs R (map f xs)
  pairs-map R [] pairs = λ i j d less below. absurd (omega (arith, less, below))
  pairs-map R (x ∷ xs) pairs =
      AllPairs-cons R (f x) (map f xs) (All-map (R (f x)) f xs (AllPairs-first (λ a b. R (f a) (f b)) x xs pairs)) (pairs-map R xs (AllPairs-rest (λ a b. R (f a) (f b)) x xs pairs))

  pub map-keeps : {K : Type 0} (g : Y → K) (h : X → K) → ((x : X) → g (f x) ≡ h x) → (xs : List X) → map g (map f xs) ≡ map h xs
  map-keeps g h same [] = refl
  map-keeps g h same (x ∷ xs) =
      let first = same x in
      let rest = map-keeps g h same xs in
      λ i. first i ∷ rest i

pub map-itself : {X : Type 0} (g : X → X) → ((x : X) → g x ≡ x) → (xs : List X) → map g xs ≡ xs
map-itself g same [] = refl
map-itself g same (x ∷ xs) =
    let first = same x in
    let rest = map-itself g same xs in
    λ i. first i ∷ rest i

-- ---- keys

-- keys in order differ
keys-differ : (keys : List Key) → AreOrdered keys → AllPairs (λ a b. a ≢ b) keys
keys-differ keys up i j d less below same =
    let before : key_cmp (get_or keys i d) (get_or keys j d) ≡ Less = Less-from_sorted key_cmp keys i j d up less below in
    let tied : key_cmp (get_or keys i d) (get_or keys j d) ≡ Equal = ap (key_cmp (get_or keys i d)) (sym same) ∙ tied_itself key_cmp-total (get_or keys i d) in
    let both : Less ≡ Equal = sym before ∙ tied in cc

own-keys : (keys : List Key) → All (λ key. is_among keys key ≡ true) keys
own-keys [] = All-nil (λ key. is_among [] key ≡ true)
own-keys (k ∷ keys) =
    All-cons (λ key. is_among (k ∷ keys) key ≡ true) k keys (ap (λ b. b || is_among keys k) (same_key_refl k))
    (All-weaker (λ key. is_among keys key ≡ true) (λ key. is_among (k ∷ keys) key ≡ true) (λ key there. ap (λ b. same_key key k || b) there ∙ or-true (same_key key k)) keys (own-keys keys))

among-append : (xs ys : List Key) (q : Key) → is_among (xs ++ ys) q ≡ (is_among xs q || is_among ys q)
among-append xs ys q = list_any-append (same_key q) xs ys

-- the keys of each of some things are among the keys of all
pub keys-there : {X : Type 0} (f : X → List Key) (xs : List X) → All (λ x. All (λ key. is_among (flat_map f xs) key ≡ true) (f x)) xs
keys-there f [] = All-nil (λ x. All (λ key. is_among [] key ≡ true) (f x))
keys-there {X} f (x ∷ xs) =
    let later = flat_map f xs in
    All-cons (λ (y : X). All (λ key. is_among (f x ++ later) key ≡ true) (f y)) x xs
    (All-weaker (λ key. is_among (f x) key ≡ true) (λ key. is_among (f x ++ later) key ≡ true) (λ key there. among-append (f x) later key ∙ ap (λ b. b || is_among later key) there) (f x) (own-keys (f x)))
    (All-weaker (λ (y : X). All (λ key. is_among later key ≡ true) (f y)) (λ (y : X). All (λ key. is_among (f x ++ later) key ≡ true) (f y)) (λ y all. All-weaker (λ key. is_among later key ≡ true) (λ key. is_among (f x ++ later) key ≡ true) (λ key there. among-append (f x) later key ∙ ap (λ b. is_among (f x) key || b) there ∙ or-true (is_among (f x) key)) (f y) all) xs (keys-there f xs))

-- ---- the program of rows

module _ {F : Type 0} (v : F → Number) (state : State) (rows : List (OwnRow F)) (objective : Key) (keys : List Key) (is : keys ≡ column_keys (map (form_row_in v) rows) objective) where
  abbrev all_keys : List Key
  all_keys = objective ∷ flat_map (λ (row : FormRow). finite.keys row.form.numbers) (map (form_row_in v) rows)

  -- its keys are in order
  pub keys-up : AreOrdered keys
  keys-up = subst AreOrdered (sym is) (keys-ordered (finite.from_entries {R = key_cmp} (map (λ key. (key, true)) all_keys)))

  keys-among : (q : Key) → is_among keys q ≡ is_among all_keys q
  keys-among q = ap (λ ks. is_among ks q) is ∙ among-ordered all_keys q

  -- the objective is one of them
  pub objective-there : is_among keys objective ≡ true
  objective-there = keys-among objective ∙ ap (λ b. b || is_among (flat_map (λ (row : FormRow). finite.keys row.form.numbers) (map (form_row_in v) rows)) objective) (same_key_refl objective)

  -- and so are the keys of the rows
  pub rows-there : All (λ row. IsForm v row.form) rows → All (λ row. All (λ key. is_among keys key ≡ true) row.form.keys) rows
  rows-there forms =
      let later = flat_map (λ (row : OwnRow F). row.form.keys) rows in
      All-weaker (λ (row : OwnRow F). All (λ key. is_among later key ≡ true) row.form.keys) (λ (row : OwnRow F). All (λ key. is_among keys key ≡ true) row.form.keys) (λ row all. All-weaker (λ key. is_among later key ≡ true) (λ key. is_among keys key ≡ true) (λ key there. keys-among key ∙ ap (λ ks. same_key key objective || is_among ks key) (keys-rows v rows forms) ∙ ap (λ b. same_key key objective || b) there ∙ or-true (same_key key objective)) row.form.keys all) rows (keys-there (λ (row : OwnRow F). row.form.keys) rows)

  module _ (columns : List (Column F)) (shown : map (column_numbers v) columns ≡ map (column_of state) keys) (maximize : Bool) where
    abbrev the_program : Lp Number
    the_program = program_of state (map (form_row_in v) rows) objective maximize

    columns-same : the_program.columns ≡ map (column_numbers v) columns
    columns-same = ap (map (column_of state)) (sym is) ∙ sym shown

    -- its standard rows
    pub program-rows : standard_rows the_program ≡ sum_by (λ (row : OwnRow F). rows_of_sense row.sense) rows + sum_by (λ (column : Column F). rows_of_bounds column.lower column.upper) columns
    program-rows =
        let senses = senses-placed v (column_keys (map (form_row_in v) rows) objective) rows in
        let bounds = ap (sum_by (λ (column : Column Number). rows_of_bounds column.lower column.upper)) columns-same ∙ bounds-shown v columns in
        λ i. senses i + bounds i

    -- its standard columns
    pub program-columns : standard_columns the_program ≡ sum_by (λ (column : Column F). variables_of_bounds column.lower column.upper) columns
    program-columns =
        ap (sum_by (λ (column : Column Number). variables_of_bounds column.lower column.upper)) columns-same ∙ variables-shown v columns

    same_length : length columns ≡ length keys
    same_length = sym (length-map columns (column_numbers v)) ∙ ap length shown ∙ length-map keys (column_of state)

    -- there are few keys
    pub keys-few : sum_by (λ (column : Column F). variables_of_bounds column.lower column.upper) columns ≤ 3000 → length keys < 4294967296
    keys-few few = omega (arith, few, columns-counted v columns, same_length)

    module _ (lp : Lp F) (its-columns : lp.columns ≡ columns) (its-rows : map (row_numbers v) lp.rows ≡ map (placed keys) (map (form_row_in v) rows)) (its-objective : lp.objective ≡ place_of_key keys objective) (its-maximize : lp.maximize ≡ maximize) where
      -- the view of a program made of these parts
      pub program-shown : the_program ≡ lp_numbers v lp
      program-shown =
          let cs = ap (map (column_numbers v)) its-columns ∙ shown ∙ ap (map (column_of state)) is in
          let rs = its-rows ∙ ap (λ ks. map (placed ks) (map (form_row_in v) rows)) is in
          let o = its-objective ∙ ap (λ ks. place_of_key ks objective) is in
          sym (λ i. record { columns = cs i; rows = rs i; objective = o i; maximize = its-maximize i })

      column-keys : map (λ (column : Column F). column.key) lp.columns ≡ keys
      column-keys =
          ap (map (λ (column : Column F). column.key)) its-columns
          ∙ sym (map-keeps (column_numbers v) (λ (column : Column Number). column.key) (λ (column : Column F). column.key) (λ column. refl) columns)
          ∙ ap (map (λ (column : Column Number). column.key)) shown
          ∙ map-keeps (column_of state) (λ (column : Column Number). column.key) (λ (key : Key). key) (λ key. refl) keys
          ∙ map-itself (λ (key : Key). key) (λ key. refl) keys

      row-names : map (λ (row : Row F). row.key) lp.rows ≡ map (λ (row : OwnRow F). row.key) rows
      row-names =
          sym (map-keeps (row_numbers v) (λ (row : Row Number). row.key) (λ (row : Row F). row.key) (λ row. refl) lp.rows)
          ∙ ap (map (λ (row : Row Number). row.key)) its-rows
          ∙ map-keeps (placed keys) (λ (row : Row Number). row.key) (λ (row : FormRow). row.key) (λ row. refl) (map (form_row_in v) rows)
          ∙ map-keeps (form_row_in v) (λ (row : FormRow). row.key) (λ (row : OwnRow F). row.key) (λ row. refl) rows

      long : length lp.columns ≡ length keys
      long = ap length its-columns ∙ same_length

      senses : sum_by (λ (row : Row F). rows_of_sense row.sense) lp.rows ≡ sum_by (λ (row : OwnRow F). rows_of_sense row.sense) rows
      senses =
          sym (senses-shown v lp.rows)
          ∙ ap (sum_by (λ (row : Row Number). rows_of_sense row.sense)) its-rows
          ∙ senses-placed v keys rows

      few-as : {X : Type 0} (f : X → ℕ) (xs ys : List X) (n a b limit : ℕ) → xs ≡ ys → n ≡ a → b ≡ sum_by f ys → a + b ≤ limit → n + sum_by f xs ≤ limit
      few-as f xs ys n a b limit same e g few = let h = ap (sum_by f) same in omega (arith, e, g, h, few)

      -- and it is well formed
      pub program-formed : AllPairs (λ a b. a.key ≢ b.key) rows → All (λ (row : Row F). AreRowEntries v (length keys) row.entries) lp.rows → sum_by (λ (row : OwnRow F). rows_of_sense row.sense) rows + sum_by (λ (column : Column F). rows_of_bounds column.lower column.upper) columns ≤ 1500 → sum_by (λ (column : Column F). variables_of_bounds column.lower column.upper) columns ≤ 3000 → IsWellFormed v lp
      program-formed differ entries few_rows few_columns =
          record {
            objective = omega (arith, its-objective, place-within keys keys-up objective objective-there, long);
            columns_differ = pairs-of_map (λ (column : Column F). column.key) (λ a b. a ≢ b) lp.columns (subst (AllPairs (λ a b. a ≢ b)) (sym column-keys) (keys-differ keys keys-up));
            rows_differ = pairs-of_map (λ (row : Row F). row.key) (λ a b. a ≢ b) lp.rows (subst (AllPairs (λ a b. a ≢ b)) (sym row-names) (pairs-map (λ (row : OwnRow F). row.key) (λ a b. a ≢ b) rows differ));
            entries = subst (λ n. All (λ (row : Row F). AreRowEntries v n row.entries) lp.rows) (sym long) entries;
            rows_few = few-as (λ (column : Column F). rows_of_bounds column.lower column.upper) lp.columns columns _ _ _ 1500 its-columns senses refl few_rows;
            columns_few = subst (λ those. sum_by (λ (column : Column F). variables_of_bounds column.lower column.upper) those ≤ 3000) (sym its-columns) few_columns;
          }
