-- The rows and headings that are kept in a set.
use Rattle.std.proofs.lemmas.Bool.{and_parts}
use Rattle.std.proofs.Common.{◌≡◌, ℕ, ◌-◌, ◌&&◌, ◌||◌, Bool, true, false, List, [], ◌∷◌, ◌++◌, length, take, refl, sym, ap, ◌∙◌, arith}
use Rattle.std.specs.declared.cmp.Ordering.{Ordering}
use Rattle.std.specs.declared.cmp.Ordering.TheVariants.{Less, Equal, Greater}
use Rattle.std.specs.Ordering.{is_eq, nat_cmp, ordering_then, match_ordering}
use Rattle.std.specs.Cmp.{unsigned_ties}
use Rattle.std.specs.Cmp.Lexicographic.{slice_cmp, lists_ties}
use Rattle.std.specs.List.{list_any}
use Rattle.std.specs.BTreeSet.{insert_key}
use Rattle.std.proofs.lemmas.Cmp.{nat_list_eq_equiv}
use Rattle.std.proofs.lemmas.List.{length-append, take-append-le, take_all}
use Rattle.std.proofs.lemmas.List.Folds.{list_any-append}
use Rattle.std.proofs.lemmas.Slice.Eq.{bytes_eq-Decides}
use Rattle.gms_table.specs.declared.entry.Entry.{Entry}
use Rattle.gms_table.specs.declared.given.Cell.{Cell}
use Rattle.gms_table.specs.InnerGiven.{same_numbers, is_given}
use Rattle.gms_table.specs.InnerCells.{has_cell, AreCellsOf}

-- a cell has these labels
abbrev pub is_cell : Cell → List ℕ → List ℕ → Bool
is_cell cell row column = same_numbers cell.row.items row && same_numbers cell.column.items column

is_eq-then : (o p : Ordering) → is_eq (ordering_then o p) ≡ (is_eq o && is_eq p)
is_eq-then Less p = refl
is_eq-then Equal p = refl
is_eq-then Greater p = refl

-- two cells tie just where their labels are the same
pub cells_tie : (a b : Cell) → is_eq (ordering_then (slice_cmp nat_cmp a.row.items b.row.items) (slice_cmp nat_cmp a.column.items b.column.items)) ≡ is_cell a b.row.items b.column.items
cells_tie a b =
    is_eq-then (slice_cmp nat_cmp a.row.items b.row.items) (slice_cmp nat_cmp a.column.items b.column.items)
    ∙ (λ i. sym (lists_ties nat_cmp unsigned_ties a.row.items b.row.items) i && sym (lists_ties nat_cmp unsigned_ties a.column.items b.column.items) i)

or_twice : (b c : Bool) → (b || c) ≡ (b || (b || c))
or_twice true c = refl
or_twice false c = refl

or_swap : (a b c : Bool) → (a || (b || c)) ≡ (b || (a || c))
or_swap true true c = refl
or_swap true false c = refl
or_swap false true c = refl
or_swap false false c = refl

or_back : (a b : Bool) → (a || b) ≡ (b || (a || false))
or_back true true = refl
or_back true false = refl
or_back false true = refl
or_back false false = refl

same_cells : (a b : Cell) (row column : List ℕ) → is_cell a b.row.items b.column.items ≡ true → is_cell a row column ≡ is_cell b row column
same_cells a b row column h =
    let both = and_parts (same_numbers a.row.items b.row.items) (same_numbers a.column.items b.column.items) h in
    let rows : a.row.items ≡ b.row.items = (bytes_eq-Decides a.row.items b.row.items).0 both.0 in
    let columns : a.column.items ≡ b.column.items = (bytes_eq-Decides a.column.items b.column.items).0 both.1 in
    (λ i. same_numbers (rows i) row && same_numbers (columns i) column)

module _ (cmp : Cell → Cell → Ordering) (ties : (a b : Cell) → is_eq (cmp a b) ≡ is_cell a b.row.items b.column.items) where
  -- a set with one cell more
  pub has_cell-insert : (keys : List Cell) (cell : Cell) (row column : List ℕ) → has_cell (insert_key cmp keys cell) row column ≡ (is_cell cell row column || has_cell keys row column)
  has_cell-insert [] cell row column = refl
  has_cell-insert (x ∷ keys) cell row column = by (has_cell-insert keys cell row column) (cmp cell x) refl
    where
      by : has_cell (insert_key cmp keys cell) row column ≡ (is_cell cell row column || has_cell keys row column) → (o : Ordering) → cmp cell x ≡ o → has_cell (match_ordering o (cell ∷ x ∷ keys) (x ∷ keys) (x ∷ insert_key cmp keys cell)) row column ≡ (is_cell cell row column || has_cell (x ∷ keys) row column)
      by others Less e = refl
      by others Equal e =
          let same = same_cells cell x row column (sym (ties cell x) ∙ ap is_eq e) in
          or_twice (is_cell x row column) (has_cell keys row column) ∙ ap (λ b. b || has_cell (x ∷ keys) row column) (sym same)
      by others Greater e = ap (λ b. is_cell x row column || b) others ∙ or_swap (is_cell x row column) (is_cell cell row column) (has_cell keys row column)

  -- the cells of entries and of one more
  pub AreCellsOf-push : {F : Type 0} (entries after : List (Entry F)) (entry : Entry F) (keys new : List Cell) (cell : Cell) → AreCellsOf entries keys → after ≡ entries ++ entry ∷ [] → new ≡ insert_key cmp keys cell → cell.row.items ≡ entry.row → cell.column.items ≡ entry.column → AreCellsOf after new
  AreCellsOf-push entries after entry keys new cell are after_is new_is row_is column_is row column =
      ap (λ (ks : List Cell). has_cell ks row column) new_is
      ∙ has_cell-insert keys cell row column
      ∙ (λ i. (same_numbers (row_is i) row && same_numbers (column_is i) column) || are row column i)
      ∙ or_back (same_numbers entry.row row && same_numbers entry.column column) (is_given entries row column)
      ∙ sym (list_any-append (λ e. same_numbers e.row row && same_numbers e.column column) entries (entry ∷ []))
      ∙ ap (λ es. is_given es row column) (sym after_is)

-- whether a set has a cell
pub has_cell-by_compare : (cmp : Cell → Cell → Ordering) (ties : (a b : Cell) → is_eq (cmp a b) ≡ is_cell a b.row.items b.column.items) (keys : List Cell) (cell : Cell) → list_any (λ x. is_eq (cmp cell x)) keys ≡ has_cell keys cell.row.items cell.column.items
has_cell-by_compare cmp ties [] cell = refl
has_cell-by_compare cmp ties (x ∷ keys) cell =
    (λ i. (ties cell x ∙ turned cell x) i || has_cell-by_compare cmp ties keys cell i)
  where
    turned : (a b : Cell) → is_cell a b.row.items b.column.items ≡ is_cell b a.row.items a.column.items
    turned a b = (λ i. nat_list_eq_equiv.symm a.row.items b.row.items i && nat_list_eq_equiv.symm a.column.items b.column.items i)

-- the last entry taken away again
pub take-pushed : {X : Type 0} (xs after : List X) (x : X) → after ≡ xs ++ x ∷ [] → take (length after - 1) after ≡ xs
take-pushed xs after x is =
    let long : length after - 1 ≡ length xs = omega (arith, ap length is, length-append xs (x ∷ [])) in
    ap (λ n. take n after) long ∙ ap (take (length xs)) is ∙ take-append-le (length xs) xs (x ∷ []) (omega arith) ∙ take_all (length xs) xs (omega arith)

-- entries whose last one was taken away again, beside a set that stayed
pub AreCellsOf-stay : {F : Type 0} (entries pushed after : List (Entry F)) (entry : Entry F) (n : ℕ) (keys new : List Cell) → AreCellsOf entries keys → pushed ≡ entries ++ entry ∷ [] → after ≡ take (n - 1) pushed → n ≡ length pushed → new ≡ keys → AreCellsOf after new
AreCellsOf-stay entries pushed after entry n keys new are pushed_is after_is long same row column =
    ap (λ (ks : List Cell). has_cell ks row column) same ∙ are row column ∙ ap (λ es. is_given es row column) (sym (after_is ∙ ap (λ m. take (m - 1) pushed) long ∙ take-pushed entries pushed entry pushed_is))
