-- The rows of fractions by their places.
use Rattle.std.proofs.Common.{◌≡◌, ℕ, zero, suc, ◌+◌, ◌<◌, ◌≤◌, List, [], ◌∷◌, length, sym, ap, ◌∙◌, subst, arith}
use Rattle.std.specs.Prelude.{slice_index_or, Vec}
use Rattle.std.specs.declared.alloc.Global.{Global}
use Rattle.gq_number.specs.Number.{Number}
use Rattle.lp_fraction_dict.specs.declared.row.Entry.{Entry}
use Rattle.lp_fraction_dict.specs.Rows.{IsRow}
use Rattle.lp_fraction_dict.specs.Lines.{entries_of_rows, line}
use Rattle.lp_fraction_dict.specs.Tableau.{FractionTableau, IsTableau}
use Rattle.lp_fraction_dict.proofs.Kept.{index_past, length-rows}

items_at : {F : Type 0} (rows : List (Vec (Entry F) Global)) (row : Vec (Entry F) Global) (k : ℕ) → k < length rows → row ≡ slice_index_or rows k row → (o : List (Entry F)) → row.items ≡ slice_index_or (entries_of_rows rows) k o
items_at [] row k less is o = absurd (omega arith)
items_at {F} (r ∷ rows) row zero less is o = ap (λ (v : Vec (Entry F) Global). v.items) is
items_at (r ∷ rows) row (suc k) less is o = items_at rows row k (omega arith) is o

module _ {F : Type 0} (value : F → Number) (t : FractionTableau F) (inv : IsTableau value t) (rows : List (Vec (Entry F) Global)) (rows_are : entries_of_rows rows ≡ t.rows) (k : ℕ) where
  module _ (row : Vec (Entry F) Global) (less : k < length rows) (is : row ≡ slice_index_or rows k row) where
    pub row_is : row.items ≡ line t.rows t.objective k
    row_is = items_at rows row k less is t.objective ∙ ap (λ rs. line rs t.objective k) rows_are

    pub row_ordered : IsRow value 0 (t.variables + 2) row.items
    row_ordered = subst (IsRow value 0 (t.variables + 2)) (sym (items_at rows row k less is [] ∙ ap (λ rs. slice_index_or rs k []) rows_are)) (inv.rows k)

  pub objective_is : length rows ≤ k → t.objective ≡ line t.rows t.objective k
  objective_is past =
      let same : length (entries_of_rows rows) ≡ length t.rows = ap length rows_are in
      let mapped : length (entries_of_rows rows) ≡ length rows = length-rows rows in
      sym (index_past t.rows k t.objective (omega arith))
