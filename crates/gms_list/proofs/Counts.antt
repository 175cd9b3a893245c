-- How many rows an equation has, and how many columns a variable has, counted over the rows and
-- columns of the code.
use Rattle.std.proofs.Common.{◌≡◌, ℕ, suc, ◌+◌, ◌==◌, Bool, true, false, List, [], ◌∷◌, length, map, filter, refl, ap, ◌∙◌, if◌then◌else◌}
use Rattle.std.specs.List.{enumerate_from}
use Rattle.gq_number.specs.Number.{Number}
use Rattle.lp_core.specs.declared.program.Column.{Column}
use Rattle.lp_core.specs.declared.program.Row.{Row}
use Rattle.lp_core.specs.declared.program.Lp.{Lp}
use Rattle.lp_core.specs.Numbers.{lp_numbers, row_numbers, column_numbers}
use Rattle.gms_list.specs.SolveText.{rows_of_equation, columns_of_variable, distinct_names, variables}

-- as many elements are kept as are kept of their images
kept_by : {X Y : Type 0} (b : Bool) (x : X) (y : Y) (xs : List X) (ys : List Y) → length xs ≡ length ys → length (if b then x ∷ xs else xs) ≡ length (if b then y ∷ ys else ys)
kept_by true x y xs ys e = ap (λ n. suc n) e
kept_by false x y xs ys e = e

rows_from : {F : Type 0} (value : F → Number) (n : ℕ) (rows : List (Row F)) (equation : ℕ) →
    length (filter (λ (row : Row F). row.key.symbol == equation) rows) ≡ length (filter (λ (p : ℕ × Row Number). p.1.key.symbol == equation) (enumerate_from n (map (row_numbers value) rows)))
rows_from value n [] equation = refl
rows_from value n (row ∷ rows) equation =
    kept_by (row.key.symbol == equation) row (n, row_numbers value row) (filter (λ (r : Row _). r.key.symbol == equation) rows) (filter (λ (p : ℕ × Row Number). p.1.key.symbol == equation) (enumerate_from (n + 1) (map (row_numbers value) rows))) (rows_from value (n + 1) rows equation)

pub rows_counted : {F : Type 0} (names labels : List (List ℕ)) (limit : ℕ) (value : F → Number) (lp : Lp F) (equation : ℕ) (rows : List (Row F)) (n : ℕ) → rows ≡ lp.rows →
    n ≡ length (filter (λ (row : Row F). row.key.symbol == equation) rows) → n ≡ length (rows_of_equation names labels limit (lp_numbers value lp) equation)
rows_counted names labels limit value lp equation rows n e f =
    f ∙ ap (λ rs. length (filter (λ (row : Row _). row.key.symbol == equation) rs)) e ∙ rows_from value 0 lp.rows equation

columns_from : {F : Type 0} (value : F → Number) (n : ℕ) (columns : List (Column F)) (variable : ℕ) →
    length (filter (λ (column : Column F). column.key.symbol == variable) columns) ≡ length (filter (λ (p : ℕ × Column Number). p.1.key.symbol == variable) (enumerate_from n (map (column_numbers value) columns)))
columns_from value n [] variable = refl
columns_from value n (column ∷ columns) variable =
    kept_by (column.key.symbol == variable) column (n, column_numbers value column) (filter (λ (c : Column _). c.key.symbol == variable) columns) (filter (λ (p : ℕ × Column Number). p.1.key.symbol == variable) (enumerate_from (n + 1) (map (column_numbers value) columns))) (columns_from value (n + 1) columns variable)

pub columns_counted : {F : Type 0} (names labels : List (List ℕ)) (limit : ℕ) (value : F → Number) (lp : Lp F) (variable : ℕ) (columns : List (Column F)) (n : ℕ) → columns ≡ lp.columns →
    n ≡ length (filter (λ (column : Column F). column.key.symbol == variable) columns) → n ≡ length (columns_of_variable names labels limit (lp_numbers value lp) variable)
columns_counted names labels limit value lp variable columns n e f =
    f ∙ ap (λ cs. length (filter (λ (column : Column _). column.key.symbol == variable) cs)) e ∙ columns_from value 0 lp.columns variable

symbols_same : {F : Type 0} (value : F → Number) (cs : List (Column F)) → map (λ (c : Column F). c.key.symbol) cs ≡ map (λ (c : Column Number). c.key.symbol) (map (column_numbers value) cs)
symbols_same value [] = refl
symbols_same value (c ∷ cs) = ap (λ ns. c.key.symbol ∷ ns) (symbols_same value cs)

-- the variables that have columns
pub variables_are : {F : Type 0} (names labels : List (List ℕ)) (limit : ℕ) (value : F → Number) (lp : Lp F) (columns : List (Column F)) (vs : List ℕ) → columns ≡ lp.columns →
    vs ≡ distinct_names (map (λ (c : Column F). c.key.symbol) columns) → vs ≡ variables names labels limit (lp_numbers value lp)
variables_are names labels limit value lp columns vs e f =
    f ∙ ap (λ cs. distinct_names (map (λ (c : Column _). c.key.symbol) cs)) e ∙ ap distinct_names (symbols_same value lp.columns)
