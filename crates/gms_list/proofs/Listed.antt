-- What is listed of rows, columns and entries: nothing where none is to be listed.
use Rattle.std.proofs.Common.{◌≡◌, ℕ, ◌==◌, ◌++◌, ◌-◌, true, false, List, [], flat_map, sym, ap, codes, if◌then◌else◌, decimal}
use Rattle.std.specs.Prelude.{nat_lt}
use Rattle.gq_number.specs.Number.{Number}
use Rattle.lp_core.specs.declared.program.Lp.{Lp}
use Rattle.gms_list.specs.Amounts.{line_of}
use Rattle.gms_list.specs.SolveText.{more_text, equation_text, variable_text, variables, rows_listing, columns_listing}

-- none is to be listed
pub no_rows : (names labels : List (List ℕ)) (limit : ℕ) (lp : Lp Number) (most : ℕ) (equations : List ℕ) → (most == 0) ≡ true → [] ≡ rows_listing names labels limit lp most equations
no_rows names labels limit lp most equations e = ap (λ b. if b then [] else flat_map (equation_text names labels limit lp most) equations) (sym e)

pub some_rows : (names labels : List (List ℕ)) (limit : ℕ) (lp : Lp Number) (most : ℕ) (equations : List ℕ) → (most == 0) ≡ false → flat_map (equation_text names labels limit lp most) equations ≡ rows_listing names labels limit lp most equations
some_rows names labels limit lp most equations e = ap (λ b. if b then [] else flat_map (equation_text names labels limit lp most) equations) (sym e)

pub no_columns : (names labels : List (List ℕ)) (limit : ℕ) (lp : Lp Number) (most : ℕ) → (most == 0) ≡ true → [] ≡ columns_listing names labels limit lp most
no_columns names labels limit lp most e = ap (λ b. if b then [] else flat_map (variable_text names labels limit lp most) (variables names labels limit lp)) (sym e)

pub some_columns : (names labels : List (List ℕ)) (limit : ℕ) (lp : Lp Number) (most : ℕ) → (most == 0) ≡ false → flat_map (variable_text names labels limit lp most) (variables names labels limit lp) ≡ columns_listing names labels limit lp most
some_columns names labels limit lp most e = ap (λ b. if b then [] else flat_map (variable_text names labels limit lp most) (variables names labels limit lp)) (sym e)

-- no more than the most
pub not_more : (most count : ℕ) (what : List ℕ) → nat_lt most count ≡ false → [] ≡ more_text most count what
not_more most count what e = ap (λ b. if b then line_of (codes " (" ++ decimal (count - most) ++ codes " more " ++ what ++ codes ")") else []) (sym e)

pub more : (most count : ℕ) (what : List ℕ) → nat_lt most count ≡ true → line_of (codes " (" ++ decimal (count - most) ++ codes " more " ++ what ++ codes ")") ≡ more_text most count what
more most count what e = ap (λ b. if b then line_of (codes " (" ++ decimal (count - most) ++ codes " more " ++ what ++ codes ")") else []) (sym e)
