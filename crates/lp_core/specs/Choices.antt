-- The dictionary to which pivots lead, each found by its leaving variable (Chvatal, Linear
-- Programming, chapters 2 and 3).
use Rattle.std.specs.Prelude.{ℕ, List, [], ◌∷◌, unwrap_or}
use Rattle.lp_core.specs.declared.answer.Pivot.{Pivot}
use Rattle.lp_core.specs.Dictionary.{Dictionary, exchanged}
use Rattle.lp_core.specs.Pivots.{row_of_basic}

-- the row of the variable that leaves in a pivot; 0 if this variable is not basic
abbrev pub leaving_row : Dictionary → Pivot → ℕ
leaving_row d p = unwrap_or (row_of_basic d p.leave) 0

-- the dictionary after a pivot
abbrev pub after_pivot : Dictionary → Pivot → Dictionary
after_pivot d p = exchanged d p.enter (leaving_row d p)

-- the dictionary that these pivots reach from d
abbrev pub reached : Dictionary → List Pivot → Dictionary
reached d [] = d
reached d (p ∷ pivots) = reached (after_pivot d p) pivots

-- `At` holds for each of the pivots, made one by one from d, and the dictionary at which it is made
abbrev pub AllAlong : (Dictionary → Pivot → Type 0) → Dictionary → List Pivot → Type 0
AllAlong At d [] = Unit {0}
AllAlong At d (p ∷ pivots) = At d p × AllAlong At (after_pivot d p) pivots
