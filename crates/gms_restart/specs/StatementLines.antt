-- Which statements of a joint program begin before the first line of the new file (GAMS User's
-- Guide, "Save and Restart").
use Rattle.std.specs.Prelude.{◌≡◌, ℕ, nat_lt, true, false, List, [], ◌∷◌}
use Rattle.gms_ast.specs.declared.program.Stmt.{Stmt}
use Rattle.gms_ast.specs.StatementTrees.{Statements, no_statement, statement}
use Rattle.gms_save.specs.JointErrors.{is_saved}

module _ (from : ℕ) where
  -- each of these statements begins before the line `from`, the first of the new file
  abbrev pub AreSaved : {F : Type 0} → List (Stmt F) → Type 0
  AreSaved [] = Unit {0}
  AreSaved (s ∷ statements) = (is_saved from s ≡ true) × AreSaved statements

  -- each of these statements begins at the line `from` or after it
  abbrev pub AreNew : {F : Type 0} → List (Stmt F) → Type 0
  AreNew [] = Unit {0}
  AreNew (s ∷ statements) = (is_saved from s ≡ false) × AreNew statements

  -- each of these statements, of which the views are given, begins before the line `from`
  abbrev pub SeenSaved : {N : Type 0} → Statements N → Type 0
  SeenSaved no_statement = Unit {0}
  SeenSaved (statement at act rest) = (nat_lt at.line from ≡ true) × SeenSaved rest

  -- each of these statements, of which the views are given, begins at the line `from` or after it
  abbrev pub SeenNew : {N : Type 0} → Statements N → Type 0
  SeenNew no_statement = Unit {0}
  SeenNew (statement at act rest) = (nat_lt at.line from ≡ false) × SeenNew rest
