-- Definitions whose indices are labels and sets of one dimension, as those of an accepted program
-- are: so no two elements of the domain have the same row (GAMS User's Guide, "Equations").
use Rattle.std.specs.Prelude.{◌≡◌, List, All, length}
use Rattle.gms_ast.specs.declared.program.Stmt.{Stmt}
use Rattle.gms_ast.specs.Trees as tree
use Rattle.gms_store.specs.State.{State, members_of}
use Rattle.gms_rows.specs.Rows.{Definition, definitions}

-- the indices are labels and sets without lags, and each member of these sets has one label
abbrev pub ArePlain : {F : Type 0} → State → tree.Indices F → Type 0
ArePlain state tree.no_index = Unit {0}
ArePlain state (tree.label label rest) = ArePlain state rest
ArePlain state (tree.set set rest) = All (λ t. length t ≡ 1) (members_of state set) × ArePlain state rest
ArePlain state (tree.lagged set op at amount rest) = ⊥

-- the indices of each definition of a program are labels and sets without lags, and each member of
-- these sets has one label
abbrev pub HasPlainDefinitions : {F : Type 0} → State → List (Stmt F) → Type 0
HasPlainDefinitions {F} state statements = All (λ (d : Definition F). ArePlain state d.indices) (definitions statements)
