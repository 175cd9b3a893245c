-- Programs whose definitions have labels and one-dimensional sets as indices, as those of an
-- accepted program do (GAMS User's Guide, "Equations", "Set Definition"). Statements preserve this:
-- they change the members of a set, and not its domain.
use Rattle.std.specs.Prelude.{◌≡◌, List, All, length}
use Rattle.gms_ast.specs.declared.program.Stmt.{Stmt}
use Rattle.gms_ast.specs.Trees as tree
use Rattle.gms_store.specs.State.{State, symbol_of}
use Rattle.gms_rows.specs.Rows.{Definition, definitions}
use Rattle.gms_rows.specs.Plain.{HasPlainDefinitions}

-- each set among the indices, with or without a lag, is declared with one dimension
abbrev pub AreOverOne : {F : Type 0} → State → tree.Indices F → Type 0
AreOverOne state tree.no_index = Unit {0}
AreOverOne state (tree.label label rest) = AreOverOne state rest
AreOverOne state (tree.set set rest) = (length (symbol_of state set).domain ≡ 1) × AreOverOne state rest
AreOverOne state (tree.lagged set op at amount rest) = (length (symbol_of state set).domain ≡ 1) × AreOverOne state rest

-- The indices of the definition of each equation are labels and sets without lags; each of these
-- sets is declared with one dimension, and each of its members has one label.
pub record AreOneDimensional {F : Type 0} (state : State) (statements : List (Stmt F)) : Type 0 where
  pub plain : HasPlainDefinitions state statements
  pub declared : All (λ (d : Definition F). AreOverOne state d.indices) (definitions statements)
