-- Trees of statements as contracts compare them: what a statement does, wherever its parts are
-- stored.
use Rattle.std.specs.Prelude.{ℕ, Bool, List, Option}
use Rattle.gms_labels.specs.declared.place.Place.{Place}
use Rattle.gms_ast.specs.declared.word.Named.{Named}
use Rattle.gms_ast.specs.declared.word.Word.{Word}
use Rattle.gms_ast.specs.declared.declaration.DeclKind.{DeclKind}
use Rattle.gms_ast.specs.declared.declaration.Decl.{Decl}
use Rattle.gms_ast.specs.declared.declaration.ModelDecl.{ModelDecl}
use Rattle.gms_ast.specs.declared.expression.Suffix.{Suffix}
use Rattle.gms_ast.specs.declared.program.Side.{Side}
use Rattle.gms_ast.specs.declared.program.Show.{Show}
use Rattle.gms_ast.specs.declared.program.Setting.{Setting}
use Rattle.gms_ast.specs.Trees.{Tree, Indices, Control}

-- The left side of an assignment: the place of its first character, the number of its name, its
-- suffix and its indices.
pub record Target (N : Type 0) : Type 0 where
  pub at : Place
  pub name : ℕ
  pub suffix : Suffix
  pub indices : Indices N

-- The two sides of an equation, each with the place of its first character, and the relation
-- between them.
pub record Sides (N : Type 0) : Type 0 where
  pub left_at : Place
  pub left : Tree N
  pub side : Side
  pub right_at : Place
  pub right : Tree N

mutual
  -- What a statement does, over numbers of N.
  pub data Act (N : Type 0) : Type 0 where
    -- the kind that is declared, and the declared names with their domains and data
    declares : DeclKind → List (Decl N) → Act N
    -- two names of a set
    aliases : Named → Named → Act N
    -- a target, the condition on the left if there is one, the place of the right side, and the
    -- right side
    assigns : Target N → Option (Tree N) → Place → Tree N → Act N
    -- an equation, its indices, the condition if there is one, and the two sides
    defines : Named → Indices N → Option (Tree N) → Sides N → Act N
    -- models with their equations
    declares_models : List ModelDecl → Act N
    -- a model, the word after `using`, the objective, and whether it is maximized
    solves : Named → Word → Named → Bool → Act N
    -- what is shown
    displays : List Show → Act N
    -- the sets, with a condition if there is one, and the statements of the loop
    loops : Control N → Statements N → Act N
    -- options, each as its word and what it is set to
    sets_options : List (Word × Setting N) → Act N
    -- the condition if there is one, and what is shown
    aborts : Option (Tree N) → List Show → Act N

  -- Statements in order, each with the place of its first character.
  pub data Statements (N : Type 0) : Type 0 where
    no_statement : Statements N
    statement : Place → Act N → Statements N → Statements N

-- the statements of one sequence, followed by those of another
abbrev pub followed_by : {N : Type 0} → Statements N → Statements N → Statements N
followed_by no_statement others = others
followed_by (statement at act rest) others = statement at act (followed_by rest others)
