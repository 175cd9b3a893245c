-- A program that consists of the statements of a saved one and further statements (GAMS User's
-- Guide, "Save and Restart").
use Rattle.std.specs.Prelude.{◌≡◌, ◌≤◌, ℕ, nat_lt, not, List, [], ◌++◌, length, map, flat_map, if◌then◌else◌}
use Rattle.gq_number.specs.Number.{Number}
use Rattle.gms_ast.specs.declared.declaration.Decl.{Decl}
use Rattle.gms_ast.specs.declared.program.Act.{Act}
use Rattle.gms_ast.specs.declared.program.Act.TheVariants.{Declare}
use Rattle.gms_ast.specs.declared.program.Program.{Program}
use Rattle.gms_ast.specs.declared.program.Stmt.{Stmt}
use Rattle.gms_store.specs.Declarations.{content_of}
use Rattle.gms_store.specs.State.{State, symbol_at}
use Rattle.gms_check.specs.Loaded.{loaded}
use Rattle.gms_check.specs.Names.{is_variable}
use Rattle.gms_check.specs.Past.{names_declared}
use Rattle.gms_exec.specs.Run.{World}
use Rattle.gms_run_laws.specs.Names.{Each}

module _ {F : Type 0} where
  -- the names that an act declares as variables
  abbrev pub typed_by : Act F → List ℕ
  typed_by (Declare kind items) = if is_variable (content_of kind) then map (λ (item : Decl F). item.named.name) items else []
  typed_by act = []

  -- each name that the statements of a program declare is in the program's table of names
  abbrev pub DeclaresItsOwn : Program F → Type 0
  DeclaresItsOwn program = Each (λ n. nat_lt n (length program.names)) (flat_map (λ (s : Stmt F). names_declared s.act) program.statements.items)

  -- no variable of the state is declared as a variable again by these statements
  abbrev pub TypesNone : State → List (Stmt F) → Type 0
  TypesNone state statements = Each (λ n. not (is_variable (symbol_at state n).content)) (flat_map (λ (s : Stmt F). typed_by s.act) statements)

module _ {F : Type 0} (value : F → Number) where
  -- The program of the world `joint` extends that of `saved`. Its table of names is no shorter. Its
  -- statements are those of `saved`, which declare names of the saved table, followed by `others`,
  -- which declare no variable of `saved` as a variable again. The solvers are the same.
  pub record ExtendsProgram (saved joint : World F) (others : List (Stmt F)) : Type 0 where
    pub names : length saved.program.names ≤ length joint.program.names
    pub own : DeclaresItsOwn saved.program
    pub statements : joint.program.statements.items ≡ saved.program.statements.items ++ others
    pub types : TypesNone (loaded value saved.program) others
    pub solvers : joint.solvers ≡ saved.solvers
