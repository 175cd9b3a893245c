-- What holds of a program without compile errors: its references name what is declared, with as
-- many indices as declared; their index sets are controlled, and ordered where they have a lag.
use Rattle.std.specs.Prelude.{ℕ, ◌≡◌, ◌≤◌, true, false, List, [], ◌∷◌, ◌++◌, length, All}
use Rattle.gq_number.specs.Number.{Number}
use Rattle.gms_ast.specs.declared.expression.Suffix.{Suffix}
use Rattle.gms_ast.specs.declared.program.Stmt.{Stmt}
use Rattle.gms_ast.specs.declared.program.Program.{Program}
use Rattle.gms_ast.specs.Trees.{Indices}
use Rattle.gms_check.specs.declared.contexts.Context.{Context}
use Rattle.gms_check.specs.Contexts.{may_occur, may_be_assigned}
use Rattle.gms_check.specs.Uses.{Use, Uses, reading, ordinal, cardinal, controlling, assigning, defining, index_sets}
use Rattle.gms_check.specs.StatementUses.{statement_uses}
use Rattle.gms_check.specs.Past.{Known, is_among}
use Rattle.gms_scope.specs.Names.{is_equation, is_index_set, is_set_name, has_no_declaration, declared_kind, positions}
use Rattle.gms_check.specs.Domains.{index_count, has_unfit_set, has_unfit_label}
use Rattle.gms_check.specs.Controls.{lagged_sets, is_controlled_twice, is_ordered}
use Rattle.gms_check.specs.declared.error.ErrorKind.{ErrorKind}
use Rattle.gms_check.specs.CompileErrors.{has_error, known_after}
use Rattle.gms_check.specs.Loaded.{sound}

module _ {F : Type 0} where
  -- Indices that fit a name: as many as the name's positions, and at most 10. Each set among them
  -- is one-dimensional, and ordered if it has a lag. Where the name's domain has a set at a
  -- position, that set is one-dimensional and declared before the name, and the index there is a
  -- label that is a member of that set, or that set itself, or a set below it by domain sets.
  pub record AreIndices (known : Known F) (name : ℕ) (indices : Indices F) : Type 0 where
    pub count : index_count indices ≡ length (positions known.state name)
    pub few : index_count indices ≤ 10
    pub sets : All (λ index. is_index_set known.state index ≡ true) (index_sets indices)
    pub below : has_unfit_set known name (positions known.state name) indices ≡ false
    pub labels : has_unfit_label known name (positions known.state name) indices ≡ false
    pub ordered : All (λ index. is_ordered known index ≡ true) (lagged_sets indices)

  -- A reference without errors: its name is declared, `context` admits the name with its suffix,
  -- its indices fit the name, and each set among them is one of the sets `controlled`.
  pub record IsReading (known : Known F) (context : Context) (controlled : List ℕ) (name : ℕ) (suffix : Suffix) (indices : Indices F) : Type 0 where
    pub declared : has_no_declaration known.state name ≡ false
    pub occurs : may_occur context (declared_kind known.state name) suffix ≡ true
    pub fitting : AreIndices known name indices
    pub controls : All (λ index. is_among controlled index ≡ true) (index_sets indices)

  -- what holds of a use in a program without errors. The name of a reference is declared, and its
  -- context admits it with its suffix; its indices fit it, and the sets among them are controlled.
  -- The set of an `ord` is one-dimensional, controlled and ordered; a `card` has a set's name. The
  -- sets of a control are at most 10, one-dimensional, and none is controlled twice. A name that is
  -- assigned or defined is declared and of a kind that admits this, and its indices fit it. Any
  -- other use has no error of any kind
  abbrev pub IsSound : Known F → Use F → Type 0
  IsSound known (reading context controlled name suffix indices) = IsReading known context controlled name suffix indices
  IsSound known (ordinal context controlled name) =
      (is_index_set known.state name ≡ true) × (is_among controlled name ≡ true) × (is_ordered known name ≡ true)
  IsSound known (cardinal context name) = is_set_name known.state name ≡ true
  IsSound known (controlling controlled sets) =
      All (λ name. is_index_set known.state name ≡ true) sets × (is_controlled_twice controlled sets ≡ false) × (length sets ≤ 10)
  IsSound known (assigning name suffix indices) =
      (has_no_declaration known.state name ≡ false) × (may_be_assigned (declared_kind known.state name) suffix ≡ true) × AreIndices known name indices
  IsSound known (defining name indices) =
      (has_no_declaration known.state name ≡ false) × (is_equation (declared_kind known.state name) ≡ true) × AreIndices known name indices
  IsSound known used = (kind : ErrorKind) → has_error known used kind ≡ false

  -- each of these uses is sound, where `known` is what is known before them
  abbrev pub AreSound : Known F → Uses F → Type 0
  AreSound known uses = All (λ u. IsSound known u.1) uses

  -- the program consists of the statements `before`, the statement `statement`, and further ones
  abbrev pub FollowsIn : Program F → List (Stmt F) → Stmt F → Type 0
  FollowsIn program before statement = (rest : List (Stmt F)) × (program.statements.items ≡ before ++ statement ∷ rest)

  -- All uses of each statement of the program are sound, by what is known after the statements
  -- before it if none of these has an error. No sets are controlled around the statement (`[]`).
  -- `value` gives the number that a value of `F` means, and `solvers` are the names of the solvers
  abbrev pub IsChecked : (F → Number) → Program F → List (List ℕ) → Type 0
  IsChecked value program solvers =
      (before : List (Stmt F)) (statement : Stmt F) → FollowsIn program before statement → AreSound (known_after value program solvers (sound before)) (statement_uses statement (known_after value program solvers (sound before)).state [])
