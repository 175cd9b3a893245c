-- The state in which an accepted program begins: each set that a definition is over has dimension
-- one, and its members have one label.
use Rattle.std.proofs.Common.{◌≡◌, ℕ, Bool, true, false, List, [], ◌∷◌, ◌++◌, length, refl, sym, ◌∙◌, subst, cond, Option, append_assoc}
use Rattle.std.specs.List.{All}
use Rattle.std.proofs.lemmas.List.Elements.{All-nil, All-cons, All-head, All-tail, All-append, All-weaker}
use Rattle.gq_number.specs.Number.{Number}
use Rattle.gms_labels.specs.declared.place.Place.{Place}
use Rattle.gms_ast.specs.declared.expression.Expr.{Expr}
use Rattle.gms_ast.specs.declared.expression.Index.{Index}
use Rattle.gms_ast.specs.declared.word.Named.{Named}
use Rattle.gms_ast.specs.declared.program.Side.{Side}
use Rattle.gms_ast.specs.declared.program.Act.{Act, roll-Act}
use Rattle.gms_ast.specs.declared.program.Act.TheOpen.{Act-F}
use Rattle.gms_ast.specs.declared.program.Act.TheVariants.{Define, rolls-Declare, rolls-Alias, rolls-Assign, rolls-Define, rolls-Model, rolls-Solve, rolls-Display, rolls-Loop, rolls-Options, rolls-Abort}
use Rattle.gms_ast.specs.declared.program.Program.{Program}
use Rattle.gms_ast.specs.declared.program.Stmt.{Stmt}
use Rattle.gms_ast.specs.Trees as tree
use Rattle.gms_store.specs.State.{State}
use Rattle.gms_scope.specs.Names.{is_index_set}
use Rattle.gms_rows.specs.Plain.{ArePlain}
use Rattle.gms_rows.specs.Rows.{Definition, has_lag, defined_at, definitions}
use Rattle.gms_exec.specs.Dimensions.{AreOverOne, AreOneDimensional}
use Rattle.gms_check.specs.Uses.{defining, index_sets}
use Rattle.gms_check.specs.StatementUses.{index_list}
use Rattle.gms_check.specs.Past.{state_after}
use Rattle.gms_check.specs.CompileErrors.{known_after}
use Rattle.gms_check.specs.Loaded.{sound, loaded}
use Rattle.gms_check.proofs.ActUses.{uses-act, uses-Define}
use Rattle.gms_check.specs.Checked.{IsChecked, IsSound, AreSound, FollowsIn}
use Rattle.gms_check.proofs.Growing.{by_parts}
use Rattle.gms_check.proofs.IndexSetsStay.{IsOverOne, index-set-loaded}

-- ---- indices of definitions

module _ {F : Type 0} (state : State) where
  over-one : (indices : tree.Indices F) → All (IsOverOne state) (index_sets indices) → AreOverOne state indices
  over-one tree.no_index are = tt
  over-one (tree.label label rest) are = over-one rest are
  over-one (tree.set set rest) are =
      ((All-head (IsOverOne state) set (index_sets rest) are).position, over-one rest (All-tail (IsOverOne state) set (index_sets rest) are))
  over-one (tree.lagged set op at amount rest) are =
      ((All-head (IsOverOne state) set (index_sets rest) are).position, over-one rest (All-tail (IsOverOne state) set (index_sets rest) are))

  are-plain : (indices : tree.Indices F) → has_lag indices ≡ false → All (IsOverOne state) (index_sets indices) → ArePlain state indices
  are-plain tree.no_index none are = tt
  are-plain (tree.label label rest) none are = are-plain rest none are
  are-plain (tree.set set rest) none are =
      ((All-head (IsOverOne state) set (index_sets rest) are).labels, are-plain rest none (All-tail (IsOverOne state) set (index_sets rest) are))
  are-plain (tree.lagged set op at amount rest) none are = cc

  -- what is required of a definition
  abbrev IsFine : Definition F → Type 0
  IsFine d = ArePlain state d.indices × AreOverOne state d.indices

  -- the definition of such indices, where they have no lag
  if-no-lag : (indices : tree.Indices F) (d : Definition F) → d.indices ≡ indices → All (IsOverOne state) (index_sets indices) → All IsFine (cond (has_lag indices) [] (d ∷ []))
  if-no-lag indices d same are = by (has_lag indices) refl
    where
      by : (b : Bool) → has_lag indices ≡ b → All IsFine (cond b [] (d ∷ []))
      by true some = All-nil IsFine
      by false none =
          All-cons IsFine d [] (subst (λ (x : tree.Indices F). ArePlain state x × AreOverOne state x) (sym same) (are-plain indices none are, over-one indices are)) (All-nil IsFine)

-- ---- the statements of an accepted program

module _ {F : Type 0} (value : F → Number) (program : Program F) (solvers : List (List ℕ)) (checked : IsChecked value program solvers) where
  -- the state before a statement
  abbrev before_state : List (Stmt F) → State
  before_state before = state_after value (length program.names) (sound before)

  -- the state in which the program begins
  abbrev first : State
  first = loaded value program

  -- the definition that a statement is
  of-define : (before : List (Stmt F)) (at : Place) (equation : Named) (indices : List (Index F)) (condition : Option (Expr F)) (left_at : Place) (left : Expr F) (side : Side) (right_at : Place) (right : Expr F) →
      FollowsIn program before (record { at = at; act = Define equation indices condition left_at left side right_at right }) → All (IsFine first) (defined_at at (Define equation indices condition left_at left side right_at right))
  of-define before at equation indices condition left_at left side right_at right occurs =
      let statement : Stmt F = record { at = at; act = Define equation indices condition left_at left side right_at right } in
      let known = known_after value program solvers (sound before) in
      let parts = uses-act statement known.state [] ∙ uses-Define known.state at [] equation indices condition left_at left side right_at right in
      let defined = All-head (λ u. IsSound known u.1) (equation.at, defining equation.name (index_list indices)) _ (subst (AreSound known) parts (checked before statement occurs)) in
      if-no-lag first (index_list indices) _ refl (All-weaker (λ set. is_index_set (before_state before) set ≡ true) (IsOverOne first) (index-set-loaded value program before statement occurs) (index_sets (index_list indices)) defined.2.sets)

  of-act : (before : List (Stmt F)) (at : Place) (act : Act F) → FollowsIn program before (record { at = at; act = act }) → All (IsFine first) (defined_at at act)
  of-act before at act = by_parts P by act
    where
      P : Act F → Type 0
      P a = FollowsIn program before (record { at = at; act = a }) → All (IsFine {F = F} first) (defined_at at a)

      none : All (IsFine {F = F} first) []
      none = All-nil (IsFine {F = F} first)

      by : (layer : Act-F F (Act F) (Stmt F)) → P (roll-Act F layer)
      by (Act-F.Declare kind items) = subst P (sym (rolls-Declare kind items)) (λ occurs. none)
      by (Act-F.Alias one other) = subst P (sym (rolls-Alias one other)) (λ occurs. none)
      by (Act-F.Assign target condition right_at right) = subst P (sym (rolls-Assign target condition right_at right)) (λ occurs. none)
      by (Act-F.Define equation indices condition left_at left side right_at right) =
          subst P (sym (rolls-Define equation indices condition left_at left side right_at right)) (of-define before at equation indices condition left_at left side right_at right)
      by (Act-F.Model models) = subst P (sym (rolls-Model models)) (λ occurs. none)
      by (Act-F.Solve model method objective maximize) = subst P (sym (rolls-Solve model method objective maximize)) (λ occurs. none)
      by (Act-F.Display items) = subst P (sym (rolls-Display items)) (λ occurs. none)
      by (Act-F.Loop control body) = subst P (sym (rolls-Loop control body)) (λ occurs. none)
      by (Act-F.Options settings) = subst P (sym (rolls-Options settings)) (λ occurs. none)
      by (Act-F.Abort condition items) = subst P (sym (rolls-Abort condition items)) (λ occurs. none)

  from : (before statements : List (Stmt F)) → program.statements.items ≡ before ++ statements → All (IsFine first) (definitions statements)
  from before [] parts = All-nil (IsFine first)
  from before (statement ∷ rest) parts =
      All-append (IsFine first) (defined_at statement.at statement.act) (definitions rest) (of-act before statement.at statement.act (rest, parts)) (from (before ++ statement ∷ []) rest (parts ∙ sym (append_assoc before (statement ∷ []) rest)))

  -- the two requirements, separately
  halves : (ds : List (Definition F)) → All (IsFine first) ds → All (λ (d : Definition F). ArePlain first d.indices) ds × All (λ (d : Definition F). AreOverOne first d.indices) ds
  halves [] are = (All-nil (λ (d : Definition F). ArePlain first d.indices), All-nil (λ (d : Definition F). AreOverOne first d.indices))
  halves (d ∷ ds) are =
      let here = All-head (IsFine first) d ds are in
      let there = halves ds (All-tail (IsFine first) d ds are) in
      (All-cons (λ (d : Definition F). ArePlain first d.indices) d ds here.0 there.0, All-cons (λ (d : Definition F). AreOverOne first d.indices) d ds here.1 there.1)

  -- The definitions of an accepted program are over sets of one dimension when it begins.
  pub begins-one-dimensional : AreOneDimensional first program.statements.items
  begins-one-dimensional =
      let both = halves (definitions program.statements.items) (from [] program.statements.items refl) in record { plain = both.0; declared = both.1 }
