-- The definitions of an accepted program are linear in the variables, in each state of its run.
use Rattle.std.proofs.Common.{◌≡◌, ℕ, Bool, true, false, cond, List, [], ◌∷◌, ◌++◌, Option, refl, sym, ap, ◌∙◌, subst}
use Rattle.std.specs.List.{All}
use Rattle.std.proofs.lemmas.List.Elements.{All-nil, All-cons}
use Rattle.gq_number.specs.Number.{Number}
use Rattle.gms_labels.specs.declared.place.Place.{Place}
use Rattle.gms_ast.specs.declared.expression.Expr.{Expr}
use Rattle.gms_ast.specs.declared.expression.Index.{Index}
use Rattle.gms_ast.specs.declared.program.Act.TheVariants.{Define}
use Rattle.gms_ast.specs.declared.program.Program.{Program}
use Rattle.gms_ast.specs.declared.program.Side.{Side}
use Rattle.gms_ast.specs.declared.program.Stmt.{Stmt}
use Rattle.gms_ast.specs.declared.word.Named.{Named}
use Rattle.gms_ast.specs.TreeView.{tree_of}
use Rattle.gms_store.specs.State.{State, Content, undeclared, alias_of, set_of, parameter_of, variable_of, equation_of, model_with, symbol_at}
use Rattle.gms_scope.specs.Names.{has_no_declaration}
use Rattle.gms_save_text.specs.Validity.{declared_symbols}
use Rattle.gms_check.specs.Checked.{FollowsIn}
use Rattle.gms_check.specs.CompileErrors.{errors_after, known_after}
use Rattle.gms_check.specs.Loaded.{IsAccepted, loaded, sound}
use Rattle.gms_check.specs.Kinds.{is_variable_kind}
use Rattle.gms_check.specs.Names as checked_names
use Rattle.gms_check.specs.Past.{Known}
use Rattle.gms_check.specs.Contexts.{as_side}
use Rattle.gms_check.specs.StatementUses.{left_uses, with_left}
use Rattle.gms_check.specs.Uses.{uses}
use Rattle.gms_check.proofs.ActUses.{uses-act, uses-Define}
use Rattle.gms_check.proofs.IndexSetsStay.{variable-loaded}
use Rattle.gms_check.proofs.NoErrors.{AreClean, clean-left, clean-right}
use Rattle.gms_check.proofs.Soundness.{after-sound, statement-clean}
use Rattle.gms_rows.specs.Affine.{is_variable_content}
use Rattle.gms_rows.specs.ModelPoints.{IsLinearDefinition, definitions_of_model}
use Rattle.gms_rows.specs.Rows.{Definition, defined_at}
use Rattle.gms_exec.specs.Run.{World}
use Rattle.gms_run_laws.proofs.DeclaredKinds.{variable-word, same-kinds}
use Rattle.gms_run_laws.proofs.EachDefinition.{model-definitions}
use Rattle.gms_run_laws.proofs.Lasting.{IsLasting}
use Rattle.gms_run_laws.proofs.LinearSides.{tree-linear}
use Rattle.gms_run_laws.proofs.MarkedTrees.{tree-marked}

-- ---- variables

same-word : (content : Content) → is_variable_content content ≡ checked_names.is_variable content
same-word undeclared = refl
same-word (alias_of base) = refl
same-word (set_of members) = refl
same-word (parameter_of entries) = refl
same-word (variable_of type entries) = refl
same-word (equation_of entries) = refl
same-word (model_with m s) = refl

-- states that declare the same have the same variables
same-variables : (a b : State) → declared_symbols a ≡ declared_symbols b → (n : ℕ) → is_variable_content (symbol_at a n).content ≡ is_variable_content (symbol_at b n).content
same-variables a b same n =
    variable-word (symbol_at a n).content ∙ ap is_variable_kind (same-kinds a b same n) ∙ sym (variable-word (symbol_at b n).content)

-- ---- definitions

module _ {F : Type 0} (v : F → Number) (limit : ℕ) (world : World F) (accepted : IsAccepted v world.program) (state : State) (lasts : IsLasting v world.program state) where
  abbrev program : Program F
  program = world.program

  -- what is known before a statement
  abbrev known_before : List (Stmt F) → Known F
  known_before before = known_after v program accepted.0 (sound before)

  -- a name that is declared then is a variable exactly where it is one now
  kinds : (before : List (Stmt F)) (statement : Stmt F) → FollowsIn program before statement → (n : ℕ) → has_no_declaration (known_before before).state n ≡ false → is_variable_content (symbol_at state n).content ≡ checked_names.is_variable (symbol_at (known_before before).state n).content
  kinds before statement occurs n declared =
      same-variables state (loaded v program) lasts.later.declares n
      ∙ same-word (symbol_at (loaded v program) n).content
      ∙ variable-loaded v program before statement occurs n declared

  abbrev IsFine : Definition F → Type 0
  IsFine d = IsLinearDefinition state d

  if-no-lag : (b : Bool) (d : Definition F) → IsFine d → All IsFine (cond b [] (d ∷ []))
  if-no-lag true d fine = All-nil IsFine
  if-no-lag false d fine = All-cons IsFine d [] fine (All-nil IsFine)

  of-define : (before : List (Stmt F)) (at : Place) (equation : Named) (indices : List (Index F)) (condition : Option (Expr F)) (left_at : Place) (left : Expr F) (side : Side) (right_at : Place) (right : Expr F) →
      FollowsIn program before (record { at = at; act = Define equation indices condition left_at left side right_at right }) → All IsFine (defined_at at (Define equation indices condition left_at left side right_at right))
  of-define before at equation indices condition left_at left side right_at right occurs =
      let statement : Stmt F = record { at = at; act = Define equation indices condition left_at left side right_at right } in
      let known = known_before before in
      let around = with_left [] indices in
      let clean = statement-clean known statement (after-sound v program accepted.0 before [] statement occurs.0 (sym (ap (errors_after v program accepted.0 []) occurs.1) ∙ accepted.1)) in
      let whole = subst (AreClean known) (uses-act statement known.state [] ∙ uses-Define known.state at [] equation indices condition left_at left side right_at right) clean in
      let sides = clean-right known (left_uses at around indices condition) (uses as_side left_at around (tree_of left) ++ uses as_side right_at around (tree_of right)) whole.1 in
      let one = tree-linear known state (kinds before statement occurs) (tree_of left) as_side left_at around refl (tree-marked left) (clean-left known (uses as_side left_at around (tree_of left)) (uses as_side right_at around (tree_of right)) sides) in
      let other = tree-linear known state (kinds before statement occurs) (tree_of right) as_side right_at around refl (tree-marked right) (clean-right known (uses as_side left_at around (tree_of left)) (uses as_side right_at around (tree_of right)) sides) in
      if-no-lag _ _ (one, other)

  -- those of a model
  pub model-linear : (model : ℕ) → All (IsLinearDefinition state) (definitions_of_model program.statements.items model)
  model-linear model = model-definitions program (IsLinearDefinition state) of-define model
