-- The definitions of an accepted program have no lag among their indices, of which there are at
-- most 10.
use Rattle.std.proofs.Common.{◌≡◌, ℕ, Bool, true, false, cond, List, [], ◌∷◌, Option, option_map, refl, sym, ap, ◌∙◌, subst, arith}
use Rattle.std.specs.List.{All}
use Rattle.std.proofs.lemmas.List.Elements.{All-nil, All-cons}
use Rattle.gq_number.specs.Number.{Number}
use Rattle.gms_labels.specs.declared.place.Place.{Place}
use Rattle.gms_ast.specs.declared.expression.Expr.{Expr}
use Rattle.gms_ast.specs.declared.expression.Index.{Index}
use Rattle.gms_ast.specs.declared.program.Act.TheVariants.{Define}
use Rattle.gms_ast.specs.declared.program.Program.{Program}
use Rattle.gms_ast.specs.declared.program.Side.{Side}
use Rattle.gms_ast.specs.declared.program.Stmt.{Stmt}
use Rattle.gms_ast.specs.declared.word.Named.{Named}
use Rattle.gms_ast.specs.TreeView.{tree_of}
use Rattle.gms_check.specs.Checked.{FollowsIn}
use Rattle.gms_check.specs.CompileErrors.{errors_after, known_after}
use Rattle.gms_check.specs.Loaded.{IsAccepted, sound}
use Rattle.gms_check.specs.StatementUses.{index_list}
use Rattle.gms_check.specs.Uses.{defining}
use Rattle.gms_check.proofs.ActUses.{uses-act, uses-Define}
use Rattle.gms_check.proofs.NoErrors.{AreClean}
use Rattle.gms_check.proofs.Soundness.{after-sound, sound-use, statement-clean}
use Rattle.gms_rows.specs.ModelPoints.{definitions_of_model}
use Rattle.gms_rows.specs.Rows.{Definition, defined_at, has_lag}
use Rattle.gms_run_laws.proofs.EachDefinition.{model-definitions}
use Rattle.gms_restart.proofs.Assigned.{same-count}
use Rattle.gms_laws.proofs.Instances.{IsShort}

module _ {F : Type 0} (v : F → Number) (program : Program F) (accepted : IsAccepted v program) where
  abbrev AllShort : List (Definition F) → Type 0
  AllShort = All (IsShort {F = F})

  if-no-lag : (b : Bool) (d : Definition F) → (b ≡ false → IsShort d) → AllShort (cond b [] (d ∷ []))
  if-no-lag true d short = All-nil (IsShort {F = F})
  if-no-lag false d short = All-cons (IsShort {F = F}) d [] (short refl) (All-nil (IsShort {F = F}))

  of-define : (before : List (Stmt F)) (at : Place) (equation : Named) (indices : List (Index F)) (condition : Option (Expr F)) (left_at : Place) (left : Expr F) (side : Side) (right_at : Place) (right : Expr F) →
      FollowsIn program before (record { at = at; act = Define equation indices condition left_at left side right_at right }) → AllShort (defined_at at (Define equation indices condition left_at left side right_at right))
  of-define before at equation indices condition left_at left side right_at right occurs =
      let statement : Stmt F = record { at = at; act = Define equation indices condition left_at left side right_at right } in
      let known = known_after v program accepted.0 (sound before) in
      let clean = statement-clean known statement (after-sound v program accepted.0 before [] statement occurs.0 (sym (ap (errors_after v program accepted.0 []) occurs.1) ∙ accepted.1)) in
      let whole = subst (AreClean known) (uses-act statement known.state [] ∙ uses-Define known.state at [] equation indices condition left_at left side right_at right) clean in
      let few = (sound-use known (defining equation.name (index_list indices)) whole.0).2.few in
      let same = same-count (index_list indices) in
      let d : Definition F = record { equation = equation.name; at = at; indices = index_list indices; condition = option_map tree_of condition; left_at = left_at; left = tree_of left; side = side; right_at = right_at; right = tree_of right } in
      if-no-lag (has_lag (index_list indices)) d (λ none. record { no_lag = none; few = omega (arith, few, same) })

  -- the definitions of a model
  pub model-short : (model : ℕ) → AllShort (definitions_of_model program.statements.items model)
  model-short = model-definitions program (IsShort {F = F}) of-define
