-- What holds of each definition that a statement of a program makes holds of all its definitions,
-- and so of those of a model.
use Rattle.std.proofs.Common.{◌≡◌, ℕ, Bool, true, false, cond, List, [], ◌∷◌, ◌++◌, Option, refl, sym, ◌∙◌, subst, append_assoc}
use Rattle.std.specs.Prelude.{flat_map, ◌==◌}
use Rattle.std.specs.List.{All}
use Rattle.std.proofs.lemmas.List.Elements.{All-nil, All-cons, All-head, All-tail, All-append}
use Rattle.gms_labels.specs.declared.place.Place.{Place}
use Rattle.gms_ast.specs.declared.expression.Expr.{Expr}
use Rattle.gms_ast.specs.declared.expression.Index.{Index}
use Rattle.gms_ast.specs.declared.program.Act.{Act, roll-Act}
use Rattle.gms_ast.specs.declared.program.Act.TheOpen.{Act-F}
use Rattle.gms_ast.specs.declared.program.Act.TheVariants.{Define, rolls-Declare, rolls-Alias, rolls-Assign, rolls-Define, rolls-Model, rolls-Solve, rolls-Display, rolls-Loop, rolls-Options, rolls-Abort}
use Rattle.gms_ast.specs.declared.program.Program.{Program}
use Rattle.gms_ast.specs.declared.program.Side.{Side}
use Rattle.gms_ast.specs.declared.program.Stmt.{Stmt}
use Rattle.gms_ast.specs.declared.word.Named.{Named}
use Rattle.gms_check.specs.Checked.{FollowsIn}
use Rattle.gms_check.proofs.Growing.{by_parts}
use Rattle.gms_rows.specs.ModelPoints.{definitions_of_model}
use Rattle.gms_rows.specs.Rows.{Definition, defined_at, definitions, definition_of, equations_of}

module _ {F : Type 0} (P : Definition F → Type 0) where
  pub one-definition : (ds : List (Definition F)) (name : ℕ) → All P ds → All P (definition_of ds name)
  one-definition [] name all = All-nil P
  one-definition (d ∷ ds) name all = by (d.equation == name) (one-definition ds name (All-tail P d ds all))
    where
      by : (b : Bool) → All P (definition_of ds name) → All P (cond b (d ∷ []) (definition_of ds name))
      by true rest = All-cons P d [] (All-head P d ds all) (All-nil P)
      by false rest = rest

  -- what holds of the definitions of a program holds of those of a model
  each-definition : (ds : List (Definition F)) (names : List ℕ) → All P ds → All P (flat_map (definition_of ds) names)
  each-definition ds [] all = All-nil P
  each-definition ds (name ∷ names) all =
      All-append P (definition_of ds name) (flat_map (definition_of ds) names) (one-definition ds name all) (each-definition ds names all)

module _ {F : Type 0} (program : Program F) (P : Definition F → Type 0) (each : (before : List (Stmt F)) (at : Place) (equation : Named) (indices : List (Index F)) (condition : Option (Expr F)) (left_at : Place) (left : Expr F) (side : Side) (right_at : Place) (right : Expr F) → FollowsIn program before (record { at = at; act = Define equation indices condition left_at left side right_at right }) → All P (defined_at at (Define equation indices condition left_at left side right_at right))) where
  of-act : (before : List (Stmt F)) (at : Place) (act : Act F) → FollowsIn program before (record { at = at; act = act }) → All P (defined_at at act)
  of-act before at act = by_parts Q by act
    where
      Q : Act F → Type 0
      Q a = FollowsIn program before (record { at = at; act = a }) → All P (defined_at at a)

      by : (layer : Act-F F (Act F) (Stmt F)) → Q (roll-Act F layer)
      by (Act-F.Declare kind items) = subst Q (sym (rolls-Declare kind items)) (λ occurs. All-nil P)
      by (Act-F.Alias one other) = subst Q (sym (rolls-Alias one other)) (λ occurs. All-nil P)
      by (Act-F.Assign target condition right_at right) = subst Q (sym (rolls-Assign target condition right_at right)) (λ occurs. All-nil P)
      by (Act-F.Define equation indices condition left_at left side right_at right) =
          subst Q (sym (rolls-Define equation indices condition left_at left side right_at right)) (each before at equation indices condition left_at left side right_at right)
      by (Act-F.Model models) = subst Q (sym (rolls-Model models)) (λ occurs. All-nil P)
      by (Act-F.Solve model method objective maximize) = subst Q (sym (rolls-Solve model method objective maximize)) (λ occurs. All-nil P)
      by (Act-F.Display items) = subst Q (sym (rolls-Display items)) (λ occurs. All-nil P)
      by (Act-F.Loop control body) = subst Q (sym (rolls-Loop control body)) (λ occurs. All-nil P)
      by (Act-F.Options settings) = subst Q (sym (rolls-Options settings)) (λ occurs. All-nil P)
      by (Act-F.Abort condition items) = subst Q (sym (rolls-Abort condition items)) (λ occurs. All-nil P)

  from : (before statements : List (Stmt F)) → program.statements.items ≡ before ++ statements → All P (definitions statements)
  from before [] parts = All-nil P
  from before (statement ∷ rest) parts =
      All-append P (defined_at statement.at statement.act) (definitions rest) (of-act before statement.at statement.act (rest, parts)) (from (before ++ statement ∷ []) rest (parts ∙ sym (append_assoc before (statement ∷ []) rest)))

  -- all of the program
  pub all-definitions : All P (definitions program.statements.items)
  all-definitions = from [] program.statements.items refl

  -- those of a model
  pub model-definitions : (model : ℕ) → All P (definitions_of_model program.statements.items model)
  model-definitions model =
      each-definition P (definitions program.statements.items) (equations_of program.statements.items model) all-definitions
