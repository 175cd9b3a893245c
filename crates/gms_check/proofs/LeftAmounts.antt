-- The left sides of a program without errors: each set has one dimension, and each amount of a lag
-- is a number or a scalar.
use Rattle.std.proofs.lemmas.Bool.{not-false}
use Rattle.std.proofs.Common.{◌≡◌, ℕ, zero, suc, Bool, true, false, not, ◌&&◌, List, [], ◌∷◌, ◌++◌, refl, sym, ap, ◌∙◌, subst, Option, option_map}
use Rattle.std.specs.Prelude.{flat_map}
use Rattle.gq_number.specs.Number.{Number}
use Rattle.gms_labels.specs.declared.place.Place.{Place}
use Rattle.gms_ast.specs.declared.expression.Expr.{Expr}
use Rattle.gms_ast.specs.declared.expression.Suffix.TheVariants as suffix
use Rattle.gms_ast.specs.declared.program.Act.{Act}
use Rattle.gms_ast.specs.declared.program.Act.TheVariants.{Assign}
use Rattle.gms_ast.specs.declared.program.Program.{Program}
use Rattle.gms_ast.specs.declared.program.Right.TheVariants.{Value}
use Rattle.gms_ast.specs.declared.program.Stmt.{Stmt}
use Rattle.gms_ast.specs.declared.program.Target.{Target}
use Rattle.gms_ast.specs.TreeView.{control_tree, tree_of}
use Rattle.gms_ast.specs.Trees as tree
use Rattle.gms_store.specs.declared.kind.SymbolKind.{SymbolKind}
use Rattle.gms_store.specs.declared.kind.SymbolKind.TheVariants as kind
use Rattle.gms_store.specs.State.{Content, undeclared, alias_of, set_of, parameter_of, variable_of, equation_of, model_with, symbol_at}
use Rattle.gms_store.specs.Declarations.{kind_in}
use Rattle.gms_scope.specs.Names.{is_index_set, declared_kind, positions}
use Rattle.gms_check.specs.declared.error.ErrorKind.TheVariants.{Endogenous, WrongKind}
use Rattle.gms_check.specs.Checked.{FollowsIn}
use Rattle.gms_check.specs.CompileErrors.{compile_errors, errors_after, known_after}
use Rattle.gms_check.specs.Kinds.{has_wrong_set, has_no_indices, is_target_amount, is_variable_kind, is_without_positions, may_shift}
use Rattle.gms_check.specs.LeftSides.{AreTargetIndices, IsNestedIn, is_fixed_amount}
use Rattle.gms_check.specs.Linearity.{is_variable_by}
use Rattle.gms_check.specs.Loaded.{sound}
use Rattle.gms_check.specs.Names.{is_variable}
use Rattle.gms_check.specs.Past.{Known}
use Rattle.gms_check.specs.Contexts.{as_number, may_be_assigned}
use Rattle.gms_check.specs.InnerStatements.{act_uses}
use Rattle.gms_check.specs.StatementUses.{index_list, left_uses, right_context, statement_uses, with_left}
use Rattle.gms_check.specs.Uses.{condition_uses, control_uses, index_sets, sets_of_control, shift_uses, uses}
use Rattle.gms_check.proofs.ActUses.{uses-Assign, uses-Loop, uses-act}
use Rattle.gms_check.proofs.NoErrors.{AreClean, clean-left, clean-right}
use Rattle.gms_check.proofs.Soundness.{after-sound, neither-first, neither-second, statement-clean}

-- what is no variable is not of their kind
no-variable : (c : Content) → is_variable c ≡ false → not (is_variable_kind (kind_in c)) ≡ true
no-variable undeclared e = refl
no-variable (alias_of base) e = refl
no-variable (set_of members) e = refl
no-variable (parameter_of entries) e = refl
no-variable (variable_of t entries) e = absurd cc
no-variable (equation_of entries) e = refl
no-variable (model_with model solver) e = refl

module _ {F : Type 0} (known : Known F) where
  bare-index : (indices : tree.Indices F) → has_no_indices indices ≡ true → indices ≡ tree.no_index
  bare-index tree.no_index e = refl
  bare-index (tree.label n rest) e = absurd cc
  bare-index (tree.set n rest) e = absurd cc
  bare-index (tree.lagged n op at amount rest) e = absurd cc

  -- a reference that may be an amount is one of a scalar
  scalar-bare : (k : SymbolKind) (alone bare : Bool) → may_shift k (alone && bare) ≡ true → not (is_variable_kind k) ≡ true → bare ≡ true
  scalar-bare kind.Parameter true bare e plain = e
  scalar-bare kind.Parameter false bare e plain = absurd cc
  scalar-bare kind.Variable alone bare e plain = absurd cc
  scalar-bare k alone bare e plain = absurd cc

  amount-fixed : (at : Place) (controlled : List ℕ) (amount : tree.Tree F) → is_target_amount known amount ≡ true → AreClean known (uses as_number at controlled amount) → is_fixed_amount amount ≡ true
  amount-fixed at controlled (tree.number n) e clean = refl
  amount-fixed at controlled (tree.reference place name suffix.None indices) e clean =
      ap (λ i. is_fixed_amount (tree.reference place name suffix.None i)) (bare-index indices (scalar-bare (declared_kind known.state name) (is_without_positions (positions known.state name)) (has_no_indices indices) e (plain (clean.0 Endogenous))))
    where
      plain : (not false && is_variable_by known name suffix.None) ≡ false → not (is_variable_kind (declared_kind known.state name)) ≡ true
      plain e = no-variable (symbol_at known.state name).content e
  amount-fixed at controlled amount e clean = absurd cc

  left-indices : (controlled : List ℕ) (indices : tree.Indices F) → has_wrong_set known (index_sets indices) ≡ false → AreClean known (shift_uses controlled indices) → AreTargetIndices known.state indices
  left-indices controlled tree.no_index sets clean = tt
  left-indices controlled (tree.label n rest) sets clean = left-indices controlled rest sets clean
  left-indices controlled (tree.set name rest) sets clean =
      (not-false (is_index_set known.state name) (neither-first (not (is_index_set known.state name)) (has_wrong_set known (index_sets rest)) sets), left-indices controlled rest (neither-second (not (is_index_set known.state name)) (has_wrong_set known (index_sets rest)) sets) clean)
  left-indices controlled (tree.lagged name op at amount rest) sets clean = (
    not-false (is_index_set known.state name) (neither-first (not (is_index_set known.state name)) (has_wrong_set known (index_sets rest)) sets),
    (amount-fixed at controlled amount (not-false (is_target_amount known amount) (clean.0 WrongKind)) (clean-left known (uses as_number at controlled amount) (shift_uses controlled rest) clean.1), left-indices controlled rest (neither-second (not (is_index_set known.state name)) (has_wrong_set known (index_sets rest)) sets) (clean-right known (uses as_number at controlled amount) (shift_uses controlled rest) clean.1)),
  )

  -- the left side of an assignment without errors
  assigned-left : (statement : Stmt F) (controlled : List ℕ) (target : Target F) (condition : Option (Expr F)) (right_at : Place) (right : Expr F) → statement.act ≡ Assign target condition right_at (Value right) → AreClean known (statement_uses statement known.state controlled) → AreTargetIndices known.state (index_list target.indices)
  assigned-left statement controlled target condition right_at right is clean =
      let inside = with_left controlled target.indices in
      let whole = subst (AreClean known) (uses-act statement known.state controlled ∙ ap (λ (act : Act F). act_uses act known.state statement.at controlled) is ∙ uses-Assign known.state statement.at controlled target condition right_at right) clean in
      let left = clean-left known (left_uses statement.at inside target.indices condition) (uses (right_context known.state target.name) right_at inside (tree_of right)) whole.1 in
      left-indices inside (index_list target.indices) (neither-second (not (may_be_assigned (declared_kind known.state target.name) target.suffix)) (has_wrong_set known (index_sets (index_list target.indices))) (whole.0 WrongKind)) (clean-left known (shift_uses inside (index_list target.indices)) (condition_uses statement.at inside (option_map tree_of condition)) left)

  -- one of the statements of a body
  pub clean-one_of : (sets : List ℕ) (before rest : List (Stmt F)) (statement : Stmt F) → AreClean known (flat_map (λ (s : Stmt F). statement_uses s known.state sets) (before ++ statement ∷ rest)) → AreClean known (statement_uses statement known.state sets)
  clean-one_of sets [] rest statement clean =
      clean-left known (statement_uses statement known.state sets) (flat_map (λ (s : Stmt F). statement_uses s known.state sets) rest) clean
  clean-one_of sets (first ∷ before) rest statement clean =
      clean-one_of sets before rest statement (clean-right known (statement_uses first known.state sets) (flat_map (λ (s : Stmt F). statement_uses s known.state sets) (before ++ statement ∷ rest)) clean)

  -- a statement in the loops of another one uses what has no error, with the sets of the loops
  -- controlled
  inner-clean : (depth : ℕ) (outer inner : Stmt F) (controlled : List ℕ) → IsNestedIn depth inner outer → AreClean known (statement_uses outer known.state controlled) → (sets : List ℕ) × AreClean known (statement_uses inner known.state sets)
  inner-clean zero outer inner controlled same clean = (controlled, subst (λ (s : Stmt F). AreClean known (statement_uses s known.state controlled)) same clean)
  inner-clean (suc depth) outer inner controlled inside clean =
      let sets = controlled ++ sets_of_control (control_tree inside.control) in
      let whole = subst (AreClean known) (uses-act outer known.state controlled ∙ ap (λ (act : Act F). act_uses act known.state outer.at controlled) inside.loop ∙ uses-Loop known.state outer.at controlled inside.control inside.body) clean in
      let body = clean-right known (control_uses outer.at controlled (control_tree inside.control)) (flat_map (λ (s : Stmt F). statement_uses s known.state sets) inside.body.items) whole in
      inner-clean depth inside.next inner sets inside.holds (clean-one_of sets inside.before inside.rest inside.next (subst (λ (statements : List (Stmt F)). AreClean known (flat_map (λ (s : Stmt F). statement_uses s known.state sets) statements)) inside.occurs body))

module _ {F : Type 0} (value : F → Number) where
  pub program-inner : (program : Program F) (solvers : List (List ℕ)) (before : List (Stmt F)) (outer inner : Stmt F) (depth : ℕ) → compile_errors value program solvers ≡ [] → FollowsIn program before outer → IsNestedIn depth inner outer → (sets : List ℕ) × AreClean (known_after value program solvers (sound before)) (statement_uses inner (known_after value program solvers (sound before)).state sets)
  program-inner program solvers before outer inner depth none occurs inside =
      let known = known_after value program solvers (sound before) in
      inner-clean known depth outer inner [] inside (statement-clean known outer (after-sound value program solvers before [] outer occurs.0 (sym (ap (errors_after value program solvers []) occurs.1) ∙ none)))

  pub program-left : (program : Program F) (solvers : List (List ℕ)) (before : List (Stmt F)) (outer inner : Stmt F) (depth : ℕ) (target : Target F) (condition : Option (Expr F)) (right_at : Place) (right : Expr F) → compile_errors value program solvers ≡ [] → FollowsIn program before outer → IsNestedIn depth inner outer → inner.act ≡ Assign target condition right_at (Value right) → AreTargetIndices (known_after value program solvers (sound before)).state (index_list target.indices)
  program-left program solvers before outer inner depth target condition right_at right none occurs inside is =
      let one = program-inner program solvers before outer inner depth none occurs inside in
      assigned-left (known_after value program solvers (sound before)) inner one.0 target condition right_at right is one.1
