-- What holds of the parts of a program without errors.
use Rattle.gms_check.proofs.Faultless.{none-first, none-left, none-right}
use Rattle.std.proofs.Common.{◌≡◌, ◌≤◌, ℕ, Bool, true, false, not, ◌==◌, ◌||◌, List, [], ◌∷◌, ◌++◌, length, refl, sym, ap, ◌∙◌, subst, append_assoc, Option, Some, None, arith}
use Rattle.std.specs.Prelude.{is_none, nat_lt, option_to_list, All}
use Rattle.std.specs.List.{list_any, AllByRecursion}
use Rattle.std.proofs.lemmas.Bool.{eqb-true, and_parts, not-false}
use Rattle.std.proofs.lemmas.Bool.Decides.{nat_tests}
use Rattle.std.proofs.lemmas.List.{append-nil}
use Rattle.std.proofs.lemmas.List.Elements.{All-from_recursion}
use Rattle.gq_number.specs.Number.{Number}
use Rattle.gms_labels.specs.declared.place.Place.{Place}
use Rattle.gms_ast.specs.declared.program.Act.{Act}
use Rattle.gms_ast.specs.declared.program.Act.TheVariants.{Declare, Model}
use Rattle.gms_ast.specs.declared.program.Stmt.{Stmt}
use Rattle.gms_ast.specs.declared.program.Program.{Program}
use Rattle.gms_ast.specs.Trees.{Indices}
use Rattle.gms_scope.specs.Names.{is_equation, is_index_set, is_set_name, has_no_declaration, declared_kind, positions}
use Rattle.gms_check.specs.declared.error.ErrorKind.TheVariants.{UnknownName, WrongKind, WrongArity, DomainOfSet, DomainOfLabel, Uncontrolled, ControlledTwice, NotOrdered}
use Rattle.gms_check.specs.declared.error.CompileError.{CompileError}
use Rattle.gms_check.specs.Checked.{AreIndices, IsChecked, IsSound}
use Rattle.gms_check.specs.CompileErrors.{act_errors, compile_errors, errors_after, errors_of, known_after, statement_error}
use Rattle.gms_check.specs.Controls.{is_ordered, lagged_sets}
use Rattle.gms_check.specs.Domains.{has_unfit_label, has_unfit_set, index_count, is_wrong_count}
use Rattle.gms_check.specs.Errors.{first_error}
use Rattle.gms_check.specs.Kinds.{has_wrong_set}
use Rattle.gms_check.specs.Loaded.{sound}
use Rattle.gms_check.specs.Past.{Known, Past, is_among}
use Rattle.gms_check.specs.Contexts.{may_be_assigned, may_occur}
use Rattle.gms_check.specs.InnerStatements.{act_uses}
use Rattle.gms_check.specs.StatementUses.{statement_uses}
use Rattle.gms_check.specs.Uses.{Use, Uses, assigning, cardinal, controlling, defining, index_sets, ordinal, reading}
use Rattle.gms_check.proofs.ActUses.{uses-Declare, uses-Model, uses-act}
use Rattle.gms_check.proofs.NoErrors.{AreClean, IsClean, are-clean}

-- ---- tests

pub neither-first : (a b : Bool) → (a || b) ≡ false → a ≡ false
neither-first true b e = e
neither-first false b e = refl

pub neither-second : (a b : Bool) → (a || b) ≡ false → b ≡ false
neither-second true b e = absurd cc
neither-second false b e = e

pub at-most : (m n : ℕ) → nat_lt m n ≡ false → n ≤ m
at-most m n e = grind (arith, nat_tests)

pub right-count : (expected count : ℕ) → is_wrong_count expected count ≡ false → count ≡ expected
right-count expected count e =
    eqb-true count expected (not-false (count == expected) (neither-first (not (count == expected)) (nat_lt 10 count) e))

pub few-count : (expected count : ℕ) → is_wrong_count expected count ≡ false → count ≤ 10
few-count expected count e = at-most 10 count (neither-second (not (count == expected)) (nat_lt 10 count) e)

each-one : {X : Type 0} (test : X → Bool) (xs : List X) → list_any (λ x. not (test x)) xs ≡ false → AllByRecursion (λ x. test x ≡ true) xs
each-one test [] e = tt
each-one test (x ∷ xs) e =
    (not-false (test x) (neither-first (not (test x)) (list_any (λ x. not (test x)) xs) e), each-one test xs (neither-second (not (test x)) (list_any (λ x. not (test x)) xs) e))

-- where none fails all pass
all-pass : {X : Type 0} (test : X → Bool) (xs : List X) → list_any (λ x. not (test x)) xs ≡ false → All (λ x. test x ≡ true) xs
all-pass test xs e = All-from_recursion (λ x. test x ≡ true) xs (each-one test xs e)

module _ {F : Type 0} where
  are-indices : (known : Known F) (name : ℕ) (indices : Indices F) → has_wrong_set known (index_sets indices) ≡ false → is_wrong_count (length (positions known.state name)) (index_count indices) ≡ false → has_unfit_set known name (positions known.state name) indices ≡ false → has_unfit_label known name (positions known.state name) indices ≡ false → list_any (λ index. not (is_ordered known index)) (lagged_sets indices) ≡ false → AreIndices known name indices
  are-indices known name indices sets count below labels ordered = record {
    count = right-count (length (positions known.state name)) (index_count indices) count;
    few = few-count (length (positions known.state name)) (index_count indices) count;
    sets = all-pass (is_index_set known.state) (index_sets indices) sets;
    below = below;
    labels = labels;
    ordered = all-pass (is_ordered known) (lagged_sets indices) ordered;
  }

  -- what has no error is sound
  pub sound-use : (known : Known F) (used : Use F) → IsClean known used → IsSound known used
  sound-use known (reading context controlled name suffix indices) clean = record {
    declared = neither-first (has_no_declaration known.state name) (list_any (has_no_declaration known.state) (index_sets indices)) (clean UnknownName);
    occurs = not-false (may_occur context (declared_kind known.state name) suffix) (neither-first (not (may_occur context (declared_kind known.state name) suffix)) (has_wrong_set known (index_sets indices)) (clean WrongKind));
    fitting = are-indices known name indices (neither-second (not (may_occur context (declared_kind known.state name) suffix)) (has_wrong_set known (index_sets indices)) (clean WrongKind)) (clean WrongArity) (clean DomainOfSet) (clean DomainOfLabel) (clean NotOrdered);
    controls = all-pass (is_among controlled) (index_sets indices) (clean Uncontrolled);
  }
  sound-use known (ordinal context controlled name) clean =
      let ordered = not-false (is_ordered known name) (clean NotOrdered) in
      ((and_parts (is_index_set known.state name) _ ordered).0, not-false (is_among controlled name) (clean Uncontrolled), ordered)
  sound-use known (cardinal context name) clean =
      not-false (is_set_name known.state name) (neither-second (not context.numbers) (not (is_set_name known.state name)) (clean WrongKind))
  sound-use known (controlling controlled sets) clean =
      (all-pass (is_index_set known.state) sets (clean WrongKind), clean ControlledTwice, at-most 10 (length sets) (clean WrongArity))
  sound-use known (assigning name suffix indices) clean =
      (neither-first (has_no_declaration known.state name) (list_any (has_no_declaration known.state) (index_sets indices)) (clean UnknownName), not-false (may_be_assigned (declared_kind known.state name) suffix) (neither-first (not (may_be_assigned (declared_kind known.state name) suffix)) (has_wrong_set known (index_sets indices)) (clean WrongKind)), are-indices known name indices (neither-second (not (may_be_assigned (declared_kind known.state name) suffix)) (has_wrong_set known (index_sets indices)) (clean WrongKind)) (clean WrongArity) (clean DomainOfSet) (clean DomainOfLabel) (clean NotOrdered))
  sound-use known (defining name indices) clean =
      (neither-first (has_no_declaration known.state name) (list_any (has_no_declaration known.state) (index_sets indices)) (clean UnknownName), not-false (is_equation (declared_kind known.state name)) (neither-first (not (is_equation (declared_kind known.state name))) (has_wrong_set known (index_sets indices)) (clean WrongKind)), are-indices known name indices (neither-second (not (is_equation (declared_kind known.state name))) (has_wrong_set known (index_sets indices)) (clean WrongKind)) (clean WrongArity) (clean DomainOfSet) (clean DomainOfLabel) (clean NotOrdered))
  sound-use known used clean = clean

  sound-uses : (known : Known F) (uses : Uses F) → AreClean known uses → AllByRecursion (λ (u : Place × Use F). IsSound known u.1) uses
  sound-uses known [] clean = tt
  sound-uses known (u ∷ uses) clean = (sound-use known u.1 clean.0, sound-uses known uses clean.1)

  -- ---- statements

  -- a statement without an error has parts without errors
  pub statement-clean : (known : Known F) (statement : Stmt F) → statement_error known statement ≡ None → AreClean known (statement_uses statement known.state [])
  statement-clean known statement = by statement.act refl
    where
      by : (act : Act F) → statement.act ≡ act → first_error (act_errors known statement act) ≡ None → AreClean known (statement_uses statement known.state [])
      by (Declare kind items) is e =
          subst (AreClean known) (sym (uses-act statement known.state [] ∙ ap (λ (act : Act F). act_uses act known.state statement.at []) is ∙ uses-Declare known.state statement.at [] kind items)) tt
      by (Model models) is e =
          subst (AreClean known) (sym (uses-act statement known.state [] ∙ ap (λ (act : Act F). act_uses act known.state statement.at []) is ∙ uses-Model known.state statement.at [] models)) tt
      by act is e = are-clean known (statement_uses statement known.state []) (none-first (errors_of known (statement_uses statement known.state [])) e)

pub no-option : {X : Type 0} (o : Option X) → option_to_list o ≡ [] → o ≡ None
no-option None e = refl
no-option (Some x) e = absurd cc

module _ {F : Type 0} (value : F → Number) (program : Program F) (solvers : List (List ℕ)) where
  -- if there is no error, each statement has none, and those before it have none
  pub after-sound : (before : List (Stmt F)) (past : Past F) (statement : Stmt F) (rest : List (Stmt F)) → errors_after value program solvers past (before ++ statement ∷ rest) ≡ [] → statement_error (known_after value program solvers (past ++ sound before)) statement ≡ None
  after-sound [] past statement rest e =
      ap (λ (p : Past F). statement_error (known_after value program solvers p) statement) (append-nil past) ∙ no-option (statement_error (known_after value program solvers past) statement) (none-left (option_to_list (statement_error (known_after value program solvers past) statement)) (errors_after value program solvers (past ++ (statement, is_none (statement_error (known_after value program solvers past) statement)) ∷ []) rest) e)
  after-sound (first ∷ before) past statement rest e =
      let o = statement_error (known_after value program solvers past) first in
      let none : o ≡ None = no-option o (none-left (option_to_list o) (errors_after value program solvers (past ++ (first, is_none o) ∷ []) (before ++ statement ∷ rest)) e) in
      let later : errors_after value program solvers (past ++ (first, true) ∷ []) (before ++ statement ∷ rest) ≡ [] = sym (ap (λ (p : Option CompileError). errors_after value program solvers (past ++ (first, is_none p) ∷ []) (before ++ statement ∷ rest)) none) ∙ none-right (option_to_list o) (errors_after value program solvers (past ++ (first, is_none o) ∷ []) (before ++ statement ∷ rest)) e in
      ap (λ (p : Past F). statement_error (known_after value program solvers p) statement) (sym (append_assoc past ((first, true) ∷ []) (sound before))) ∙ after-sound before (past ++ (first, true) ∷ []) statement rest later

  -- a program without errors
  pub checked-program : compile_errors value program solvers ≡ [] → IsChecked value program solvers
  checked-program e before statement occurs =
      let known = known_after value program solvers (sound before) in
      All-from_recursion (λ (u : Place × Use F). IsSound known u.1) (statement_uses statement known.state []) (sound-uses known (statement_uses statement known.state []) (statement-clean known statement (after-sound before [] statement occurs.0 (sym (ap (errors_after value program solvers []) occurs.1) ∙ e))))
