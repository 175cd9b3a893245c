-- Where variables and sets occur in a program without errors.
use Rattle.std.proofs.Common.{◌≡◌, ◌∙◌, ◌&&◌, ℕ, Bool, true, false, not, List, [], ◌∷◌, ◌++◌, Option, Some, option_map, if◌then◌else◌, refl, sym, ap, subst, true≢false}
use Rattle.std.specs.Prelude.{flat_map}
use Rattle.std.specs.List.{All}
use Rattle.std.proofs.lemmas.List.Elements.{All-cons, All-nil}
use Rattle.gq_number.specs.Number.{Number}
use Rattle.gms_labels.specs.declared.place.Place.{Place}
use Rattle.gms_ast.specs.declared.expression.Expr.{Expr}
use Rattle.gms_ast.specs.declared.expression.Suffix.TheVariants as suffix
use Rattle.gms_ast.specs.declared.program.Act.{Act}
use Rattle.gms_ast.specs.declared.program.Act.TheVariants.{Assign}
use Rattle.gms_ast.specs.declared.program.Program.{Program}
use Rattle.gms_ast.specs.declared.program.Right.TheVariants.{Value}
use Rattle.gms_ast.specs.declared.program.Stmt.{Stmt}
use Rattle.gms_ast.specs.declared.program.Target.{Target}
use Rattle.gms_ast.specs.Trees.{Control, Indices, Parts, Tree, over_where, reference}
use Rattle.gms_ast.specs.TreeView.{control_tree, tree_of}
use Rattle.gms_store.specs.declared.kind.SymbolKind.{SymbolKind}
use Rattle.gms_store.specs.declared.kind.SymbolKind.TheVariants as kind
use Rattle.gms_store.specs.State.{Content, alias_of, equation_of, model_with, parameter_of, set_of, symbol_at, undeclared, variable_of}
use Rattle.gms_store.specs.Declarations.{kind_in}
use Rattle.gms_scope.specs.Names.{declared_kind}
use Rattle.gms_check.specs.declared.contexts.Context.{Context}
use Rattle.gms_check.specs.declared.error.ErrorKind.TheVariants.{Endogenous}
use Rattle.gms_check.specs.CompileErrors.{compile_errors, known_after}
use Rattle.gms_check.specs.Loaded.{sound}
use Rattle.gms_check.specs.Names.{is_variable}
use Rattle.gms_check.specs.Past.{Known}
use Rattle.gms_check.specs.Contexts.{as_condition, as_denied, as_guarded, as_inner, as_members, as_number, as_part, as_side, may_occur}
use Rattle.gms_check.specs.InnerStatements.{act_uses}
use Rattle.gms_check.specs.StatementUses.{index_list, left_uses, right_context, show_uses, statement_uses, with_left}
use Rattle.gms_check.specs.Uses.{amount_uses, condition_uses, control_uses, part_uses, place_by_mark, reading, sets_of_control, shift_uses, steps as step_uses, uses}
use Rattle.gms_check.proofs.ActUses.{uses-Abort, uses-Assign, uses-Define, uses-Loop, uses-act}
use Rattle.gms_check.proofs.LeftAmounts.{program-inner}
use Rattle.gms_check.proofs.NoErrors.{AreClean, clean-left, clean-right}
use Rattle.gms_check.proofs.Soundness.{sound-use}
use Rattle.gms_laws.specs.Occurrences.{ExpressionStep, signed_operand, term, factor, power_operand, argument, fold_condition, fold_body, relation_operand, not_operand, and_operand, or_operand, dollar_operand, dollar_condition, lag_amount, IsPartOf, first_part, later_part, IsAmountIn, first_amount, after_label, after_set, after_lag, Occurs, itself, in_signed, in_sum, in_product, in_power, in_call, in_fold_condition, in_fold_body, in_relation, in_not, in_and, in_or, in_dollar, in_dollar_condition, in_lag, Role, left_amount, condition_of, side_of, set_right, value_right, IsExpressionOf, amount_in_assignment, amount_in_definition, condition_of_assignment, condition_of_definition, condition_of_loop, condition_of_abort, left_side, right_side, right_of_set, right_of_value, OccursIn, declared_before, IsArithmetic, of_sign, of_sum, of_product, of_power, of_function, of_fold, of_dollar, IsToSet, operand_of_dollar, condition_of_dollar, operand_of_not, operand_of_and, operand_of_or, condition_of_fold, IsOfMembers, members_signed, members_added, members_common, members_raised, members_denied, members_where, MayHaveVariable, in_side, MayHaveSet, as_operand, alone, among_members}

-- ---- what may be at a part

-- what may be after a step
abbrev after_step : ExpressionStep → Context → Context
after_step signed_operand at = as_part at
after_step term at = as_part at
after_step factor at = as_part at
after_step power_operand at = as_part at
after_step argument at = as_inner at
after_step fold_condition at = as_condition
after_step fold_body at = as_inner at
after_step relation_operand at = as_number
after_step not_operand at = as_denied at
after_step and_operand at = as_condition
after_step or_operand at = as_condition
after_step dollar_operand at = as_guarded at
after_step dollar_condition at = as_condition
after_step lag_amount at = as_number

-- what may be after some steps
abbrev after_steps : List ExpressionStep → Context → Context
after_steps [] at = at
after_steps (step ∷ steps) at = after_steps steps (after_step step at)

-- what may be in an expression by its role
abbrev in_role : Role → Context
in_role left_amount = as_number
in_role condition_of = as_condition
in_role side_of = as_side
in_role set_right = as_members
in_role value_right = as_number

-- ---- variables

-- where members are expected no variable may be
abbrev IsPlain : Context → Type 0
IsPlain at = at.membership ≡ true → at.variables ≡ false

denied-by : (at : Context) (b : Bool) → IsPlain at → IsPlain (if b then at else as_condition)
denied-by at true plain = plain
denied-by at false plain = λ e. refl

plain-step : (step : ExpressionStep) (at : Context) → IsPlain at → IsPlain (after_step step at)
plain-step signed_operand at plain = plain
plain-step term at plain = plain
plain-step factor at plain = plain
plain-step power_operand at plain = plain
plain-step argument at plain = λ e. absurd (true≢false (sym e))
plain-step fold_condition at plain = λ e. refl
plain-step fold_body at plain = λ e. absurd (true≢false (sym e))
plain-step relation_operand at plain = λ e. refl
plain-step not_operand at plain = denied-by at at.membership plain
plain-step and_operand at plain = λ e. refl
plain-step or_operand at plain = λ e. refl
plain-step dollar_operand at plain = plain
plain-step dollar_condition at plain = λ e. refl
plain-step lag_amount at plain = λ e. refl

denied-variable : (at : Context) (b : Bool) → at.membership ≡ b → IsPlain at → (if b then at else as_condition).variables ≡ true → ⊥
denied-variable at true members plain may = true≢false (sym may ∙ plain members)
denied-variable at false members plain may = true≢false (sym may)

variable-step : (step : ExpressionStep) (at : Context) → IsPlain at → (after_step step at).variables ≡ true → (at.variables ≡ true) × IsArithmetic step
variable-step signed_operand at plain may = (may, of_sign)
variable-step term at plain may = (may, of_sum)
variable-step factor at plain may = (may, of_product)
variable-step power_operand at plain may = (may, of_power)
variable-step argument at plain may = (may, of_function)
variable-step fold_condition at plain may = absurd (true≢false (sym may))
variable-step fold_body at plain may = (may, of_fold)
variable-step relation_operand at plain may = absurd (true≢false (sym may))
variable-step not_operand at plain may = absurd (denied-variable at at.membership refl plain may)
variable-step and_operand at plain may = absurd (true≢false (sym may))
variable-step or_operand at plain may = absurd (true≢false (sym may))
variable-step dollar_operand at plain may = (may, of_dollar)
variable-step dollar_condition at plain may = absurd (true≢false (sym may))
variable-step lag_amount at plain may = absurd (true≢false (sym may))

variable-steps : (steps : List ExpressionStep) (at : Context) → IsPlain at → (after_steps steps at).variables ≡ true → (at.variables ≡ true) × All IsArithmetic steps
variable-steps [] at plain may = (may, All-nil IsArithmetic)
variable-steps (step ∷ steps) at plain may =
    let later = variable-steps steps (after_step step at) (plain-step step at plain) may in
    let here = variable-step step at plain later.0 in
    (here.0, All-cons IsArithmetic step steps here.1 later.1)

plain-role : (role : Role) → IsPlain (in_role role)
plain-role left_amount = λ e. refl
plain-role condition_of = λ e. refl
plain-role side_of = λ e. absurd (true≢false (sym e))
plain-role set_right = λ e. refl
plain-role value_right = λ e. refl

variable-role : (role : Role) (steps : List ExpressionStep) → (in_role role).variables ≡ true → All IsArithmetic steps → MayHaveVariable role steps
variable-role left_amount steps may all = absurd (true≢false (sym may))
variable-role condition_of steps may all = absurd (true≢false (sym may))
variable-role side_of steps may all = in_side all
variable-role set_right steps may all = absurd (true≢false (sym may))
variable-role value_right steps may all = absurd (true≢false (sym may))

-- ---- sets

-- how a set may come to be after some steps
data SetAfter (at : Context) : List ExpressionStep → Type 0 where
  at_once : at.sets ≡ true → SetAfter at []
  led_to : {last : ExpressionStep} (steps : List ExpressionStep) → IsToSet last → SetAfter at (steps ++ last ∷ [])
  of_members : {steps : List ExpressionStep} → at.membership ≡ true → All IsOfMembers steps → SetAfter at steps

denied-members : (at : Context) (b : Bool) → at.membership ≡ b → (if b then at else as_condition).membership ≡ true → at.membership ≡ true
denied-members at true members e = members
denied-members at false members e = absurd (true≢false (sym e))

-- among members after a step
members-step : (step : ExpressionStep) (at : Context) → (after_step step at).membership ≡ true → (at.membership ≡ true) × IsOfMembers step
members-step signed_operand at e = (e, members_signed)
members-step term at e = (e, members_added)
members-step factor at e = (e, members_common)
members-step power_operand at e = (e, members_raised)
members-step argument at e = absurd (true≢false (sym e))
members-step fold_condition at e = absurd (true≢false (sym e))
members-step fold_body at e = absurd (true≢false (sym e))
members-step relation_operand at e = absurd (true≢false (sym e))
members-step not_operand at e = (denied-members at at.membership refl e, members_denied)
members-step and_operand at e = absurd (true≢false (sym e))
members-step or_operand at e = absurd (true≢false (sym e))
members-step dollar_operand at e = (e, members_where)
members-step dollar_condition at e = absurd (true≢false (sym e))
members-step lag_amount at e = absurd (true≢false (sym e))

one-member : (step : ExpressionStep) → IsOfMembers step → All IsOfMembers (step ∷ [])
one-member step of = All-cons IsOfMembers step [] of (All-nil IsOfMembers)

-- after one step
set-step : (step : ExpressionStep) (at : Context) → (after_step step at).sets ≡ true → SetAfter at (step ∷ [])
set-step signed_operand at e = of_members e (one-member signed_operand members_signed)
set-step term at e = of_members e (one-member term members_added)
set-step factor at e = of_members e (one-member factor members_common)
set-step power_operand at e = of_members e (one-member power_operand members_raised)
set-step argument at e = absurd (true≢false (sym e))
set-step fold_condition at e = led_to [] condition_of_fold
set-step fold_body at e = absurd (true≢false (sym e))
set-step relation_operand at e = absurd (true≢false (sym e))
set-step not_operand at e = led_to [] operand_of_not
set-step and_operand at e = led_to [] operand_of_and
set-step or_operand at e = led_to [] operand_of_or
set-step dollar_operand at e = led_to [] operand_of_dollar
set-step dollar_condition at e = led_to [] condition_of_dollar
set-step lag_amount at e = absurd (true≢false (sym e))

set-steps : (steps : List ExpressionStep) (at : Context) → (after_steps steps at).sets ≡ true → SetAfter at steps
set-steps [] at e = at_once e
set-steps (step ∷ steps) at e = by (set-steps steps (after_step step at) e)
  where
    by : {steps : List ExpressionStep} → SetAfter (after_step step at) steps → SetAfter at (step ∷ steps)
    by (at_once may) = set-step step at may
    by (led_to steps last) = led_to (step ∷ steps) last
    by (of_members {steps = steps} members all) =
        let here = members-step step at members in
        of_members here.0 (All-cons IsOfMembers step steps here.1 all)

set-role : (role : Role) {steps : List ExpressionStep} → SetAfter (in_role role) steps → MayHaveSet role steps
set-role role (led_to steps last) = as_operand steps last
set-role left_amount (at_once may) = absurd (true≢false (sym may))
set-role condition_of (at_once may) = alone
set-role side_of (at_once may) = absurd (true≢false (sym may))
set-role set_right (at_once may) = among_members (All-nil IsOfMembers)
set-role value_right (at_once may) = absurd (true≢false (sym may))
set-role left_amount (of_members members all) = absurd (true≢false (sym members))
set-role condition_of (of_members members all) = absurd (true≢false (sym members))
set-role side_of (of_members members all) = absurd (true≢false (sym members))
set-role set_right (of_members members all) = among_members all
set-role value_right (of_members members all) = absurd (true≢false (sym members))

-- ---- from an expression to a part

module _ {F : Type 0} (known : Known F) where
  -- A part without errors, where this may be.
  record IsCleanAt (at : Context) (tree : Tree F) : Type 0 where
    around : Place
    controlled : List ℕ
    clean : AreClean known (uses at around controlled tree)

  clean-part : {tree : Tree F} {parts : Parts F} → IsPartOf tree parts → (at : Context) (around : Place) (controlled : List ℕ) → AreClean known (part_uses at around controlled parts) → IsCleanAt at tree
  clean-part {tree} (first_part {mark = mark} {rest = rest}) at around controlled clean =
      record { around = place_by_mark mark around; controlled = controlled; clean = clean-left known (uses at (place_by_mark mark around) controlled tree) (part_uses at around controlled rest) clean }
  clean-part (later_part {mark = mark} {other = other} {rest = rest} later) at around controlled clean =
      clean-part later at around controlled (clean-right known (uses at (place_by_mark mark around) controlled other) (part_uses at around controlled rest) clean)

  clean-amount : {amount : Tree F} {indices : Indices F} → IsAmountIn amount indices → (controlled : List ℕ) → AreClean known (amount_uses controlled indices) → IsCleanAt as_number amount
  clean-amount {amount} (first_amount {at = at} {rest = rest}) controlled clean =
      record { around = at; controlled = controlled; clean = clean-left known (uses as_number at controlled amount) (amount_uses controlled rest) clean }
  clean-amount (after_label later) controlled clean = clean-amount later controlled clean
  clean-amount (after_set later) controlled clean = clean-amount later controlled clean
  clean-amount (after_lag {at = at} {other = other} {rest = rest} later) controlled clean =
      clean-amount later controlled (clean-right known (uses as_number at controlled other) (amount_uses controlled rest) clean)

  -- the same on the left of an assignment or a definition
  clean-shift : {amount : Tree F} {indices : Indices F} → IsAmountIn amount indices → (controlled : List ℕ) → AreClean known (shift_uses controlled indices) → IsCleanAt as_number amount
  clean-shift {amount} (first_amount {at = at} {rest = rest}) controlled clean =
      record { around = at; controlled = controlled; clean = clean-left known (uses as_number at controlled amount) (shift_uses controlled rest) clean.1 }
  clean-shift (after_label later) controlled clean = clean-shift later controlled clean
  clean-shift (after_set later) controlled clean = clean-shift later controlled clean
  clean-shift (after_lag {at = at} {other = other} {rest = rest} later) controlled clean =
      clean-shift later controlled (clean-right known (uses as_number at controlled other) (shift_uses controlled rest) clean.1)

  clean-occurs : {tree : Tree F} {steps : List ExpressionStep} {root : Tree F} → Occurs tree steps root → (at : Context) (around : Place) (controlled : List ℕ) → AreClean known (uses at around controlled root) → IsCleanAt (after_steps steps at) tree
  clean-occurs itself at around controlled clean = record { around = around; controlled = controlled; clean = clean }
  clean-occurs (in_signed inside) at around controlled clean = clean-occurs inside (as_part at) around controlled clean
  clean-occurs (in_sum among inside) at around controlled clean =
      let next = clean-part among (as_part at) around controlled clean in
      clean-occurs inside (as_part at) next.around next.controlled next.clean
  clean-occurs (in_product {parts = parts} among inside) at around controlled clean =
      let next = clean-part among (as_part at) around controlled (clean-left known (part_uses (as_part at) around controlled parts) (step_uses at around parts) clean) in
      clean-occurs inside (as_part at) next.around next.controlled next.clean
  clean-occurs (in_power {parts = parts} among inside) at around controlled clean =
      let next = clean-part among (as_part at) around controlled (clean-left known (part_uses (as_part at) around controlled parts) (step_uses at around parts) clean) in
      clean-occurs inside (as_part at) next.around next.controlled next.clean
  clean-occurs (in_call {at = place} among inside) at around controlled clean =
      let next = clean-part among (as_inner at) place controlled clean.1 in
      clean-occurs inside (as_inner at) next.around next.controlled next.clean
  clean-occurs (in_fold_condition {at = place} {sets = sets} {condition = condition} {body = body} inside) at around controlled clean =
      let first = clean-left known (control_uses place controlled (over_where sets condition)) (uses (as_inner at) place (controlled ++ sets) body) clean.1 in
      clean-occurs inside as_condition place (controlled ++ sets) first.1
  clean-occurs (in_fold_body {at = place} {control = control} {body = body} inside) at around controlled clean =
      clean-occurs inside (as_inner at) place (controlled ++ sets_of_control control) (clean-right known (control_uses place controlled control) (uses (as_inner at) place (controlled ++ sets_of_control control) body) clean.1)
  clean-occurs (in_relation among inside) at around controlled clean =
      let next = clean-part among as_number around controlled clean.1 in
      clean-occurs inside as_number next.around next.controlled next.clean
  clean-occurs (in_not inside) at around controlled clean = clean-occurs inside (as_denied at) around controlled clean
  clean-occurs (in_and among inside) at around controlled clean =
      let next = clean-part among as_condition around controlled clean.1 in
      clean-occurs inside as_condition next.around next.controlled next.clean
  clean-occurs (in_or among inside) at around controlled clean =
      let next = clean-part among as_condition around controlled clean.1 in
      clean-occurs inside as_condition next.around next.controlled next.clean
  clean-occurs (in_dollar {operand = operand} {guards = guards} inside) at around controlled clean =
      clean-occurs inside (as_guarded at) around controlled (clean-left known (uses (as_guarded at) around controlled operand) (part_uses as_condition around controlled guards) clean)
  clean-occurs (in_dollar_condition {operand = operand} {guards = guards} among inside) at around controlled clean =
      let next = clean-part among as_condition around controlled (clean-right known (uses (as_guarded at) around controlled operand) (part_uses as_condition around controlled guards) clean) in
      clean-occurs inside as_condition next.around next.controlled next.clean
  clean-occurs (in_lag among inside) at around controlled clean =
      let next = clean-amount among controlled clean.1 in
      clean-occurs inside as_number next.around next.controlled next.clean

  -- ---- from a statement to an expression

  module _ (statement : Stmt F) (controlled : List ℕ) (clean : AreClean known (statement_uses statement known.state controlled)) where
    of-act : (act : Act F) → statement.act ≡ act → AreClean known (act_uses act known.state statement.at controlled)
    of-act act is =
        subst (AreClean known) (uses-act statement known.state controlled ∙ ap (λ (act : Act F). act_uses act known.state statement.at controlled) is) clean

    clean-right_side : (target : Target F) (condition : Option (Expr F)) (right_at : Place) (right : Expr F) → statement.act ≡ Assign target condition right_at (Value right) → (at : Context) → right_context known.state target.name ≡ at → IsCleanAt at (tree_of right)
    clean-right_side target condition right_at right is at role =
        let around = with_left controlled target.indices in
        let whole = subst (AreClean known) (uses-Assign known.state statement.at controlled target condition right_at right) (of-act _ is) in
        let right_clean = clean-right known (left_uses statement.at around target.indices condition) (uses (right_context known.state target.name) right_at around (tree_of right)) whole.1 in
        record { around = right_at; controlled = around; clean = subst (λ (s : Context). AreClean known (uses s right_at around (tree_of right))) role right_clean }

    clean-expression : {role : Role} {root : Tree F} → IsExpressionOf known.state statement.act role root → IsCleanAt (in_role role) root
    clean-expression (amount_in_assignment target condition right_at right is among) =
        let around = with_left controlled target.indices in
        let whole = subst (AreClean known) (uses-Assign known.state statement.at controlled target condition right_at right) (of-act _ is) in
        let left = clean-left known (left_uses statement.at around target.indices condition) (uses (right_context known.state target.name) right_at around (tree_of right)) whole.1 in
        clean-shift among around (clean-left known (shift_uses around (index_list target.indices)) (condition_uses statement.at around (option_map tree_of condition)) left)
    clean-expression (amount_in_definition equation indices condition left_at left side right_at right is among) =
        let around = with_left controlled indices in
        let sides = uses as_side left_at around (tree_of left) ++ uses as_side right_at around (tree_of right) in
        let whole = subst (AreClean known) (uses-Define known.state statement.at controlled equation indices condition left_at left side right_at right) (of-act _ is) in
        let first = clean-left known (left_uses statement.at around indices condition) sides whole.1 in
        clean-shift among around (clean-left known (shift_uses around (index_list indices)) (condition_uses statement.at around (option_map tree_of condition)) first)
    clean-expression (condition_of_assignment target condition right_at right is) =
        let around = with_left controlled target.indices in
        let whole = subst (AreClean known) (uses-Assign known.state statement.at controlled target (Some condition) right_at right) (of-act _ is) in
        let left = clean-left known (left_uses statement.at around target.indices (Some condition)) (uses (right_context known.state target.name) right_at around (tree_of right)) whole.1 in
        record { around = statement.at; controlled = around; clean = clean-right known (shift_uses around (index_list target.indices)) (uses as_condition statement.at around (tree_of condition)) left }
    clean-expression (condition_of_definition equation indices condition left_at left side right_at right is) =
        let around = with_left controlled indices in
        let sides = uses as_side left_at around (tree_of left) ++ uses as_side right_at around (tree_of right) in
        let whole = subst (AreClean known) (uses-Define known.state statement.at controlled equation indices (Some condition) left_at left side right_at right) (of-act _ is) in
        let first = clean-left known (left_uses statement.at around indices (Some condition)) sides whole.1 in
        record { around = statement.at; controlled = around; clean = clean-right known (shift_uses around (index_list indices)) (uses as_condition statement.at around (tree_of condition)) first }
    clean-expression (condition_of_loop {sets = sets} {condition = condition} control body is tree) =
        let inside = controlled ++ sets_of_control (control_tree control) in
        let whole = subst (AreClean known) (uses-Loop known.state statement.at controlled control body) (of-act _ is) in
        let first = clean-left known (control_uses statement.at controlled (control_tree control)) (flat_map (λ (s : Stmt F). statement_uses s known.state inside) body.items) whole in
        let shown = subst (λ (c : Control F). AreClean known (control_uses statement.at controlled c)) tree first in
        record { around = statement.at; controlled = controlled ++ sets; clean = shown.1 }
    clean-expression (condition_of_abort condition items is) =
        let whole = subst (AreClean known) (uses-Abort known.state statement.at controlled (Some condition) items) (of-act _ is) in
        record { around = statement.at; controlled = controlled; clean = clean-left known (uses as_condition statement.at controlled (tree_of condition)) (flat_map show_uses items) whole }
    clean-expression (left_side equation indices condition left_at left side right_at right is) =
        let around = with_left controlled indices in
        let whole = subst (AreClean known) (uses-Define known.state statement.at controlled equation indices condition left_at left side right_at right) (of-act _ is) in
        let sides = clean-right known (left_uses statement.at around indices condition) (uses as_side left_at around (tree_of left) ++ uses as_side right_at around (tree_of right)) whole.1 in
        record { around = left_at; controlled = around; clean = clean-left known (uses as_side left_at around (tree_of left)) (uses as_side right_at around (tree_of right)) sides }
    clean-expression (right_side equation indices condition left_at left side right_at right is) =
        let around = with_left controlled indices in
        let whole = subst (AreClean known) (uses-Define known.state statement.at controlled equation indices condition left_at left side right_at right) (of-act _ is) in
        let sides = clean-right known (left_uses statement.at around indices condition) (uses as_side left_at around (tree_of left) ++ uses as_side right_at around (tree_of right)) whole.1 in
        record { around = right_at; controlled = around; clean = clean-right known (uses as_side left_at around (tree_of left)) (uses as_side right_at around (tree_of right)) sides }
    clean-expression (right_of_set target condition right_at right is of_set) = clean-right_side target condition right_at right is as_members (ap (λ (b : Bool). if b then as_members else as_number) of_set)
    clean-expression (right_of_value target condition right_at right is no_set) = clean-right_side target condition right_at right is as_number (ap (λ (b : Bool). if b then as_members else as_number) no_set)

-- ---- in a program

-- a variable by its kind
variable-kind : (content : Content) → kind_in content ≡ kind.Variable → is_variable content ≡ true
variable-kind undeclared e = absurd cc
variable-kind (alias_of base) e = absurd cc
variable-kind (set_of members) e = absurd cc
variable-kind (parameter_of entries) e = absurd cc
variable-kind (variable_of type entries) e = refl
variable-kind (equation_of entries) e = absurd cc
variable-kind (model_with model solver) e = absurd cc

is_placed-variable : (may variable : Bool) → variable ≡ true → (not may && variable) ≡ false → may ≡ true
is_placed-variable true variable is e = refl
is_placed-variable false variable is e = absurd (true≢false (sym is ∙ e))

module _ {F : Type 0} (value : F → Number) (program : Program F) (solvers : List (List ℕ)) (none : compile_errors value program solvers ≡ []) (before : List (Stmt F)) where
  clean-in : {role : Role} {steps : List ExpressionStep} {tree : Tree F} → OccursIn value program before role steps tree → IsCleanAt (known_after value program solvers (sound before)) (after_steps steps (in_role role)) tree
  clean-in {role} {steps} {tree} o =
      let known = known_after value program solvers (sound before) in
      let inner = program-inner value program solvers before o.outer o.inner o.depth none o.is_placed o.inside in
      let root = clean-expression known o.inner inner.0 inner.1 o.expression in
      clean-occurs known o.occurs (in_role role) root.around root.controlled root.clean

  pub variable-occurs : (role : Role) (steps : List ExpressionStep) (at : Place) (name : ℕ) (indices : Indices F) → OccursIn value program before role steps (reference at name suffix.None indices) → declared_kind (declared_before value program before) name ≡ kind.Variable → MayHaveVariable role steps
  variable-occurs role steps at name indices o is =
      let c = clean-in o in
      let may : (after_steps steps (in_role role)).variables ≡ true = is_placed-variable (after_steps steps (in_role role)).variables (is_variable (symbol_at (declared_before value program before) name).content) (variable-kind (symbol_at (declared_before value program before) name).content is) (c.clean.0 Endogenous) in
      let all = variable-steps steps (in_role role) (plain-role role) may in
      variable-role role steps all.0 all.1

  pub set-occurs : (role : Role) (steps : List ExpressionStep) (at : Place) (name : ℕ) (indices : Indices F) → OccursIn value program before role steps (reference at name suffix.None indices) → declared_kind (declared_before value program before) name ≡ kind.Set → MayHaveSet role steps
  set-occurs role steps at name indices o is =
      let c = clean-in o in
      let known = known_after value program solvers (sound before) in
      let read = sound-use known (reading (after_steps steps (in_role role)) c.controlled name suffix.None indices) c.clean.0 in
      set-role role (set-steps steps (in_role role) (sym (ap (λ (k : SymbolKind). may_occur (after_steps steps (in_role role)) k suffix.None) is) ∙ read.occurs))
