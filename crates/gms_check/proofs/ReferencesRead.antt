-- Each reference in a program without errors has a meaning at its place.
use Rattle.std.proofs.Common.{◌≡◌, ℕ, zero, suc, List, [], ◌∷◌, ◌++◌, Some, option_map, sym, ap, ◌∙◌, subst}
use Rattle.std.specs.Prelude.{flat_map}
use Rattle.gq_number.specs.Number.{Number}
use Rattle.gms_labels.specs.declared.place.Place.{Place}
use Rattle.gms_ast.specs.declared.program.Act.{Act}
use Rattle.gms_ast.specs.declared.program.Program.{Program}
use Rattle.gms_ast.specs.declared.program.Stmt.{Stmt}
use Rattle.gms_ast.specs.TreeView.{control_tree, tree_of}
use Rattle.gms_ast.specs.Trees.{Tree, Parts, Indices, no_index, label, set, lagged, Control}
use Rattle.gms_check.specs.declared.contexts.Context.{Context}
use Rattle.gms_check.specs.Checked.{FollowsIn}
use Rattle.gms_check.specs.CompileErrors.{compile_errors, errors_after, known_after}
use Rattle.gms_check.specs.Loaded.{sound}
use Rattle.gms_check.specs.Past.{Known}
use Rattle.gms_check.specs.References.{Asking, InTree, a_reference, an_ord, in_amount, in_argument, in_condition, in_body, in_negated, in_sum, in_product, in_power, in_relation, in_not, in_and, in_or, in_guarded, in_guard, InParts, in_part, in_later_part, InIndices, in_lag, after_label, after_set, after_lag, InControl, in_where, InAct, on_the_left, in_left_condition, on_the_right, in_definition_condition, in_left_side, in_right_side, in_loop_condition, in_abort_condition, InStatement, IsMeant}
use Rattle.gms_check.specs.Contexts.{as_number, as_condition, as_side, as_part, as_inner, as_guarded, as_denied}
use Rattle.gms_check.specs.InnerStatements.{act_uses}
use Rattle.gms_check.specs.StatementUses.{index_list, left_uses, right_context, show_uses, statement_uses, with_left}
use Rattle.gms_check.specs.Uses.{Uses, reading, ordinal, place_by_mark, steps, sets_of_control, uses, part_uses, amount_uses, control_uses, shift_uses, condition_uses}
use Rattle.gms_check.proofs.ActUses.{uses-Abort, uses-Assign, uses-Define, uses-Loop, uses-act}
use Rattle.gms_check.proofs.LeftAmounts.{clean-one_of}
use Rattle.gms_check.proofs.NoErrors.{AreClean, clean-left, clean-right}
use Rattle.gms_check.proofs.Soundness.{after-sound, sound-use, statement-clean}

module _ {F : Type 0} (known : Known F) (within : List ℕ) where
  mutual
    -- in an expression
    in-tree : {what : Asking F} {around : List ℕ} {tree : Tree F} → InTree within what around tree → (context : Context) (at : Place) → AreClean known (uses context at around tree) → IsMeant known within what
    in-tree (a_reference {name = name} {suffix = suffix} {indices = indices}) context at clean =
        (context, sound-use known (reading context within name suffix indices) clean.0)
    in-tree (an_ord {name = name}) context at clean = sound-use known (ordinal context within name) clean.0
    in-tree (in_amount inside) context at clean = in-indices inside clean.1
    in-tree (in_argument {at = place} inside) context at clean = in-parts inside (as_inner context) place clean.1
    in-tree (in_condition {around = around} {at = place} {control = control} {body = body} inside) context at clean =
        in-control inside place (clean-left known (control_uses place around control) (uses (as_inner context) place (around ++ sets_of_control control) body) clean.1)
    in-tree (in_body {around = around} {at = place} {control = control} {body = body} inside) context at clean =
        in-tree inside (as_inner context) place (clean-right known (control_uses place around control) (uses (as_inner context) place (around ++ sets_of_control control) body) clean.1)
    in-tree (in_negated inside) context at clean = in-tree inside (as_part context) at clean
    in-tree (in_sum inside) context at clean = in-parts inside (as_part context) at clean
    in-tree (in_product {around = around} {parts = parts} inside) context at clean =
        in-parts inside (as_part context) at (clean-left known (part_uses (as_part context) at around parts) (steps context at parts) clean)
    in-tree (in_power {around = around} {parts = parts} inside) context at clean =
        in-parts inside (as_part context) at (clean-left known (part_uses (as_part context) at around parts) (steps context at parts) clean)
    in-tree (in_relation inside) context at clean = in-parts inside as_number at clean.1
    in-tree (in_not inside) context at clean = in-tree inside (as_denied context) at clean
    in-tree (in_and inside) context at clean = in-parts inside as_condition at clean.1
    in-tree (in_or inside) context at clean = in-parts inside as_condition at clean.1
    in-tree (in_guarded {around = around} {operand = operand} {guards = guards} inside) context at clean =
        in-tree inside (as_guarded context) at (clean-left known (uses (as_guarded context) at around operand) (part_uses as_condition at around guards) clean)
    in-tree (in_guard {around = around} {operand = operand} {guards = guards} inside) context at clean =
        in-parts inside as_condition at (clean-right known (uses (as_guarded context) at around operand) (part_uses as_condition at around guards) clean)

    in-parts : {what : Asking F} {around : List ℕ} {parts : Parts F} → InParts within what around parts → (context : Context) (at : Place) → AreClean known (part_uses context at around parts) → IsMeant known within what
    in-parts (in_part {around = around} {mark = mark} {tree = tree} {rest = rest} inside) context at clean =
        in-tree inside context (place_by_mark mark at) (clean-left known (uses context (place_by_mark mark at) around tree) (part_uses context at around rest) clean)
    in-parts (in_later_part {around = around} {mark = mark} {tree = tree} {rest = rest} inside) context at clean =
        in-parts inside context at (clean-right known (uses context (place_by_mark mark at) around tree) (part_uses context at around rest) clean)

    in-indices : {what : Asking F} {around : List ℕ} {indices : Indices F} → InIndices within what around indices → AreClean known (amount_uses around indices) → IsMeant known within what
    in-indices (in_lag {around = around} {at = place} {amount = amount} {rest = rest} inside) clean =
        in-tree inside as_number place (clean-left known (uses as_number place around amount) (amount_uses around rest) clean)
    in-indices (after_label inside) clean = in-indices inside clean
    in-indices (after_set inside) clean = in-indices inside clean
    in-indices (after_lag {around = around} {at = place} {amount = amount} {rest = rest} inside) clean =
        in-indices inside (clean-right known (uses as_number place around amount) (amount_uses around rest) clean)

    in-control : {what : Asking F} {around : List ℕ} {control : Control F} → InControl within what around control → (at : Place) → AreClean known (control_uses at around control) → IsMeant known within what
    in-control (in_where inside) at clean = in-tree inside as_condition at clean.1

  clean-both : (xs ys : Uses F) → AreClean known xs → AreClean known ys → AreClean known (xs ++ ys)
  clean-both [] ys c d = d
  clean-both (x ∷ xs) ys c d = (c.0, clean-both xs ys c.1 d)

  -- the amounts of lags on a left side
  left-shifts : (around : List ℕ) (indices : Indices F) → AreClean known (shift_uses around indices) → AreClean known (amount_uses around indices)
  left-shifts around no_index clean = tt
  left-shifts around (label n rest) clean = left-shifts around rest clean
  left-shifts around (set name rest) clean = left-shifts around rest clean
  left-shifts around (lagged name op at amount rest) clean =
      let parts = clean-right known (uses as_number at around amount) (shift_uses around rest) clean.1 in
      clean-both (uses as_number at around amount) (amount_uses around rest) (clean-left known (uses as_number at around amount) (shift_uses around rest) clean.1) (left-shifts around rest parts)

  module _ (what : Asking F) where
    -- in an act
    in-act : (statement : Stmt F) (loops : List ℕ) → InAct within what loops statement.act → AreClean known (statement_uses statement known.state loops) → IsMeant known within what
    in-act statement loops inside clean = by inside (subst (AreClean known) (uses-act statement known.state loops) clean)
      where
        as-act : (act : Act F) → statement.act ≡ act → AreClean known (act_uses statement.act known.state statement.at loops) → AreClean known (act_uses act known.state statement.at loops)
        as-act act is clean = subst (λ (act : Act F). AreClean known (act_uses act known.state statement.at loops)) is clean

        by : InAct within what loops statement.act → AreClean known (act_uses statement.act known.state statement.at loops) → IsMeant known within what
        by (on_the_left target condition right_at right is inside) clean =
            let around = with_left loops target.indices in
            let whole = subst (AreClean known) (uses-Assign known.state statement.at loops target condition right_at right) (as-act _ is clean) in
            let left = clean-left known (left_uses statement.at around target.indices condition) (uses (right_context known.state target.name) right_at around (tree_of right)) whole.1 in
            in-indices inside (left-shifts around (index_list target.indices) (clean-left known (shift_uses around (index_list target.indices)) (condition_uses statement.at around (option_map tree_of condition)) left))
        by (in_left_condition target condition right_at right is inside) clean =
            let around = with_left loops target.indices in
            let whole = subst (AreClean known) (uses-Assign known.state statement.at loops target (Some condition) right_at right) (as-act _ is clean) in
            let left = clean-left known (left_uses statement.at around target.indices (Some condition)) (uses (right_context known.state target.name) right_at around (tree_of right)) whole.1 in
            in-tree inside as_condition statement.at (clean-right known (shift_uses around (index_list target.indices)) (uses as_condition statement.at around (tree_of condition)) left)
        by (on_the_right target condition right_at right is inside) clean =
            let around = with_left loops target.indices in
            let whole = subst (AreClean known) (uses-Assign known.state statement.at loops target condition right_at right) (as-act _ is clean) in
            in-tree inside (right_context known.state target.name) right_at (clean-right known (left_uses statement.at around target.indices condition) (uses (right_context known.state target.name) right_at around (tree_of right)) whole.1)
        by (in_definition_condition equation indices condition left_at left side right_at right is inside) clean =
            let around = with_left loops indices in
            let sides = uses as_side left_at around (tree_of left) ++ uses as_side right_at around (tree_of right) in
            let whole = subst (AreClean known) (uses-Define known.state statement.at loops equation indices (Some condition) left_at left side right_at right) (as-act _ is clean) in
            let first = clean-left known (left_uses statement.at around indices (Some condition)) sides whole.1 in
            in-tree inside as_condition statement.at (clean-right known (shift_uses around (index_list indices)) (uses as_condition statement.at around (tree_of condition)) first)
        by (in_left_side equation indices condition left_at left side right_at right is inside) clean =
            let around = with_left loops indices in
            let whole = subst (AreClean known) (uses-Define known.state statement.at loops equation indices condition left_at left side right_at right) (as-act _ is clean) in
            let sides = clean-right known (left_uses statement.at around indices condition) (uses as_side left_at around (tree_of left) ++ uses as_side right_at around (tree_of right)) whole.1 in
            in-tree inside as_side left_at (clean-left known (uses as_side left_at around (tree_of left)) (uses as_side right_at around (tree_of right)) sides)
        by (in_right_side equation indices condition left_at left side right_at right is inside) clean =
            let around = with_left loops indices in
            let whole = subst (AreClean known) (uses-Define known.state statement.at loops equation indices condition left_at left side right_at right) (as-act _ is clean) in
            let sides = clean-right known (left_uses statement.at around indices condition) (uses as_side left_at around (tree_of left) ++ uses as_side right_at around (tree_of right)) whole.1 in
            in-tree inside as_side right_at (clean-right known (uses as_side left_at around (tree_of left)) (uses as_side right_at around (tree_of right)) sides)
        by (in_loop_condition control body is inside) clean =
            let sets = loops ++ sets_of_control (control_tree control) in
            let whole = subst (AreClean known) (uses-Loop known.state statement.at loops control body) (as-act _ is clean) in
            in-control inside statement.at (clean-left known (control_uses statement.at loops (control_tree control)) (flat_map (λ (s : Stmt F). statement_uses s known.state sets) body.items) whole)
        by (in_abort_condition condition items is inside) clean =
            let whole = subst (AreClean known) (uses-Abort known.state statement.at loops (Some condition) items) (as-act _ is clean) in
            in-tree inside as_condition statement.at (clean-left known (uses as_condition statement.at loops (tree_of condition)) (flat_map show_uses items) whole)

    -- in a statement, or in its loops
    in-statement : (depth : ℕ) (statement : Stmt F) (loops : List ℕ) → InStatement depth within what loops statement → AreClean known (statement_uses statement known.state loops) → IsMeant known within what
    in-statement zero statement loops inside clean = in-act statement loops inside clean
    in-statement (suc depth) statement loops inside clean =
        let sets = loops ++ sets_of_control (control_tree inside.control) in
        let whole = subst (AreClean known) (uses-act statement known.state loops ∙ ap (λ (act : Act F). act_uses act known.state statement.at loops) inside.loop ∙ uses-Loop known.state statement.at loops inside.control inside.body) clean in
        let body = clean-right known (control_uses statement.at loops (control_tree inside.control)) (flat_map (λ (s : Stmt F). statement_uses s known.state sets) inside.body.items) whole in
        in-statement depth inside.next sets inside.holds (clean-one_of known sets inside.before inside.rest inside.next (subst (λ (statements : List (Stmt F)). AreClean known (flat_map (λ (s : Stmt F). statement_uses s known.state sets) statements)) inside.occurs body))

module _ {F : Type 0} (value : F → Number) where
  -- in a program without errors
  pub program-meant : (program : Program F) (solvers : List (List ℕ)) (before : List (Stmt F)) (statement : Stmt F) (depth : ℕ) (within : List ℕ) (what : Asking F) → compile_errors value program solvers ≡ [] → FollowsIn program before statement → InStatement depth within what [] statement → IsMeant (known_after value program solvers (sound before)) within what
  program-meant program solvers before statement depth within what none occurs inside =
      in-statement (known_after value program solvers (sound before)) within what depth statement [] inside (statement-clean (known_after value program solvers (sound before)) statement (after-sound value program solvers before [] statement occurs.0 (sym (ap (errors_after value program solvers []) occurs.1) ∙ none)))
