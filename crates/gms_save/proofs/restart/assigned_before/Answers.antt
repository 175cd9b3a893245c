use Rattle.std.proofs.Common.{◌≡◌, ◌∙◌, ◌<◌, ◌≤◌, ap, subst, length, get_or, List, false, map, replicate, ℕ}
use Rattle.std.specs.Prelude.{filter, flat_map}
use Rattle.std.proofs.lemmas.List.{take_all}
use Rattle.gq_frac.specs.declared.frac.Frac.{Frac}
use Rattle.gms_ast.specs.declared.program.Stmt.{Stmt}
use Rattle.gms_store.specs.State.{State, base_of}
use Rattle.gms_store.specs.Declarations.{declared_state}
use Rattle.gms_scope.specs.DynamicSets.{assigned_names}
use Rattle.gms_scope.specs.Facts.{with_marks}
use Rattle.gms_save.specs.JointErrors.{is_saved}
use Rattle.gms_save.proofs.Restarts.{kept-new, kept-marks}
use Rattle.gms_save.proofs.restart.assigned_before.Goals as goal
use Rattle.gms_save.proofs.restart.assigned_before.Goals.{then-is_saved, else-is_saved}

pub loop-statement-init : goal.loop-statement-init
loop-statement-init c = c.in_ok-assigned.ensures ∙ ap (λ (n : ℕ). replicate n false) c.len-names.ensures.len

pub loop-statement-preserved : goal.loop-statement-preserved
loop-statement-preserved c =
    let joint = c.args.joint.now in
    let from = c.args.from in
    let statements = joint.statements.items in
    let i = c.loop-statement.statement-index in
    let statement = c.statement-item.result in
    let there : i < length statements = subst (λ (xs : List (Stmt Frac)). i < length xs) c.deref-statement-items.ensures.value c.loop-statement-test.true in
    let is : statement ≡ get_or statements i statement = c.statement-item.is ∙ ap (λ (xs : List (Stmt Frac)). get_or xs i statement) c.deref-statement-items.ensures.value in
    let unmarked = replicate (length joint.names) false in
    elim c.if-is_saved.branch [
      | then-is_saved w ↦
          kept-marks from statements i statement there is (base_of (declared_state joint)) unmarked c.loop-statement.assigned c.if-is_saved.assigned w.if-is_saved.ensures c.loop-statement.invariant
          (w.assigned-is ∙ w.mark_statement.ensures ∙ ap (λ (s : State). with_marks c.loop-statement.assigned (map (base_of s) (assigned_names statement))) c.requires)
      | else-is_saved w ↦ kept-new from statements i statement there is (λ (xs : List (Stmt Frac)). with_marks unmarked (map (base_of (declared_state joint)) (flat_map assigned_names xs))) c.loop-statement.assigned c.if-is_saved.assigned w.if-is_saved.ensures c.loop-statement.invariant w.assigned-is
    ]

pub returns : goal.returns
returns c =
    let joint = c.args.joint.now in
    let statements = joint.statements.items in
    let i = c.loop-statement.statement-index in
    let past : length statements ≤ i = subst (λ (xs : List (Stmt Frac)). length xs ≤ i) c.deref-statement-items.ensures.value c.loop-statement-test.false in
    c.loop-statement.invariant ∙ ap (λ (xs : List (Stmt Frac)). with_marks (replicate (length joint.names) false) (map (base_of (declared_state joint)) (flat_map assigned_names (filter (is_saved c.args.from) xs)))) (take_all i statements past)
