use Rattle.std.proofs.Common.{◌≡◌, ◌∙◌, ◌<◌, ◌≤◌, ap, subst, length, get_or, List}
use Rattle.std.specs.Prelude.{filter}
use Rattle.std.proofs.lemmas.List.{take_all}
use Rattle.gq_frac.specs.declared.frac.Frac.{Frac}
use Rattle.gms_ast.specs.declared.program.Stmt.{Stmt}
use Rattle.gms_store.specs.Declarations.{blank_state, declared_by_all}
use Rattle.gms_save.specs.JointErrors.{is_saved}
use Rattle.gms_save.proofs.Restarts.{kept-new, kept-declares}
use Rattle.gms_save.proofs.restart.declared_before.Goals as goal
use Rattle.gms_save.proofs.restart.declared_before.Goals.{then-is_saved+in_ok-declare_act, else-is_saved}

pub loop-statement-init : goal.loop-statement-init
loop-statement-init c = c.in_ok-saved.ensures ∙ ap blank_state c.len-names.ensures.len

pub loop-statement-preserved : goal.loop-statement-preserved
loop-statement-preserved c =
    let joint = c.args.joint.now in
    let from = c.args.from in
    let statements = joint.statements.items in
    let i = c.loop-statement.statement-index in
    let statement = c.statement-item.result in
    let there : i < length statements = subst (λ (xs : List (Stmt Frac)). i < length xs) c.deref-statement-items.ensures.value c.loop-statement-test.true in
    let is : statement ≡ get_or statements i statement = c.statement-item.is ∙ ap (λ (xs : List (Stmt Frac)). get_or xs i statement) c.deref-statement-items.ensures.value in
    let first = blank_state (length joint.names) in
    elim c.if-is_saved.branch [
      | then-is_saved+in_ok-declare_act w ↦ kept-declares from statements i statement there is first c.loop-statement.saved c.if-is_saved.saved w.if-is_saved.ensures c.loop-statement.invariant (w.saved-is ∙ w.in_ok-declare_act.ensures.ok)
      | else-is_saved w ↦ kept-new from statements i statement there is (declared_by_all first) c.loop-statement.saved c.if-is_saved.saved w.if-is_saved.ensures c.loop-statement.invariant w.saved-is
    ]

pub returns : goal.returns
returns c =
    let joint = c.args.joint.now in
    let statements = joint.statements.items in
    let i = c.loop-statement.statement-index in
    let past : length statements ≤ i = subst (λ (xs : List (Stmt Frac)). length xs ≤ i) c.deref-statement-items.ensures.value c.loop-statement-test.false in
    c.loop-statement.invariant ∙ ap (λ (xs : List (Stmt Frac)). declared_by_all (blank_state (length joint.names)) (filter (is_saved c.args.from) xs)) (take_all i statements past)
