use Rattle.std.proofs.Common.{◌∙◌, ◌<◌, ◌≤◌, ap, sym, subst, length, get_or, List}
use Rattle.std.proofs.lemmas.List.{take_all}
use Rattle.gms_ast.specs.declared.program.Stmt.{Stmt}
use Rattle.gms_store.specs.State.{State}
use Rattle.gms_check.specs.InnerLoadable.{IsLoadable}
use Rattle.gms_check.specs.Loaded.{sound}
use Rattle.gms_check.specs.Past.{after_act, state_after}
use Rattle.gms_check.proofs.LoadedData.{state-more, statement-loadable}
use Rattle.gms_check.proofs.loading.load_statements.Goals as goal

pub loop-statement-init : goal.loop-statement-init
loop-statement-init g c = c.requires.blank

pub load_act-requires : goal.load_act-requires
load_act-requires g c =
    let value = g.F.ExactField.value in
    let statement = c.statement-item.result in
    subst (λ (state : State). IsLoadable value state statement.act) (sym c.loop-statement.invariant) (statement-loadable value c.args.program.now c.requires.accepted c.loop-statement.statement-index statement (subst (λ (xs : List (Stmt _)). c.loop-statement.statement-index < length xs) c.deref-statement-items.ensures.value c.loop-statement-test.true) (c.statement-item.is ∙ ap (λ (xs : List (Stmt _)). get_or xs c.loop-statement.statement-index statement) c.deref-statement-items.ensures.value))

pub loop-statement-preserved : goal.loop-statement-preserved
loop-statement-preserved g c =
    let value = g.F.ExactField.value in
    let statement = c.statement-item.result in
    c.in_ok-load_act.ensures ∙ ap (λ (state : State). after_act value state statement.act) c.loop-statement.invariant ∙ state-more value c.args.program.now c.loop-statement.statement-index statement (subst (λ (xs : List (Stmt _)). c.loop-statement.statement-index < length xs) c.deref-statement-items.ensures.value c.loop-statement-test.true) (c.statement-item.is ∙ ap (λ (xs : List (Stmt _)). get_or xs c.loop-statement.statement-index statement) c.deref-statement-items.ensures.value)

pub returns : goal.returns
returns g c =
    let value = g.F.ExactField.value in
    let program = c.args.program.now in
    c.loop-statement.invariant ∙ ap (λ (statements : List (Stmt _)). state_after value (length program.names) (sound statements)) (take_all c.loop-statement.statement-index program.statements.items (subst (λ (xs : List (Stmt _)). length xs ≤ c.loop-statement.statement-index) c.deref-statement-items.ensures.value c.loop-statement-test.false))
