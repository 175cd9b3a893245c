-- One label more was entered.
use Rattle.std.proofs.Common.{ℕ, List, suc, take, drop, get_or, [], ◌∷◌, ◌++◌, Err, ap, sym, subst}
use Rattle.std.specs.Borrow.{Bor}
use Rattle.std.proofs.lemmas.Result.{err_from_is_err_and}
use Rattle.gms_table.specs.WordLabels.{IsPrefix}
use Rattle.gms_table.specs.InnerNames.{read_all, AreEntered}
use Rattle.gms_table.proofs.EnterLemmas.{AreEntered-more, read_all-more, read_all-split, enter_stops, extended-so_far, extended-more}
use Rattle.gms_table.proofs.label.enter_all.Goals as goal

pub returns-in_err-enter-clause-entered : goal.returns-in_err-enter-clause-entered
returns-in_err-enter-clause-entered c =
    let labels = c.args.labels.now in
    let i = c.loop-label.label-index in
    let p = err_from_is_err_and c.from_residual-in_err-enter.result c.from_residual-in_err-enter.ensures.1 in
    rw (p.1, p.2) (enter_stops c.args.table.now c.loop-label.table c.enter.new.self (read_all (take i labels)) c.loop-label.numbers.items (get_or labels i (record { ref_ptr = (0, 0); now = [] })).now (read_all (drop (suc i) labels)) (read_all labels) c.in_err-enter.field-0.0 c.loop-label.invariant (read_all-split labels i (record { ref_ptr = (0, 0); now = [] }) c.loop-label-test.true) (λ e. c.in_err-enter.ensures.full.0 (ap Err e)))

pub returns-in_err-enter-clause-extended : goal.returns-in_err-enter-clause-extended
returns-in_err-enter-clause-extended c =
    subst (IsPrefix c.args.table.now) (sym c.in_err-enter.ensures.err) (extended-so_far c.args.table.now c.loop-label.table (read_all (take c.loop-label.label-index c.args.labels.now)) c.loop-label.numbers.items c.loop-label.invariant)

pub loop-label-preserved : goal.loop-label-preserved
loop-label-preserved c =
    let labels = c.args.labels.now in
    let i = c.loop-label.label-index in
    let none : Bor (List ℕ) = record { ref_ptr = (0, 0); now = [] } in
    let more = AreEntered-more c.args.table.now c.loop-label.table c.enter.new.self (read_all (take i labels)) c.loop-label.numbers.items (get_or labels i none).now c.in_ok-enter.field-0 c.loop-label.invariant c.in_ok-enter.ensures.ok c.in_ok-enter.ensures.place c.in_ok-enter.ensures.labels.few in
    subst (λ ts. AreEntered c.args.table.now c.enter.new.self ts c.push.new.self.items) (sym (read_all-more labels i none c.loop-label-test.true))
    (subst (λ ns. AreEntered c.args.table.now c.enter.new.self (read_all (take i labels) ++ (get_or labels i none).now ∷ []) ns) (sym c.in_ok-push.ensures.items) more)

pub returns-in_err-push-clause-extended : goal.returns-in_err-push-clause-extended
returns-in_err-push-clause-extended c =
    extended-more c.args.table.now c.loop-label.table c.enter.new.self (read_all (take c.loop-label.label-index c.args.labels.now)) c.loop-label.numbers.items _ c.loop-label.invariant c.in_ok-enter.ensures.ok

pub returns-clause-extended : goal.returns-clause-extended
returns-clause-extended c = extended-so_far c.args.table.now c.loop-label.table (read_all (take c.loop-label.label-index c.args.labels.now)) c.loop-label.numbers.items c.loop-label.invariant
