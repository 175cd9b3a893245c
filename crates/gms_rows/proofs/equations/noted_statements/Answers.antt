use Rattle.std.proofs.Common.{◌∙◌, ap, sym, subst, take}
use Rattle.std.proofs.lemmas.List.{take_all}
use Rattle.gms_rows.specs.Rows.{definitions}
use Rattle.gms_rows.specs.InnerContracts.{AreNoted}
use Rattle.gms_rows.proofs.Noting.{definitions-more}
use Rattle.gms_rows.proofs.equations.noted_statements.Goals as goal

pub loop-statement-preserved : goal.loop-statement-preserved
loop-statement-preserved g c =
    let all = c.deref-statement-items.result.now in
    let i = c.loop-statement.statement-index in
    subst (AreNoted c.note.new.noted.items) (sym (definitions-more all i c.statement-item.result c.loop-statement-test.true c.statement-item.is)) (c.in_ok-note.ensures (definitions (take i all)) c.loop-statement.invariant)

pub returns : goal.returns
returns g c =
    subst (AreNoted c.loop-statement.noted.items) (ap definitions (take_all c.loop-statement.statement-index c.deref-statement-items.result.now c.loop-statement-test.false ∙ c.deref-statement-items.ensures.value)) c.loop-statement.invariant
