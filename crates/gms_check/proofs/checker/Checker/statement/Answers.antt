use Rattle.std.proofs.Common.{◌∙◌, ap, sym, List, [], ℕ, Option, None}
use Rattle.std.specs.Prelude.{is_none}
use Rattle.gms_check.specs.declared.error.CompileError.{CompileError}
use Rattle.gms_check.specs.InnerChanges.{facts_after}
use Rattle.gms_check.specs.InnerChecking.{Checking, seen}
use Rattle.gms_check.proofs.checker.Checker.statement.Goals as goal

pub look_at-requires : goal.look_at-requires
look_at-requires g c = record { first = c.requires; controlled = c.truncate.ensures }

pub returns-clause-error : goal.returns-clause-error
returns-clause-error g c = c.take_first.ensures.first ∙ c.in_ok-look_at.ensures.first

pub returns-clause-facts : goal.returns-clause-facts
returns-clause-facts g c =
    let value = g.F.ExactField.value in
    let s = seen c.args.self.now in
    let act = c.args.statement.now.act in
    let done = seen c.look_at.new.self in
    c.take_first.ensures.forgotten ∙ ap (λ (u : Checking). record u { first = None }) c.in_ok-look_at.ensures.facts ∙ ap (λ (sets : List ℕ). record s { facts = facts_after value s.facts act (is_none done.first); controlled = sets; first = None }) c.truncate.ensures ∙ ap (λ (o : Option CompileError). record s { facts = facts_after value s.facts act (is_none o); controlled = []; first = None }) (sym c.take_first.ensures.first)
