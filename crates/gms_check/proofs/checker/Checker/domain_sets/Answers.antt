use Rattle.std.proofs.Common.{◌≡◌, ◌∙◌, ap, sym, get_or, Option, None}
use Rattle.std.proofs.lemmas.List.{get_or_default}
use Rattle.gms_ast.specs.declared.word.Named.{Named}
use Rattle.gms_check.specs.InnerChecking.{noted, seen}
use Rattle.gms_check.specs.DeclarationUses.{domain_use}
use Rattle.gms_check.proofs.Noting.{noted-more, noted-none}
use Rattle.gms_check.proofs.checker.Checker.domain_sets.Goals as goal
use Rattle.gms_check.proofs.checker.Checker.domain_sets.Goals.{in-Some, in_default}

pub loop-position-preserved : goal.loop-position-preserved
loop-position-preserved g c =
    let value = g.F.ExactField.value in
    let domain = c.args.domain.now in
    let i = c.loop-position.position-index in
    let s = seen c.loop-position.self in
    let position = get_or domain i None in
    let step : seen c.match-position.self ≡ noted value s (domain_use position) = elim c.match-position.branch [
      | in-Some w ↦ ap seen w.self-is ∙ w.domain_set.ensures ∙ ap (λ (p : Option Named). noted value s (domain_use p)) (sym w.in-Some.is)
      | in_default w ↦ ap seen w.self-is ∙ noted-none value s ∙ ap (λ (p : Option Named). noted value s (domain_use p)) (sym w.in_default.is)
    ] in
    noted-more value domain_use domain i position (seen c.args.self.now) s _ c.loop-position-test.true (get_or_default domain i None position c.loop-position-test.true) c.loop-position.invariant step
