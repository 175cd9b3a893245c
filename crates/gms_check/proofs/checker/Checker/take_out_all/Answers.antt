use Rattle.std.proofs.Common.{◌∙◌, ◌+◌, ap, sym, drop, List, ℕ}
use Rattle.std.proofs.lemmas.List.{at_drop_more, drop_all}
use Rattle.gms_scope.specs.Facts.{Facts}
use Rattle.gms_check.specs.InnerChecking.{seen, with_facts}
use Rattle.gms_check.specs.InnerTrials.{taken_back}
use Rattle.gms_check.proofs.checker.Checker.take_out_all.Goals as goal

pub loop-name-preserved : goal.loop-name-preserved
loop-name-preserved g c =
    let names = c.args.names.now in
    let i = c.loop-name.name-index in
    let now = seen c.loop-name.self in
    ap (λ (facts : Facts). with_facts now (taken_back facts (drop (i + 1) names))) c.in_ok-take_out.ensures ∙ sym (at_drop_more (λ (ns : List ℕ). with_facts now (taken_back now.facts ns)) names i 0 c.loop-name-test.true) ∙ c.loop-name.invariant

pub returns : goal.returns
returns g c =
    let now = seen c.loop-name.self in
    sym (ap (λ (ns : List ℕ). with_facts now (taken_back now.facts ns)) (drop_all c.loop-name.name-index c.args.names.now c.loop-name-test.false)) ∙ c.loop-name.invariant
