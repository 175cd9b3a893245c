use Rattle.std.proofs.Common.{◌∙◌, ap}
use Rattle.std.specs.Prelude.{flat_map}
use Rattle.std.proofs.lemmas.List.{take_all}
use Rattle.gms_check.specs.InnerChecking.{noted, seen}
use Rattle.gms_check.specs.StatementUses.{option_uses}
use Rattle.gms_check.proofs.Noting.{noted-more}
use Rattle.gms_check.proofs.checker.Checker.options.Goals as goal

pub loop-word-preserved : goal.loop-word-preserved
loop-word-preserved g c =
    noted-more g.F.ExactField.value option_uses c.args.settings.now c.loop-word.word-index c.loop-word-item.result (seen c.args.self.now) (seen c.loop-word.self) _ c.loop-word-test.true c.loop-word-item.is c.loop-word.invariant c.option.ensures

pub returns : goal.returns
returns g c =
    c.loop-word.invariant ∙ ap (λ xs. noted g.F.ExactField.value (seen c.args.self.now) (flat_map option_uses xs)) (take_all c.loop-word.word-index c.args.settings.now c.loop-word-test.false)
