use Rattle.gms_save.specs.Saves.{option_solvers}
use Rattle.gms_save.proofs.Choosing.{chosen-more}
use Rattle.gms_save.proofs.solvers.push_options.Goals as goal

pub loop-word-preserved : goal.loop-word-preserved
loop-word-preserved c =
    chosen-more option_solvers c.args.settings.now c.loop-word.word-index c.loop-word-item.result c.args.names.now.items _ _ c.loop-word-test.true c.loop-word-item.is c.loop-word.invariant c.in_ok-push_option.ensures
